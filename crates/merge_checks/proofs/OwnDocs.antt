-- Documents under their own root and under the target's.
use Rattle.std.proofs.Common.{◌≡◌, ◌<◌, ◌++◌, append_assoc, ℕ, zero, suc, List, [], ◌∷◌, None, map, length, get_or, inl, inr, sym, ap, subst, ◌∙◌, arith}
use Rattle.vault_model.specs.declared.documents.Doc.{Doc}
use Rattle.vault_model.specs.declared.nodes.Group.{out-Group}
use Rattle.vault_model.specs.Db.{Db}
use Rattle.vault_model.specs.Join.{IsIn}
use Rattle.vault_model.specs.SeenDoc.{doc_seen}
use Rattle.vault_model.specs.Tree.{BareDoc, IsDoc, id_of, rooted}
use Rattle.vault_model.proofs.Tests.{from_map, in_map, map_append}
use Rattle.merge_core.specs.Refusals.{least, root_clashes}
use Rattle.merge_core.proofs.Refused.{source_is}
use Rattle.merge_core.proofs.Rooted.{rooted_at_home}
use Rattle.merge_tables.specs.declared.databases.Database.{Database}
use Rattle.merge_tables.specs.Databases.{database}
use Rattle.merge_checks.proofs.SeenBelow.{seen_id}

pub is_doc : (d : Doc) → IsDoc (doc_seen d)
is_doc d = record {
  distinct = d.distinct;
  no_nil = d.no_nil;
  levels = d.levels;
  tombs_rise = d.rising_tombs;
  tombs_apart = d.tombs_apart;
  entries_proper = d.entries_proper;
  groups_proper = d.groups_proper;
  icons_rise = d.rising_icons;
  items_rise = d.rising_items;
  meta_texts = d.meta_texts;
}

pub at_home : (d : Doc) → rooted (doc_seen d) (out-Group d.root).id ≡ doc_seen d
at_home d = ap (rooted (doc_seen d)) (sym (seen_id d.root)) ∙ rooted_at_home (doc_seen d) (is_doc d)

pub is_own : (d : Doc) → IsDoc (rooted (doc_seen d) (out-Group d.root).id)
is_own d = subst IsDoc (sym (at_home d)) (is_doc d)

pub at_place : {A : Type 0} (xs : List A) (i : ℕ) (x : A) → i < length xs → x ≡ get_or xs i x → IsIn x xs
at_place [] i x h e = absurd (omega (arith, h))
at_place (y ∷ ys) zero x h e = inl (sym e)
at_place (y ∷ ys) (suc i) x h e = inr (at_place ys i x (omega (arith, h)) e)

pub is_source : (t : Doc) (ds : List Doc) → least (root_clashes (doc_seen t ∷ map doc_seen ds)) ≡ None → (s : Doc) → IsIn s ds
    → IsDoc (rooted (doc_seen s) (out-Group t.root).id)
is_source t ds clear s h =
    ap_doc (source_is (doc_seen t) (map doc_seen ds) (is_doc t) (λ d k. let f = from_map doc_seen ds d k in subst IsDoc f.1.1 (is_doc f.0)) clear (doc_seen s) (in_map doc_seen ds s h))
  where
    ap_doc : IsDoc (rooted (doc_seen s) (id_of (doc_seen t).tree)) → IsDoc (rooted (doc_seen s) (out-Group t.root).id)
    ap_doc = subst (λ r. IsDoc (rooted (doc_seen s) r)) (seen_id t.root)

-- one source more is read
pub copy_more : (f : BareDoc → Db) (old new : List Database) (c : Database) (s : Doc) (rest : List Doc) (all : List Db) → new ≡ old ++ c ∷ [] → database c ≡ f (doc_seen s)
    → map database old ++ map f (map doc_seen (s ∷ rest)) ≡ all → map database new ++ map f (map doc_seen rest) ≡ all
copy_more f old new c s rest all push is before =
    ap (λ (ms : List Database). map database ms ++ map f (map doc_seen rest)) push
    ∙ ap (λ (ms : List Db). ms ++ map f (map doc_seen rest)) (map_append database old (c ∷ []))
    ∙ append_assoc (map database old) (database c ∷ []) (map f (map doc_seen rest))
    ∙ ap (λ (m : Db). map database old ++ m ∷ map f (map doc_seen rest)) is
    ∙ before
