-- An empty database with a name is a document whose parts are in order.
use Rattle.std.proofs.Common.{◌≡◌, ℕ, true, ◌&&◌, List, [], refl, ap, ◌∙◌, Some, arith}
use Rattle.std.specs.List.{list_all}
use Rattle.std.specs.Str.{chars, is_utf8}
use Rattle.vault_model.specs.Empty.{new_group, new_meta}
use Rattle.vault_model.specs.SeenNodes.{document_of, tree_seen}
use Rattle.vault_model.specs.declared.metas.Meta.{Meta}
use Rattle.vault_model.specs.declared.nodes.Group.{Group}
use Rattle.vault_model.specs.declared.nodes.Tombstone.{Tombstone}
use Rattle.vault_model.specs.Proper.{is_proper_group_content, is_text_item}
use Rattle.vault_model.specs.Tree.{IsDoc, node, none}
use Rattle.cli_resealing.specs.Created.{empty_document, undrawn_id}

empty_text : is_utf8 [] ≡ true
unfolding is_utf8 chars lib.Utf8.encode
empty_text = refl

proper : (name : List ℕ) (now : ℕ) → is_utf8 name ≡ true → is_proper_group_content (new_group name now).state.content ≡ true
unfolding is_proper_group_content
proper name now text =
    ap (λ b. b && is_utf8 [] && is_utf8 [] && is_utf8 [] && list_all is_text_item []) text
    ∙ ap (λ b. true && b && b && b && list_all is_text_item []) empty_text

pub named_is_doc : (name : List ℕ) (now : ℕ) → is_utf8 name ≡ true → IsDoc (empty_document (Some name) undrawn_id now)
named_is_doc name now text = record {
  distinct = refl;
  no_nil = refl;
  levels = omega arith;
  tombs_rise = refl;
  tombs_apart = refl;
  entries_proper = refl;
  groups_proper = ap (λ b. b && true) (proper name now text);
  icons_rise = refl;
  items_rise = refl;
  meta_texts = rw text (rw empty_text refl);
}

named_meta : ℕ → List ℕ → Meta
named_meta now name = record new_meta { name = record { changed = now; value = name } }

-- What is seen of its parts.
pub named_seen : (name : List ℕ) (now : ℕ) (group_name database_name : List ℕ) (meta : Meta) (root : Group) (tombs : List Tombstone) → group_name ≡ name → database_name ≡ name
    → meta ≡ record new_meta { name = record { changed = now; value = database_name } } → tree_seen root ≡ node undrawn_id (new_group group_name now) [] none → tombs ≡ []
    → document_of meta root tombs ≡ empty_document (Some name) undrawn_id now
unfolding named_meta
named_seen name now group_name database_name meta root tombs g d m t gone =
    let tree = t ∙ ap (λ (n : List ℕ). node undrawn_id (new_group n now) [] none) g in
    let says : meta ≡ named_meta now name = m ∙ ap (named_meta now) d in
    λ i. record { tree = tree i; tombs = gone i; meta = says i }
