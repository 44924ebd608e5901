-- Conditions of small databases, computed.
use Rattle.std.proofs.Common.{◌≡◌, ◌≢◌, ◌≤◌, true, false, inl, inr, [], ◌∷◌, None, bytes_eq, codes, nat_le, refl, sym, ap, subst, ◌∙◌, arith, true≢false}
use Rattle.std.proofs.lemmas.Bool.{leb-true}
use Rattle.std.specs.Fmt.{digits}
use Rattle.std.specs.List.{list_any}
use Rattle.std.specs.Str.{chars, is_utf8}
use Rattle.base64.specs.Rfc4648.{encode_symbols}
use Rattle.caseless.proofs.Computing.{caseless}
use Rattle.stream_core.specs.InnerStream.{NoKeystream}
use Rattle.markup_grammar.specs.Escapes.{escaped_byte}
use Rattle.vault_model.specs.Bare.{BareField}
use Rattle.vault_model.specs.Db.{NodeId, nil_id}
use Rattle.vault_model.specs.Join.{IsIn, is_id}
use Rattle.vault_model.specs.Tree.{BareDoc, id_of}
use Rattle.vault_model.specs.declared.forms.DocForm.TheVariants.{Plain}
use Rattle.vault_model.proofs.Ids.{id_itself}
use Rattle.vault_model.proofs.Tests.{any_true, apart}
use Rattle.merge_core.specs.Example.{as_it_was, bank, edited, entry, moved, root, version}
use Rattle.merge_core.specs.NodesBelow.{below_ids}
use Rattle.merge_examples.proofs.AgreedLaws.Merged.{merged_so}
use Rattle.merge_examples.proofs.Merged.{example_is_merged}
use Rattle.tree_core.specs.Finding.{entry_found}
use Rattle.doc_spelling.specs.Moments.{moment_at, month_from, year_from}
use Rattle.doc_write.specs.Written.{written_len}
use Rattle.find_core.specs.Folding.{case_folded}
use Rattle.find_core.specs.Search.{entries_found}
use Rattle.find_references.specs.References.{reference_at}
use Rattle.find_references.specs.Terms.{PlacedTerm, term_before}
use Rattle.content_condition_laws.specs.Conditions.{CanBeMerged, CanExport, CanResolve, CanSearch, CanShow, CanShowHistory, HaveOwnRoots, terms_in}
use Rattle.content_condition_laws.specs.Example.{ExampleConditions}
use Rattle.cli_needs.specs.declared.command.ExportFormat.TheVariants.{Xml}

-- ---- show

shows : CanShow (codes "Bank") false true [] 0 as_it_was
unfolding entry_found reference_at
shows =
    let none_sought : 0 ≤ 65536 = omega arith in
    let one_byte : 1 ≤ 1048576 = omega arith in
    let four_bytes : 4 ≤ 1048576 = omega arith in
    record {
      held = record { group = root; entry = (bank, entry 10 nil_id (version 10 (codes "Bank") (codes "a")) []) };
      named = refl;
      entry = (bank, entry 10 nil_id (version 10 (codes "Bank") (codes "a")) []);
      numbered = refl;
      there = λ name h. absurd h;
      values = λ f h printed. elim h [
        | inl same ↦ subst (λ (g : BareField). CanResolve as_it_was g.value) same (none_sought, one_byte)
        | inr more ↦ elim more [
          | inl same ↦ subst (λ (g : BareField). CanResolve as_it_was g.value) same (none_sought, four_bytes)
          | inr no_more ↦ absurd no_more
        ]
      ];
    }

-- ---- history

has_history : CanShowHistory (codes "Bank") as_it_was
unfolding entry_found
has_history = (record { group = root; entry = (bank, entry 10 nil_id (version 10 (codes "Bank") (codes "a")) []) }, refl)

-- ---- search

has_text : (placed : PlacedTerm) → IsIn placed (terms_in (codes "bank")) → placed.term.text ≢ []
unfolding term_before
has_text placed (inl same) none = true≢false (ap (bytes_eq (codes "bank")) (ap (λ (p : PlacedTerm). p.term.text) same ∙ none))
has_text placed (inr no_more) none = absurd no_more

searches : CanSearch (codes "bank") as_it_was
unfolding term_before entries_found case_folded caseless chars is_utf8 lib.Utf8.encode
searches = record { some = tt; texts = has_text; entry = bank; found = inl refl }

-- ---- export

is_short : nat_le (written_len Plain NoKeystream None as_it_was) 10000 ≡ true
unfolding escaped_byte moment_at year_from month_from digits encode_symbols
is_short = refl

exports : CanExport Xml as_it_was
exports =
    let low = leb-true (written_len Plain NoKeystream None as_it_was) 10000 is_short in
    (omega arith, omega (arith, low))

-- ---- merge

same_root : (d : BareDoc) → IsIn d (as_it_was ∷ edited ∷ moved ∷ []) → id_of d.tree ≡ root
same_root d (inl p) = ap (λ (e : BareDoc). id_of e.tree) (sym p)
same_root d (inr (inl p)) = ap (λ (e : BareDoc). id_of e.tree) (sym p)
same_root d (inr (inr (inl p))) = ap (λ (e : BareDoc). id_of e.tree) (sym p)
same_root d (inr (inr (inr no_more))) = absurd no_more

not_below : (d : BareDoc) → IsIn d (as_it_was ∷ edited ∷ moved ∷ []) → list_any (is_id root) (below_ids d.tree) ≡ false
not_below d (inl p) = ap (λ (e : BareDoc). list_any (is_id root) (below_ids e.tree)) (sym p)
not_below d (inr (inl p)) = ap (λ (e : BareDoc). list_any (is_id root) (below_ids e.tree)) (sym p)
not_below d (inr (inr (inl p))) = ap (λ (e : BareDoc). list_any (is_id root) (below_ids e.tree)) (sym p)
not_below d (inr (inr (inr no_more))) = absurd no_more

own_roots : HaveOwnRoots (as_it_was ∷ edited ∷ moved ∷ [])
own_roots d e h i below =
    let here = subst (λ (u : NodeId). IsIn u (below_ids d.tree)) (same_root e i) below in
    apart (list_any (is_id root) (below_ids d.tree)) (any_true (is_id root) (below_ids d.tree) root here (id_itself root)) (not_below d h)

merges : CanBeMerged as_it_was (edited ∷ moved ∷ [])
merges =
    let example = example_is_merged in
    let m = merged_so as_it_was (edited ∷ moved ∷ []) example.1.docs example.0 example.1.merged in
    record { roots = own_roots; kinds = m.can.allowed.kinds; moves = m.can.allowed.acyclic; levels = m.fits }

pub example_conditions : ExampleConditions
example_conditions = record {
  show = shows;
  history = has_history;
  search = searches;
  table = tt;
  document = exports;
  docs = example_is_merged.1.docs;
  merge = merges;
}
