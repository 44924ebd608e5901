-- The definition of a document never says want of memory, and only a text of the grammar is one of a document.
use Rattle.std.proofs.Common.{◌≡◌, ◌≢◌, ℕ, ◌≤◌, Bool, true, Option, None, Some, List, [], ◌∷◌, Result, Ok, Err, ap, sym, subst, refl, ◌∙◌}
use Rattle.markup_grammar.specs.Answers.{Answer, EndsOnce, depth, finish, finishes, form, refusal_of, start, stop, words}
use Rattle.markup_grammar.specs.Elements.{content_of}
use Rattle.markup_grammar.specs.Reading.{answers}
use Rattle.markup_grammar.specs.Tree.{IsText, Tree, height}
use Rattle.markup_grammar.specs.TreeElements.{tree_content}
use Rattle.markup_grammar.proofs.CutsTold.{cuts_told}
use Rattle.markup_grammar.proofs.ElementsTold.{elements_told}
use Rattle.markup_grammar.proofs.Limit.{finished_texts}
use Rattle.markup_grammar.proofs.Verdicts.{verdicts}
use Rattle.vault_model.specs.Db.{NodeId}
use Rattle.vault_model.specs.Tree.{node_ids}
use Rattle.vault_model.specs.declared.forms.DocForm.{DocForm}
use Rattle.vault_model.specs.declared.nodes.Tombstone.{Tombstone}
use Rattle.doc_forms.specs.declared.fails.DocFail.{DocFail}
use Rattle.doc_forms.specs.declared.fails.DocFail.TheVariants.{NoMemory}
use Rattle.doc_forms.specs.declared.fails.RequiredElement.{RequiredElement}
use Rattle.doc_forms.specs.declared.fails.RequiredElement.TheVariants.{Group, KeePassFile, Root}
use Rattle.doc_forms.specs.Attachments.{Missing, first_missing, missing_in, pool_from, refuse_missing, resolved_tree}
use Rattle.doc_forms.specs.Children.{all_children, by_name}
use Rattle.doc_forms.specs.Documents.{DocumentAndHash, FileParts, document, document_rows, parts_at_end, parts_in, required_part, resolved_document, resolved_with}
use Rattle.doc_forms.specs.ElementTexts.{Setting}
use Rattle.doc_forms.specs.ElementTexts as texts
use Rattle.doc_forms.specs.Groups.{ReadTree}
use Rattle.doc_forms.specs.Ids.{least_duplicate, refuse_duplicate}
use Rattle.doc_forms.specs.Metas.{MetaParts, ReadBinary}
use Rattle.outside_core.specs.Results.{◌>>=◌}
use Rattle.doc_read.specs.Trees.{document_of_tree}
use Rattle.doc_read.proofs.Cuts.{IsDefined, Respects, all_respect, names_sound, step_then}
use Rattle.doc_read.proofs.SoundRows.{document_rows_sound}

-- ---- after the end

part_respects : {A : Type 0} (which : RequiredElement) (o : Option A) → Respects None (required_part which o)
part_respects which None = tt
part_respects which (Some x) = tt

duplicate_respects : (o : Option NodeId) → Respects None (refuse_duplicate o)
duplicate_respects None = tt
duplicate_respects (Some u) = tt

missing_respects : (o : Option Missing) → Respects None (refuse_missing o)
missing_respects None = tt
missing_respects (Some m) = tt

with_respects : (f : DocForm) (pool : List ReadBinary) (meta : MetaParts) (tree : ReadTree) (tombs : List Tombstone)
    → Respects None (resolved_with f pool meta tree tombs)
with_respects f pool meta tree tombs =
    step_then None (refuse_duplicate (least_duplicate (node_ids (resolved_tree pool tree)))) _
    (duplicate_respects (least_duplicate (node_ids (resolved_tree pool tree))))
    (λ _. step_then None (refuse_missing (first_missing (missing_in pool tree))) _
    (missing_respects (first_missing (missing_in pool tree))) (λ _. tt {0}))

resolved_respects : (f : DocForm) (given : List (List ℕ × Bool)) (parts : Option FileParts) → Respects None (resolved_document f given parts)
resolved_respects f given parts =
    step_then None (required_part KeePassFile parts) _ (part_respects KeePassFile parts)
    (λ file. step_then None (required_part Root file.root) _ (part_respects Root file.root)
    (λ root. step_then None (required_part Group root.tree) _ (part_respects Group root.tree)
    (λ tree. with_respects f (pool_from f given file.meta.binaries) file.meta tree root.tombs)))

-- ---- documents

end_respects : (s : Setting) (text : List ℕ) → Respects (refusal_of (answers text)) (parts_at_end s text)
end_respects s text =
    subst (λ (o : Option Answer). Respects o (parts_at_end s text)) (cuts_told text)
    (all_respect (by_name s (document_rows s)) (names_sound s (document_rows s) (document_rows_sound s)) (content_of (answers text)) None texts.start)

document_respects : (s : Setting) (given : List (List ℕ × Bool)) (text : List ℕ) → Respects (refusal_of (answers text)) (document s given text)
document_respects s given text =
    let refusal = refusal_of (answers text) in
    step_then refusal (parts_in s text) (λ parts. resolved_document s.form given parts)
    (step_then refusal (parts_at_end s text) (λ x. Ok x.0) (end_respects s text) (λ x. tt {0}))
    (λ parts. resolved_respects s.form given parts)

-- ---- the refusal of a text

-- a refusal, or none
IsRefusal : Option Answer → Type 0
IsRefusal None = Unit {0}
IsRefusal (Some (form n)) = Unit {0}
IsRefusal (Some (depth n)) = Unit {0}
IsRefusal (Some _) = ⊥

refusals_only : (list : List Answer) → IsRefusal (refusal_of list)
unfolding IsRefusal
refusals_only [] = tt
refusals_only (start p n r ∷ more) = refusals_only more
refusals_only (words p r ∷ more) = refusals_only more
refusals_only (stop p ∷ more) = refusals_only more
refusals_only (finish ∷ more) = refusals_only more
refusals_only (form n ∷ more) = tt
refusals_only (depth n ∷ more) = tt

-- answers that end once and refuse nothing end well
well_ended : (list : List Answer) → EndsOnce list → refusal_of list ≡ None → finishes list ≡ true
well_ended [] once none = absurd once
well_ended (start p n r ∷ more) once none = well_ended more once none
well_ended (words p r ∷ more) once none = well_ended more once none
well_ended (stop p ∷ more) once none = well_ended more once none
well_ended (finish ∷ more) once none = refl
well_ended (form n ∷ more) once none = absurd (cc none)
well_ended (depth n ∷ more) once none = absurd (cc none)

-- ---- the laws

same_refusal : (A : Type 0) (f g : DocFail) → ◌≡◌ {A = Result A DocFail} (Err f) (Err g) → f ≡ g
same_refusal A f g e = cc e

not_memory : {A : Type 0} (o : Option Answer) (r : Result A DocFail) → IsRefusal o → Respects o r → r ≢ Err NoMemory
unfolding IsRefusal
not_memory None (Ok x) is h e = cc e
not_memory None (Err f) is h e = subst IsDefined (same_refusal _ f NoMemory e) h
not_memory (Some (form n)) (Ok x) is h e = h
not_memory (Some (form n)) (Err f) is h e = subst IsDefined (same_refusal _ f NoMemory e) h
not_memory (Some (depth n)) (Ok x) is h e = h
not_memory (Some (depth n)) (Err f) is h e = subst IsDefined (same_refusal _ f NoMemory e) h
not_memory (Some (start p n r)) result is h e = is
not_memory (Some (words p r)) result is h e = is
not_memory (Some (stop p)) result is h e = is
not_memory (Some finish) result is h e = is

-- the definition never says want of memory
pub never_memory : (s : Setting) (given : List (List ℕ × Bool)) (text : List ℕ) → document s given text ≢ Err NoMemory
never_memory s given text =
    not_memory (refusal_of (answers text)) (document s given text) (refusals_only (answers text)) (document_respects s given text)

not_refused : {A : Type 0} (o : Option Answer) (r : Result A DocFail) (x : A) → IsRefusal o → Respects o r → r ≡ Ok x → o ≡ None
unfolding IsRefusal
not_refused None r x is h e = refl
not_refused (Some (form n)) (Ok y) x is h e = absurd h
not_refused (Some (form n)) (Err f) x is h e = absurd (cc e)
not_refused (Some (depth n)) (Ok y) x is h e = absurd h
not_refused (Some (depth n)) (Err f) x is h e = absurd (cc e)
not_refused (Some (start p n w)) r x is h e = absurd is
not_refused (Some (words p w)) r x is h e = absurd is
not_refused (Some (stop p)) r x is h e = absurd is
not_refused (Some finish) r x is h e = absurd is

same_steps : {A B C : Type 0} (r : Result (A × C) DocFail) (next : A → Result B DocFail)
    → ((r >>= λ x. Ok x.0) >>= next) ≡ (r >>= λ x. next x.0)
same_steps (Ok x) next = refl
same_steps (Err e) next = refl

-- a document is that of a text of the grammar, and what its tree says
pub of_text : (s : Setting) (given : List (List ℕ × Bool)) (text : List ℕ) (r : DocumentAndHash) → document s given text ≡ Ok r
    → (tree : Tree) × IsText text tree × (height tree.root ≤ 256) × (document_of_tree s given tree ≡ Ok r)
of_text s given text r e =
    let none = not_refused (refusal_of (answers text)) (document s given text) r (refusals_only (answers text)) (document_respects s given text) e in
    let ended = finished_texts text (well_ended (answers text) (verdicts text) none) in
    let next : Option FileParts → Result DocumentAndHash DocFail = λ parts. resolved_document s.form given parts in
    let content : content_of (answers text) ≡ tree_content ended.0 = elements_told text ended.0 ended.1 ended.2 in (
      ended.0,
      ended.1,
      ended.2,
      ap (λ c. all_children (by_name s (document_rows s)) c None texts.start >>= λ x. next x.0) (sym content)
          ∙ (sym (same_steps (parts_at_end s text) next) ∙ e),
    )
