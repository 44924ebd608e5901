-- What is read of a document to its end is kept: its texts are UTF-8, keys rise, no id of a node is nil, and no group lies too deep.
use Rattle.std.proofs.Common.{◌≡◌, ℕ, true, not, Option, Some, None, is_some, List, [], Result, Ok, Err, IfOk, subst, refl}
use Rattle.markup_grammar.specs.Elements.{element, content_of}
use Rattle.markup_grammar.specs.Reading.{answers}
use Rattle.doc_forms.specs.declared.cursor.Cursor.{Cursor}
use Rattle.doc_forms.specs.declared.fails.DocFail.{DocFail}
use Rattle.doc_forms.specs.declared.fails.DocFail.TheVariants.{BadValue}
use Rattle.doc_forms.specs.Documents.{FileParts, RootParts, document_rows, file_rows, no_file_parts, no_root, parts_at_end, parts_in, root, root_group, root_rows, tombs_rows}
use Rattle.doc_forms.specs.Groups.{group}
use Rattle.doc_forms.specs.KeptParts.{are_kept, is_kept_half, is_kept_meta, is_kept_root, is_kept_tree}
use Rattle.doc_forms.specs.Children.{by_name, children_and_end}
use Rattle.doc_forms.specs.ElementTexts.{Setting, start}
use Rattle.doc_read.proofs.Keeping.{◌&◌, step_and_next, either_step, Keeps, Rows, by_name_keeps, all_keep, element_keeps, container_keeps, any_container}
use Rattle.doc_read.proofs.KeptGroups.{group_kept}
use Rattle.doc_read.proofs.KeptMetas.{no_meta_kept, meta_is_kept, meta_row}

abbrev KeptRoot : RootParts → Type 0
KeptRoot p = is_kept_root p.tree ≡ true

root_group_kept : (s : Setting) → Keeps KeptRoot (root_group s)
root_group_kept s p e cursor g =
    step_and_next (λ x. is_kept_tree 127 x.0 ≡ true) (λ x. KeptRoot x.0) (group s 127 (not (is_some p.tree)) e cursor) (λ x. Ok (record p { tree = Some x.0 }, x.1))
    (group_kept s 127 (not (is_some p.tree)) e cursor) (λ x k. k)

root_rows_kept : (s : Setting) → Rows KeptRoot (root_rows s)
root_rows_kept s = root_group_kept s & any_container KeptRoot s (tombs_rows s) [] _ (λ p v g. g) & tt

abbrev KeptFile : FileParts → Type 0
KeptFile f = (is_kept_meta f.meta.meta ≡ true) × (is_kept_half f.root ≡ true)

root_kept : (s : Setting) → Keeps KeptFile (root s)
root_kept s p (element offset name raw content) cursor g =
    step_and_next (λ x. KeptRoot x.0) (λ x. KeptFile x.0) (children_and_end s (by_name s (root_rows s)) offset raw [] content no_root cursor) _
    (element_keeps KeptRoot s (root_rows s) (root_rows_kept s) offset raw [] content no_root cursor refl)
    (λ x k. either_step (λ y. KeptFile y.0) (is_some p.root) (Err (BadValue offset)) (Ok (record p { root = Some x.0 }, x.1)) tt (g.0, k))

file_kept : (s : Setting) → Rows KeptFile (file_rows s)
file_kept s = meta_row KeptFile s _ (λ p v g k. (meta_is_kept v.meta k, g.1)) & root_kept s & tt

abbrev KeptText : Option FileParts → Type 0
KeptText o = are_kept o ≡ true

text_kept : (s : Setting) → Rows KeptText (document_rows s)
text_kept s =
    container_keeps KeptText KeptFile s (file_rows s) no_file_parts _ (file_kept s) (meta_is_kept no_file_parts.meta.meta no_meta_kept, refl)
    (λ p f g k. rw (k.0, k.1) refl)
    & tt

text_is_kept : (s : Setting) (text : List ℕ) → IfOk (parts_at_end s text) (λ x. are_kept x.0 ≡ true)
text_is_kept s text = all_keep KeptText s (by_name s (document_rows s)) (by_name_keeps KeptText s (document_rows s) (text_kept s)) (content_of (answers text)) None start refl

-- what is read of a text to its end is kept
pub parts_kept : (s : Setting) (text : List ℕ) (parts : Option FileParts) → parts_in s text ≡ Ok parts → are_kept parts ≡ true
parts_kept s text parts e =
    subst (λ (r : Result (Option FileParts) DocFail). IfOk r (λ o. are_kept o ≡ true)) e
    (step_and_next (λ x. are_kept x.0 ≡ true) (λ o. are_kept o ≡ true) (parts_at_end s text) (λ x. Ok x.0) (text_is_kept s text) (λ x k. k))
