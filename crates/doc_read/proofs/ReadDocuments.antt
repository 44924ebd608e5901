-- What is read is resolved from parts that keep what a document keeps, so it is a document.
use Rattle.std.proofs.Common.{◌≡◌, ℕ, Bool, true, List, Option, None, Some, Result, Ok, Err, refl, ap, subst}
use Rattle.outside_core.specs.Results.{◌>>=◌}
use Rattle.vault_model.specs.Tree.{Tree, IsDoc, node_ids}
use Rattle.vault_model.specs.declared.forms.DocForm.{DocForm}
use Rattle.vault_model.specs.declared.nodes.Tombstone.{Tombstone}
use Rattle.vault_model.proofs.Tests.{and_true}
use Rattle.doc_forms.specs.Attachments.{first_missing, missing_in, pool_from, refuse_missing, resolved_tree}
use Rattle.doc_forms.specs.Documents.{DocumentAndHash, FileParts, RootParts, document, hash_of, parts_in, required_part, resolved_document, resolved_parts, resolved_with}
use Rattle.doc_forms.specs.ElementTexts.{Setting}
use Rattle.doc_forms.specs.Groups.{ReadTree}
use Rattle.doc_forms.specs.Ids.{least_duplicate, refuse_duplicate, tombs_of}
use Rattle.doc_forms.specs.KeptParts.{are_kept, is_kept_half, is_kept_meta, is_kept_root, is_kept_tree}
use Rattle.doc_forms.specs.Metas.{MetaParts, ReadBinary}
use Rattle.doc_forms.specs.declared.fails.DocFail.{DocFail}
use Rattle.doc_forms.specs.declared.fails.RequiredElement.TheVariants.{Root, Group}
use Rattle.doc_read.proofs.KeptDocuments.{parts_kept}
use Rattle.doc_resolving.proofs.ResolvedDocuments.{no_duplicate, resolved_doc}

-- where two steps give something, each of them does
both_ok : {A B : Type 0} (r : Result A DocFail) (next : A → Result B DocFail) (y : B) → (r >>= next) ≡ Ok y → (x : A) × ((r ≡ Ok x) × (next x ≡ Ok y))
both_ok (Ok x) next y h = (x, (refl, h))
both_ok (Err e) next y h = cc h

module _ (form : DocForm) (read : DocumentAndHash) where
  abbrev document_in : Result DocumentAndHash DocFail → DocumentAndHash
  document_in (Ok x) = x
  document_in (Err e) = read

  -- nothing is refused of a tree that is kept
  of_tree : (pool : List ReadBinary) (meta : MetaParts) (tree : ReadTree) (tombs : List Tombstone) → is_kept_meta meta.meta ≡ true → is_kept_tree 127 tree ≡ true
      → resolved_with form pool meta tree tombs ≡ Ok read → IsDoc read.0
  of_tree pool meta tree tombs kept_meta kept h =
      let resolved : Tree = resolved_tree pool tree in
      let made : Result DocumentAndHash DocFail = Ok (record { tree = resolved; tombs = tombs_of resolved tombs; meta = meta.meta }, hash_of form meta) in
      let ids = both_ok (refuse_duplicate (least_duplicate (node_ids resolved))) (λ u. refuse_missing (first_missing (missing_in pool tree)) >>= λ v. made) read h in
      let bytes = both_ok (refuse_missing (first_missing (missing_in pool tree))) (λ v. made) read ids.1.1 in
      subst (λ (x : DocumentAndHash). IsDoc x.0) (ap document_in bytes.1.1)
      (resolved_doc pool tree resolved tombs (tombs_of resolved tombs) meta.meta kept_meta kept refl
      (no_duplicate (least_duplicate (node_ids resolved)) ids.0 ids.1.0) refl)

  module _ (given : List (List ℕ × Bool)) where
    of_root : (meta : MetaParts) (o : Option ReadTree) (tombs : List Tombstone) → is_kept_meta meta.meta ≡ true → is_kept_root o ≡ true
        → (required_part Group o >>= λ tree. resolved_parts form given meta tree tombs) ≡ Ok read → IsDoc read.0
    of_root meta None tombs kept_meta kept h = cc h
    of_root meta (Some tree) tombs kept_meta kept h = of_tree (pool_from form given meta.binaries) meta tree tombs kept_meta kept h

    of_half : (meta : MetaParts) (o : Option RootParts) → is_kept_meta meta.meta ≡ true → is_kept_half o ≡ true
        → (required_part Root o >>= λ root. required_part Group root.tree >>= λ tree. resolved_parts form given meta tree root.tombs) ≡ Ok read → IsDoc read.0
    of_half meta None kept_meta kept h = cc h
    of_half meta (Some root) kept_meta kept h = of_root meta root.tree root.tombs kept_meta kept h

    of_parts : (parts : Option FileParts) → are_kept parts ≡ true → resolved_document form given parts ≡ Ok read → IsDoc read.0
    of_parts None kept h = cc h
    of_parts (Some file) kept h =
        let both = and_true (is_kept_meta file.meta.meta) (is_kept_half file.root) kept in
        of_half file.meta file.root both.0 both.1 h

pub read_is_doc : (s : Setting) (given : List (List ℕ × Bool)) (text : List ℕ) (read : DocumentAndHash) → document s given text ≡ Ok read → IsDoc read.0
read_is_doc s given text read h =
    let p = both_ok (parts_in s text) (λ parts. resolved_document s.form given parts) read h in
    of_parts s.form read given p.0 (parts_kept s text p.0 p.1.0) p.1.1
