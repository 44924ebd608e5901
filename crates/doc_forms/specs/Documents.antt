-- Documents: what a text says as a whole, or its first refusal.
use Rattle.std.specs.Prelude.{ℕ, Bool, not, if◌then◌else◌, is_some, Option, Some, None, List, [], ◌∷◌, ◌++◌, codes, Result, Ok, Err}
use Rattle.text_forms.specs.MarkupGrammar.Elements.{element, content_of}
use Rattle.text_forms.specs.MarkupGrammar.Reading.{answers}
use Rattle.vault_model.specs.Db.{nil_id}
use Rattle.vault_model.specs.Tree.{BareDoc, node_ids}
use Rattle.vault_model.specs.declared.forms.DocForm.{DocForm}
use Rattle.vault_model.specs.declared.forms.DocForm.TheVariants.{V3}
use Rattle.vault_model.specs.declared.nodes.Tombstone.{Tombstone}
use Rattle.doc_forms.specs.declared.cursor.Cursor.{Cursor}
use Rattle.doc_forms.specs.declared.fails.DocFail.{DocFail}
use Rattle.doc_forms.specs.declared.fails.DocFail.TheVariants.{BadValue, MissingElement}
use Rattle.doc_forms.specs.declared.fails.RequiredElement.{RequiredElement}
use Rattle.doc_forms.specs.declared.fails.RequiredElement.TheVariants.{KeePassFile, Root, Group}
use Rattle.doc_forms.specs.Attachments.{pool_from, resolved_tree, missing_in, first_missing, refuse_missing}
use Rattle.doc_forms.specs.Children.{Child, by_name, all_children, value, children_and_end, container}
use Rattle.doc_forms.specs.ElementTexts.{Setting, start}
use Rattle.doc_forms.specs.Groups.{ReadTree, group}
use Rattle.doc_forms.specs.Ids.{least_duplicate, refuse_duplicate, tombs_of}
use Rattle.doc_forms.specs.Metas.{ReadBinary, MetaParts, no_meta, metas}
use Rattle.stream_core.specs.OutsideCore.Results.{◌>>=◌}
use Rattle.doc_forms.specs.Values.{value_or, id, time}

-- ---- the tree of a document

-- a tombstone of which nothing is known
abbrev pub no_tomb : Tombstone
no_tomb = record { id = nil_id; deleted = 0 }

-- the children of `DeletedObject`
abbrev pub tomb_rows : Setting → List (List ℕ × Child Tombstone)
tomb_rows s =
    (codes "UUID", value s (value_or nil_id id) (λ p v. record p { id = v }))
    ∷ (codes "DeletionTime", value s (value_or 0 time) (λ p v. record p { deleted = v }))
    ∷ []

-- the children of `DeletedObjects`
abbrev pub tombs_rows : Setting → List (List ℕ × Child (List Tombstone))
tombs_rows s =
    (codes "DeletedObject", container s (tomb_rows s) no_tomb (λ tombs tomb. tombs ++ tomb ∷ [])) ∷
    []

-- What is known of `Root` before its end: the root group, and the tombstones in their order.
pub record RootParts : Type 0 where
  pub tree : Option ReadTree
  pub tombs : List Tombstone

-- a `Root` of which nothing is known
abbrev pub no_root : RootParts
no_root = record { tree = None; tombs = [] }

-- the root group, with 127 levels below it; a second one is refused at its end
abbrev pub root_group : Setting → Child RootParts
root_group s p e cursor =
    group s 127 (not (is_some p.tree)) e cursor >>= λ x. Ok (record p { tree = Some x.0 }, x.1)

-- the children of `Root`
abbrev pub root_rows : Setting → List (List ℕ × Child RootParts)
root_rows s =
    (codes "Group", root_group s)
    ∷ (codes "DeletedObjects", container s (tombs_rows s) [] (λ p v. record p { tombs = v }))
    ∷ []

-- ---- the whole text

-- What is known of `KeePassFile` before its end.
pub record FileParts : Type 0 where
  pub meta : MetaParts
  pub root : Option RootParts

-- a `KeePassFile` of which nothing is known
abbrev pub no_file_parts : FileParts
no_file_parts = record { meta = no_meta; root = None }

-- `Root`; a second one is refused at its end
abbrev pub root : Setting → Child FileParts
root s p (element offset name raw content) cursor = do
  x ← children_and_end s (by_name s (root_rows s)) offset raw [] content no_root cursor
  if is_some p.root then Err (BadValue offset) else Ok (record p { root = Some x.0 }, x.1)

-- the children of `KeePassFile`
abbrev pub file_rows : Setting → List (List ℕ × Child FileParts)
file_rows s = (codes "Meta", metas s (λ p v. record p { meta = v })) ∷ (codes "Root", root s) ∷ []

-- the whole text, of which the outermost element is known by its name alone
abbrev pub document_rows : Setting → List (List ℕ × Child (Option FileParts))
document_rows s = (codes "KeePassFile", container s (file_rows s) no_file_parts (λ p v. Some v)) ∷
    []

-- what the text says up to its end, and how much has been read then
abbrev pub parts_at_end : Setting → List ℕ → Result (Option FileParts × Cursor) DocFail
parts_at_end s text = all_children (by_name s (document_rows s)) (content_of (answers text)) None
    start

-- what is known of a document at the end of its text
abbrev pub parts_in : Setting → List ℕ → Result (Option FileParts) DocFail
parts_in s text = parts_at_end s text >>= λ x. Ok x.0

-- ---- after the end

-- an element that must be there
abbrev pub required_part : {A : Type 0} → RequiredElement → Option A → Result A DocFail
required_part which None = Err (MissingElement which 0)
required_part which (Some x) = Ok x

-- the header's hash counts in a file of version 3.1 alone
abbrev pub hash_of : DocForm → MetaParts → Option (List ℕ)
hash_of V3 meta = meta.hash
hash_of _ meta = None

-- a document, and the hash that it names
abbrev pub DocumentAndHash : Type 0
DocumentAndHash = BareDoc × Option (List ℕ)

-- what a tree makes with the rest, where the binaries to which attachments refer are known, or the
-- first refusal
abbrev pub resolved_with :
    DocForm → List ReadBinary → MetaParts → ReadTree → List Tombstone
    → Result DocumentAndHash DocFail
resolved_with form pool meta tree tombs = do
  _ ← refuse_duplicate (least_duplicate (node_ids (resolved_tree pool tree)))
  _ ← refuse_missing (first_missing (missing_in pool tree))
  Ok (
    record {
      tree = resolved_tree pool tree;
      tombs = tombs_of (resolved_tree pool tree) tombs;
      meta = meta.meta;
    },
    hash_of form meta,
  )

-- the same with the binaries that the file keeps apart, or the document's own
abbrev pub resolved_parts : DocForm → List (List ℕ × Bool) → MetaParts → ReadTree → List Tombstone
    → Result DocumentAndHash DocFail
resolved_parts form given meta tree tombs = resolved_with form (pool_from form given meta.binaries)
    meta tree tombs

-- what the parts of a text make, or the first refusal after its end
abbrev pub resolved_document :
    DocForm → List (List ℕ × Bool) → Option FileParts → Result DocumentAndHash DocFail
resolved_document form given parts = do
  file ← required_part KeePassFile parts
  root ← required_part Root file.root
  tree ← required_part Group root.tree
  resolved_parts form given file.meta tree root.tombs

-- what a text says, read with binaries that the file keeps apart, or its first refusal
abbrev pub document : Setting → List (List ℕ × Bool) → List ℕ → Result DocumentAndHash DocFail
document s given text = parts_in s text >>= λ parts. resolved_document s.form given parts
