-- Why the text of a document is refused, as what is so of the text.
use Rattle.std.specs.Prelude.{◌≡◌, ◌≢◌, ◌⊎◌, ◌≤◌, ℕ, Bool, false, Some, List, [], ◌∷◌, ◌++◌, codes, Ok, Err}
use Rattle.std.specs.Ordering.{is_lt}
use Rattle.markup_grammar.specs.Answers.{depth, form}
use Rattle.markup_grammar.specs.Elements.{Content, Element, also, content_of, cut, element, last}
use Rattle.markup_grammar.specs.Faults.{IsFault}
use Rattle.markup_grammar.specs.Reading.{answers}
use Rattle.vault_model.specs.Db.{NodeId}
use Rattle.vault_model.specs.Join.{IsIn}
use Rattle.vault_model.specs.Orders.{bytes_cmp}
use Rattle.vault_model.specs.Tree.{node_ids}
use Rattle.doc_forms.specs.declared.fails.DocFail.{DocFail}
use Rattle.doc_forms.specs.declared.fails.DocFail.TheVariants.{BinaryRef, Depth, DuplicateId, Form, MissingElement, NoMemory}
use Rattle.doc_forms.specs.declared.fails.RequiredElement.{RequiredElement}
use Rattle.doc_forms.specs.declared.fails.RequiredElement.TheVariants.{Group, KeePassFile, Root, Uuid}
use Rattle.doc_forms.specs.Attachments.{pool_from, resolved_tree}
use Rattle.doc_forms.specs.Documents.{FileParts, RootParts, document, parts_in}
use Rattle.doc_forms.specs.ElementTexts.{Setting, start}
use Rattle.doc_forms.specs.Entries.{ReadAttachment, ReadEntry, ReadVersion, pool_number}
use Rattle.doc_forms.specs.Groups.{ReadTree, ReadTrees, beside, node, none}
use Rattle.doc_forms.specs.Metas.{ReadBinary}
use Rattle.document_cause_laws.specs.ElementFaults.{HasFaultIn, HasNone}
use Rattle.document_cause_laws.specs.ElementKinds.{text_kind}

-- what is in a text: its outermost element, with the white space, comments and instructions round
-- it left out
abbrev pub elements_in : List ℕ → Content
elements_in text = content_of (answers text)

-- ---- elements that are missing

-- An element is a child of what holds this.
abbrev pub IsChild : Element → Content → Type 0
IsChild e (last text) = ⊥
IsChild e (also text f more) = (f ≡ e) ⊎ IsChild e more
IsChild e (cut text answer) = ⊥

-- The outermost element is `KeePassFile`, and holds this.
pub record IsFile (text : List ℕ) (content : Content) : Type 0 where
  pub offset : ℕ
  pub raw : List ℕ
  pub outermost : elements_in text
      ≡ also [] (element offset (codes "KeePassFile") raw content) (last [])

-- There is a `KeePassFile`, and no `Root` in it.
pub record LacksRoot (text : List ℕ) : Type 0 where
  pub content : Content
  pub is_file : IsFile text content
  pub none : HasNone (codes "Root") content

-- There is a `Root` in `KeePassFile`, and no group in it.
pub record LacksGroup (text : List ℕ) : Type 0 where
  pub content : Content
  pub is_file : IsFile text content
  pub offset : ℕ
  pub raw : List ℕ
  pub held : Content
  pub is_root : IsChild (element offset (codes "Root") raw held) content
  pub none : HasNone (codes "Group") held

-- ---- what does not fit together

-- The text says this of its database, and has this tree.
pub record SaysTree (s : Setting) (text : List ℕ) (file : FileParts) (tree : ReadTree) :
    Type 0 where
  pub says : parts_in s text ≡ Ok (Some file)
  pub root : RootParts
  pub root_is : file.root ≡ Some root
  pub tree_is : root.tree ≡ Some tree

-- An id stands at two places of a list.
pub record IsTwice (u : NodeId) (ids : List NodeId) : Type 0 where
  pub front : List NodeId
  pub middle : List NodeId
  pub back : List NodeId
  pub is : ids ≡ front ++ (u ∷ (middle ++ (u ∷ back)))

-- the ids of the nodes of a tree: its groups and its entries
abbrev pub ids_in : List ReadBinary → ReadTree → List NodeId
ids_in pool tree = node_ids (resolved_tree pool tree)

-- Two nodes of the text have this id, and no lesser id is that of two.
pub record HasIdTwice (s : Setting) (given : List (List ℕ × Bool)) (text : List ℕ) (u : NodeId) :
    Type 0 where
  pub file : FileParts
  pub tree : ReadTree
  pub says_tree : SaysTree s text file tree
  pub twice : IsTwice u (ids_in (pool_from s.form given file.meta.binaries) tree)
  pub least : (v : NodeId) → IsTwice v (ids_in (pool_from s.form given file.meta.binaries) tree)
      → is_lt (bytes_cmp v u) ≡ false

-- An attachment of a version refers to a binary by this number, in the element at this offset.
abbrev pub VersionRefers : ReadVersion → ℕ → ℕ → Type 0
VersionRefers v offset number = (a : ReadAttachment) × IsIn a v.attachments
    × (a.source ≡ pool_number offset number)

-- One of an entry does, of its current version or of its history.
abbrev pub EntryRefers : ReadEntry → ℕ → ℕ → Type 0
EntryRefers e offset number = (v : ReadVersion) × IsIn v (e.current ∷ e.history)
    × VersionRefers v offset number

abbrev mutual
  -- One of a tree does.
  pub TreeRefers : ReadTree → ℕ → ℕ → Type 0
  TreeRefers (node u r es ts) offset number =
      ((e : ReadEntry) × IsIn e es × EntryRefers e offset number) ⊎ TreesRefer ts offset number

  -- One of groups side by side does.
  pub TreesRefer : ReadTrees → ℕ → ℕ → Type 0
  TreesRefer none offset number = ⊥
  TreesRefer (beside t ts) offset number =
      TreeRefers t offset number ⊎ TreesRefer ts offset number

-- No binary has this number.
abbrev pub HasNoBinary : List ReadBinary → ℕ → Type 0
HasNoBinary pool number = (b : ReadBinary) → IsIn b pool → b.number ≢ number

-- An attachment refers to a binary by this number, and there is none; and none that refers so
-- stands before it in the text.
pub record RefersToNone (s : Setting) (given : List (List ℕ × Bool)) (text : List ℕ) (number : ℕ) :
    Type 0 where
  pub file : FileParts
  pub tree : ReadTree
  pub says_tree : SaysTree s text file tree
  pub offset : ℕ
  pub refers : TreeRefers tree offset number
  pub no_binary : HasNoBinary (pool_from s.form given file.meta.binaries) number
  pub first : (o n : ℕ) → TreeRefers tree o n
      → HasNoBinary (pool_from s.form given file.meta.binaries) n → offset ≤ o

-- ---- the law

-- The cause of a missing element.
abbrev pub MissingCause : Setting → List ℕ → RequiredElement → ℕ → Type 0
MissingCause s text KeePassFile offset = (offset ≡ 0)
    × HasNone (codes "KeePassFile") (elements_in text)
MissingCause s text Root offset = (offset ≡ 0) × LacksRoot text
MissingCause s text Group offset = (offset ≡ 0) × LacksGroup text
MissingCause s text Uuid offset =
    HasFaultIn s text_kind false start (elements_in text) (MissingElement Uuid offset)

-- The cause of each refusal.
abbrev pub DocumentCause : Setting → List (List ℕ × Bool) → List ℕ → DocFail → Type 0
DocumentCause s given text (Form offset) = IsFault text (form offset)
DocumentCause s given text (Depth offset) = IsFault text (depth offset)
DocumentCause s given text (MissingElement which offset) = MissingCause s text which offset
DocumentCause s given text (DuplicateId u) = HasIdTwice s given text u
DocumentCause s given text (BinaryRef number) = RefersToNone s given text number
DocumentCause s given text NoMemory = ⊥
DocumentCause s given text fail = HasFaultIn s text_kind false start (elements_in text) fail

-- A text that is refused has the cause.
abbrev pub DocumentRefusalsHaveCauses : Type 0
DocumentRefusalsHaveCauses = (s : Setting) (given : List (List ℕ × Bool)) (text : List ℕ)
    (fail : DocFail) → document s given text ≡ Err fail → DocumentCause s given text fail
