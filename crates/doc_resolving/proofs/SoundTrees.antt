-- A tree in which nothing is refused, and the document that is made of it.
use Rattle.std.specs.Prelude.{IfOk}
use Rattle.std.proofs.Common.{◌≡◌, List, Option, None, Some, Result, Ok, Err, ap, sym, refl, ◌∙◌}
use Rattle.vault_model.specs.Db.{NodeId}
use Rattle.vault_model.specs.SeenNodes.{tree_seen}
use Rattle.vault_model.specs.Tree.{Tree, node_ids}
use Rattle.vault_model.specs.declared.forms.DocForm.{DocForm}
use Rattle.vault_model.specs.declared.nodes.Tombstone.{Tombstone}
use Rattle.doc_forms.specs.declared.fails.DocFail.{DocFail}
use Rattle.doc_forms.specs.declared.fails.DocFail.TheVariants.{Form, Depth, BadValue, Compressed, TooDeep, TooMany, NilId, MissingElement, DuplicateId, BinaryRef, NoMemory}
use Rattle.doc_attachments.specs.Trees.{tree_and_missing}
use Rattle.doc_attachments.specs.declared.trees.ResolvedTree.{ResolvedTree}
use Rattle.doc_forms.specs.Attachments.{Missing, refuse_missing, resolved_in, resolved_tree}
use Rattle.doc_forms.specs.Documents.{DocumentAndHash, hash_of, resolved_with}
use Rattle.doc_forms.specs.Groups.{ReadTree}
use Rattle.doc_forms.specs.Ids.{least_duplicate, refuse_duplicate, tombs_of}
use Rattle.doc_forms.specs.Metas.{MetaParts, ReadBinary}
use Rattle.outside_core.specs.Results.{◌>>=◌}
use Rattle.doc_forms.specs.Refusals.{Fails}
use Rattle.doc_resolving.specs.Trees.{ArePartsOf, AreTreeParts, refusal_of, sound_tree, tree_of_parts}
use Rattle.doc_resolving.specs.declared.resolving.TreeParts.{TreeParts}

-- a defined refusal is the right one
pub fails_with : {Y : Type 0} (e : DocFail) (defined : Result Y DocFail) → defined ≡ Err e → Fails e defined
fails_with (Form offset) defined h = h
fails_with (Depth offset) defined h = h
fails_with (BadValue offset) defined h = h
fails_with (Compressed offset) defined h = h
fails_with (TooDeep offset) defined h = h
fails_with (TooMany count) defined h = h
fails_with (NilId offset) defined h = h
fails_with (MissingElement which offset) defined h = h
fails_with (DuplicateId id) defined h = h
fails_with (BinaryRef number) defined h = h
fails_with NoMemory defined h = tt

-- the same refusal of what is made of a value
pub fails_on : {X Y : Type 0} (e : DocFail) (defined : Result X DocFail) (next : X → Result Y DocFail) → Fails e defined → Fails e (defined >>= next)
fails_on (Form offset) defined next h = ap (λ r. r >>= next) h
fails_on (Depth offset) defined next h = ap (λ r. r >>= next) h
fails_on (BadValue offset) defined next h = ap (λ r. r >>= next) h
fails_on (Compressed offset) defined next h = ap (λ r. r >>= next) h
fails_on (TooDeep offset) defined next h = ap (λ r. r >>= next) h
fails_on (TooMany count) defined next h = ap (λ r. r >>= next) h
fails_on (NilId offset) defined next h = ap (λ r. r >>= next) h
fails_on (MissingElement which offset) defined next h = ap (λ r. r >>= next) h
fails_on (DuplicateId id) defined next h = ap (λ r. r >>= next) h
fails_on (BinaryRef number) defined next h = ap (λ r. r >>= next) h
fails_on NoMemory defined next h = tt

-- ---- the tree

-- the parts of a tree that was resolved are those of the tree that was read
pub parts_as : {E : Type 0} (pool : List ReadBinary) (read : ReadTree) (tombs : List Tombstone) (tree : ResolvedTree) (r : Result TreeParts E)
    → tree_and_missing tree ≡ resolved_in pool read
    → IfOk r (λ parts. AreTreeParts tree tombs parts) → IfOk r (λ parts. ArePartsOf pool read tombs parts)
parts_as pool read tombs tree (Ok parts) is of_tree =
    let tree_is : tree_seen tree.root ≡ resolved_tree pool read = ap (λ (x : Tree × Option Missing). x.0) is in
    record {
      tree = of_tree.root ∙ tree_is;
      duplicate = of_tree.duplicate ∙ ap (λ t. least_duplicate (node_ids t)) tree_is;
      missing = of_tree.missing ∙ ap (λ (x : Tree × Option Missing). x.1) is;
      tombs_are = of_tree.tombs_are ∙ ap (λ t. tombs_of t tombs) tree_is;
    }
parts_as pool read tombs tree (Err e) is of_tree = tt

module _ (pool : List ReadBinary) (read : ReadTree) (tombs : List Tombstone) (parts : TreeParts) (are : ArePartsOf pool read tombs parts) where
  pub by_parts : sound_tree pool read tombs ≡ (refusal_of parts.duplicate parts.missing >>= λ _. Ok (tree_seen parts.root, parts.tombs))
  by_parts =
      λ i. refusal_of (sym are.duplicate i) (sym are.missing i) >>= λ _. Ok (sym are.tree i, sym are.tombs_are i)

-- a tree of which all is known, where nothing is refused
pub sound_of : (parts kept : TreeParts) (refused : Result (Unit {0}) DocFail) (u : Unit {0})
    → refused ≡ refusal_of parts.duplicate parts.missing → kept ≡ parts → refused ≡ Ok u → tree_of_parts parts ≡ Ok (tree_seen kept.root, kept.tombs)
sound_of parts kept refused u is same none =
    ap (λ r. r >>= λ _. Ok (tree_seen parts.root, parts.tombs)) (sym is ∙ none)
    ∙ ap (λ (p : TreeParts). let r : Result (Tree × List Tombstone) DocFail = Ok (tree_seen p.root, p.tombs) in r) (sym same)

-- where something is
pub refusal_in : (parts : TreeParts) (refused : Result (Unit {0}) DocFail) (e : DocFail)
    → refused ≡ refusal_of parts.duplicate parts.missing → refused ≡ Err e → Fails e (tree_of_parts parts)
refusal_in parts refused e is some =
    fails_with e (tree_of_parts parts) (ap (λ r. r >>= λ _. Ok (tree_seen parts.root, parts.tombs)) (sym is ∙ some))

-- ---- the document

in_one : {X Y : Type 0} (duplicate : Option NodeId) (missing : Option Missing) (x : X) (f : X → Y)
    → (refuse_duplicate duplicate >>= λ _. (refuse_missing missing >>= λ _. Ok (f x)))
    ≡ ((refusal_of duplicate missing >>= λ _. Ok x) >>= λ y. Ok (f y))
in_one None None x f = refl
in_one None (Some m) x f = refl
in_one (Some u) missing x f = refl

-- a document with its hash, of a tree with its tombstones
abbrev pub document_of : DocForm → MetaParts → Tree × List Tombstone → DocumentAndHash
document_of form meta x = (record { tree = x.0; tombs = x.1; meta = meta.meta }, hash_of form meta)

module _ (form : DocForm) (pool : List ReadBinary) (meta : MetaParts) (read : ReadTree) (tombs : List Tombstone) where
  by_tree : resolved_with form pool meta read tombs ≡ (sound_tree pool read tombs >>= λ x. Ok (document_of form meta x))
  by_tree = in_one _ _ (resolved_tree pool read, tombs_of (resolved_tree pool read) tombs) (document_of form meta)

  pub resolved_sound : (tree : Tree) (buried : List Tombstone) → sound_tree pool read tombs ≡ Ok (tree, buried)
      → resolved_with form pool meta read tombs ≡ Ok (document_of form meta (tree, buried))
  resolved_sound tree buried h = by_tree ∙ ap (λ r. r >>= λ x. Ok (document_of form meta x)) h

  pub resolved_refused : (e : DocFail) → Fails e (sound_tree pool read tombs) → Fails e (resolved_with form pool meta read tombs)
  resolved_refused e h =
      rw by_tree (fails_on e (sound_tree pool read tombs) (λ x. Ok (document_of form meta x)) h)

-- ---- what is known of a sound tree

facts_by : (duplicate : Option NodeId) (missing : Option Missing) (t tree : Tree) (b buried : List Tombstone)
    → ◌>>=◌ {B = Tree × List Tombstone} (refusal_of duplicate missing) (λ _. Ok (t, b)) ≡ Ok (tree, buried) → (duplicate ≡ None) × (t ≡ tree) × (b ≡ buried)
facts_by None None t tree b buried h =
    let same : ◌≡◌ {A = Tree × List Tombstone} (t, b) (tree, buried) = cc h in
    (refl, ap (λ x. x.0) same, ap (λ x. x.1) same)
facts_by None (Some m) t tree b buried h = absurd (cc h)
facts_by (Some u) missing t tree b buried h = absurd (cc h)

-- What a sound tree and its tombstones are.
pub record IsSound (pool : List ReadBinary) (read : ReadTree) (tombs : List Tombstone) (tree : Tree) (buried : List Tombstone) : Type 0 where
  pub tree_is : resolved_tree pool read ≡ tree
  pub distinct : least_duplicate (node_ids tree) ≡ None
  pub tombs_are : tombs_of tree tombs ≡ buried

pub is_sound : (pool : List ReadBinary) (read : ReadTree) (tombs : List Tombstone) (tree : Tree) (buried : List Tombstone)
    → sound_tree pool read tombs ≡ Ok (tree, buried) → IsSound pool read tombs tree buried
is_sound pool read tombs tree buried h =
    let facts = facts_by _ _ (resolved_tree pool read) tree (tombs_of (resolved_tree pool read) tombs) buried h in
    record {
      tree_is = facts.1;
      distinct = ap (λ t. least_duplicate (node_ids t)) (sym facts.1) ∙ facts.0;
      tombs_are = ap (λ t. tombs_of t tombs) (sym facts.1) ∙ facts.2;
    }
