-- What is known of a tree before the document is made: the tree with the bytes of its attachments,
-- and what may be wrong.
use Rattle.std.specs.Prelude.{◌≡◌, List, Option, Result, Ok}
use Rattle.vault_model.specs.SeenNodes.{tree_seen}
use Rattle.vault_model.specs.Db.{NodeId}
use Rattle.vault_model.specs.Tree.{Tree, node_ids}
use Rattle.vault_model.specs.declared.nodes.Tombstone.{Tombstone}
use Rattle.doc_forms.specs.Attachments.{Missing, first_missing, missing_in, refuse_missing, resolved_tree}
use Rattle.doc_forms.specs.Groups.{ReadTree}
use Rattle.doc_forms.specs.Ids.{least_duplicate, refuse_duplicate, tombs_of}
use Rattle.doc_forms.specs.Metas.{ReadBinary}
use Rattle.outside_core.specs.Results.{◌>>=◌}
use Rattle.doc_forms.specs.declared.fails.DocFail.{DocFail}
use Rattle.doc_attachments.specs.declared.trees.ResolvedTree.{ResolvedTree}
use Rattle.doc_resolving.specs.declared.resolving.TreeParts.{TreeParts}

-- These are the parts of a tree that was read, with these binaries and these tombstones.
pub record ArePartsOf (pool : List ReadBinary) (read : ReadTree) (tombs : List Tombstone)
    (parts : TreeParts) : Type 0 where
  pub tree : tree_seen parts.root ≡ resolved_tree pool read
  pub duplicate : parts.duplicate ≡ least_duplicate (node_ids (resolved_tree pool read))
  pub missing : parts.missing ≡ first_missing (missing_in pool read)
  pub tombs_are : parts.tombs ≡ tombs_of (resolved_tree pool read) tombs

-- These are the parts of a tree with the bytes of its attachments, with these tombstones.
pub record AreTreeParts (tree : ResolvedTree) (tombs : List Tombstone) (parts : TreeParts)
    : Type 0 where
  pub root : tree_seen parts.root ≡ tree_seen tree.root
  pub duplicate : parts.duplicate ≡ least_duplicate (node_ids (tree_seen tree.root))
  pub missing : parts.missing ≡ tree.missing
  pub tombs_are : parts.tombs ≡ tombs_of (tree_seen tree.root) tombs

-- an id that two nodes have is refused, and then a reference to a binary that does not exist
abbrev pub refusal_of : Option NodeId → Option Missing → Result (Unit {0}) DocFail
refusal_of duplicate missing = refuse_duplicate duplicate >>= λ _. refuse_missing missing

-- a tree of which all is known, or its first refusal
abbrev pub tree_of_parts : TreeParts → Result (Tree × List Tombstone) DocFail
tree_of_parts parts =
    refusal_of parts.duplicate parts.missing >>= λ _. Ok (tree_seen parts.root, parts.tombs)

-- the tree with the bytes of its attachments and the tombstones that name none of its nodes, or its
-- first refusal
abbrev pub sound_tree : List ReadBinary → ReadTree → List Tombstone
    → Result (Tree × List Tombstone) DocFail
sound_tree pool read tombs =
    refusal_of (least_duplicate (node_ids (resolved_tree pool read)))
    (first_missing (missing_in pool read))
    >>= λ _. Ok (resolved_tree pool read, tombs_of (resolved_tree pool read) tombs)
