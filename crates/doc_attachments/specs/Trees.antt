-- What is seen of a tree with the bytes of its attachments.
use Rattle.std.specs.Prelude.{List, Option}
use Rattle.vault_model.specs.Bare.{BareAttachment}
use Rattle.vault_model.specs.Shape.{BareVersion}
use Rattle.vault_model.specs.SeenNodes.{tree_seen}
use Rattle.vault_model.specs.Tree.{Tree}
use Rattle.doc_attachments.specs.declared.trees.ResolvedTree.{ResolvedTree}
use Rattle.doc_forms.specs.Attachments.{Missing}
use Rattle.doc_forms.specs.Entries.{ReadVersion}

-- the tree without memory, and what is missing first
abbrev pub tree_and_missing : ResolvedTree → Tree × Option Missing
tree_and_missing t = (tree_seen t.root, t.missing)

-- a version with these attachments
abbrev pub with_attachments : ReadVersion → List BareAttachment → BareVersion
with_attachments v attachments = record {
  mark = record { modified = v.modified; content = record v.content { attachments = attachments } };
  stats = v.stats;
}
