-- What holds of the parts of each document that was read: their texts are in UTF-8, keys rise, no
-- id is nil, and the tree is no higher than it may be.
use Rattle.std.specs.Prelude.{ℕ, ◌-◌, Bool, true, not, ◌&&◌, Option, Some, None, nat_lt, bytes_eq}
use Rattle.std.specs.List.{list_all}
use Rattle.std.specs.Str.{is_utf8}
use Rattle.vault_model.specs.Db.{nil_id}
use Rattle.vault_model.specs.Proper.{rises, is_proper_content, is_proper_group_content, is_text_meta}
use Rattle.vault_model.specs.SeenNodes.{icons_rise, items_rise}
use Rattle.vault_model.specs.declared.metas.Meta.{Meta}
use Rattle.doc_forms.specs.Documents.{RootParts, FileParts}
use Rattle.doc_forms.specs.Entries.{ReadAttachment, ReadVersion, ReadEntry}
use Rattle.doc_forms.specs.Groups.{ReadTree, ReadTrees, node, none, beside}

-- a version, whose attachments rise by their names
abbrev pub is_kept_version : ReadVersion → Bool
is_kept_version v =
    is_proper_content v.content
    && rises (λ (a : ReadAttachment). a.name) v.attachments
    && list_all (λ (a : ReadAttachment). is_utf8 a.name) v.attachments

-- an entry
abbrev pub is_kept_entry : ReadEntry → Bool
is_kept_entry e =
    not (bytes_eq e.id nil_id) && is_kept_version e.current && list_all is_kept_version e.history

abbrev mutual
  -- a group, below which there are at most so many levels
  pub is_kept_tree : ℕ → ReadTree → Bool
  is_kept_tree levels (node u r es ts) =
      not (bytes_eq u nil_id) && is_proper_group_content r.state.content
      && list_all is_kept_entry es && are_kept_trees levels ts

  -- the groups in it
  pub are_kept_trees : ℕ → ReadTrees → Bool
  are_kept_trees levels none = true
  are_kept_trees levels (beside t ts) =
      nat_lt 0 levels && is_kept_tree (levels - 1) t && are_kept_trees levels ts

-- what a database says of itself
abbrev pub is_kept_meta : Meta → Bool
is_kept_meta m = icons_rise m.icons && items_rise m.items && is_text_meta m

-- a root group, below which there are at most 127 levels
abbrev pub is_kept_root : Option ReadTree → Bool
is_kept_root None = true
is_kept_root (Some t) = is_kept_tree 127 t

-- what is known of `Root`
abbrev pub is_kept_half : Option RootParts → Bool
is_kept_half None = true
is_kept_half (Some r) = is_kept_root r.tree

-- the parts of a document
abbrev pub are_kept : Option FileParts → Bool
are_kept None = true
are_kept (Some f) = is_kept_meta f.meta.meta && is_kept_half f.root
