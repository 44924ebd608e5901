-- The attachments of an entry by their names.
use Rattle.std.specs.Prelude.{ℕ, Bool, true, false, cond, is_some, find, List, [], ◌∷◌, Option, Result, Ok, Err}
use Rattle.std.specs.Option.{ok_or}
use Rattle.std.specs.Str.{bytes_eq}
use Rattle.vault_model.specs.Bare.{BareAttachment, BareContent}
use Rattle.vault_model.specs.Orders.{bytes_cmp}
use Rattle.tree_core.specs.declared.fails.TreeFail.{TreeFail}
use Rattle.tree_core.specs.declared.fails.TreeFail.TheVariants.{NameTaken, NoAttachment}
use Rattle.tree_core.specs.InOrder.{put_in_order}

-- the attachment of a name, where there is one
abbrev pub attachment_of : List ℕ → BareContent → Option BareAttachment
attachment_of name content =
    find (λ (a : BareAttachment). bytes_eq name a.name) content.attachments

-- the same, or the refusal
abbrev pub attachment_named : List ℕ → BareContent → Result BareAttachment TreeFail
attachment_named name content = ok_or (attachment_of name content) NoAttachment

-- ---- one that is put to an entry

-- a version may get an attachment of a name: it has none, or that is to be replaced
abbrev pub is_attachable : (name : List ℕ) → (replaces : Bool) → BareContent
    → Result (Unit {0}) TreeFail
is_attachable name true content = Ok tt
is_attachable name false content =
    cond (is_some (attachment_of name content)) (Err NameTaken) (Ok tt)

-- what a version says with these bytes under a name; an attachment that was not there is put in its
-- place by rising name, and is hidden
abbrev pub with_attachment : (name bytes : List ℕ) → BareContent → BareContent
with_attachment name bytes content = record content {
  attachments = put_in_order (λ (a : BareAttachment). bytes_cmp name a.name)
      (record { name = name; bytes = bytes; hidden = true })
      (λ (a : BareAttachment). record a { bytes = bytes }) content.attachments;
}

-- ---- one that is taken away

-- a version has an attachment of a name
abbrev pub has_attachment : List ℕ → BareContent → Result (Unit {0}) TreeFail
has_attachment name content =
    cond (is_some (attachment_of name content)) (Ok tt) (Err NoAttachment)

-- attachments without the first of a name; names rise in a document, so there is no other
abbrev pub but_attachment : List ℕ → List BareAttachment → List BareAttachment
but_attachment name [] = []
but_attachment name (a ∷ attachments) =
    cond (bytes_eq name a.name) attachments (a ∷ but_attachment name attachments)

-- what a version says without the attachment of a name
abbrev pub without_attachment : List ℕ → BareContent → BareContent
without_attachment name content =
    record content { attachments = but_attachment name content.attachments }
