-- What the parts of a vault keep: keys and names that rise, and so occur once, and texts in UTF-8.
use Rattle.std.specs.Prelude.{ℕ, Bool, true, ◌&&◌, List, [], ◌∷◌}
use Rattle.std.specs.List.{list_all}
use Rattle.std.specs.Ordering.{is_lt}
use Rattle.std.specs.Str.{is_utf8}
use Rattle.vault_model.specs.declared.contents.Association.{Association}
use Rattle.vault_model.specs.declared.contents.AutoType.{AutoType}
use Rattle.vault_model.specs.declared.contents.GroupContent.{GroupContent}
use Rattle.vault_model.specs.declared.contents.Item.{Item}
use Rattle.vault_model.specs.declared.metas.Icon.{Icon}
use Rattle.vault_model.specs.declared.metas.Meta.{Meta}
use Rattle.vault_model.specs.Bare.{BareAttachment, BareContent, BareField}
use Rattle.vault_model.specs.Orders.{bytes_cmp}

-- the keys of a list strictly rise
abbrev pub rises : {A : Type 0} → (A → List ℕ) → List A → Bool
rises key [] = true
rises key (x ∷ xs) = list_all (λ y. is_lt (bytes_cmp (key x) (key y))) xs && rises key xs

-- ---- texts in UTF-8

-- a custom item is made of texts
abbrev pub is_text_item : Item → Bool
is_text_item i = is_utf8 i.key && is_utf8 i.value

-- an icon's name is text; its bytes may be any
abbrev pub is_text_icon : Icon → Bool
is_text_icon i = is_utf8 i.name

-- a field is made of texts, its value too
abbrev pub is_text_field : BareField → Bool
is_text_field f = is_utf8 f.key && is_utf8 f.value

-- how an entry is typed is made of texts
abbrev pub is_text_typing : AutoType → Bool
is_text_typing a = is_utf8 a.sequence && list_all
    (λ (p : Association). is_utf8 p.window && is_utf8 p.keys) a.pairs

-- what a version says is made of texts, but for the bytes of its attachments
abbrev pub is_text_content : BareContent → Bool
is_text_content c =
    list_all is_text_field c.fields && list_all (λ (a : BareAttachment). is_utf8 a.name)
    c.attachments
    && is_utf8 c.tags && is_utf8 c.fore && is_utf8 c.back && is_utf8 c.url_override
    && is_text_typing c.auto_type && list_all is_text_item c.items

-- what a group says is made of texts
abbrev pub is_text_group : GroupContent → Bool
is_text_group c = is_utf8 c.name && is_utf8 c.notes && is_utf8 c.sequence && is_utf8 c.tags
    && list_all is_text_item c.items

-- what a database says of itself is made of texts
abbrev pub is_text_meta : Meta → Bool
is_text_meta m =
    is_utf8 m.name.value && is_utf8 m.description.value && is_utf8 m.user.value
    && is_utf8 m.settings.value.color
    && list_all is_text_icon m.icons && list_all is_text_item m.items

-- ---- what versions and groups say

-- what a version says is in order: fields, attachments and items rise by key or name, and its texts
-- are in UTF-8
unfoldable pub is_proper_content : BareContent → Bool
is_proper_content c =
    rises (λ (f : BareField). f.key) c.fields
    && rises (λ (a : BareAttachment). a.name) c.attachments
    && rises (λ (i : Item). i.key) c.items && is_text_content c

-- what a group says is in order: its items rise by key, and its texts are in UTF-8
unfoldable pub is_proper_group_content : GroupContent → Bool
is_proper_group_content c = rises (λ (i : Item). i.key) c.items && is_text_group c
