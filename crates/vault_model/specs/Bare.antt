-- What a vault holds without memory: secrets are their bytes, and nothing has spare room or a place
-- in memory.
use Rattle.std.specs.Prelude.{ℕ, Bool, List, Option}
use Rattle.vault_model.specs.declared.contents.AutoType.{AutoType}
use Rattle.vault_model.specs.declared.contents.Item.{Item}

-- A field of an entry: its key, its value's bytes, and whether the value is hidden.
pub record BareField : Type 0 where
  pub key : List ℕ
  pub value : List ℕ
  pub hidden : Bool

-- A file attached to an entry.
pub record BareAttachment : Type 0 where
  pub name : List ℕ
  pub bytes : List ℕ
  pub hidden : Bool

-- What a version of an entry says, but for when it was made and how it was used.
pub record BareContent : Type 0 where
  pub created : ℕ
  pub expiry : ℕ
  pub expires : Bool
  pub icon : ℕ
  pub custom_icon : Option (List ℕ)
  pub fields : List BareField
  pub attachments : List BareAttachment
  pub tags : List ℕ
  pub fore : List ℕ
  pub back : List ℕ
  pub url_override : List ℕ
  pub auto_type : AutoType
  pub items : List Item
  pub quality : Bool
