-- Parts of contents, each as it is or a little greater.
use Rattle.std.proofs.Common.{ℕ, Bool, if◌then◌else◌, List, Option, None, Some, codes}
use Rattle.vault_model.specs.declared.contents.Item.{Item}
use Rattle.vault_model.specs.Db.{NodeId, nil_id}

-- 5, or the next number
abbrev pub number : Bool → ℕ
number is_greater = if is_greater then 6 else 5

-- a word, or a longer one that begins with it
abbrev pub word : Bool → List ℕ
word is_greater = if is_greater then codes "mm" else codes "m"

-- the icon of a node that has none, or of one that has one
abbrev pub icon_id : Bool → Option NodeId
icon_id is_greater = if is_greater then Some nil_id else None

-- a custom item with such a word
abbrev pub item : Bool → Item
item is_greater = record { key = codes "k"; value = word is_greater; changed = 0 }
