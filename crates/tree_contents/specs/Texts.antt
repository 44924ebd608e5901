-- Values that are texts.
use Rattle.std.specs.Prelude.{◌≡◌, ℕ, Bool, true, List, Option, None, Some}
use Rattle.std.specs.Str.{is_utf8}
use Rattle.tree_core.specs.NewNodes.{GivenValues}

-- a value is in UTF-8, where it is given
abbrev pub is_text_value : Option (List ℕ) → Bool
is_text_value None = true
is_text_value (Some text) = is_utf8 text

-- Those values of the five fields of every entry that are given are in UTF-8.
pub record AreTexts (v : GivenValues) : Type 0 where
  pub title : is_text_value v.title ≡ true
  pub user : is_text_value v.user ≡ true
  pub password : is_text_value v.password ≡ true
  pub url : is_text_value v.url ≡ true
  pub notes : is_text_value v.notes ≡ true
