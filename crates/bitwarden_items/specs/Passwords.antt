-- The passwords that an item had before.
use Rattle.std.specs.Prelude.{ℕ, Some, List, [], ◌∷◌, codes, map, option_and_then, unwrap_or}
use Rattle.std.specs.Ordering.{nat_cmp, on}
use Rattle.std.specs.declared.cmp.Ordering.{Ordering}
use Rattle.std.specs.declared.cmp.Ordering.TheVariants.{Equal, Greater, Less}
use Rattle.bitwarden_fields.specs.BitwardenForms.Dates.{date}
use Rattle.bitwarden_fields.specs.BitwardenForms.Json.{text, values}
use Rattle.serde_json.specs.Data.{Data}
use Rattle.serde_json.specs.Find.{as_str, get}
use Rattle.vault_model.specs.Orders.{bytes_cmp, pair_cmp}

-- the date of a member, or else this moment
abbrev pub date_or : ℕ → List ℕ → Data → ℕ
date_or now name value =
    unwrap_or (option_and_then date (option_and_then as_str (get name value))) now

-- A password that an item had, and when it was last used.
pub record EarlierPassword : Type 0 where
  pub date : ℕ
  pub password : List ℕ

-- what an element of the history says at a moment
abbrev pub earlier_password : ℕ → Data → EarlierPassword
earlier_password now value = record {
  date = date_or now (codes "lastUsedDate") value;
  password = text (codes "password") (Some value);
}

-- passwords by their dates, and those of one date by their bytes
abbrev pub earlier_cmp : EarlierPassword → EarlierPassword → Ordering
earlier_cmp = on (λ p. (p.date, p.password)) (pair_cmp nat_cmp bytes_cmp)

-- what comes of the first of some passwords beside another one: it comes after it, is it, or comes
-- before it
abbrev pub put_beside : Ordering → EarlierPassword → EarlierPassword → List EarlierPassword
    → List EarlierPassword → List EarlierPassword
put_beside Less p q qs after = p ∷ q ∷ qs
put_beside Equal p q qs after = q ∷ qs
put_beside Greater p q qs after = q ∷ after

-- rising passwords and one more, unless it is among them
abbrev pub put_password : EarlierPassword → List EarlierPassword → List EarlierPassword
put_password p [] = p ∷ []
put_password p (q ∷ qs) = put_beside (earlier_cmp p q) p q qs (put_password p qs)

-- rising passwords and more of them
abbrev pub put_passwords : List EarlierPassword → List EarlierPassword → List EarlierPassword
put_passwords [] rising = rising
put_passwords (p ∷ ps) rising = put_passwords ps (put_password p rising)

-- The passwords that an item had before, rising, each once.
abbrev pub earlier_passwords : ℕ → Data → List EarlierPassword
earlier_passwords now item =
    put_passwords (map (earlier_password now) (values (codes "passwordHistory") (Some item))) []
