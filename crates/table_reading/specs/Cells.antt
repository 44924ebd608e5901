-- The texts in a row of a table.
use Rattle.std.specs.Prelude.{ℕ, Bool, ◌==◌, if◌then◌else◌, List, [], ◌∷◌, ◌++◌, Option, None, Some, codes, drop}
use Rattle.std.specs.List.{before_first, list_any, starts_with}
use Rattle.std.specs.Option.{unwrap_or}
use Rattle.csv.specs.Records.{field_at}
use Rattle.import_tree.specs.DocForms.Values.{iso_time}

-- the text of a row in the column of this place, empty where there is no such column
abbrev pub cell : Option ℕ → List (List ℕ) → List ℕ
cell None row = []
cell (Some place) row = unwrap_or (field_at row place) []

-- the time that a text is: now where it is empty, and none where it is not ISO
abbrev pub time_of : ℕ → List ℕ → Option ℕ
time_of now [] = Some now
time_of now (byte ∷ bytes) = iso_time (byte ∷ bytes)

-- The bytes of a text up to the first of this byte, or all of them.
abbrev pub up_to : ℕ → List ℕ → List ℕ
up_to stop text = before_first (λ byte. byte == stop) text

-- The bytes of a text after the last of this byte, or all of them.
abbrev pub after_last : ℕ → List ℕ → List ℕ
after_last mark [] = []
after_last mark (byte ∷ bytes) = if list_any (λ b. b == mark) (byte ∷ bytes)
    then after_last mark bytes else byte ∷ bytes

-- a text begins with `://`
abbrev pub is_at_mark : List ℕ → Bool
is_at_mark text = starts_with (λ a b. a == b) text (codes "://")

-- What follows the first `://` of a text, or else this.
abbrev pub after_mark : List ℕ → List ℕ → List ℕ
after_mark other [] = other
after_mark other (byte ∷ bytes) =
    if is_at_mark (byte ∷ bytes) then drop 3 (byte ∷ bytes) else after_mark other bytes

-- The host of a URL: what follows the first `://`, or the beginning, up to the first `/`, `?` or `#`,
-- after its last `@`, up to its first `:`.
abbrev pub host : List ℕ → List ℕ
host url = up_to 58 (after_last 64 (up_to 35 (up_to 63 (up_to 47 (after_mark url url)))))

-- The title of a row: the text in the column of titles, and where there is none the host of the URL.
abbrev pub title_of : Option ℕ → Option ℕ → List (List ℕ) → List ℕ
title_of None url row = host (cell url row)
title_of (Some place) url row = cell (Some place) row

-- Where one-time codes come from, by a text: that is an `otpauth` URL, or the secret of one.
abbrev pub otp_source : List ℕ → List ℕ
otp_source text = if starts_with (λ a b. a == b) text (codes "otpauth://") then text
    else codes "otpauth://totp/?secret=" ++ text

-- The same of the text in their column: an empty one is none.
abbrev pub otp_of : List ℕ → Option (List ℕ)
otp_of [] = None
otp_of (byte ∷ bytes) = Some (otp_source (byte ∷ bytes))
