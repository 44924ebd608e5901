-- Names that are put after a text one by one, with a comma and a space between each two.
use Rattle.std.specs.Prelude.{ℕ, Bool, true, if◌then◌else◌, List, [], ◌∷◌, ◌++◌, codes}
use Rattle.std.specs.Ordering.{is_ne, match_ordering}
use Rattle.vault_model.specs.Bare.{BareField}
use Rattle.vault_model.specs.Orders.{bytes_cmp, field_cmp}
use Rattle.cli_showing.specs.History.{name_if}

-- One more name, after a text and whether a name is at its end.
abbrev pub put_name : List ℕ × Bool → List ℕ → List ℕ × Bool
put_name s name = ((s.0 ++ (if s.1 then codes ", " else [])) ++ name, true)

-- More names.
abbrev pub put_names : List (List ℕ) → List ℕ × Bool → List ℕ × Bool
put_names [] s = s
put_names (name ∷ names) s = put_names names (put_name s name)

-- What the first fields of two lists tell: the name of the lesser, or of both where they differ.
abbrev pub first_changed : BareField → BareField → List (List ℕ)
first_changed field older = match_ordering (bytes_cmp field.key older.key)
    (field.key ∷ [])
    (name_if (is_ne (field_cmp field older)) field.key)
    (older.key ∷ [])
