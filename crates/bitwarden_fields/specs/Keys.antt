-- Fields under keys of which each occurs once.
use Rattle.std.specs.Prelude.{ℕ, zero, suc, Bool, if◌then◌else◌, List, [], ◌∷◌, ◌++◌, codes, length}
use Rattle.std.specs.Fmt.{decimal}
use Rattle.std.specs.List.{list_any}
use Rattle.std.specs.Str.{bytes_eq}
use Rattle.doc_forms.specs.Tables.{put}
use Rattle.vault_model.specs.Bare.{BareField}

-- one of some fields has this key
abbrev pub has_key : List BareField → List ℕ → Bool
has_key fields key = list_any (λ (field : BareField). bytes_eq field.key key) fields

-- a key with a number after it
abbrev pub numbered_key : List ℕ → ℕ → List ℕ
numbered_key key number = key ++ codes " " ++ decimal number

-- the first key with a number from this one on that no field has, among so many and one more
abbrev pub first_free : ℕ → ℕ → List BareField → List ℕ → List ℕ
first_free zero number fields key = numbered_key key number
first_free (suc n) number fields key =
    if has_key fields (numbered_key key number) then first_free n (suc number) fields key
    else numbered_key key number

-- A key that no field has: this one, or else the first with a number from 2 on. Of one more than
-- there are fields one is free.
abbrev pub free_key : List BareField → List ℕ → List ℕ
free_key fields key = if has_key fields key then first_free (length fields) 2 fields key else key

-- fields and one more, under a free key
abbrev pub with_field : BareField → List BareField → List BareField
with_field field fields = fields ++ record field { key = free_key fields field.key } ∷ []

-- fields and more of them, one after another, each under a free key
abbrev pub with_fields : List BareField → List BareField → List BareField
with_fields [] fields = fields
with_fields (field ∷ more) fields = with_fields more (with_field field fields)

-- fields by their keys, and more of them
abbrev pub put_all : List BareField → List BareField → List BareField
put_all [] fields = fields
put_all (field ∷ more) fields = put_all more (put (λ (f : BareField). f.key) field fields)
