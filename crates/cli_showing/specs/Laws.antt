-- What the laws of a history speak of.
use Rattle.std.specs.Prelude.{ℕ, Bool, List, bytes_eq}
use Rattle.std.specs.List.{list_any}
use Rattle.vault_model.specs.Bare.{BareField}
use Rattle.vault_model.specs.Proper.{rises}

-- The names of fields rise, as those of every version in a document do.
abbrev pub do_fields_rise : List BareField → Bool
do_fields_rise = rises (λ (f : BareField). f.key)

-- Names rise, so that none is there twice.
abbrev pub do_names_rise : List (List ℕ) → Bool
do_names_rise = rises (λ name. name)

-- A name is one of these.
abbrev pub is_named : List ℕ → List (List ℕ) → Bool
is_named name names = list_any (bytes_eq name) names
