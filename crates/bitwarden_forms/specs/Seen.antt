-- What is seen of JSON values in memory.
use Rattle.std.specs.Prelude.{Option, option_map}
use Rattle.std.specs.Borrow.{Bor}
use Rattle.serde_json.specs.Data.{Data}
use Rattle.serde_json.specs.View.{view}
use Rattle.serde_json.specs.declared.value.Value.{Value}

-- the value that is lent, if one is
abbrev pub lent_value : Option (Bor Value) → Option Data
lent_value = option_map (λ (value : Bor Value). view value.now)
