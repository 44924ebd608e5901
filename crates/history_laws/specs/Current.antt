-- A database as it is now: of each entry the current version alone.
use Rattle.std.specs.Prelude.{Bool, not}
use Rattle.std.specs.FinMap.{get, keys, retain_keys}
use Rattle.std.specs.List.{list_any}
use Rattle.std.specs.Option.{option_map}
use Rattle.std.specs.Ordering.{is_lt}
use Rattle.vault_model.specs.Db.{Mark, mark_cmp, Versions, Db}
use Rattle.vault_model.specs.Unite.{tabulate}

-- there is a version with a greater mark than this
abbrev pub is_past : Versions → Mark → Bool
is_past v k = list_any (λ j. is_lt (mark_cmp k j)) (keys v)

-- of an entry's versions the current one alone, which has the greatest mark
unfoldable pub current : Versions → Versions
current v = retain_keys v (λ k. not (is_past v k))

-- the database without the versions before the current ones
abbrev pub current_view : Db → Db
current_view m = record m {
  entries = tabulate (keys m.entries) (λ u. option_map current (get m.entries u));
}
