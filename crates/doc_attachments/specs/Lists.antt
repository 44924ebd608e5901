-- Lists that are made item by item.
use Rattle.std.specs.Prelude.{◌≡◌, List, [], ◌∷◌, ◌++◌, Result, Ok}
use Rattle.std.specs.Result.{result_map_both}

-- a list, what was made, and the list with that after the others
abbrev pub IsPushed : {T E : Type 0} → List T → Result T E → List T → Type 0
IsPushed old made new = result_map_both (λ item. old ++ item ∷ []) (λ e. e) made ≡ Ok new
