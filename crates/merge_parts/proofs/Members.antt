-- The first member, and those after it.
use Rattle.std.proofs.Common.{◌≡◌, ◌-◌, ◌<◌, suc, arith, length, get_or, drop, take, List, [], ◌∷◌, refl, sym, ap, ◌∙◌}
use Rattle.std.proofs.Math.Seq.{take-length}
use Rattle.vault_model.specs.Join.{root_of}
use Rattle.merge_tables.specs.declared.databases.Database.{Database}
use Rattle.merge_tables.specs.Databases.{databases}

-- the root of the first member is that of all
pub root_first : (ms : List Database) (d : Database) → 0 < length ms → (get_or ms 0 d).root ≡ root_of (databases ms)
root_first [] d h = absurd (omega arith)
root_first (m ∷ ms) d h = refl

-- the first member and those after it
pub first_and_rest : (ms : List Database) (d : Database) → 0 < length ms → ms ≡ get_or ms 0 d ∷ take (length ms - 1) (drop 1 ms)
first_and_rest [] d h = absurd (omega arith)
first_and_rest (m ∷ ms) d h =
    let less : length ms ≡ suc (length ms) - 1 = omega arith in
    ap (λ (ns : List Database). m ∷ ns) (sym (take-length ms) ∙ ap (λ k. take k ms) less)
