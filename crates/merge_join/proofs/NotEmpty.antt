-- What the loop over the known ids needs of the databases that a program holds, and of what it results in.
use Rattle.std.proofs.Common.{◌≡◌, ◌<◌, ℕ, Bool, List, [], ◌∷◌, None, Some, Err, length, arith, ap, sym, ◌∙◌}
use Rattle.std.specs.FinMap.{FinMap}
use Rattle.vault_model.specs.Db.{NodeId, id_cmp, Db}
use Rattle.vault_model.specs.Join.{IsNotEmpty}
use Rattle.merge_tables.specs.declared.databases.Database.{Database}
use Rattle.merge_tables.specs.Databases.{databases}
use Rattle.merge_core.specs.Marking.{mark_own, strays}
use Rattle.merge_core.specs.Refusals.{least}
use Rattle.merge_join.specs.declared.marking.JoinRefusal.{JoinRefusal}
use Rattle.merge_join.specs.declared.marking.JoinRefusal.TheVariants.{NoMemory, Stray}
use Rattle.merge_join.specs.Marks.{IsKeptResult, IsMarkRefusal}

pub not_empty : (ms : List Database) → 0 < length ms → IsNotEmpty (databases ms)
not_empty [] h = absurd (omega (arith, h))
not_empty (m ∷ ms) h = tt

-- an own node that cannot be marked is the one that is refused
pub refused : (S : List Db) (limit : ℕ) (u : NodeId) (t : FinMap id_cmp Bool) (e : JoinRefusal) → IsMarkRefusal S limit u t (Err e)
    → (mark_own S limit u t ≡ None → least (strays S) ≡ Some u) → IsKeptResult S (Err e)
refused S limit u t NoMemory h f = tt
refused S limit u t (Stray v) h f = f h.1 ∙ ap Some (sym h.0)
