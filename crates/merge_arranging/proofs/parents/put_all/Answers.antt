use Rattle.std.proofs.Common.{◌++◌, List, ap, sym, ◌∙◌}
use Rattle.std.specs.FinMap.{get}
use Rattle.std.specs.List.{filter}
use Rattle.vault_model.specs.Db.{NodeId}
use Rattle.vault_model.specs.Shape.{stands_in}
use Rattle.merge_arranging.specs.Parents.{ids_under}
use Rattle.merge_arranging.proofs.PutUnder.{ids_of_none}
use Rattle.merge_arranging.proofs.parents.put_all.Goals as goal

pub loop-id-init : goal.loop-id-init
loop-id-init c g =
    ap (λ (us : List NodeId). us ++ filter (λ u. stands_in g (get c.args.places.now u)) c.args.ids.now)
    (sym (ap (λ t. ids_under t g) c.requires ∙ ids_of_none g))
