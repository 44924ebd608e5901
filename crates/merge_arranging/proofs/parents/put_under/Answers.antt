use Rattle.std.proofs.Common.{◌∷◌, [], ◌++◌, List, ap, ◌∙◌}
use Rattle.vault_model.specs.Db.{NodeId}
use Rattle.merge_arranging.proofs.PutUnder.{ids_put}
use Rattle.merge_arranging.proofs.parents.put_under.Goals as goal

pub returns-in_ok-put-in-Ok : goal.returns-in_ok-put-in-Ok
returns-in_ok-put-in-Ok c =
    ids_put c.args.children.now c.take_ids-ids.new.children c.put.new.self c.args.parent c.args.id c.push.new.self c.take_ids-ids.ensures.others
    (c.in-Ok.ensures.ok ∙ ap (λ (us : List NodeId). us ++ c.args.id ∷ []) c.take_ids-ids.ensures.taken) c.in_ok-put-in-Ok.ensures.ok
