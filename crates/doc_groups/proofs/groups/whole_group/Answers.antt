use Rattle.std.proofs.Common.{ap}
use Rattle.doc_forms.specs.SeenDrafts.{draft_seen, group_parts_seen}
use Rattle.doc_groups.proofs.GroupWalks.{group_made, id_refused}
use Rattle.doc_groups.proofs.groups.whole_group.Goals as goal

pub returns-in-Ok-clause-gives : goal.returns-in-Ok-clause-gives
returns-in-Ok-clause-gives c =
    let known = rw c.in-Ok.ensures.1 at c.group_id-id.ensures.gives in
    group_made c.args.fits c.args.offset (group_parts_seen c.args.known) (group_parts_seen c.in-Ok.both.0) c.args.walk.now.cursor c.group_id-id.new.walk.cursor c.id_of.result c.in-Ok.both.1 (draft_seen c.draft_of.result)
    c.id_of.ensures known (ap group_parts_seen c.in-Ok.ensures.0) c.draft_of.ensures

pub returns-in-Err-clause-gives : goal.returns-in-Err-clause-gives
returns-in-Err-clause-gives c =
    let fails = rw c.in-Err.ensures at c.group_id-id.ensures.gives in
    id_refused c.args.fits c.args.offset (group_parts_seen c.args.known) c.args.walk.now.cursor c.id_of.result c.in-Err.refusal c.id_of.ensures fails
