use Rattle.vault_model.specs.SeenDoc.{doc_seen}
use Rattle.cli_lines.proofs.Inputs.{kept_later}
use Rattle.cli_commands.specs.Commands.{change_by, drawn_id}
use Rattle.cli_commands.specs.SeenChange.{inputs_seen}
use Rattle.cli_commands.proofs.Changes.{loses_both, returns_drawn, some_drawn, tells_generated, tells_made}
use Rattle.cli_commands.proofs.performing.perform.Goals as goal

pub returns-in-Ok-clause-told : goal.returns-in-Ok-clause-told
returns-in-Ok-clause-told g c = λ truthful d t.
    let drew = c.in-Ok.ensures.told (c.change_by.ensures.truthful truthful) d (tells_made _ c.args.command.now (doc_seen c.args.doc.now) _ d c.makes_node.ensures t) in
    rw c.makes_node.ensures at
    (returns_drawn c.change_by.result (λ id. change_by c.args.input.now c.args.command.now (inputs_seen c.args.input) id (doc_seen c.args.doc.now))
    (drawn_id c.makes_node.result d) c.in-Ok.id _ _ _ _ drew.0 drew.1 (c.change_by.ensures.told truthful (drawn_id c.makes_node.result d).left (tells_generated c.args.command.now _ _ d _ t drew.1)))

pub returns-in-Ok-clause-some_dice : goal.returns-in-Ok-clause-some_dice
returns-in-Ok-clause-some_dice g c =
    rw c.makes_node.ensures at
    (some_drawn c.change_by.result (λ id. change_by c.args.input.now c.args.command.now (inputs_seen c.args.input) id (doc_seen c.args.doc.now))
    c.makes_node.result c.in-Ok.id _ c.in-Ok.ensures.some_dice c.change_by.ensures.some_dice)

pub returns-in-Ok-clause-stream : goal.returns-in-Ok-clause-stream
returns-in-Ok-clause-stream g c = loses_both _ _ _ c.in-Ok.ensures.stream c.change_by.ensures.stream

pub returns-in-Ok-clause-faultless : goal.returns-in-Ok-clause-faultless
returns-in-Ok-clause-faultless g c = kept_later c.change_by.result _ _ _ c.in-Ok.ensures.faultless c.change_by.ensures.faultless
