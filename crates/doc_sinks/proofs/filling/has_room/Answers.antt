use Rattle.std.proofs.Common.{sym, ◌∙◌, ◌/◌, length, arith}
use Rattle.markup_grammar.specs.Escapes.{escaped}
use Rattle.doc_sinks.proofs.Escaped.{escaped_most}
use Rattle.doc_sinks.proofs.Fitting.{most_is}
use Rattle.doc_sinks.proofs.filling.has_room.Goals as goal

pub returns-then-text-room : goal.returns-then-text-room
returns-then-text-room c =
    let text = c.args.text.now in
    most_is (length text) (c.args.room / 6) c.if-text-room.true
    ∙ sym (most_is (length (escaped text)) c.args.room (omega (arith, c.if-text-room.true, escaped_most text)))
