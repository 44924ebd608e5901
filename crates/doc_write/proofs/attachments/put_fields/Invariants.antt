use Rattle.std.proofs.Common.{◌≡◌, drop, map}
use Rattle.doc_sinks.specs.States.{after_pieces}
use Rattle.doc_spelling.specs.Pieces.{pieces_of}
use Rattle.doc_spelling.specs.Entries.{field_piece}
use Rattle.vault_model.specs.Seen.{bare_field}
use Rattle.doc_write.proofs.attachments.put_fields.Given as goal

abbrev pub invariant-loop-field : goal.invariant-loop-field
invariant-loop-field g l =
    after_pieces g.O.TextSink.step (g.O.TextSink.state l.out) (pieces_of (field_piece l.form) (map bare_field (drop l.field-index l.fields)))
    ≡ after_pieces g.O.TextSink.step (g.O.TextSink.state l.initial.out) (pieces_of (field_piece l.form) (map bare_field l.fields))
