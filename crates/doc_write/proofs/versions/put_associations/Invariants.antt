use Rattle.std.proofs.Common.{◌≡◌, drop}
use Rattle.doc_sinks.specs.States.{after_pieces}
use Rattle.doc_spelling.specs.Pieces.{pieces_of}
use Rattle.doc_spelling.specs.Entries.{association_piece}
use Rattle.doc_write.proofs.versions.put_associations.Given as goal

abbrev pub invariant-loop-pair : goal.invariant-loop-pair
invariant-loop-pair g l =
    after_pieces g.O.TextSink.step (g.O.TextSink.state l.out) (pieces_of association_piece (drop l.pair-index l.pairs))
    ≡ after_pieces g.O.TextSink.step (g.O.TextSink.state l.initial.out) (pieces_of association_piece l.pairs)
