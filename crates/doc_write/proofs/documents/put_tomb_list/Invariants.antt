use Rattle.std.proofs.Common.{◌≡◌, drop}
use Rattle.std.specs.List.{list_all}
use Rattle.doc_sinks.specs.States.{after_pieces}
use Rattle.doc_spelling.specs.Pieces.{pieces_of}
use Rattle.doc_spelling.specs.Documents.{tomb_piece}
use Rattle.doc_spelling.specs.Ranges.{fits_tomb}
use Rattle.doc_write.proofs.documents.put_tomb_list.Given as goal

abbrev pub invariant-loop-tomb : goal.invariant-loop-tomb
invariant-loop-tomb g l =
    record {
      puts : after_pieces g.O.TextSink.step (g.O.TextSink.state l.out) (pieces_of (tomb_piece l.form) (drop l.tomb-index l.tombs))
          ≡ after_pieces g.O.TextSink.step (g.O.TextSink.state l.initial.out) (pieces_of (tomb_piece l.form) l.tombs);
      fits : list_all fits_tomb (drop l.tomb-index l.tombs) ≡ list_all fits_tomb l.tombs;
    }
