use Rattle.std.proofs.Common.{◌≡◌, drop, map}
use Rattle.doc_forms.specs.Attachments.{binaries_from}
use Rattle.doc_forms.specs.SeenDocuments.{pool_item}
use Rattle.doc_sinks.specs.States.{after_pieces}
use Rattle.doc_spelling.specs.Metas.{binary_piece}
use Rattle.doc_spelling.specs.Pieces.{pieces_of}
use Rattle.doc_write.proofs.metas.put_binaries.Given as goal

abbrev pub invariant-loop-item : goal.invariant-loop-item
invariant-loop-item g l =
    record {
      number : l.number ≡ l.item-index;
      puts : after_pieces g.O.TextSink.step (g.O.TextSink.state l.out) (pieces_of (binary_piece l.form) (binaries_from l.number (map pool_item (drop l.item-index l.items))))
          ≡ after_pieces g.O.TextSink.step (g.O.TextSink.state l.initial.out) (pieces_of (binary_piece l.form) (binaries_from 0 (map pool_item l.items)));
    }
