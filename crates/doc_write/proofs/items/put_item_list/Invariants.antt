use Rattle.std.proofs.Common.{◌≡◌, drop}
use Rattle.std.specs.List.{list_all}
use Rattle.doc_sinks.specs.States.{after_pieces}
use Rattle.doc_spelling.specs.Pieces.{pieces_of}
use Rattle.doc_spelling.specs.Ranges.{fits_item}
use Rattle.doc_spelling.specs.Values.{item_piece}
use Rattle.doc_write.proofs.items.put_item_list.Given as goal

abbrev pub invariant-loop-item : goal.invariant-loop-item
invariant-loop-item g l =
    record {
      puts : after_pieces g.O.TextSink.step (g.O.TextSink.state l.out) (pieces_of (item_piece l.form) (drop l.item-index l.items))
          ≡ after_pieces g.O.TextSink.step (g.O.TextSink.state l.initial.out) (pieces_of (item_piece l.form) l.items);
      fits : list_all fits_item (drop l.item-index l.items) ≡ list_all fits_item l.items;
    }
