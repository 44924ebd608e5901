use Rattle.std.proofs.Common.{◌≡◌, drop}
use Rattle.std.specs.List.{list_all}
use Rattle.doc_sinks.specs.States.{after_pieces}
use Rattle.doc_spelling.specs.Pieces.{pieces_of}
use Rattle.doc_spelling.specs.Metas.{icon_piece}
use Rattle.doc_spelling.specs.Ranges.{fits_icon}
use Rattle.doc_write.proofs.icons.put_icon_list.Given as goal

abbrev pub invariant-loop-icon : goal.invariant-loop-icon
invariant-loop-icon g l =
    record {
      puts : after_pieces g.O.TextSink.step (g.O.TextSink.state l.out) (pieces_of (icon_piece l.form) (drop l.icon-index l.icons))
          ≡ after_pieces g.O.TextSink.step (g.O.TextSink.state l.initial.out) (pieces_of (icon_piece l.form) l.icons);
      fits : list_all fits_icon (drop l.icon-index l.icons) ≡ list_all fits_icon l.icons;
    }
