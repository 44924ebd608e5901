use Rattle.std.proofs.Common.{◌≡◌, drop, map}
use Rattle.std.specs.List.{list_all}
use Rattle.doc_sinks.specs.States.{after_pieces}
use Rattle.doc_spelling.specs.Pieces.{pieces_of}
use Rattle.doc_spelling.specs.Entries.{history_item_piece}
use Rattle.doc_spelling.specs.Ranges.{fits_version}
use Rattle.vault_model.specs.SeenNodes.{bare_version, entry_record, entry_row}
use Rattle.doc_write.proofs.entries.put_history_items.Given as goal

abbrev pub invariant-loop-version : goal.invariant-loop-version
invariant-loop-version g l =
    record {
      puts : after_pieces g.O.TextSink.step (g.O.TextSink.state l.out) (pieces_of (history_item_piece l.form l.pool (entry_row l.entry)) (map bare_version (drop l.version-index l.history)))
          ≡ after_pieces g.O.TextSink.step (g.O.TextSink.state l.initial.out) (pieces_of (history_item_piece l.form l.pool (entry_row l.entry)) (map bare_version l.history));
      fits : list_all (fits_version (entry_record l.entry)) (map bare_version (drop l.version-index l.history)) ≡ list_all (fits_version (entry_record l.entry)) (map bare_version l.history);
    }
