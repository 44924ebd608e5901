use Rattle.std.proofs.Common.{◌≡◌, drop, map}
use Rattle.std.specs.List.{list_all}
use Rattle.doc_sinks.specs.States.{after_pieces}
use Rattle.doc_spelling.specs.Pieces.{pieces_of}
use Rattle.doc_spelling.specs.Entries.{entry_piece}
use Rattle.doc_spelling.specs.Ranges.{fits_entry}
use Rattle.vault_model.specs.SeenNodes.{entry_row}
use Rattle.doc_write.proofs.entries.put_entries.Given as goal

abbrev pub invariant-loop-entry : goal.invariant-loop-entry
invariant-loop-entry g l =
    record {
      puts : after_pieces g.O.TextSink.step (g.O.TextSink.state l.out) (pieces_of (entry_piece l.form l.pool) (map entry_row (drop l.entry-index l.entries)))
          ≡ after_pieces g.O.TextSink.step (g.O.TextSink.state l.initial.out) (pieces_of (entry_piece l.form l.pool) (map entry_row l.entries));
      fits : list_all fits_entry (map entry_row (drop l.entry-index l.entries)) ≡ list_all fits_entry (map entry_row l.entries);
    }
