use Rattle.std.proofs.Common.{◌≡◌, drop, map}
use Rattle.std.specs.List.{list_all}
use Rattle.doc_sinks.specs.States.{after_pieces}
use Rattle.doc_spelling.specs.Pieces.{pieces_of}
use Rattle.doc_spelling.specs.Entries.{attachment_piece}
use Rattle.doc_spelling.specs.Ranges.{fits_attachment}
use Rattle.vault_model.specs.Seen.{bare_attachment}
use Rattle.doc_write.proofs.attachments.put_attachments.Given as goal

abbrev pub invariant-loop-file : goal.invariant-loop-file
invariant-loop-file g l =
    record {
      puts : after_pieces g.O.TextSink.step (g.O.TextSink.state l.out) (pieces_of (attachment_piece l.pool) (map bare_attachment (drop l.file-index l.files)))
          ≡ after_pieces g.O.TextSink.step (g.O.TextSink.state l.initial.out) (pieces_of (attachment_piece l.pool) (map bare_attachment l.files));
      fits : list_all fits_attachment (map bare_attachment (drop l.file-index l.files)) ≡ list_all fits_attachment (map bare_attachment l.files);
    }
