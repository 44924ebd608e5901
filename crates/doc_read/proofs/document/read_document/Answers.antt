use Rattle.std.specs.Prelude.{option_map}
use Rattle.doc_forms.specs.SeenDrafts.{file_parts}
use Rattle.doc_forms.specs.SeenTexts.{setting_of}
use Rattle.doc_read.proofs.OnlyRoot.{read_after}
use Rattle.doc_read.proofs.TextPieces.{at_start}
use Rattle.doc_read.proofs.document.read_document.Goals as goal

pub returns : goal.returns
returns c =
    read_after (λ o. option_map file_parts o) c.read_rest-read.new.known c.read_rest-read.result c.known_after.result _ c.known_after.ensures
    (at_start (λ _. option_map file_parts c.read_rest-read.new.known) c.read_rest-read.result (setting_of c.args.form c.args.stream) c.args.text.now c.new-walk.result c.new.result c.new-walk.ensures c.new.ensures c.read_rest-read.ensures)
