use Rattle.std.proofs.Common.{◌≡◌, length}
use Rattle.markup_core.specs.MarkupGrammar.Elements.{innermost, open_contents}
use Rattle.key_core.specs.KeyDocument.{is_whole}
use Rattle.key_core.proofs.key_document.reach_end.Given as goal

abbrev pub invariant-pieces : goal.invariant-pieces
invariant-pieces l = is_whole (innermost (open_contents l.reader)) ≡ is_whole (innermost (open_contents l.fn.reader))

abbrev pub decreases-pieces : goal.decreases-pieces
decreases-pieces l = length l.reader
