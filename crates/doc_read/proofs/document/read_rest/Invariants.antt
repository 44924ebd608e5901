use Rattle.std.specs.Prelude.{option_map}
use Rattle.std.proofs.Common.{◌≡◌, length}
use Rattle.markup_grammar.specs.Elements.{innermost, open_contents}
use Rattle.doc_forms.specs.SeenDrafts.{file_parts}
use Rattle.doc_read.specs.TextSteps.{parts_left}
use Rattle.doc_read.proofs.document.read_rest.Given as goal

-- What the rest of the text says at first is what it says from here on.
abbrev pub invariant-pieces : goal.invariant-pieces
invariant-pieces l =
    record {
      gives : parts_left l.initial.walk.setting (innermost (open_contents l.walk.answers)) (option_map file_parts l.known) l.walk.cursor
          ≡ parts_left l.initial.walk.setting (innermost (open_contents l.initial.walk.answers)) (option_map file_parts l.initial.known) l.initial.walk.cursor;
      setting : l.walk.setting ≡ l.initial.walk.setting;
    }

abbrev pub decreases-pieces : goal.decreases-pieces
decreases-pieces l = length l.walk.answers
