-- What is said before a word is read.
use Rattle.std.proofs.Common.{◌≡◌, false, map, [], None}
use Rattle.cli_options.specs.declared.said.GivenTexts.{GivenTexts}
use Rattle.cli_options.specs.declared.said.ReadingState.{ReadingState}
use Rattle.cli_options.specs.Said.{nothing_said}
use Rattle.cli_options.specs.SaidWords.{reading_seen, text_seen, texts_among}

-- Nothing is said.
pub begins : (given : GivenTexts) (state : ReadingState) → map text_seen given.texts ≡ nothing_said.given → state.repeated ≡ [] → state.due ≡ None
    → state.ended ≡ false → state.positions ≡ [] → reading_seen given state ≡ nothing_said
begins given state g r d e p = λ i. record {
  given = g i;
  repeated = texts_among (r i);
  due = d i;
  ended = e i;
  positions = p i;
}
