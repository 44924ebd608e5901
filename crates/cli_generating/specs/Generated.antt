-- The password that dice choose.
use Rattle.std.specs.Prelude.{ℕ, List, [], codes, Ok, Err}
use Rattle.cli_messages.specs.Messages.{refusal_of}
use Rattle.cli_messages.specs.Phases.{StreamAnswer, with_left}
use Rattle.cli_messages.specs.declared.answers.Reason.TheVariants.{Spent}
use Rattle.gen_core.specs.Chosen.{Choice, choose, chosen, ended, spent}

-- What a choice gives, and what it leaves of the dice: a password, or the refusal of dice of which
-- too many bytes one after the other were refused. Dice that end before are asked for more and fail,
-- and nothing is said of such a call.
abbrev pub password_chosen : Choice → StreamAnswer (List ℕ)
password_chosen (chosen text left) = with_left (Ok text) left
password_chosen (spent place left) = with_left (Err (refusal_of Spent (codes "input"))) left
password_chosen ended = with_left (Err (refusal_of Spent (codes "input"))) []

-- The password of so many characters of an alphabet that the dice choose.
abbrev pub generated : List ℕ → ℕ → List ℕ → StreamAnswer (List ℕ)
generated alphabet length dice = password_chosen (choose alphabet length [] dice)
