use Rattle.std.proofs.Common.{◌≡◌, ◌++◌, drop}
use Rattle.std.specs.Prelude.{string_bytes}
use Rattle.cli_messages.specs.Messages.{spaced_ids}
use Rattle.cli_messages.proofs.answers.add_ids.Given as goal

-- what is added, with what is left, is all
abbrev pub invariant-loop-id : goal.invariant-loop-id
invariant-loop-id l =
    string_bytes l.text ++ spaced_ids (drop l.id-index l.ids)
    ≡ string_bytes l.initial.text ++ spaced_ids l.ids
