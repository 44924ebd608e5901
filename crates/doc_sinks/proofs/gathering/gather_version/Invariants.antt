use Rattle.std.proofs.Common.{map, take}
use Rattle.doc_sinks.specs.Gathering.{Gathers}
use Rattle.vault_model.specs.Bare.{BareAttachment}
use Rattle.vault_model.specs.Seen.{bare_attachment}
use Rattle.doc_sinks.proofs.gathering.gather_version.Given as goal

abbrev pub invariant-loop-file : goal.invariant-loop-file
invariant-loop-file l =
    Gathers l.initial.numbers l.initial.items l.numbers l.items
    (map (λ (a : BareAttachment). (a.bytes, a.hidden)) (map bare_attachment (take l.file-index l.file-items)))
