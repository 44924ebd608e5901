use Rattle.std.proofs.Common.{◌≡◌, ◌≤◌, ◌+◌, ◌++◌, length, drop}
use Rattle.key_core.specs.KeyTexts as texts
use Rattle.key_core.proofs.key_texts.dense.Given as goal

abbrev pub invariant-bytes : goal.invariant-bytes
invariant-bytes l =
    (l.dense.bytes ++ texts.without_spaces (drop l.byte-index l.text) ≡ texts.without_spaces l.text)
    × (length l.text ≤ l.byte-index + l.dense.spare)
