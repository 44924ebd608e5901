use Rattle.std.proofs.Common.{◌≡◌, ◌*◌, take}
use Rattle.argon_core.specs.Words.{bytes_of}
use Rattle.argon_core.proofs.words.store_words.Given as goal

abbrev pub invariant-store : goal.invariant-store
invariant-store l = take (8 * l.i) l.into ≡ bytes_of (take l.i l.from)
