use Rattle.std.proofs.Common.{◌≡◌, ℕ, ◌*◌, ◌<◌, slice_index}
use Rattle.argon_core.specs.Words.{word_at}
use Rattle.argon_core.proofs.words.load_words.Given as goal

abbrev pub invariant-load : goal.invariant-load
invariant-load l = (k : ℕ) → k < l.i → slice_index l.into k ≡ word_at l.bytes (8 * k)
