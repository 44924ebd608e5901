-- What a caller of an inner stream has from the place of its next byte.
use Rattle.std.proofs.Common.{ℕ, ◌+◌, ◌^◌, ◌≤◌, arith}
use Rattle.stream_core.specs.InnerStream.{IsAt, HasLeft}
use Rattle.stream_core.specs.declared.inner.InnerStream.{InnerStream}
use Rattle.stream_core.specs.declared.inner.InnerStream.TheVariants.{ChaCha, Salsa, Clear}

-- a stream at a place has the bytes from there to 2^38 left
pub HasLeft-IsAt : (s : InnerStream) (place n : ℕ) → IsAt s place → place + n ≤ 2 ^ 38 → HasLeft s n
HasLeft-IsAt (ChaCha c) place n here short = omega arith
HasLeft-IsAt (Salsa c) place n here short = omega arith
HasLeft-IsAt Clear place n here short = tt
