-- That an inner stream is at an offset is a proposition.
use Rattle.std.specs.Prelude.{ℕ}
use Rattle.std.proofs.Props.{props}
use Rattle.stream_core.specs.InnerStream.{IsAt}
use Rattle.stream_core.specs.declared.inner.InnerStream.{InnerStream}
use Rattle.stream_core.specs.declared.inner.InnerStream.TheVariants.{ChaCha, Salsa, Clear}

-- no two proofs of it differ
pub is_prop_at : (s : InnerStream) (offset : ℕ) → IsProp (IsAt s offset)
is_prop_at (ChaCha c) offset = hlevel props
is_prop_at (Salsa c) offset = hlevel props
is_prop_at Clear offset = hlevel props
