-- Refusals of a few bytes, computed.
use Rattle.std.proofs.Common.{refl}
use Rattle.outside_core.specs.Results.{repeat_steps}
use Rattle.kdbx_parts.specs.Parts.{field_at}
use Rattle.kdbx_inner.specs.Inner.{inner_of, inner_step, with_inner_field}
use Rattle.inner_cause_laws.specs.Examples.{ExampleRefusals}

pub example_refusals : ExampleRefusals
unfolding inner_of inner_step with_inner_field field_at repeat_steps
example_refusals = record { empty = refl; twice = refl; bare = refl; binary = refl; no_number = refl; no_key = refl }
