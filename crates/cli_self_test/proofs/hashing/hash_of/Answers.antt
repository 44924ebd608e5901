-- The hash of the text, or the refusal to write it.
use Rattle.std.proofs.Common.{ℕ, List, ap}
use Rattle.cli_self_test.specs.SelfTest.{hash_of, hash_or_refusal}
use Rattle.cli_self_test.proofs.Stops.{plain, returned, unwritten_stops}
use Rattle.cli_self_test.proofs.hashing.hash_of.Goals as goal

pub returns-in-Ok-clause-told : goal.returns-in-Ok-clause-told
unfolding hash_of
returns-in-Ok-clause-told c =
    returned (λ (hash : List ℕ). hash) c.hash_text-hash.result _ _ (ap hash_or_refusal c.in-Ok.ensures.text) c.hash_text-hash.ensures.hash c.hash_text-hash.ensures.cause

pub returns-in-Ok-clause-cause : goal.returns-in-Ok-clause-cause
returns-in-Ok-clause-cause c = plain c.hash_text-hash.result c.hash_text-hash.ensures.cause

pub returns-in-Err-clause-told : goal.returns-in-Err-clause-told
unfolding hash_of
returns-in-Err-clause-told c = unwritten_stops c.in-Err.fail c.unwritten.result _ c.in-Err.ensures.text c.unwritten.ensures.is
