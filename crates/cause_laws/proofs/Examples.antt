-- A file of no bytes, computed.
use Rattle.std.proofs.Common.{zero, suc, [], refl, arith}
use Rattle.kdbx_frame.specs.Header.{header_at}
use Rattle.kdbx_payload.specs.Payloads.{payload_of}
use Rattle.kdbx_open.specs.Opening.{opening}
use Rattle.cause_laws.specs.Causes.{AreBytes}
use Rattle.cause_laws.specs.Examples.{ExampleRefusal}

no_bytes : AreBytes []
no_bytes zero = omega arith
no_bytes (suc i) = omega arith

pub example_refusal : ExampleRefusal
unfolding opening payload_of header_at
example_refusal = record { bytes = no_bytes; refused = refl }
