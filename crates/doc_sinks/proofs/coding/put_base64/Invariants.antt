use Rattle.std.proofs.Common.{◌≡◌, ◌+◌, ◌≤◌, ◌++◌, length}
use Rattle.doc_sinks.specs.Chunks.{base64}
use Rattle.doc_sinks.specs.Sinks.{coded_len}
use Rattle.doc_sinks.proofs.coding.put_base64.Given as goal

abbrev pub invariant-loop-rest : goal.invariant-loop-rest
invariant-loop-rest l =
    record {
      bytes : l.text.bytes ++ base64 l.rest ≡ l.initial.text.bytes ++ base64 l.bytes;
      spare : l.text.spare + coded_len (length l.bytes) ≡ l.initial.text.spare + coded_len (length l.rest);
      room : coded_len (length l.rest) ≤ l.text.spare;
    }

abbrev pub decreases-loop-rest : goal.decreases-loop-rest
decreases-loop-rest l = length l.rest
