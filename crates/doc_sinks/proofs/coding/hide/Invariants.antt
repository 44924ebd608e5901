use Rattle.std.proofs.Common.{◌≡◌, ◌+◌, ◌≤◌, ◌++◌, length}
use Rattle.stream_core.specs.InnerStream.{IsAt, keystream, keystream_byte}
use Rattle.stream_core.specs.Stream.{xor_stream}
use Rattle.doc_sinks.specs.Chunks.{base64}
use Rattle.doc_sinks.specs.Sinks.{coded_len}
use Rattle.doc_sinks.proofs.coding.hide.Given as goal

abbrev pub invariant-loop-rest : goal.invariant-loop-rest
invariant-loop-rest l =
    record {
      bytes : l.text.bytes ++ base64 (xor_stream (keystream_byte (keystream l.initial.stream)) l.at l.rest)
          ≡ l.initial.text.bytes ++ base64 (xor_stream (keystream_byte (keystream l.initial.stream)) l.offset l.bytes);
      spare : l.text.spare + coded_len (length l.bytes) ≡ l.initial.text.spare + coded_len (length l.rest);
      room : coded_len (length l.rest) ≤ l.text.spare;
      keystream : keystream l.stream ≡ keystream l.initial.stream;
      at : IsAt l.stream l.at;
      left : l.at + length l.rest ≡ l.offset + length l.bytes;
    }

abbrev pub decreases-loop-rest : goal.decreases-loop-rest
decreases-loop-rest l = length l.rest
