use Rattle.std.proofs.Common.{◌≡◌, ◌+◌, arith, length, rules, ℕ, ap, ◌∙◌, List}
use Rattle.std.proofs.lemmas.Bool.Decides.{nat_tests}
use Rattle.stream_core.specs.InnerStream.{IsAt, keystream, keystream_byte, Keystream}
use Rattle.stream_core.specs.Stream.{xor_stream}
use Rattle.doc_sinks.specs.Chunks.{base64}
use Rattle.doc_sinks.specs.Sinks.{coded_len}
use Rattle.doc_sinks.proofs.Base64Groups.{bytes_step, coded_step, cut_lengths, hidden_end, hidden_step, room_step}
use Rattle.doc_sinks.proofs.coding.hide.Goals as goal

pub loop-rest-preserved : goal.loop-rest-preserved
loop-rest-preserved c =
    let k : ℕ → ℕ = keystream_byte (keystream c.args.stream.now) in
    let cut = coded_step c.loop-rest.rest.now c.split_at.result.0.now c.split_at.result.1.now c.min.result c.min.ensures c.split_at.ensures.front c.split_at.ensures.back in
    let hidden = hidden_step k c.loop-rest.at c.loop-rest.rest.now c.split_at.result.0.now c.split_at.result.1.now c.min.result c.min.ensures c.split_at.ensures.front c.split_at.ensures.back in
    let room = room_step c.hide_group.new.text.spare c.loop-rest.text.spare (coded_len (length c.split_at.result.0.now)) (coded_len (length c.split_at.result.1.now))
    (coded_len (length c.loop-rest.rest.now)) (coded_len (length c.args.bytes.now)) c.args.text.now.spare
    c.hide_group.ensures.spare cut.len c.loop-rest.invariant.spare c.loop-rest.invariant.room in
    let sum : length c.split_at.result.0.now + length c.split_at.result.1.now ≡ length c.loop-rest.rest.now =
    rw (c.split_at.ensures.front, c.split_at.ensures.back) (cut_lengths c.min.result c.loop-rest.rest.now) in
    record {
      bytes = bytes_step _ _ (base64 (xor_stream k c.loop-rest.at c.split_at.result.0.now)) (base64 (xor_stream k (c.loop-rest.at + length c.split_at.result.0.now) c.split_at.result.1.now)) _ _
          (rw c.loop-rest.invariant.keystream at c.hide_group.ensures.bytes) hidden c.loop-rest.invariant.bytes;
      spare = room.0;
      room = room.1;
      keystream = c.hide_group.ensures.keystream ∙ c.loop-rest.invariant.keystream;
      at = c.hide_group.ensures.at;
      left = omega (arith, sum, c.loop-rest.invariant.left);
    }

pub returns-clause-bytes : goal.returns-clause-bytes
returns-clause-bytes c =
    let none : length c.loop-rest.rest.now ≡ 0 = grind (arith, nat_tests) in
    hidden_end (keystream_byte (keystream c.args.stream.now)) c.loop-rest.at c.loop-rest.rest.now _ _ none c.loop-rest.invariant.bytes
