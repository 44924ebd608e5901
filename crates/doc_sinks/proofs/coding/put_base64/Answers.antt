use Rattle.std.proofs.Common.{◌≡◌, arith, length}
use Rattle.std.proofs.lemmas.Bool.Decides.{nat_tests}
use Rattle.doc_sinks.specs.Chunks.{base64}
use Rattle.doc_sinks.specs.Sinks.{coded_len}
use Rattle.doc_sinks.proofs.Base64Groups.{bytes_step, coded_end, coded_step, room_step}
use Rattle.doc_sinks.proofs.coding.put_base64.Goals as goal

pub loop-rest-preserved : goal.loop-rest-preserved
loop-rest-preserved c =
    let cut = coded_step c.loop-rest.rest.now c.split_at.result.0.now c.split_at.result.1.now c.min.result c.min.ensures c.split_at.ensures.front c.split_at.ensures.back in
    let room = room_step c.put_group.new.text.spare c.loop-rest.text.spare (coded_len (length c.split_at.result.0.now)) (coded_len (length c.split_at.result.1.now))
    (coded_len (length c.loop-rest.rest.now)) (coded_len (length c.args.bytes.now)) c.args.text.now.spare
    c.put_group.ensures.spare cut.len c.loop-rest.invariant.spare c.loop-rest.invariant.room in
    record {
      bytes = bytes_step _ _ (base64 c.split_at.result.0.now) (base64 c.split_at.result.1.now) _ _ c.put_group.ensures.bytes cut.bytes c.loop-rest.invariant.bytes;
      spare = room.0;
      room = room.1;
    }

pub returns-clause-bytes : goal.returns-clause-bytes
returns-clause-bytes c =
    let none : length c.loop-rest.rest.now ≡ 0 = grind (arith, nat_tests) in
    coded_end c.loop-rest.rest.now _ _ none c.loop-rest.invariant.bytes
