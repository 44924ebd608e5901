use Rattle.argon_core.proofs.LongHash.{put_end}
use Rattle.argon_core.proofs.hashes.put_last.Goals as goal

pub returns : goal.returns
returns c = put_end c.args.out.now _ c.args.hash.now c.told-out c.copy_from_slice.ensures.after
