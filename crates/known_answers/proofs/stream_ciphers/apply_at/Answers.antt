use Rattle.std.proofs.Common.{length}
use Rattle.stream_core.proofs.InnerLemmas.{HasLeft-IsAt}
use Rattle.known_answers.proofs.stream_ciphers.apply_at.Goals as goal

pub apply-requires : goal.apply-requires
apply-requires c = record { left = HasLeft-IsAt c.args.stream.now c.args.offset (length c.args.text.now) c.requires.at c.requires.few }
