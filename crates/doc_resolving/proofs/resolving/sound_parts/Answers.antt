use Rattle.std.proofs.Common.{refl, Ok, Err}
use Rattle.doc_resolving.proofs.SoundTrees.{refusal_in, sound_of}
use Rattle.doc_resolving.proofs.resolving.sound_parts.Goals as goal

pub returns-in-Ok : goal.returns-in-Ok
returns-in-Ok c = sound_of c.args.parts c.args.parts (Ok tt) tt c.in-Ok.ensures refl refl

pub returns-in-Err : goal.returns-in-Err
returns-in-Err c = refusal_in c.args.parts (Err c.in-Err.refusal) c.in-Err.refusal c.in-Err.ensures refl
