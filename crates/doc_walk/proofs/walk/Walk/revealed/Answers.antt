use Rattle.std.proofs.Common.{ap, refl}
use Rattle.doc_walk.specs.Steps.{Course}
use Rattle.doc_walk.proofs.walk.Walk.revealed.Goals as goal

pub returns-then-len-gt-STREAM_END-clause-gives : goal.returns-then-len-gt-STREAM_END-clause-gives
returns-then-len-gt-STREAM_END-clause-gives c = tt

pub returns-then-len-gt-STREAM_END-clause-setting : goal.returns-then-len-gt-STREAM_END-clause-setting
returns-then-len-gt-STREAM_END-clause-setting c = refl

pub returns-clause-answers : goal.returns-clause-answers
returns-clause-answers c = ap (λ (w : Course). w.answers) c.self.view_is
