use Rattle.std.proofs.Common.{ap, sym}
use Rattle.doc_walk.specs.Steps.{Course}
use Rattle.doc_walk.proofs.walk.Walk.next_piece.Goals as goal

pub returns-clause-answers : goal.returns-clause-answers
returns-clause-answers c = rw (sym (ap (λ (w : Course). w.answers) c.self.view_is)) c.next.ensures

pub returns-clause-setting : goal.returns-clause-setting
returns-clause-setting c = ap (λ (w : Course). w.setting) c.self.view_is

pub returns-clause-cursor : goal.returns-clause-cursor
returns-clause-cursor c = ap (λ (w : Course). w.cursor) c.self.view_is
