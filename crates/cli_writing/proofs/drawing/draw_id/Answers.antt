use Rattle.std.proofs.Common.{ap, sym, ◌∙◌, ◌≡◌, length, arith, List, ℕ}
use Rattle.std.proofs.lemmas.List.{take_all}
use Rattle.cli_writing.proofs.Drawn.{next_drawn}
use Rattle.cli_writing.proofs.drawing.draw_id.Goals as goal

pub returns-in-Ok-clause-told : goal.returns-in-Ok-clause-told
returns-in-Ok-clause-told g c = λ truthful d is.
    let long : length c.in-Ok.fresh ≡ 16 = ap (λ (bs : List ℕ). length bs) (sym c.take-id.ensures) ∙ sym c.length_of-length.ensures.is ∙ c.length_of-length.ensures.sixteen in
    let next = next_drawn 16 c.in-Ok.fresh d _ (omega (arith, long)) (sym is ∙ c.in-Ok.ensures.front truthful) in
    (sym (next.0 ∙ take_all 16 c.in-Ok.fresh (omega (arith, long)) ∙ sym c.take-id.ensures), next.1)

pub returns-in-Ok-clause-long : goal.returns-in-Ok-clause-long
returns-in-Ok-clause-long g c = sym c.length_of-length.ensures.is ∙ c.length_of-length.ensures.sixteen
