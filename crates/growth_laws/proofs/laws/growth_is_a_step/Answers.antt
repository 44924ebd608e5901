use Rattle.growth_laws.proofs.laws.growth_is_a_step.Goals as goal

pub returns : goal.returns
returns c n w i e h = h
