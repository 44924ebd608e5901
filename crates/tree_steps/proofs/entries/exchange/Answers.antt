use Rattle.tree_steps.proofs.entries.exchange.Goals as goal

pub returns : goal.returns
returns c = λ i. record c.args.entry.now { current = c.swap.ensures.x_after i; history = c.swap-2.ensures.x_after i }
