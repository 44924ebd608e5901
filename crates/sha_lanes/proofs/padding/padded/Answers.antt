use Rattle.std.proofs.Common.{◌-◌, ◌∷◌, ◌++◌, ◌∙◌, ℕ, List, length, replicate, refl, ap}
use Rattle.sha_lanes.proofs.ChainLemmas.{last-written}
use Rattle.sha_lanes.proofs.padding.padded.Goals as goal

pub returns : goal.returns
returns c =
    last-written c.args.tail.now c.put.new.out c.put-2.new.out c.put-3.new.out c.to_be_bytes.result _ c.args.at c.requires.first c.requires.short (ap length c.to_be_bytes.ensures) refl
    c.put.ensures c.put-2.ensures c.put-3.ensures
    ∙ ap (λ (y : List ℕ). (c.args.tail.now ++ 0x80 ∷ replicate (c.args.at - length c.args.tail.now - 1) 0) ++ y) c.to_be_bytes.ensures
