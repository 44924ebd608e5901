use Rattle.std.proofs.Common.{ℕ, List, ◌∷◌, replicate, ap, ap₂, ◌∙◌}
use Rattle.argon_core.specs.Argon2.{address_block}
use Rattle.argon_core.specs.Compression.{compression}
use Rattle.argon_core.proofs.params.Instance.address_block.Goals as goal

pub returns : goal.returns
unfolding address_block
returns c =
    let i = c.args.self.now in
    let at = c.args.at in
    let zeros = replicate 128 0 in
    let input = λ (len kind : ℕ). at.pass ∷ at.lane ∷ at.slice ∷ len ∷ i.params.passes ∷ kind ∷ c.args.counter ∷ replicate 121 0 in
    c.compress-2.ensures
    ∙ ap (λ (x : List ℕ). compression zeros x) (c.compress.ensures
    ∙ ap₂ (λ (len kind : ℕ). compression zeros (input len kind)) c.memory_len.ensures.len c.type_number.ensures)
