use Rattle.std.proofs.Common.{List, ℕ, ap, ◌∙◌}
use Rattle.argon_core.specs.Words.{bytes_of}
use Rattle.argon_core.specs.VariableHash.{variable_hash}
use Rattle.argon_core.specs.Argon2.{tag_of}
use Rattle.argon_core.proofs.argon.tag_of.Goals as goal

pub returns-clause-tag : goal.returns-clause-tag
unfolding tag_of
returns-clause-tag c =
    c.tag-key.ensures ∙ ap (λ (block : List ℕ). variable_hash 32 (bytes_of block)) c.last_block-last.ensures
