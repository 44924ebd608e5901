use Rattle.std.proofs.Common.{ℕ, List, ap, ◌∙◌}
use Rattle.argon_core.specs.Compression.{permuted_columns, permuted_rows, xor_blocks}
use Rattle.argon_core.proofs.BlockLemmas.{blocks_swapped}
use Rattle.argon_core.proofs.compression.compress.Goals as goal

pub returns : goal.returns
returns c =
    c.xor_permuted.ensures
    ∙ ap (λ (r : List ℕ). xor_blocks r (permuted_columns (permuted_rows r))) c.xor_into.ensures
    ∙ blocks_swapped _ _
