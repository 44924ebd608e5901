use Rattle.std.proofs.Common.{ℕ, List, [], if◌then◌else◌, slice_index_or, slice_set, ap, ◌∙◌}
use Rattle.argon_core.specs.Compression.{permuted_columns, permuted_rows, xor_blocks}
use Rattle.argon_core.proofs.BlockLemmas.{mixed_onto}
use Rattle.argon_core.proofs.fill.refill.Goals as goal

pub returns : goal.returns
returns c =
    let memory = c.args.memory.now in
    let old = slice_index_or memory c.args.at [] in
    let first = c.args.is_first in
    ap (slice_set memory c.args.at)
    (c.xor_permuted.ensures
    ∙ ap (λ (m : List ℕ). xor_blocks m (permuted_columns (permuted_rows c.xor_into.new.block))) c.mix_old.ensures
    ∙ ap (λ (r : List ℕ). xor_blocks (if first then r else xor_blocks old r) (permuted_columns (permuted_rows r))) c.xor_into.ensures
    ∙ mixed_onto (slice_index_or memory c.args.before []) (slice_index_or memory c.args.other []) old first)
