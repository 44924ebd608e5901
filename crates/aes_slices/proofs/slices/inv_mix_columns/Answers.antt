use Rattle.std.proofs.Common.{◌≡◌, ℕ, ◌<◌, ◌+◌, ◌%◌, ap, ◌∙◌, arith}
use Rattle.aes_slices.specs.Slices.{cell, mixed_before, mixed_row}
use Rattle.aes_slices.proofs.slices.inv_mix_columns.Goals as goal

pub returns : goal.returns
returns c j l block lane =
    let s = c.args.s in
    let each : (k m : ℕ) → k < 16 → (k + 8) % 16 ≡ m → cell c.mix_before.result j k ≡ mixed_before (cell s j k) (cell s j m) =
    (λ k m h place. c.mix_before.ensures j k block h ∙ ap (λ p. mixed_before (cell s j k) (cell s j p)) place) in
    let e0 = each l ((l + 8) % 16) lane (omega arith) in
    let e1 = each ((l + 4) % 16) ((l + 12) % 16) (omega arith) (omega arith) in
    let e2 = each ((l + 8) % 16) l (omega arith) (omega arith) in
    let e3 = each ((l + 12) % 16) ((l + 4) % 16) (omega arith) (omega arith) in
    c.mix.ensures j l block lane ∙ (λ i. mixed_row (e0 i) (e1 i) (e2 i) (e3 i))
