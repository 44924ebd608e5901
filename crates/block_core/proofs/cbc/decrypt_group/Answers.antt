use Rattle.std.proofs.Common.{◌≡◌, ◌<◌, ◌≤◌, ◌+◌, ◌*◌, ℕ, List, [], length, take, drop, slice_index_or, refl, ap, sym, subst, ◌∙◌, arith}
use Rattle.std.proofs.lemmas.List.{drop-drop}
use Rattle.block_core.specs.Blocks.{xor_block}
use Rattle.block_core.specs.Cbc.{Unchained}
use Rattle.block_core.specs.Laws.BlockFacts.{length-xor_block}
use Rattle.block_core.proofs.CbcSteps.{drop-written, unchained_none, unchained_more}
use Rattle.block_core.proofs.cbc.decrypt_group.Goals as goal

pub group-init : goal.group-init
group-init g c = (refl, refl, unchained_none (g.B.Block16.deciphered c.args.cipher.now) c.args.before c.args.text.now c.args.i)

pub group-preserved : goal.group-preserved
group-preserved g c =
    let d : List ℕ → List ℕ = g.B.Block16.deciphered c.args.cipher.now in
    let place : ℕ = c.args.i + c.group.k in
    let enciphered : List ℕ = slice_index_or c.blocks_at-enciphered.result c.group.k [] in
    let size : length c.group.text ≡ length c.args.text.now = c.group.invariant.0 in
    let below : c.group.k < 8 = c.group-test.true in
    let fits : 16 * place + 16 ≤ length c.group.text = omega arith in
    let made : c.xor_block.result ≡ xor_block (d enciphered) c.group.last =
    c.xor_block.ensures ∙ ap (λ x. xor_block x c.group.last) (c.decrypt_eight.ensures c.group.k below) in
    let long : length c.xor_block.result ≡ 16 = ap length made ∙ length-xor_block (d enciphered) c.group.last in
    let next : 16 * (c.args.i + (c.group.k + 1)) ≡ 16 * place + 16 = omega arith in (
      omega arith,
      ap (λ (n : ℕ). drop n c.put_block.new.text) next
          ∙ drop-written c.group.text c.put_block.new.text c.xor_block.result (16 * place) fits long c.put_block.ensures
          ∙ ap (drop 16) c.group.invariant.1
          ∙ drop-drop 16 (16 * place) c.args.text.now
          ∙ ap (λ (n : ℕ). drop n c.args.text.now) (sym next),
      unchained_more d c.args.i c.group.k c.args.before c.args.text.now c.group.last c.group.text enciphered c.xor_block.result
          c.put_block.new.text fits long c.put_block.ensures
          (c.blocks_at-enciphered.ensures c.group.k below ∙ ap (take 16) (sym c.group.invariant.1)) made c.group.invariant.2,
    )

pub returns-clause-unchained : goal.returns-clause-unchained
returns-clause-unchained g c =
    let all : c.group.k ≡ 8 = omega arith in
    subst (λ (k : ℕ). Unchained (g.B.Block16.deciphered c.args.cipher.now) c.args.i k c.args.before c.args.text.now c.group.last c.group.text) all
    c.group.invariant.2
