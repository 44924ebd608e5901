use Rattle.std.proofs.Common.{◌≡◌, ◌+◌, ◌*◌, length, drop}
use Rattle.block_core.specs.Cbc.{Unchained}
use Rattle.block_core.proofs.cbc.decrypt_group.Given as goal

abbrev pub invariant-group : goal.invariant-group
invariant-group g l =
    (length l.text ≡ length l.fn.text)
    × (drop (16 * (l.i + l.k)) l.text ≡ drop (16 * (l.i + l.k)) l.fn.text)
    × Unchained (g.B.Block16.deciphered l.cipher) l.i l.k l.fn.before l.fn.text l.last l.text
