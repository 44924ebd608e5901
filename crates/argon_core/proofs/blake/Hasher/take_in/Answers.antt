use Rattle.std.proofs.Common.{◌≡◌, length, take, refl, ap, arith, ◌∙◌, ◌++◌, sym, ◌+◌, List, ℕ}
use Rattle.std.proofs.lemmas.List.{length-take-le}
use Rattle.std.proofs.lemmas.Slice.{take-put_mid}
use Rattle.argon_core.proofs.Hashing.{more_bytes}
use Rattle.argon_core.proofs.blake.Hasher.take_in.Goals as goal

pub returns-clause-holds : goal.returns-clause-holds
returns-clause-holds c = λ size message held.
    let count = c.min-count.result in
    let before = c.make_room.new.self in
    let piece = take count c.args.piece.now in
    let len : length piece ≡ count = length-take-le count c.args.piece.now (omega arith) in
    let copied = c.copy_from_slice.ensures.after in
    let some = c.make_room.ensures.some in
    more_bytes size before _ message piece (c.make_room.ensures.holds size message held) (omega arith) (omega arith)
    refl (ap (λ (k : ℕ). before.filled + k) (sym len)) refl
    (take-put_mid before.filled _ before.buffer _ (before.filled + count) (omega (arith, ap (λ (x : List ℕ). length x) copied)) (omega arith)
    ∙ ap (λ (x : List ℕ). take before.filled before.buffer ++ x) copied)
