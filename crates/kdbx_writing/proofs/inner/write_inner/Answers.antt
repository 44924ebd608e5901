use Rattle.std.proofs.Common.{◌≡◌, ℕ, List, ◌++◌, length, ap, arith, subst}
use Rattle.kdbx_writing.specs.Fields.{spelled_field}
use Rattle.kdbx_writing.proofs.InnerPieces.{inner_size, put_pieces}
use Rattle.kdbx_writing.proofs.inner.write_inner.Goals as goal

pub put_field-requires-clause-spare : goal.put_field-requires-clause-spare
put_field-requires-clause-spare c = omega (arith, c.requires.spare, inner_size c.args.key.now c.args.pool.now, ap length c.to_le_bytes.ensures)

pub put_field-requires-2-clause-spare : goal.put_field-requires-2-clause-spare
put_field-requires-2-clause-spare c =
    omega (arith, c.requires.spare, inner_size c.args.key.now c.args.pool.now, c.put_field.ensures.spare, ap length c.to_le_bytes.ensures)

pub put_pool-requires-clause-spare : goal.put_pool-requires-clause-spare
put_pool-requires-clause-spare c =
    omega (arith, c.requires.spare, inner_size c.args.key.now c.args.pool.now, c.put_field.ensures.spare, c.put_field-2.ensures.spare, ap length c.to_le_bytes.ensures)

pub put_field-requires-3-clause-spare : goal.put_field-requires-3-clause-spare
put_field-requires-3-clause-spare c =
    omega (arith, c.requires.spare, inner_size c.args.key.now c.args.pool.now, c.put_field.ensures.spare, c.put_field-2.ensures.spare, c.put_pool.ensures.spare, ap length c.to_le_bytes.ensures)

pub returns-clause-bytes : goal.returns-clause-bytes
returns-clause-bytes c =
    let o0 = c.args.out.now.bytes in
    let one : List ℕ → Type 0 = λ bytes. c.put_field.new.out.bytes ≡ o0 ++ spelled_field (1, bytes) in
    put_pieces o0 _ _ _ _ c.args.key.now c.args.pool.now
    (subst one c.to_le_bytes.ensures c.put_field.ensures.bytes) c.put_field-2.ensures.bytes c.put_pool.ensures.bytes c.put_field-3.ensures.bytes

pub returns-clause-spare : goal.returns-clause-spare
returns-clause-spare c =
    omega (arith, c.requires.spare, inner_size c.args.key.now c.args.pool.now, c.put_field.ensures.spare, c.put_field-2.ensures.spare, c.put_pool.ensures.spare, c.put_field-3.ensures.spare, ap length c.to_le_bytes.ensures)
