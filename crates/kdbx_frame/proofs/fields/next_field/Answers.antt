use Rattle.std.proofs.Common.{ℕ, ◌+◌, subst}
use Rattle.outside_core.specs.Results.{Returns}
use Rattle.kdbx_parts.specs.declared.parts.LengthWidth.{LengthWidth}
use Rattle.kdbx_parts.specs.Parts.{field_at, out_of_bounds}
use Rattle.kdbx_parts.specs.Results.{meaning_of}
use Rattle.kdbx_parts.specs.Seen.{field_seen}
use Rattle.kdbx_frame.proofs.fields.next_field.Goals as goal

pub returns-clause-gives : goal.returns-clause-gives
returns-clause-gives c =
    let at : LengthWidth → Type 0 = λ width. Returns meaning_of field_seen c.field_of.result (field_at width (λ (n : ℕ). out_of_bounds c.args.size (c.args.offset + n)) c.args.rest.now) in
    subst at c.length_width.ensures c.field_of.ensures.gives
