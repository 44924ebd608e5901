use Rattle.std.proofs.Common.{◌≡◌, ◌==◌, ◌<◌, ℕ, false, length, ap, ◌∙◌, get_or}
use Rattle.std.proofs.lemmas.Bool.{ne_eqb}
use Rattle.std.proofs.lemmas.List.{get_or-map, length-map}
use Rattle.psafe_file.specs.Fields.{is_end}
use Rattle.psafe_file.specs.SeenFields.{field_seen, fields_seen}
use Rattle.psafe_file.proofs.Sections.{at_end, goes_on_later, goes_on_records, no_field}
use Rattle.psafe_file.proofs.records.first_end.Goals as goal

pub returns-then-fields-at : goal.returns-then-fields-at
returns-then-fields-at c =
    let fields = fields_seen c.args.fields.now in
    let at = c.loop-at.at in
    let within : at < length fields = rw (length-map c.args.fields.now field_seen) c.loop-at-test.true in
    let here = get_or-map field_seen c.args.fields.now at _ no_field c.loop-at-test.true in
    at_end fields at within no_field c.loop-at.invariant.records c.loop-at.invariant.later
    (ap is_end here ∙ ap (λ (k : ℕ). k == 255) c.if-fields-at.true)

pub loop-at-preserved : goal.loop-at-preserved
loop-at-preserved c =
    let fields = fields_seen c.args.fields.now in
    let at = c.loop-at.at in
    let within : at < length fields = rw (length-map c.args.fields.now field_seen) c.loop-at-test.true in
    let here = get_or-map field_seen c.args.fields.now at _ no_field c.loop-at-test.true in
    let goes_on : is_end (get_or fields at no_field) ≡ false = ap is_end here ∙ ne_eqb _ 255 c.if-fields-at.false in
    record {
      records = goes_on_records fields at within no_field c.loop-at.invariant.records c.loop-at.invariant.later goes_on;
      later = goes_on_later fields at within no_field c.loop-at.invariant.records c.loop-at.invariant.later goes_on;
    }
