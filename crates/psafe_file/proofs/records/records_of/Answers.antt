use Rattle.std.proofs.Common.{◌≡◌, ◌+◌, ◌-◌, ◌++◌, List, ℕ, length, take, drop, ap, sym, ◌∙◌, arith, subst, length-drop}
use Rattle.std.proofs.lemmas.List.{append-nil, drop-map, length-map, take-map, take_rest}
use Rattle.psafe_file.specs.Ends.{AreUnended, EndsFirst}
use Rattle.psafe_file.specs.Fields.{SafeField, records_in}
use Rattle.psafe_file.specs.SeenFields.{field_seen, fields_seen, records_seen}
use Rattle.psafe_file.specs.declared.fields.SafeField as memory
use Rattle.psafe_file.proofs.Sections.{record_more}
use Rattle.psafe_file.proofs.records.records_of.Goals as goal

-- What is left from a place on, as it is seen.
rest_seen : (fields : List memory.SafeField) (start : ℕ) → fields_seen (take (length fields - start) (drop start fields)) ≡ drop start (fields_seen fields)
rest_seen fields start = ap fields_seen (take_rest fields start) ∙ sym (drop-map field_seen start fields)

-- A part, as it is seen.
part_seen : (fields : List memory.SafeField) (start len : ℕ) → fields_seen (take ((start + len) - start) (drop start fields)) ≡ take len (drop start (fields_seen fields))
part_seen fields start len =
    let n : ((start + len) - start) ≡ len = omega arith in
    ap (λ (k : ℕ). fields_seen (take k (drop start fields))) n ∙ sym (take-map field_seen len (drop start fields))
    ∙ ap (take len) (sym (drop-map field_seen start fields))

pub loop-len-preserved : goal.loop-len-preserved
loop-len-preserved c =
    let fields = c.args.fields.now in
    let all = fields_seen fields in
    let start = c.loop-len.start in
    let len = c.in-Some.len in
    let ends : EndsFirst (drop start all) len = subst (λ (l : List SafeField). EndsFirst l len) (rest_seen fields start) c.in-Some.ensures in
    record {
      within = omega (arith, ends.within, length-drop start all, length-map fields field_seen);
      so_far =
          ap (λ (l : List (List SafeField)). l ++ records_in (drop (start + (len + 1)) all)) c.in_ok-add_record.ensures
          ∙ record_more all start len (records_seen c.loop-len.records) _ _ ends (part_seen fields start len) c.loop-len.invariant.so_far;
    }

pub returns : goal.returns
returns c =
    let fields = c.args.fields.now in
    let start = c.loop-len.start in
    let none : AreUnended (drop start (fields_seen fields)) = subst AreUnended (rest_seen fields start) c.in_default.ensures in
    sym (ap (λ (l : List (List SafeField)). records_seen c.loop-len.records ++ l) none.records ∙ append-nil (records_seen c.loop-len.records)) ∙ c.loop-len.invariant.so_far
