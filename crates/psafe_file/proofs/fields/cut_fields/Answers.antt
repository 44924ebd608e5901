use Rattle.std.proofs.Common.{◌≡◌, ◌<◌, ◌-◌, ◌++◌, ◌∷◌, [], List, false, length, ap, sym, ◌∙◌, arith, rules, append_assoc, length-drop, drop}
use Rattle.std.specs.Prelude.{nat_lt}
use Rattle.std.proofs.lemmas.List.{map_push}
use Rattle.psafe_file.specs.Fields.{FieldList, SafeField, fields_from}
use Rattle.psafe_file.specs.SeenFields.{field_seen, fields_seen}
use Rattle.psafe_file.proofs.FieldCuts.{one_more, room_of}
use Rattle.psafe_file.proofs.fields.cut_fields.Goals as goal

pub loop-rest-preserved : goal.loop-rest-preserved
loop-rest-preserved c =
    let bytes = c.args.bytes.now in
    let rest = c.loop-rest.rest.now in
    let after = c.in-Some.after.now in
    let field = field_seen c.in-Some.field in
    let later : FieldList = fields_from (length after) (length bytes - length after) after in
    let some : 0 < length rest = search rules in
    let whole : nat_lt (length rest) (room_of rest) ≡ false = search rules in
    let cut : after ≡ drop (room_of rest) rest = search rules in
    let e = one_more bytes rest after field some c.loop-rest.invariant.within whole (search rules) cut in
    let pushed : c.push.new.self ≡ c.loop-rest.fields ++ c.in-Some.field ∷ [] = search rules in
    record {
      within = omega (arith, ap length cut, length-drop (room_of rest) rest, c.loop-rest.invariant.within);
      fields =
          ap (λ (l : List SafeField). l ++ later.fields) (ap fields_seen pushed ∙ map_push field_seen c.loop-rest.fields c.in-Some.field)
          ∙ append_assoc (fields_seen c.loop-rest.fields) (field ∷ []) later.fields
          ∙ ap (λ (l : FieldList). fields_seen c.loop-rest.fields ++ l.fields) (sym e)
          ∙ c.loop-rest.invariant.fields;
      cut_off = ap (λ (l : FieldList). l.cut_off) (sym e) ∙ c.loop-rest.invariant.cut_off;
    }
