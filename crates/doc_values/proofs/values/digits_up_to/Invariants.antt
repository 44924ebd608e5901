use Rattle.std.proofs.Common.{◌≡◌, ◌≤◌, drop}
use Rattle.std.specs.Char.{is_ascii_digit}
use Rattle.std.specs.List.{list_all}
use Rattle.std.specs.Str.Parse.{digits_value_after}
use Rattle.doc_values.proofs.values.digits_up_to.Given as goal

abbrev pub invariant-loop-digit : goal.invariant-loop-digit
invariant-loop-digit l =
    record {
      most : l.number ≤ l.most;
      value : digits_value_after 10 l.number (drop l.digit-index l.digits) ≡ digits_value_after 10 0 l.digits;
      all : list_all is_ascii_digit (drop l.digit-index l.digits) ≡ list_all is_ascii_digit l.digits;
    }
