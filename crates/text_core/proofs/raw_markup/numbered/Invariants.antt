use Rattle.std.proofs.Common.{◌≡◌, ◌≤◌, drop}
use Rattle.std.specs.Char.{is_digit}
use Rattle.std.specs.List.{list_all}
use Rattle.std.specs.Str.Parse.{digits_value_after}
use Rattle.text_core.proofs.raw_markup.numbered.Given as goal

abbrev pub invariant-loop-digit : goal.invariant-loop-digit
invariant-loop-digit l =
    record {
      most : l.number ≤ 0x10FFFF;
      value : digits_value_after l.radix l.number (drop l.digit-index l.digits) ≡ digits_value_after l.radix 0 l.digits;
      all : list_all (λ d. is_digit d l.radix) (drop l.digit-index l.digits) ≡ list_all (λ d. is_digit d l.radix) l.digits;
    }
