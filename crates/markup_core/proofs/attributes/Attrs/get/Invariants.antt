use Rattle.std.proofs.Common.{◌≡◌, length, IsUtf8}
use Rattle.std.specs.Option.{option_copied}
use Rattle.markup_grammar.specs.Attributes.{attribute, attributes, last_named}
use Rattle.markup_core.proofs.attributes.Attrs.get.Given as goal

abbrev pub invariant-loop-first : goal.invariant-loop-first
invariant-loop-first l =
    record {
      value : last_named l.name (option_copied l.found) (attributes l.rest) ≡ attribute l.initial.rest l.name;
      utf8 : IsUtf8 l.rest;
    }

abbrev pub decreases-loop-first : goal.decreases-loop-first
decreases-loop-first l = length l.rest
