use Rattle.std.proofs.Common.{◌≡◌, drop}
use Rattle.std.specs.List.{list_all}
use Rattle.std.specs.Str.{is_utf8}
use Rattle.import_tree.proofs.places.names_are_utf8.Given as goal

-- all are texts where those that are left are
abbrev pub invariant-loop-name : goal.invariant-loop-name
invariant-loop-name l = list_all is_utf8 l.names ≡ list_all is_utf8 (drop l.name-index l.names)
