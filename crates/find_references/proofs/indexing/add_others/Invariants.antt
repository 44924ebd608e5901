use Rattle.std.proofs.Common.{◌&&◌, map, take}
use Rattle.std.specs.List.{list_any}
use Rattle.std.specs.Str.{bytes_eq}
use Rattle.find_references.specs.Fields.{is_other}
use Rattle.find_references.specs.inside.Indexed.{Adds, where_it_has}
use Rattle.vault_model.specs.Bare.{BareField}
use Rattle.vault_model.specs.Seen.{bare_field}
use Rattle.vault_model.specs.SeenNodes.{entry_row}
use Rattle.find_references.proofs.indexing.add_others.Given as goal

abbrev pub invariant-loop-field : goal.invariant-loop-field
invariant-loop-field l =
    Adds (λ bytes. where_it_has (list_any (λ (f : BareField). is_other f && bytes_eq f.value bytes)
    (map bare_field (take l.field-index l.fields))) (entry_row l.entry)) l.initial.index l.index
