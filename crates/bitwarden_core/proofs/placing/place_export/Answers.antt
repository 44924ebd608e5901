use Rattle.std.proofs.Common.{ap, ◌∙◌}
use Rattle.std.specs.List.{list_all}
use Rattle.bitwarden_forms.specs.Kinds.{is_not_nil}
use Rattle.bitwarden_core.proofs.placing.place_export.Goals as goal

pub place_all-requires : goal.place_all-requires
place_all-requires c = ap (list_all is_not_nil) c.items_of.ensures ∙ c.requires.ids
