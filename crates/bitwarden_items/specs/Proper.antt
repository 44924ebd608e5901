-- Versions whose contents are in order.
use Rattle.std.specs.Prelude.{Bool, List}
use Rattle.std.specs.List.{list_all}
use Rattle.vault_model.specs.Proper.{is_proper_content}
use Rattle.vault_model.specs.Shape.{BareVersion}

-- what each of some versions says is in order
abbrev pub are_proper : List BareVersion → Bool
are_proper versions = list_all (λ (v : BareVersion). is_proper_content v.mark.content) versions
