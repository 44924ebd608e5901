use Rattle.bitwarden_forms.specs.Kinds.{is_not_nil}
use Rattle.bitwarden_forms.proofs.Lists.{other_number}
use Rattle.bitwarden_forms.proofs.export.first_nil.Goals as goal

pub returns : goal.returns
returns c = other_number (is_not_nil) c.args.items.now c.nil_item.result c.number_of.result c.nil_item.ensures.place c.number_of.ensures
