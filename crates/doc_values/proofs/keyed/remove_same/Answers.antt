use Rattle.std.proofs.Common.{ap, sym, ◌∙◌}
use Rattle.std.proofs.lemmas.Option.{slice_get_within}
use Rattle.std.specs.Option.{option_copied}
use Rattle.std.specs.Ordering.{is_eq}
use Rattle.vault_model.specs.Orders.{bytes_cmp}
use Rattle.doc_values.proofs.Puts.{nothing_there, other_there, same_there}
use Rattle.doc_values.proofs.keyed.remove_same.Goals as goal

pub returns-in_default : goal.returns-in_default
returns-in_default g c =
    other_there g.T.Keyed.key c.args.key.now c.args.list.now c.args.at c.in-Some.found.now (sym c.get.ensures ∙ ap option_copied c.in-Some.is)
    (ap (λ l. is_eq (bytes_cmp c.args.key.now l)) (sym c.key.ensures) ∙ (sym c.is_same.ensures ∙ c.if-is_same.false))

pub returns-in_default-2 : goal.returns-in_default-2
returns-in_default-2 g c =
    nothing_there g.T.Keyed.key c.args.key.now c.args.list.now c.args.at (sym c.get.ensures ∙ ap option_copied c.in_default.is)

pub remove-requires : goal.remove-requires
remove-requires g c =
    slice_get_within c.args.list.now c.args.at c.in-Some.found.now (sym c.get.ensures ∙ ap option_copied c.in-Some.is)

pub returns : goal.returns
returns g c =
    c.remove.ensures.rest
    ∙ same_there g.T.Keyed.key c.args.key.now c.args.list.now c.args.at c.in-Some.found.now (sym c.get.ensures ∙ ap option_copied c.in-Some.is)
    (ap (λ l. is_eq (bytes_cmp c.args.key.now l)) (sym c.key.ensures) ∙ (sym c.is_same.ensures ∙ c.if-is_same.true))
