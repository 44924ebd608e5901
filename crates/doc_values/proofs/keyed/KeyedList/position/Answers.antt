use Rattle.std.proofs.Common.{◌≡◌, ap, sym, subst, ◌∙◌}
use Rattle.std.specs.Option.{option_copied}
use Rattle.std.specs.Ordering.{is_gt}
use Rattle.vault_model.specs.Orders.{bytes_cmp}
use Rattle.doc_forms.specs.Tables.{position_of}
use Rattle.doc_values.proofs.RisingLists.{after_all}
use Rattle.doc_values.proofs.keyed.KeyedList.position.Goals as goal

pub returns-in-Some-clause-position : goal.returns-in-Some-clause-position
returns-in-Some-clause-position g c =
    let last = sym c.last.ensures.value ∙ ap option_copied c.in-Some.is in
    let here = rw c.as_slice.ensures at last in
    let gt = ap (λ l. is_gt (bytes_cmp c.args.key.now l)) (sym c.key.ensures) ∙ (sym c.comes_after.ensures ∙ c.if-comes_after.true) in
    let at = c.len.ensures ∙ after_all g.T.Keyed.key c.args.key.now c.in-Some.last.now c.self.inside.items c.self.invariant here gt in
    subst (λ l. c.len.result ≡ position_of g.T.Keyed.key c.args.key.now l) c.self.view_is at
