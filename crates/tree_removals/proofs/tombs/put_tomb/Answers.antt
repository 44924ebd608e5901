use Rattle.std.proofs.Common.{◌∙◌, sym, ap, arith, not}
use Rattle.std.proofs.lemmas.List.Sums.{prefix_len-le-length}
use Rattle.std.specs.List.{position_or_len}
use Rattle.std.specs.Ordering.{is_lt}
use Rattle.vault_model.specs.Db.{id_cmp}
use Rattle.vault_model.specs.declared.nodes.Tombstone.{Tombstone}
use Rattle.tree_removals.proofs.Buried.{tomb_put}
use Rattle.tree_removals.proofs.tombs.put_tomb.Goals as goal

pub returns-in-Ok-clause-ok : goal.returns-in-Ok-clause-ok
returns-in-Ok-clause-ok c =
    c.in-Ok.ensures.ok
    ∙ tomb_put c.args.tomb c.args.tombs.now c.tomb_place-at.result
    (sym (c.tomb_place-at.ensures ∙ ap (position_or_len (λ (t : Tombstone). is_lt (id_cmp c.args.tomb.id t.id))) c.as_slice.ensures))

pub insert-requires : goal.insert-requires
insert-requires c =
    let place = c.tomb_place-at.ensures ∙ ap (position_or_len (λ (t : Tombstone). is_lt (id_cmp c.args.tomb.id t.id))) c.as_slice.ensures in
    let most = prefix_len-le-length (λ (t : Tombstone). not (is_lt (id_cmp c.args.tomb.id t.id))) c.args.tombs.now in
    omega (arith, place, most)
