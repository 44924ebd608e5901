use Rattle.std.proofs.Common.{◌∙◌, ap, length}
use Rattle.std.specs.Option.{unwrap_or}
use Rattle.std.specs.Ordering.{is_lt}
use Rattle.vault_model.specs.Db.{id_cmp}
use Rattle.vault_model.specs.declared.nodes.Tombstone.{Tombstone}
use Rattle.tree_removals.proofs.Buried.{place_or_end}
use Rattle.tree_removals.proofs.tombs.tomb_place.Goals as goal

pub returns : goal.returns
returns c =
    c.unwrap_or.ensures
    ∙ ap (λ o. unwrap_or o (length c.args.tombs.now)) c.first_greater.ensures
    ∙ place_or_end (λ (t : Tombstone). is_lt (id_cmp c.args.id t.id)) c.args.tombs.now
