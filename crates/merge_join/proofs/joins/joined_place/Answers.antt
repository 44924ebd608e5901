-- What is kept is_marked what all members have of it.
use Rattle.std.proofs.Common.{cond, None, ap, sym, ◌∙◌}
use Rattle.vault_model.specs.Join.{latest}
use Rattle.merge_core.proofs.Facts.{join_places}
use Rattle.merge_tables.specs.Databases.{databases}
use Rattle.merge_join.proofs.joins.joined_place.Goals as goal

pub returns-then-is_kept : goal.returns-then-is_kept
returns-then-is_kept c =
    c.latest.ensures
    ∙ sym (join_places (databases c.args.members.now) c.args.id.now ∙ ap (λ b. cond (b) (latest (databases c.args.members.now) c.args.id.now) None) (sym c.if-is_kept.ensures))

pub returns-else-is_kept : goal.returns-else-is_kept
returns-else-is_kept c =
    sym (join_places (databases c.args.members.now) c.args.id.now ∙ ap (λ b. cond (b) (latest (databases c.args.members.now) c.args.id.now) None) (sym c.if-is_kept.ensures))
