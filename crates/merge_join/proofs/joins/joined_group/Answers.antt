-- What is kept is_marked what all members have of it.
use Rattle.std.proofs.Common.{cond, map, None, ap, sym, ◌∙◌}
use Rattle.std.specs.FinMap.{get}
use Rattle.vault_model.specs.Db.{Db}
use Rattle.vault_model.specs.Join.{state_join}
use Rattle.vault_model.specs.Unite.{gather}
use Rattle.merge_core.proofs.Facts.{join_groups}
use Rattle.merge_tables.specs.Databases.{databases}
use Rattle.merge_join.proofs.joins.joined_group.Goals as goal

pub returns-then-is_kept : goal.returns-then-is_kept
returns-then-is_kept c =
    c.joined_state.ensures
    ∙ sym (join_groups (databases c.args.members.now) c.args.id.now ∙ ap (λ b. cond (b) (gather state_join (map (λ (m : Db). get m.groups c.args.id.now) (databases c.args.members.now))) None) (sym c.if-is_kept.ensures))

pub returns-else-is_kept : goal.returns-else-is_kept
returns-else-is_kept c =
    sym (join_groups (databases c.args.members.now) c.args.id.now ∙ ap (λ b. cond (b) (gather state_join (map (λ (m : Db). get m.groups c.args.id.now) (databases c.args.members.now))) None) (sym c.if-is_kept.ensures))
