-- What is kept has what all members have of it.
use Rattle.std.proofs.Common.{cond, map, None, Option, sym, subst, ◌≡◌, ◌∙◌, ap}
use Rattle.std.specs.Prelude.{IfOk}
use Rattle.std.specs.FinMap.{get}
use Rattle.vault_model.specs.Db.{Db, Versions}
use Rattle.vault_model.specs.Join.{stats_join}
use Rattle.vault_model.specs.Unite.{gather, unite}
use Rattle.merge_core.proofs.Facts.{join_entries}
use Rattle.merge_tables.specs.Databases.{databases}
use Rattle.merge_join.proofs.joins.joined_entry.Goals as goal

pub returns-then-is_kept : goal.returns-then-is_kept
returns-then-is_kept c =
    subst (λ (w : Option Versions). IfOk c.all_versions.result (λ v. v ≡ w))
    (sym (join_entries (databases c.args.members.now) c.args.id.now ∙ ap (λ b. cond (b) (gather (unite stats_join) (map (λ (m : Db). get m.entries c.args.id.now) (databases c.args.members.now))) None) (sym c.if-is_kept.ensures)))
    c.all_versions.ensures

pub returns-else-is_kept : goal.returns-else-is_kept
returns-else-is_kept c =
    sym (join_entries (databases c.args.members.now) c.args.id.now ∙ ap (λ b. cond (b) (gather (unite stats_join) (map (λ (m : Db). get m.entries c.args.id.now) (databases c.args.members.now))) None) (sym c.if-is_kept.ensures))
