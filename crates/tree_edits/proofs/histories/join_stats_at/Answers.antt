use Rattle.std.proofs.Common.{sym, ap, ◌∙◌}
use Rattle.std.specs.Option.{option_copied_mut}
use Rattle.vault_model.specs.Join.{stats_join}
use Rattle.vault_model.specs.SeenNodes.{bare_version}
use Rattle.vault_model.specs.Shape.{BareVersion}
use Rattle.tree_contents.proofs.Places.{changed_nowhere, changed_there}
use Rattle.tree_edits.proofs.histories.join_stats_at.Goals as goal

pub returns-in-Some : goal.returns-in-Some
returns-in-Some c =
    let old = c.in-Some.version.now in
    changed_there bare_version (λ (v : BareVersion). record v { stats = stats_join c.args.stats v.stats }) c.args.versions.now c.args.at old (record old { stats = c.join_stats-version.result })
    (sym c.get_mut.ensures.item ∙ ap option_copied_mut c.in-Some.is) (λ i. record (bare_version old) { stats = c.join_stats-version.ensures i })

pub returns-in_default : goal.returns-in_default
returns-in_default c =
    changed_nowhere bare_version (λ (v : BareVersion). record v { stats = stats_join c.args.stats v.stats }) c.args.versions.now c.args.at (sym c.get_mut.ensures.item ∙ ap option_copied_mut c.in_default.is)
