use Rattle.std.proofs.Common.{◌≡◌, ◌⊎◌, Err, subst}
use Rattle.tree_core.specs.declared.fails.TreeFail.TheVariants as fail
use Rattle.vault_model.specs.SeenDoc.{doc_seen}
use Rattle.cli_changes.specs.Entries.{after_add_command, with_entry_at}
use Rattle.cli_changes.proofs.Stopped.{stopped}
use Rattle.cli_changes.proofs.entries.add_entry.Goals as goal

pub returns-in-Err-clause-told : goal.returns-in-Err-clause-told
unfolding after_add_command
returns-in-Err-clause-told c =
    let out =
    subst (λ v. (with_entry_at c.args.path.now c.args.id v c.args.given.now (doc_seen c.args.doc.now) ≡ Err c.in-Err.fail) ⊎ (c.in-Err.fail ≡ fail.NoMemory))
    c.values_of-values.ensures.values c.in-Err.ensures.1 in
    (stopped _ c.in-Err.fail c.args.given.file.now c.unchanged.result _ out c.unchanged.ensures.is, c.in-Err.ensures.0)
