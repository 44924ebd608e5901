use Rattle.std.proofs.Common.{◌≡◌, ◌⊎◌, ℕ, List, [], Err, subst}
use Rattle.outside_core.proofs.Results.{fails_after}
use Rattle.vault_model.specs.SeenDoc.{doc_seen}
use Rattle.vault_model.specs.Tree.{BareDoc}
use Rattle.tree_core.specs.FurtherChanges.{FurtherChange}
use Rattle.tree_core.specs.NewNodes.{GivenValues}
use Rattle.tree_core.specs.declared.fails.TreeFail.{TreeFail}
use Rattle.tree_core.specs.declared.fails.TreeFail.TheVariants as fail
use Rattle.cli_messages.specs.Phases.{meaning_of}
use Rattle.cli_changes.specs.Entries.{after_edit_command, with_edited_at}
use Rattle.cli_changes.specs.Fails.{IsUnchangedBy}
use Rattle.cli_changes.proofs.Stopped.{stopped_by_name}
use Rattle.cli_changes.proofs.entries.edit_entry.Goals as goal

-- an edit by what is given fails as one by what is seen of it
fails_as_seen : (path : List ℕ) (values given : GivenValues) (further asked : FurtherChange) (now : ℕ) (d : BareDoc) (why : TreeFail) → values ≡ given → further ≡ asked
    → (with_edited_at path values further now d ≡ Err why) ⊎ (why ≡ fail.NoMemory) → (with_edited_at path given asked now d ≡ Err why) ⊎ (why ≡ fail.NoMemory)
fails_as_seen path values given further asked now d why v f h =
    subst (λ (x : GivenValues). (with_edited_at path x asked now d ≡ Err why) ⊎ (why ≡ fail.NoMemory)) v
    (subst (λ (x : FurtherChange). (with_edited_at path values x now d ≡ Err why) ⊎ (why ≡ fail.NoMemory)) f h)

pub returns-in-Err-clause-told : goal.returns-in-Err-clause-told
unfolding after_edit_command
returns-in-Err-clause-told c =
    let out = fails_as_seen c.args.path.now _ _ _ _ c.args.given.now (doc_seen c.args.doc.now) c.in-Err.fail c.values_of-values.ensures.values c.further_of-change.ensures.seen c.in-Err.ensures.1 in
    let by_name = subst (λ (unset : List (List ℕ)). IsUnchangedBy c.in-Err.fail c.args.given.file.now unset [] c.unchanged_by.result) c.as_slice.ensures c.unchanged_by.ensures.is in
    let stop = stopped_by_name _ c.in-Err.fail c.args.given.file.now _ _ c.unchanged_by.result _ out by_name in
    (fails_after (meaning_of c.unchanged_by.result) _ _ tt c.in_ok-check_code.ensures.told stop, c.in-Err.ensures.0)
