use Rattle.std.proofs.Common.{◌≡◌, Option, option_map, subst, true}
use Rattle.vault_model.proofs.Tests.{and_true}
use Rattle.doc_forms.specs.declared.drafts.RootBuilder.{RootBuilder}
use Rattle.doc_forms.specs.KeptParts.{is_kept_half, is_kept_meta}
use Rattle.doc_forms.specs.SeenDrafts.{root_parts}
use Rattle.doc_resolving.proofs.resolving.resolved_file.Goals as goal

pub resolved_root-requires-clause-meta : goal.resolved_root-requires-clause-meta
resolved_root-requires-clause-meta c =
    let kept = and_true (is_kept_meta c.args.file.meta.meta) (is_kept_half (option_map root_parts c.args.file.root)) c.requires in
    kept.0

pub resolved_root-requires-clause-root : goal.resolved_root-requires-clause-root
resolved_root-requires-clause-root c =
    let kept = and_true (is_kept_meta c.args.file.meta.meta) (is_kept_half (option_map root_parts c.args.file.root)) c.requires in
    subst (λ (o : Option RootBuilder). is_kept_half (option_map root_parts o) ≡ true) c.in-Some.is kept.1

pub returns-in-Some : goal.returns-in-Some
returns-in-Some c = rw c.in-Some.is c.resolved_root.ensures
