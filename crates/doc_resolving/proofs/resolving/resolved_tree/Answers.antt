use Rattle.std.proofs.Common.{ℕ, List, Ok, Option, Result, ap, map, sym, ◌∙◌}
use Rattle.vault_model.specs.SeenNodes.{tree_seen}
use Rattle.doc_forms.specs.declared.fails.DocFail.{DocFail}
use Rattle.doc_forms.specs.Attachments.{pool_from}
use Rattle.doc_forms.specs.Documents.{DocumentAndHash}
use Rattle.doc_forms.specs.SeenDocuments.{pool_item}
use Rattle.doc_forms.specs.SeenDrafts.{binary_seen, draft_seen, meta_parts}
use Rattle.doc_resolving.proofs.ResolvedDocuments.{resolved_doc}
use Rattle.doc_resolving.proofs.SoundTrees.{is_sound, resolved_refused, resolved_sound}
use Rattle.doc_resolving.proofs.resolving.resolved_tree.Goals as goal

pub invariant_of-doc : goal.invariant_of-doc
invariant_of-doc c =
    let tree = c.in-Ok.tree in
    let pool = pool_from c.args.form (map pool_item c.args.given.now) (map binary_seen c.args.meta.binaries) in
    let sound = is_sound pool (draft_seen c.args.draft) c.args.tombs.now (tree_seen tree.root) tree.tombs c.in-Ok.ensures in
    let doc = resolved_doc pool (draft_seen c.args.draft) (tree_seen tree.root) c.args.tombs.now tree.tombs c.args.meta.meta
    c.requires.meta c.requires.tree sound.tree_is sound.distinct sound.tombs_are in
    record {
      distinct = doc.distinct;
      no_nil = doc.no_nil;
      levels = doc.levels;
      rising_tombs = doc.tombs_rise;
      tombs_apart = doc.tombs_apart;
      entries_proper = doc.entries_proper;
      groups_proper = doc.groups_proper;
      rising_icons = doc.icons_rise;
      rising_items = doc.items_rise;
      meta_texts = doc.meta_texts;
    }

pub returns-in-Ok : goal.returns-in-Ok
returns-in-Ok c =
    let tree = c.in-Ok.tree in
    let pool = pool_from c.args.form (map pool_item c.args.given.now) (map binary_seen c.args.meta.binaries) in
    resolved_sound c.args.form pool (meta_parts c.args.meta) (draft_seen c.args.draft) c.args.tombs.now (tree_seen tree.root) tree.tombs c.in-Ok.ensures
    ∙ ap (λ (hash : Option (List ℕ)). let r : Result DocumentAndHash DocFail = Ok (record { tree = tree_seen tree.root; tombs = tree.tombs; meta = c.args.meta.meta }, hash) in r) (sym c.hash_of-header_hash.ensures)

pub returns-in-Err : goal.returns-in-Err
returns-in-Err c =
    let pool = pool_from c.args.form (map pool_item c.args.given.now) (map binary_seen c.args.meta.binaries) in
    resolved_refused c.args.form pool (meta_parts c.args.meta) (draft_seen c.args.draft) c.args.tombs.now c.in-Err.refusal c.in-Err.ensures
