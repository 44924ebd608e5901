use Rattle.std.proofs.Common.{◌+◌, List, ℕ, Ok, Some, inl, refl, sym, ap, ◌∙◌}
use Rattle.std.proofs.lemmas.Bool.{le-ltb}
use Rattle.std.proofs.lemmas.Str.{is_utf8-from_IsUtf8}
use Rattle.std.specs.Str.{is_utf8}
use Rattle.vault_model.proofs.DocumentLaws.{is_doc}
use Rattle.vault_model.proofs.Tests.{apart}
use Rattle.vault_model.specs.SeenDoc.{doc_seen}
use Rattle.vault_model.specs.SeenNodes.{tree_seen}
use Rattle.vault_model.specs.Tree.{LEVELS, Tree}
use Rattle.tree_core.specs.Finding.{group_at_path}
use Rattle.tree_core.proofs.Named.{group_there}
use Rattle.tree_core.specs.After.{is_group_taken}
use Rattle.tree_core.specs.Changes.{changed_at, has_group, level_of, with_group}
use Rattle.tree_core.specs.NewNodes.{empty_group}
use Rattle.tree_core.specs.NewPaths.{before_last}
use Rattle.tree_groups.proofs.AfterMake.{make_done, make_id_taken, make_no_path, make_taken}
use Rattle.tree_groups.proofs.MadeDoc.{level_left, make_is_doc}
use Rattle.tree_groups.proofs.making.make_of.Goals as goal

pub invariant_of-doc : goal.invariant_of-doc
invariant_of-doc c =
    let d = doc_seen c.args.doc.now in
    let path = c.args.path.now in
    let there = sym (ap (group_at_path d) (c.before_last.ensures ∙ ap before_last c.as_bytes.ensures.value)) ∙ sym c.find_group_at.ensures ∙ c.in-Some.is in
    let same = c.in_ok-new.ensures ∙ ap (λ (t : List ℕ). empty_group c.args.id t c.args.now) c.name_after.ensures in
    let name = ap is_utf8 (sym c.name_after.ensures) ∙ is_utf8-from_IsUtf8 c.name_after.result.now c.name_after.utf8 in
    let left = level_left c.levels_below.result (level_of c.in-Some.group d.tree) (λ e. c.if-unwrap_or-eq0.false (c.unwrap_or.ensures ∙ e)) c.levels_below.ensures in
    let h = make_is_doc d (is_doc c.args.doc.now) c.in-Some.group c.args.id _ c.args.now (tree_seen c.in_ok-new.new) same (group_there d (before_last path) c.in-Some.group there) left
    (sym c.is_free.ensures ∙ c.if-not-is_free.false) name (tree_seen c.put_group.new.root) c.put_group.result c.put_group.ensures in
    record {
      distinct = h.distinct;
      no_nil = h.no_nil;
      levels = h.levels;
      rising_tombs = h.tombs_rise;
      tombs_apart = h.tombs_apart;
      entries_proper = h.entries_proper;
      groups_proper = h.groups_proper;
      rising_icons = h.icons_rise;
      rising_items = h.items_rise;
      meta_texts = h.meta_texts;
    }

pub returns-in-Some-Ok : goal.returns-in-Some-Ok
returns-in-Some-Ok c =
    let d = doc_seen c.args.doc.now in
    let path = c.args.path.now in
    let there = sym (ap (group_at_path d) (c.before_last.ensures ∙ ap before_last c.as_bytes.ensures.value)) ∙ sym c.find_group_at.ensures ∙ c.in-Some.is in
    let off = sym (ap (λ (p : List ℕ). is_group_taken p d) (c.as_slice.ensures ∙ c.in_ok-new_path.ensures)) ∙ sym c.is_taken.ensures ∙ c.if-is_taken.false in
    let same = c.in_ok-new.ensures ∙ ap (λ (t : List ℕ). empty_group c.args.id t c.args.now) c.name_after.ensures in
    let left = level_left c.levels_below.result (level_of c.in-Some.group d.tree) (λ e. c.if-unwrap_or-eq0.false (c.unwrap_or.ensures ∙ e)) c.levels_below.ensures in
    let put = rw (c.in-Some-Ok.is ∙ ap Some c.in-Some-Ok.field-0-is) at c.put_group.ensures in
    make_done path c.args.id c.args.now d c.in-Some.group there off (le-ltb LEVELS (level_of c.in-Some.group d.tree + 1) left) (sym c.is_free.ensures ∙ c.if-not-is_free.false)
    ∙ ap (λ (w : Tree). Ok (record d { tree = changed_at c.in-Some.group (with_group w) d.tree })) (sym same)
    ∙ ap (λ t. Ok (record d { tree = t })) (sym put)

pub returns : goal.returns
returns c =
    let d = doc_seen c.args.doc.now in
    let there = sym (ap (group_at_path d) (c.before_last.ensures ∙ ap before_last c.as_bytes.ensures.value)) ∙ sym c.find_group_at.ensures ∙ c.in-Some.is in
    apart (has_group c.in-Some.group d.tree) (group_there d (before_last c.args.path.now) c.in-Some.group there) (rw c.in-None.is at c.put_group.ensures).0

pub returns-in_default : goal.returns-in_default
returns-in_default c =
    let d = doc_seen c.args.doc.now in
    let none = sym (ap (group_at_path d) (c.before_last.ensures ∙ ap before_last c.as_bytes.ensures.value)) ∙ sym c.find_group_at.ensures ∙ c.in_default.is in
    (refl, inl (make_no_path c.args.path.now c.args.id c.args.now d none))

pub returns-then-is_taken : goal.returns-then-is_taken
returns-then-is_taken c =
    let d = doc_seen c.args.doc.now in
    let there = sym (ap (group_at_path d) (c.before_last.ensures ∙ ap before_last c.as_bytes.ensures.value)) ∙ sym c.find_group_at.ensures ∙ c.in-Some.is in
    let taken = sym (ap (λ (p : List ℕ). is_group_taken p d) (c.as_slice.ensures ∙ c.in_ok-new_path.ensures)) ∙ sym c.is_taken.ensures ∙ c.if-is_taken.true in
    (refl, inl (make_taken c.args.path.now c.args.id c.args.now d c.in-Some.group there taken))

pub returns-then-not-is_free : goal.returns-then-not-is_free
returns-then-not-is_free c =
    let d = doc_seen c.args.doc.now in
    let there = sym (ap (group_at_path d) (c.before_last.ensures ∙ ap before_last c.as_bytes.ensures.value)) ∙ sym c.find_group_at.ensures ∙ c.in-Some.is in
    let off = sym (ap (λ (p : List ℕ). is_group_taken p d) (c.as_slice.ensures ∙ c.in_ok-new_path.ensures)) ∙ sym c.is_taken.ensures ∙ c.if-is_taken.false in
    let left = level_left c.levels_below.result (level_of c.in-Some.group d.tree) (λ e. c.if-unwrap_or-eq0.false (c.unwrap_or.ensures ∙ e)) c.levels_below.ensures in
    (refl, inl (make_id_taken c.args.path.now c.args.id c.args.now d c.in-Some.group there off (le-ltb LEVELS (level_of c.in-Some.group d.tree + 1) left) (sym c.is_free.ensures ∙ c.if-not-is_free.true)))
