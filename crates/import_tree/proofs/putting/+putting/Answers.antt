use Rattle.std.proofs.Common.{◌≡◌, [], ◌∷◌, List, ℕ, None, Some, refl, sym, ap, ◌∙◌}
use Rattle.std.specs.List.{position}
use Rattle.std.specs.Option.{option_copied_mut}
use Rattle.std.specs.Prelude.{slice_get}
use Rattle.import_tree.specs.SeenDrafts.{rows_seen}
use Rattle.vault_model.specs.SeenNodes.{tree_seen}
use Rattle.vault_model.specs.Tree.{Tree}
use Rattle.vault_model.specs.declared.nodes.Group.{Group, out-Group}
use Rattle.tree_core.specs.Changes.{with_group}
use Rattle.import_ids.specs.Ids.{named_id}
use Rattle.import_tree.specs.Trees.{new_groups, with_rows}
use Rattle.import_tree.proofs.Put.{after_first, err_then, filled, first_name, has, kept_below, made_last, no_names, ok_then, put_below, put_here, put_new}
use Rattle.import_tree.proofs.putting.+putting.Goals as goal

pub put_entry-returns-in_default-clause-ok : goal.put_entry-returns-in_default-clause-ok
put_entry-returns-in_default-clause-ok t c =
    let now = c.args.now in
    let names = c.args.names.now in
    let g = c.args.group.now in
    let e = rows_seen c.args.entry in
    ok_then c.put_own.result
    (λ put. put_here now [] names e g c.put_own.new.entries put
    ∙ ap (λ (ns : List (List ℕ)). with_rows now ns e (tree_seen g)) (sym (no_names names c.in_default.len_below)))
    c.put_own.ensures.ok

pub put_entry-returns-in_default-place_of-clause-ok : goal.put_entry-returns-in_default-place_of-clause-ok
put_entry-returns-in_default-place_of-clause-ok t c =
    let now = c.args.now in
    let names = c.args.names.now in
    let g = c.args.group.now in
    let e = rows_seen c.args.entry in
    let name = c.name-item.result in
    let whole : names ≡ name ∷ after_first names = first_name names name c.in-len1-up.len_at_least c.name-item.is in
    let way : position (has name) (out-Group g).groups ≡ None =
    ap (λ (gs : List Group). position (has name) gs) (sym c.as_slice.ensures)
    ∙ ap (λ (n : List ℕ). position (has n) c.as_slice.result.now) (sym c.as_str-name.ensures)
    ∙ sym c.place_of.ensures ∙ c.in_default-place_of.is in
    let same = c.as_str-name.ensures in
    ok_then c.put_new.result
    (λ put. put
    ∙ ap (λ (n : List ℕ). with_group (new_groups now (out-Group g).id n (after_first names) e) (tree_seen g)) same
    ∙ put_new now name (after_first names) e g way
    ∙ ap (λ (ns : List (List ℕ)). with_rows now ns e (tree_seen g)) (sym whole))
    c.put_new.ensures.ok

pub put_entry-returns-in-Some-get_mut-clause-ok : goal.put_entry-returns-in-Some-get_mut-clause-ok
put_entry-returns-in-Some-get_mut-clause-ok t c =
    let now = c.args.now in
    let names = c.args.names.now in
    let g = c.args.group.now in
    let e = rows_seen c.args.entry in
    let name = c.name-item.result in
    let whole : names ≡ name ∷ after_first names = first_name names name c.in-len1-up.len_at_least c.name-item.is in
    let way : position (has name) (out-Group g).groups ≡ Some c.in-Some.at =
    ap (λ (gs : List Group). position (has name) gs) (sym c.as_slice.ensures)
    ∙ ap (λ (n : List ℕ). position (has n) c.as_slice.result.now) (sym c.as_str-name.ensures)
    ∙ sym c.place_of.ensures ∙ c.in-Some.is in
    let is : slice_get (out-Group g).groups c.in-Some.at ≡ Some c.in-Some-get_mut.below.now = sym c.get_mut.ensures.item ∙ ap option_copied_mut c.in-Some-get_mut.is in
    ok_then c.put_entry.result
    (λ put. put_below now name (after_first names) e g c.in-Some.at c.in-Some-get_mut.below.now c.put_entry.new.group way is put
    ∙ ap (λ (ns : List (List ℕ)). with_rows now ns e (tree_seen g)) (sym whole))
    c.put_entry.ensures.ok

pub put_entry-returns-in-Some-get_mut-clause-err : goal.put_entry-returns-in-Some-get_mut-clause-err
put_entry-returns-in-Some-get_mut-clause-err t c =
    let names = c.args.names.now in
    let g = c.args.group.now in
    let is : slice_get (out-Group g).groups c.in-Some.at ≡ Some c.in-Some-get_mut.below.now = sym c.get_mut.ensures.item ∙ ap option_copied_mut c.in-Some-get_mut.is in
    err_then c.put_entry.result
    (λ same. kept_below c.args.now c.name-item.result (after_first names) (rows_seen c.args.entry) g c.in-Some.at c.in-Some-get_mut.below.now c.put_entry.new.group is same)
    c.put_entry.ensures.err

pub put_filled-returns-in-Ok-clause-ok : goal.put_filled-returns-in-Ok-clause-ok
put_filled-returns-in-Ok-clause-ok t c =
    let g = c.args.group.now in
    let filled = with_rows c.args.now c.args.names.now (rows_seen c.args.entry) (tree_seen c.args.new) in
    ok_then c.put_last.result
    (λ put. made_last g c.put_last.new.list c.put_entry.new.group filled put c.in-Ok.ensures.ok)
    c.put_last.ensures.ok

pub put_new-returns-in-Ok-clause-ok : goal.put_new-returns-in-Ok-clause-ok
put_new-returns-in-Ok-clause-ok t c =
    let now = c.args.now in
    let name = c.args.name.now in
    let names = c.args.names.now in
    let e = rows_seen c.args.entry in
    let g = c.args.group.now in
    let parent = (out-Group g).id in
    let id : c.new_v5-id.result ≡ named_id parent name = c.new_v5-id.ensures.value ∙ ap (named_id parent) c.as_bytes.ensures.value in
    let made : with_rows now names e (tree_seen c.in-Ok.new) ≡ new_groups now parent name names e =
    filled now parent c.new_v5-id.result name names e (tree_seen c.in-Ok.new) _ id c.in-Ok.ensures refl in
    ok_then c.put_filled.result
    (λ put. put ∙ ap (λ (u : Tree). with_group u (tree_seen g)) made)
    c.put_filled.ensures.ok
