use Rattle.std.proofs.Common.{ℕ, ◌≡◌, ◌<◌, ◌+◌, ◌++◌, ◌∷◌, [], List, ap, sym, ◌∙◌, map, arith}
use Rattle.vault_model.specs.Db.{NodeId}
use Rattle.vault_model.specs.Empty.{new_group}
use Rattle.vault_model.specs.Shape.{GroupRecord}
use Rattle.std.specs.Prelude.{codes}
use Rattle.import_tree.specs.Branches.{deep_in, ids_in}
use Rattle.import_tree.specs.SeenBranches.{all_deep, all_ids, all_steps, branch_steps, ways_seen}
use Rattle.import_tree.specs.SeenDrafts.{placed_seen}
use Rattle.import_tree.specs.Trees.{root_id}
use Rattle.import_tree.specs.declared.branches.Branch.{Branch}
use Rattle.import_tree.specs.declared.drafts.ImportedPlace.{ImportedPlace}
use Rattle.import_tree.proofs.TakenApart.{deep_pushed, ids_pushed, steps_pushed, whole_deep, whole_ids}
use Rattle.import_tree.proofs.depths.ids_of_draft.Goals as goal

-- the root's group, which was never changed
abbrev old_root : ℕ → GroupRecord
old_root now = let group = new_group (codes "Root") now in record group { state = record group.state { modified = 0 } }

pub loop-branch-init : goal.loop-branch-init
loop-branch-init c =
    let draft = c.args.draft.now in
    let ps = map placed_seen draft.places.items in
    let id : c.from_bytes-id.result ≡ root_id = c.from_bytes-id.ensures in
    let ways : ways_seen c.in_ok-ways.ways.items ≡ ps = c.in_ok-ways.ensures ∙ ap (λ (es : List ImportedPlace). map placed_seen es) c.as_slice.ensures.value in
    let open_ids : all_ids c.in_ok-vec-2.field-0.items ≡ ids_in root_id ps =
    ap all_ids c.in_ok-vec-2.ensures.items ∙ ap (λ (u : NodeId). ids_in u (ways_seen c.in_ok-ways.ways.items)) id ∙ ap (ids_in root_id) ways in
    let open_deep : all_deep c.in_ok-vec-2.field-0.items ≡ deep_in 127 root_id ps =
    ap all_deep c.in_ok-vec-2.ensures.items ∙ ap (λ (u : NodeId). deep_in 127 u (ways_seen c.in_ok-ways.ways.items)) id ∙ ap (deep_in 127 root_id) ways in
    let first : c.in_ok-vec.field-0.items ≡ root_id ∷ [] = c.in_ok-vec.ensures.items ∙ ap (λ (u : NodeId). u ∷ []) id in
    record {
      ids = whole_ids root_id (old_root draft.moment) ps
          ∙ ap (λ (us : List NodeId). us ++ ids_in root_id ps) (sym first)
          ∙ ap (λ (us : List NodeId). c.in_ok-vec.field-0.items ++ us) (sym open_ids);
      deep = whole_deep root_id (old_root draft.moment) ps
          ∙ ap (λ (us : List NodeId). us ++ deep_in 127 root_id ps) (sym c.new.ensures.items)
          ∙ ap (λ (us : List NodeId). c.new.result.items ++ us) (sym open_deep);
    }

pub loop-branch-smaller : goal.loop-branch-smaller
loop-branch-smaller c =
    let branch = c.in-Some.branch in
    let rest = c.pop.new.self.items in
    let was : all_steps c.loop-branch.found.branches.items ≡ branch_steps branch + all_steps rest = ap all_steps c.in-Some.ensures.items ∙ steps_pushed rest branch in
    let fewer : all_steps c.take_apart.new.found.branches.items < all_steps rest + branch_steps branch = c.in_ok-take_apart.ensures.fewer in
    omega (arith, was, fewer)

pub loop-branch-preserved : goal.loop-branch-preserved
loop-branch-preserved c =
    let branch = c.in-Some.branch in
    let found = c.loop-branch.found in
    let rest = c.pop.new.self.items in
    record {
      ids = c.loop-branch.invariant.ids
          ∙ ap (λ (bs : List Branch). found.ids.items ++ all_ids bs) c.in-Some.ensures.items
          ∙ ap (λ (us : List NodeId). found.ids.items ++ us) (ids_pushed rest branch) ∙ sym c.in_ok-take_apart.ensures.ids;
      deep = c.loop-branch.invariant.deep
          ∙ ap (λ (bs : List Branch). found.deep.items ++ all_deep bs) c.in-Some.ensures.items
          ∙ ap (λ (us : List NodeId). found.deep.items ++ us) (deep_pushed rest branch) ∙ sym c.in_ok-take_apart.ensures.deep;
    }
