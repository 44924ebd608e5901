use Rattle.std.proofs.Common.{◌≡◌, List, ℕ, None, Some, ◌++◌, ◌∷◌, [], ap, refl, sym, ◌∙◌}
use Rattle.vault_model.specs.Db.{NodeId}
use Rattle.import_tree.specs.Branches.{deep_id, places_below, first_name, inside, others, own_ids}
use Rattle.import_ids.specs.Ids.{named_id}
use Rattle.import_tree.specs.SeenBranches.{ways_seen}
use Rattle.import_tree.specs.declared.branches.Branch.{Branch}
use Rattle.import_tree.specs.declared.branches.Way.{Way}
use Rattle.import_tree.proofs.TakenApart.{AreParts, nothing_left, parts_left}
use Rattle.import_tree.proofs.depths.take_apart.Goals as goal

pub returns-in_default : goal.returns-in_default
returns-in_default c =
    let ps = ways_seen c.args.branch.ways.items in
    let all : ways_seen c.as_slice-2.result.now ≡ places_below ps =
    ap ways_seen c.as_slice-2.ensures.value ∙ c.in_ok-named.ensures.named ∙ ap (λ (ws : List Way). places_below (ways_seen ws)) c.as_slice.ensures.value in
    let first : first_name (places_below ps) ≡ None = ap first_name (sym all) ∙ sym c.in_default.ensures in
    nothing_left c.args.branch c.args.found.now _ first
    (c.in_ok-named.ensures.ids ∙ ap (λ (ws : List Way). c.args.found.now.ids.items ++ own_ids (ways_seen ws)) c.as_slice.ensures.value)
    refl refl

pub returns : goal.returns
returns c =
    let branch = c.args.branch in
    let old = c.args.found.now in
    let name = c.as_str-name.result.now in
    let ps = ways_seen branch.ways.items in
    let gives : ways_seen c.in_ok-named.named.items ≡ places_below ps = c.in_ok-named.ensures.named ∙ ap (λ (ws : List Way). places_below (ways_seen ws)) c.as_slice.ensures.value in
    let first : first_name (places_below ps) ≡ Some name =
    ap first_name (sym gives) ∙ ap (λ (ws : List Way). first_name (ways_seen ws)) (sym c.as_slice-2.ensures.value) ∙ sym c.in-Some.ensures ∙ ap (λ (n : List ℕ). Some n) (sym c.as_str-name.ensures) in
    let id : c.new_v5-id.result ≡ named_id branch.id name = c.new_v5-id.ensures.value ∙ ap (named_id branch.id) c.as_bytes.ensures.value in
    let all : ways_seen c.as_slice-3.result.now ≡ places_below ps = ap ways_seen c.as_slice-3.ensures.value ∙ gives in
    let parts = c.in_ok-parts.ensures in
    let one : Branch = record { id = c.new_v5-id.result; levels = c.saturating_sub.result; ways = c.in_ok-parts.parts.inside } in
    let rest : Branch = record { id = branch.id; levels = branch.levels; ways = c.in_ok-parts.parts.others } in
    let are : AreParts branch name one rest = record {
      one_id = id;
      one_levels = c.saturating_sub.ensures;
      one_ways = parts.0 ∙ ap (inside name) all;
      rest_id = refl;
      rest_levels = refl;
      rest_ways = parts.1 ∙ ap (others name) all;
    } in
    let own = c.in_ok-named.ensures.ids ∙ ap (λ (ws : List Way). old.ids.items ++ own_ids (ways_seen ws)) c.as_slice.ensures.value in
    parts_left branch old _ name one rest first are
    (c.in_ok-add_group.ensures.ids ∙ ap (λ (us : List NodeId). us ++ c.new_v5-id.result ∷ []) own ∙ ap (λ (u : NodeId). (old.ids.items ++ own_ids ps) ++ u ∷ []) id)
    (c.in_ok-add_group.ensures.deep ∙ ap (λ (u : NodeId). old.deep.items ++ deep_id branch.levels u) id)
    (c.in_ok-push-2.ensures.items ∙ ap (λ (bs : List Branch). bs ++ one ∷ []) (c.in_ok-push.ensures.items ∙ ap (λ (bs : List Branch). bs ++ rest ∷ []) c.in_ok-add_group.ensures.branches))
