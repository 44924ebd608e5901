-- How many levels the tree of a draft has.
use Rattle.std.proofs.Common.{◌≡◌, ◌≤◌, ◌-◌, ℕ, suc, Bool, true, false, cond, List, [], ◌∷◌, length, map, arith}
use Rattle.std.specs.List.{list_any}
use Rattle.std.specs.Str.{bytes_eq}
use Rattle.vault_model.specs.Db.{NodeId}
use Rattle.vault_model.specs.Shape.{EntryRecord}
use Rattle.vault_model.specs.Tree.{LEVELS, Tree, Trees, beside, height, height_all, node, none}
use Rattle.vault_model.specs.Walk.{name_of}
use Rattle.vault_model.proofs.Tests.{or_false}
use Rattle.import_ids.specs.Ids.{named_id}
use Rattle.import_tree.specs.SeenDrafts.{has_more_names, placed_seen}
use Rattle.import_tree.specs.Trees.{new_groups, with_all_placed, with_rows, with_rows_among}
use Rattle.import_tree.specs.declared.drafts.ImportedPlace.{ImportedPlace}
use Rattle.std.proofs.lemmas.Bool.{ltb-false}

either_height : (n : ℕ) (b : Bool) (xs ys : Trees) → height_all xs ≤ n → height_all ys ≤ n → height_all (cond b xs ys) ≤ n
either_height n true xs ys p q = p
either_height n false xs ys p q = q

module _ (now : ℕ) (e : List (NodeId × EntryRecord)) where
  new_height : (parent : NodeId) (name : List ℕ) (names : List (List ℕ)) → height (new_groups now parent name names e) ≤ suc (length names)
  new_height parent name [] = omega arith
  new_height parent name (next ∷ names) = let below = new_height (named_id parent name) next names in omega (arith, below)

  mutual
    height_with : (n : ℕ) (names : List (List ℕ)) (t : Tree) → suc (length names) ≤ n → height t ≤ n → height (with_rows now names e t) ≤ n
    height_with n [] (node id r es ts) fits h = h
    height_with n (name ∷ names) (node id r es ts) fits h =
        let below = height_among (n - 1) id name names ts (omega (arith, fits)) (omega (arith, h)) in
        omega (arith, below, fits)

    height_among : (n : ℕ) (parent : NodeId) (name : List ℕ) (names : List (List ℕ)) (ts : Trees) → suc (length names) ≤ n → height_all ts ≤ n → height_all (with_rows_among now parent name names e ts) ≤ n
    height_among n parent name names none fits h = let new = new_height parent name names in omega (arith, new, fits)
    height_among n parent name names (beside t ts) fits h =
        let here = height_with n names t fits (omega (arith, h)) in
        let rest = height_among n parent name names ts fits (omega (arith, h)) in
        either_height n (bytes_eq (name_of t) name) (beside (with_rows now names e t) ts) (beside t (with_rows_among now parent name names e ts))
        (omega (arith, here, h)) (omega (arith, rest, h))

-- places to which few names lead give few levels
pub few_levels : (ps : List ImportedPlace) (t : Tree) → list_any has_more_names ps ≡ false → height t ≤ LEVELS → height (with_all_placed (map placed_seen ps) t) ≤ LEVELS
few_levels [] t few h = h
few_levels (p ∷ ps) t few h =
    let both = or_false (has_more_names p) (list_any has_more_names ps) few in
    let fits : length p.names ≤ 127 = ltb-false 127 (length p.names) both.0 in
    few_levels ps (with_rows p.moment p.names (placed_seen p).rows t) both.1 (height_with p.moment (placed_seen p).rows LEVELS p.names t (omega (arith, fits)) h)
