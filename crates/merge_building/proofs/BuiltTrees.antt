-- What is built of a group's rows is its tree.
use Rattle.std.proofs.Common.{◌≡◌, ◌<◌, ◌≤◌, ◌-◌, ℕ, zero, suc, List, [], ◌∷◌, ◌++◌, Option, Some, None, map, length, drop, refl, sym, ap, ◌∙◌, append-nil, append_assoc, drop_of_length-le, arith}
use Rattle.std.specs.FinMap.{FinMap, get}
use Rattle.vault_model.specs.declared.nodes.Group.{Group}
use Rattle.vault_model.specs.declared.nodes.Group.TheFolds.{fold-roll-Group}
use Rattle.vault_model.specs.declared.nodes.Group.TheOpen.{Group-F}
use Rattle.vault_model.specs.declared.nodes.Group.TheViews.{roll-Group}
use Rattle.vault_model.specs.Db.{NodeId, id_cmp}
use Rattle.vault_model.specs.SeenNodes.{entry_row, tree_seen, tree_step}
use Rattle.vault_model.specs.Shape.{GroupRecord, Shape, kids}
use Rattle.vault_model.specs.Tree.{Tree, all_trees, node, tree_of, with_record, with_records}

module _ {A : Type 0} where
  -- an id's record before the others
  pub record_first : (u : NodeId) (o : Option A) (rows : List (NodeId × A)) → with_record u o rows ≡ with_record u o [] ++ rows
  record_first u None rows = refl
  record_first u (Some r) rows = refl

  pub records_more : (m : FinMap id_cmp A) (so_far : List (NodeId × A)) (u : NodeId) (us : List NodeId)
      → so_far ++ with_records m (u ∷ us) ≡ (so_far ++ with_record u (get m u) []) ++ with_records m us
  records_more m so_far u us =
      ap (λ (rows : List (NodeId × A)). so_far ++ rows) (record_first u (get m u) (with_records m us))
      ∙ sym (append_assoc so_far (with_record u (get m u) []) (with_records m us))

-- the trees of the groups of some ids, so many levels down
abbrev pub trees : Shape → ℕ → List NodeId → List Tree
trees s n us = map (λ (c : NodeId × GroupRecord). tree_of s n c.0 c.1) (with_records s.groups us)

pub trees_some : (s : Shape) (n : ℕ) (u : NodeId) (r : GroupRecord) (us : List NodeId) → get s.groups u ≡ Some r → trees s n (u ∷ us) ≡ tree_of s n u r ∷ trees s n us
trees_some s n u r us e = ap (λ o. map (λ (c : NodeId × GroupRecord). tree_of s n c.0 c.1) (with_record u o (with_records s.groups us))) e

pub trees_none : (s : Shape) (n : ℕ) (u : NodeId) (us : List NodeId) → get s.groups u ≡ None → trees s n (u ∷ us) ≡ trees s n us
trees_none s n u us e = ap (λ o. map (λ (c : NodeId × GroupRecord). tree_of s n c.0 c.1) (with_record u o (with_records s.groups us))) e

pub map_last : {A B : Type 0} (f : A → B) (xs : List A) (x : A) → map f (xs ++ x ∷ []) ≡ map f xs ++ f x ∷ []
map_last f [] x = refl
map_last f (y ∷ ys) x = ap (λ zs. f y ∷ zs) (map_last f ys x)

-- a group of some entries and groups is seen as the tree of its rows
pub built : (s : Shape) (n : ℕ) (g : Group-F Group) (r : GroupRecord) → 0 < n → record { placed = g.placed; previous = g.previous; state = g.state; view = g.view } ≡ r
    → map entry_row g.entries ≡ with_records s.entries (kids s g.id).entries → map tree_seen g.groups ≡ trees s (n - 1) (kids s g.id).groups
    → tree_seen (roll-Group g) ≡ tree_of s n g.id r
built s zero g r more row es gs = absurd (omega (arith, more))
built s (suc n) g r more row es gs =
    let less : suc n - 1 ≡ n = omega arith in
    fold-roll-Group Tree tree_step g ∙ (λ i. node g.id (row i) (es i) (all_trees ((gs ∙ ap (λ k. trees s k (kids s g.id).groups) less) i)))

pub built_last : (s : Shape) (n : ℕ) (g : Group-F Group) (r : GroupRecord) → n ≤ 0 → record { placed = g.placed; previous = g.previous; state = g.state; view = g.view } ≡ r
    → map entry_row g.entries ≡ with_records s.entries (kids s g.id).entries → g.groups ≡ []
    → tree_seen (roll-Group g) ≡ tree_of s n g.id r
built_last s zero g r none row es gs =
    fold-roll-Group Tree tree_step g ∙ (λ i. node g.id (row i) (es i) (all_trees (map tree_seen (gs i))))
built_last s (suc n) g r none row es gs = absurd (omega (arith, none))

-- ---- the loop over a group's groups

pub child_built : (s : Shape) (n : ℕ) (old new : List Group) (made : Group) (u : NodeId) (r : GroupRecord) (us items : List NodeId)
    → new ≡ old ++ made ∷ [] → tree_seen made ≡ tree_of s n u r → get s.groups u ≡ Some r
    → map tree_seen old ++ trees s n (u ∷ us) ≡ trees s n items → map tree_seen new ++ trees s n us ≡ trees s n items
child_built s n old new made u r us items last is there before =
    ap (λ (gs : List Group). map tree_seen gs ++ trees s n us) last
    ∙ ap (λ (ts : List Tree). ts ++ trees s n us) (map_last tree_seen old made)
    ∙ append_assoc (map tree_seen old) (tree_seen made ∷ []) (trees s n us)
    ∙ ap (λ (t : Tree). map tree_seen old ++ t ∷ trees s n us) is
    ∙ ap (λ (ts : List Tree). map tree_seen old ++ ts) (sym (trees_some s n u r us there))
    ∙ before

pub child_absent : (s : Shape) (n : ℕ) (old new : List Group) (u : NodeId) (us items : List NodeId) → new ≡ old → get s.groups u ≡ None
    → map tree_seen old ++ trees s n (u ∷ us) ≡ trees s n items → map tree_seen new ++ trees s n us ≡ trees s n items
child_absent s n old new u us items same absent before =
    ap (λ (gs : List Group). map tree_seen gs ++ trees s n us) same ∙ ap (λ (ts : List Tree). map tree_seen old ++ ts) (sym (trees_none s n u us absent)) ∙ before

pub children_built : (s : Shape) (n k : ℕ) (groups : List Group) (items : List NodeId) → length items ≤ k
    → map tree_seen groups ++ trees s n (drop k items) ≡ trees s n items → map tree_seen groups ≡ trees s n items
children_built s n k groups items end e =
    sym (append-nil (map tree_seen groups)) ∙ ap (λ (us : List NodeId). map tree_seen groups ++ trees s n us) (sym (drop_of_length-le items end)) ∙ e
