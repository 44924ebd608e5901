use Rattle.std.proofs.Common.{◌≡◌, ◌<◌, ◌+◌, ◌++◌, ◌∷◌, [], ℕ, List, length, drop, get_or, append_assoc, ap, sym, ◌∙◌}
use Rattle.std.proofs.lemmas.List.{drop_more}
use Rattle.import_tree.specs.Branches.{inside, others}
use Rattle.import_tree.specs.SeenBranches.{way_seen, ways_seen}
use Rattle.import_tree.specs.Trees.{Placed}
use Rattle.import_tree.specs.declared.branches.Way.{Way}
use Rattle.import_tree.proofs.Apart.{inside_with, other_with}
use Rattle.import_tree.proofs.branches.parted.Goals as goal

module _ (name : List ℕ) (ways : List Way) (k : ℕ) (way : Way) (within : k < length ways) (is : way ≡ get_or ways k way) where
  abbrev rest : List Placed
  rest = ways_seen (drop (k + 1) ways)

  opened : drop k ways ≡ way ∷ drop (k + 1) ways
  opened = drop_more ways k way within ∙ ap (λ (w : Way). w ∷ drop (k + 1) ways) (sym is)

  inside_more : (total so_far new : List Placed) → total ≡ so_far ++ inside name (ways_seen (drop k ways))
      → new ≡ so_far ++ inside name (way_seen way ∷ []) → total ≡ new ++ inside name rest
  inside_more total so_far new before more =
      before
      ∙ ap (λ (ws : List Way). so_far ++ inside name (ways_seen ws)) opened
      ∙ ap (λ (ps : List Placed). so_far ++ ps) (inside_with name way.names.now (way_seen way) (inside name rest))
      ∙ sym (append_assoc so_far (inside name (way_seen way ∷ [])) (inside name rest))
      ∙ ap (λ (ps : List Placed). ps ++ inside name rest) (sym more)

  others_more : (total so_far new : List Placed) → total ≡ so_far ++ others name (ways_seen (drop k ways))
      → new ≡ so_far ++ others name (way_seen way ∷ []) → total ≡ new ++ others name rest
  others_more total so_far new before more =
      before
      ∙ ap (λ (ws : List Way). so_far ++ others name (ways_seen ws)) opened
      ∙ ap (λ (ps : List Placed). so_far ++ ps) (other_with name way.names.now (way_seen way) (others name rest))
      ∙ sym (append_assoc so_far (others name (way_seen way ∷ [])) (others name rest))
      ∙ ap (λ (ps : List Placed). ps ++ others name rest) (sym more)

pub loop-way-preserved : goal.loop-way-preserved
loop-way-preserved c =
    let name = c.args.name.now in
    let ways = c.args.ways.now in
    let k = c.loop-way.way-index in
    let way = c.way-item.result in
    let before = c.loop-way.invariant in
    record {
      inside_are = inside_more name ways k way c.loop-way-test.true c.way-item.is _ _ _ before.inside_are c.in_ok-add_part.ensures.inside;
      others_are = others_more name ways k way c.loop-way-test.true c.way-item.is _ _ _ before.others_are c.in_ok-add_part.ensures.others;
    }
