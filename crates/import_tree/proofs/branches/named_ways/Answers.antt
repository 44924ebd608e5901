use Rattle.std.proofs.Common.{◌≡◌, ◌<◌, ◌+◌, ◌++◌, ◌∷◌, [], ℕ, List, length, drop, get_or, append_assoc, ap, sym, ◌∙◌}
use Rattle.std.proofs.lemmas.List.{drop_more}
use Rattle.vault_model.specs.Db.{NodeId}
use Rattle.import_tree.specs.Branches.{places_below, own_ids, own_rows}
use Rattle.import_tree.specs.SeenBranches.{way_seen, ways_seen}
use Rattle.import_tree.specs.SeenDrafts.{rows_seen}
use Rattle.import_tree.specs.Trees.{Placed}
use Rattle.import_tree.specs.declared.branches.Way.{Way}
use Rattle.import_tree.proofs.Apart.{named_with, own_ids_with}
use Rattle.import_tree.proofs.branches.named_ways.Goals as goal

module _ (ways : List Way) (k : ℕ) (way : Way) (within : k < length ways) (is : way ≡ get_or ways k way) where
  abbrev rest : List Placed
  rest = ways_seen (drop (k + 1) ways)

  opened : drop k ways ≡ way ∷ drop (k + 1) ways
  opened = drop_more ways k way within ∙ ap (λ (w : Way). w ∷ drop (k + 1) ways) (sym is)

  own_more : (total so_far new : List NodeId) → total ≡ so_far ++ own_ids (ways_seen (drop k ways))
      → new ≡ so_far ++ own_ids (way_seen way ∷ []) → total ≡ new ++ own_ids rest
  own_more total so_far new before more =
      before
      ∙ ap (λ (ws : List Way). so_far ++ own_ids (ways_seen ws)) opened
      ∙ ap (λ (us : List NodeId). so_far ++ us) (own_ids_with way.names.now (rows_seen way.place.now.entry) (own_rows rest))
      ∙ sym (append_assoc so_far (own_ids (way_seen way ∷ [])) (own_ids rest))
      ∙ ap (λ (us : List NodeId). us ++ own_ids rest) (sym more)

  named_more : (total so_far new : List Placed) → total ≡ so_far ++ places_below (ways_seen (drop k ways))
      → new ≡ so_far ++ places_below (way_seen way ∷ []) → total ≡ new ++ places_below rest
  named_more total so_far new before more =
      before
      ∙ ap (λ (ws : List Way). so_far ++ places_below (ways_seen ws)) opened
      ∙ ap (λ (ps : List Placed). so_far ++ ps) (named_with way.names.now (way_seen way) (places_below rest))
      ∙ sym (append_assoc so_far (places_below (way_seen way ∷ [])) (places_below rest))
      ∙ ap (λ (ps : List Placed). ps ++ places_below rest) (sym more)

pub loop-way-preserved : goal.loop-way-preserved
loop-way-preserved c =
    let ways = c.args.ways.now in
    let k = c.loop-way.way-index in
    let way = c.way-item.result in
    let before = c.loop-way.invariant in
    record {
      ids = own_more ways k way c.loop-way-test.true c.way-item.is _ _ _ before.ids c.in_ok-add_way.ensures.ids;
      named_are = named_more ways k way c.loop-way-test.true c.way-item.is _ _ _ before.named_are c.in_ok-add_way.ensures.named;
    }
