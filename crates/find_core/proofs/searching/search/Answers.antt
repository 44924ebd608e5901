use Rattle.std.proofs.Common.{◌≡◌, List, ◌++◌, Ok, map, true, sym, ap, ◌∙◌}
use Rattle.find_core.specs.Search.{found_in}
use Rattle.find_core.specs.inside.Found.{all_match_folded, folded_term}
use Rattle.find_core.proofs.FoldedTerms.{found_once}
use Rattle.vault_model.specs.Db.{NodeId}
use Rattle.vault_model.specs.SeenDoc.{doc_seen}
use Rattle.vault_model.specs.SeenNodes.{tree_seen}
use Rattle.find_core.proofs.searching.search.Goals as goal

pub returns : goal.returns
returns c =
    let tree = tree_seen c.args.doc.now.root in
    let folded : c.as_slice-2.result.now ≡ map folded_term c.args.terms.now =
    c.as_slice-2.ensures ∙ c.in_ok-terms.ensures ∙ ap (map folded_term) c.as_slice.ensures in
    ap (λ (ids : List NodeId). Ok ids)
    (sym (c.in_ok-add_found.ensures
    ∙ ap (λ l. l ++ found_in (all_match_folded c.as_slice-2.result.now) true tree) c.new-ids.ensures
    ∙ ap (λ ts. found_in (all_match_folded ts) true tree) folded
    ∙ found_once c.args.terms.now (doc_seen c.args.doc.now)))
