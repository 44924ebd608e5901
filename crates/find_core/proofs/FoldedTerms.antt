-- Terms that are folded once find what the terms do.
use Rattle.std.proofs.Common.{◌≡◌, ℕ, Bool, true, false, cond, ◌&&◌, List, [], ◌∷◌, ◌++◌, map, refl, ap, ap₂}
use Rattle.std.specs.List.{filter}
use Rattle.find_core.specs.Search.{all_match, entries_found, found_among, found_in, is_matched, is_searched, passing}
use Rattle.find_core.specs.inside.Found.{all_match_folded, folded_term}
use Rattle.find_references.specs.declared.terms.Term.{Term}
use Rattle.vault_model.specs.Db.{NodeId}
use Rattle.vault_model.specs.Shape.{EntryRecord}
use Rattle.vault_model.specs.Tree.{BareDoc, Tree, Trees, beside, node, none}

abbrev Row : Type 0
Row = NodeId × EntryRecord

abbrev Test : Type 0
Test = List ℕ → EntryRecord → Bool

pub folded_once : (terms : List Term) (group : List ℕ) (e : EntryRecord) → all_match_folded (map folded_term terms) group e ≡ all_match terms group e
folded_once [] group e = refl
folded_once (t ∷ terms) group e = ap (λ b. is_matched group e t && b) (folded_once terms group e)

-- tests that agree pass the same
pub passing_alike : (one other : Test) → ((name : List ℕ) (e : EntryRecord) → one name e ≡ other name e)
    → (name : List ℕ) (es : List Row) → passing one name es ≡ passing other name es
passing_alike one other alike name [] = refl
passing_alike one other alike name (e ∷ es) =
    by (one name e.1) (other name e.1) (alike name e.1) (passing_alike one other alike name es)
  where
    by : (a b : Bool) → a ≡ b → passing one name es ≡ passing other name es
        → map (λ (r : Row). r.0) (cond a (e ∷ filter (λ (r : Row). one name r.1) es) (filter (λ (r : Row). one name r.1) es))
        ≡ map (λ (r : Row). r.0) (cond b (e ∷ filter (λ (r : Row). other name r.1) es) (filter (λ (r : Row). other name r.1) es))
    by true true same rest = ap (λ l. e.0 ∷ l) rest
    by false false same rest = rest
    by true false same rest = cc
    by false true same rest = cc

mutual
  pub found_alike : (one other : Test) → ((name : List ℕ) (e : EntryRecord) → one name e ≡ other name e)
      → (above : Bool) (t : Tree) → found_in one above t ≡ found_in other above t
  found_alike one other alike above (node u r es ts) =
      ap₂ ◌++◌ (ap (λ l. cond (is_searched above r.state.content.searching) l []) (passing_alike one other alike r.state.content.name es))
      (all_found_alike one other alike (is_searched above r.state.content.searching) ts)

  pub all_found_alike : (one other : Test) → ((name : List ℕ) (e : EntryRecord) → one name e ≡ other name e)
      → (above : Bool) (ts : Trees) → found_among one above ts ≡ found_among other above ts
  all_found_alike one other alike above none = refl
  all_found_alike one other alike above (beside t ts) =
      ap₂ ◌++◌ (found_alike one other alike above t) (all_found_alike one other alike above ts)

-- what folded terms find is what the terms find
pub found_once : (terms : List Term) (doc : BareDoc)
    → found_in (all_match_folded (map folded_term terms)) true doc.tree ≡ entries_found terms doc
unfolding entries_found
found_once terms doc =
    found_alike (all_match_folded (map folded_term terms)) (all_match terms) (folded_once terms) true doc.tree
