-- How the kept nodes are marked: from each own node up to the first that is marked already.
use Rattle.std.specs.Prelude.{ℕ, zero, suc, Bool, true, not, cond, ◌&&◌, List, [], ◌∷◌, Option, None, Some}
use Rattle.std.specs.FinMap.{FinMap, contains_key, insert}
use Rattle.std.specs.List.{list_any, filter}
use Rattle.std.specs.Option.{option_map}
use Rattle.vault_model.specs.Db.{NodeId, id_cmp, Db}
use Rattle.vault_model.specs.Join.{is_id, root_of, above, own, ids, path}

-- The ids that are marked.
abbrev pub Marks : Type 0
Marks = FinMap id_cmp Bool

-- an id is marked
abbrev pub is_marked : Marks → NodeId → Bool
is_marked t u = contains_key t u

-- how many steps up the first node is that passes a test: some were taken before, and at most so
-- many more are taken
abbrev pub climb : (NodeId → Bool) → (NodeId → NodeId) → ℕ → ℕ → NodeId → Option ℕ
climb test up taken zero u = cond (test u) (Some taken) None
climb test up taken (suc n) u = cond (test u) (Some taken) (climb test up (suc taken) n (up u))

-- so many nodes marked, a node and those above it
abbrev pub mark_up : List Db → ℕ → NodeId → Marks → Marks
mark_up S zero u t = t
mark_up S (suc n) u t = mark_up S n (above S u) (insert t u true)

-- an own node marked, with those above it up to the first that is marked; nothing where none is
-- within the limit
abbrev pub mark_own : List Db → ℕ → NodeId → Marks → Option Marks
mark_own S limit u t = cond (own S u) (option_map (λ n. mark_up S n u t)
    (climb (is_marked t) (above S) 0 limit u)) (Some t)

-- an own node whose path does not come to the root
abbrev pub is_stray : List Db → NodeId → Bool
is_stray S u = own S u && not (list_any (is_id (root_of S)) (path S u))

-- the first of some ids that passes a test
abbrev pub first_such : (NodeId → Bool) → List NodeId → Option NodeId
first_such test [] = None
first_such test (u ∷ us) = cond (test u) (Some u) (first_such test us)

-- all strays
abbrev pub strays : List Db → List NodeId
strays S = filter (is_stray S) (ids S)
