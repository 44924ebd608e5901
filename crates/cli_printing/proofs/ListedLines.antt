-- Listings as lines.
use Rattle.std.proofs.Common.{◌≡◌, inl, inr, ℕ, suc, ◌+◌, Bool, true, false, List, [], ◌∷◌, ◌++◌, codes, flat_map, length, map, refl, sym, ap, ◌∙◌, append_assoc, append-nil, arith, subst}
use Rattle.std.proofs.lemmas.List.Concat.{flat_map-append}
use Rattle.vault_model.specs.Db.{NodeId}
use Rattle.vault_model.specs.Shape.{EntryRecord}
use Rattle.vault_model.specs.Tree.{Tree, Trees, id_of, node, none, beside, ids_of}
use Rattle.vault_model.specs.Walk.{name_of, title_of}
use Rattle.cli_printing.specs.Listing.{front_below, group_lines, name_lines, name_listed, title_lines}
use Rattle.cli_printing.specs.Laws.{IsAmong, IsPart, LeadTo, child_count, children_named, front_along, lines_of, listed_name, listed_names, paths_among, paths_below, slashed_name, titles_of}

-- A text on a line after a prefix.
abbrev line : List ℕ → List ℕ → List ℕ
line front text = (front ++ text) ++ codes "\n"

titles_listed : (ids : Bool) (front : List ℕ) (entries : List (NodeId × EntryRecord))
    → title_lines ids front entries ≡ lines_of front (titles_of ids entries)
titles_listed ids front [] = refl
titles_listed ids front (e ∷ entries) =
    ap (λ (l : List ℕ). line front (name_listed ids e.0 (title_of e.1)) ++ l) (titles_listed ids front entries)

slash_joined : (front name : List ℕ) → (front ++ name) ++ codes "/\n" ≡ line front (name ++ codes "/")
slash_joined front name =
    sym (append_assoc (front ++ name) (codes "/") (codes "\n"))
    ∙ ap (λ (l : List ℕ). l ++ codes "\n") (append_assoc front name (codes "/"))

names_listed : (flat ids : Bool) (front : List ℕ) (groups : Trees)
    → name_lines false flat ids front groups ≡ lines_of front (listed_names ids groups)
names_listed flat ids front none = refl
names_listed flat ids front (beside tree trees) =
    let name = name_listed ids (id_of tree) (name_of tree) in
    ap (λ (l : List ℕ). l ++ name_lines false flat ids front trees) (append-nil ((front ++ name) ++ codes "/\n") ∙ slash_joined front name)
    ∙ ap (λ (l : List ℕ). line front (listed_name ids tree) ++ l) (names_listed flat ids front trees)

-- A listing that does not go down.
pub children_listed : (flat ids : Bool) (front : List ℕ) (tree : Tree)
    → group_lines false flat ids front tree ≡ lines_of front (children_named ids tree)
children_listed flat ids front (node id group entries groups) =
    ap (λ (l : List ℕ). l ++ name_lines false flat ids front groups) (titles_listed ids front entries)
    ∙ ap (λ (l : List ℕ). lines_of front (titles_of ids entries) ++ l) (names_listed flat ids front groups)
    ∙ sym (flat_map-append (line front) (titles_of ids entries) (listed_names ids groups))

names_counted : (ids : Bool) (groups : Trees) → length (listed_names ids groups) ≡ length (ids_of groups)
names_counted ids none = refl
names_counted ids (beside tree trees) = ap suc (names_counted ids trees)

both_counted : (ids : Bool) (entries : List (NodeId × EntryRecord)) (groups : Trees)
    → length (titles_of ids entries ++ listed_names ids groups) ≡ length entries + length (ids_of groups)
both_counted ids [] groups = names_counted ids groups ∙ omega arith
both_counted ids (e ∷ entries) groups = let rest = both_counted ids entries groups in omega (arith, rest)

-- The children that a listing names.
pub children_counted : (ids : Bool) (tree : Tree) → length (children_named ids tree) ≡ child_count tree
children_counted ids (node id group entries groups) = both_counted ids entries groups

-- The end of a prefix may be the beginning of each path.
lines_moved : (front step : List ℕ) (paths : List (List ℕ)) → lines_of (front ++ step) paths ≡ lines_of front (map (λ path. step ++ path) paths)
lines_moved front step [] = refl
lines_moved front step (path ∷ paths) =
    ap (λ (l : List ℕ). (l ++ codes "\n") ++ lines_of (front ++ step) paths) (append_assoc front step path)
    ∙ ap (λ (l : List ℕ). line front (step ++ path) ++ l) (lines_moved front step paths)

mutual
  -- A listing that goes down and has paths.
  pub paths_listed : (ids : Bool) (front : List ℕ) (tree : Tree) → group_lines true true ids front tree ≡ lines_of front (paths_below ids tree)
  paths_listed ids front (node id group entries groups) =
      ap (λ (l : List ℕ). l ++ name_lines true true ids front groups) (titles_listed ids front entries)
      ∙ ap (λ (l : List ℕ). lines_of front (titles_of ids entries) ++ l) (all_paths_listed ids front groups)
      ∙ sym (flat_map-append (line front) (titles_of ids entries) (paths_among ids groups))

  -- The same of groups side by side.
  all_paths_listed : (ids : Bool) (front : List ℕ) (groups : Trees) → name_lines true true ids front groups ≡ lines_of front (paths_among ids groups)
  all_paths_listed ids front none = refl
  all_paths_listed ids front (beside tree trees) =
      ap (λ (l : List ℕ). (l ++ group_lines true true ids ((front ++ name_of tree) ++ codes "/") tree) ++ name_lines true true ids front trees)
      (slash_joined front (name_listed ids (id_of tree) (name_of tree)))
      ∙ ap (λ (l : List ℕ). (line front (listed_name ids tree) ++ l) ++ name_lines true true ids front trees)
      (paths_listed ids ((front ++ name_of tree) ++ codes "/") tree
      ∙ ap (λ (l : List ℕ). lines_of l (paths_below ids tree)) (append_assoc front (name_of tree) (codes "/"))
      ∙ lines_moved front (slashed_name tree) (paths_below ids tree))
      ∙ ap (λ (l : List ℕ). lines_of front (listed_name ids tree ∷ map (λ path. slashed_name tree ++ path) (paths_below ids tree)) ++ l)
      (all_paths_listed ids front trees)
      ∙ sym (flat_map-append (line front) (listed_name ids tree ∷ map (λ path. slashed_name tree ++ path) (paths_below ids tree)) (paths_among ids trees))

-- A part of a part is a part.
part_of_part : (a b c : List ℕ) → IsPart a b → IsPart b c → IsPart a c
part_of_part a b c (u, v, e) (x, y, f) = (
  x ++ u,
  v ++ y,
  f ∙ ap (λ (l : List ℕ). (x ++ l) ++ y) e
      ∙ ap (λ (l : List ℕ). l ++ y) (sym (append_assoc x (u ++ a) v))
      ∙ append_assoc (x ++ (u ++ a)) v y
      ∙ ap (λ (l : List ℕ). l ++ (v ++ y)) (sym (append_assoc x u a)),
)

-- What comes last is a part.
last_part : (before part : List ℕ) → IsPart part (before ++ part)
last_part before part = (before, [], sym (append-nil (before ++ part)))

-- A group is listed in the listing of the groups beside it.
among_listed : (flat ids : Bool) (front : List ℕ) (child : Tree) (groups : Trees) → IsAmong child groups
    → IsPart (group_lines true flat ids (front_below flat front (name_of child)) child) (name_lines true flat ids front groups)
among_listed flat ids front child none h = absurd (let no : true ≡ false → ⊥ = λ p. cc p in no h)
among_listed flat ids front child (beside tree trees) (inl same) =
    rw same ((front ++ name_listed ids (id_of tree) (name_of tree)) ++ codes "/\n", name_lines true flat ids front trees, refl)
among_listed flat ids front child (beside tree trees) (inr h) =
    part_of_part _ (name_lines true flat ids front trees) _ (among_listed flat ids front child trees h) (last_part _ (name_lines true flat ids front trees))

-- A prefix one level down.
level_down : (flat : Bool) (front name : List ℕ) → front_below flat front name ≡ front ++ front_below flat [] name
level_down true front name = append_assoc front name (codes "/")
level_down false front name = refl

-- A prefix more levels down.
levels_down : (flat : Bool) (front name : List ℕ) (names : List (List ℕ))
    → front_along flat (front_below flat front name) names ≡ front_along flat front (name ∷ names)
levels_down flat front name names =
    ap (λ (l : List ℕ). l ++ flat_map (λ n. front_below flat [] n) names) (level_down flat front name)
    ∙ append_assoc front (front_below flat [] name) (flat_map (λ n. front_below flat [] n) names)

-- A group below is listed in the listing of a group.
pub below_listed : (flat ids : Bool) (front : List ℕ) (names : List (List ℕ)) (tree group : Tree) → LeadTo names tree group
    → IsPart (group_lines true flat ids (front_along flat front names) group) (group_lines true flat ids front tree)
below_listed flat ids front [] tree group same =
    rw same (rw (append-nil front) (last_part [] (group_lines true flat ids front tree)))
below_listed flat ids front (name ∷ names) (node id row entries groups) group (child, among, named, leads) =
    let below : IsPart (group_lines true flat ids (front_along flat (front_below flat front name) names) group)
    (group_lines true flat ids (front_below flat front name) child) = below_listed flat ids (front_below flat front name) names child group leads in
    let here : IsPart (group_lines true flat ids (front_below flat front name) child) (name_lines true flat ids front groups) =
    subst (λ (n : List ℕ). IsPart (group_lines true flat ids (front_below flat front n) child) (name_lines true flat ids front groups)) named
    (among_listed flat ids front child groups among) in
    subst (λ (l : List ℕ). IsPart (group_lines true flat ids l group) (group_lines true flat ids front (node id row entries groups)))
    (levels_down flat front name names)
    (part_of_part _ _ _ below (part_of_part _ _ _ here (last_part (title_lines ids front entries) (name_lines true flat ids front groups))))
