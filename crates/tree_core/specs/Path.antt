-- What is left of a text after the names of groups that lead to a node.
use Rattle.std.specs.Prelude.{ℕ, Bool, false, ◌||◌, ◌==◌, if◌then◌else◌, cond, List, [], ◌∷◌, codes, Option, None, Some, bytes_eq}
use Rattle.std.specs.Option.{option_and_then}
use Rattle.vault_model.specs.Db.{NodeId}
use Rattle.vault_model.specs.Shape.{EntryRecord}
use Rattle.vault_model.specs.Tree.{Tree, Trees, beside, id_of, node, none}
use Rattle.vault_model.specs.Walk.{name_of, title_of}
use Rattle.tree_core.specs.Finding.{or_else}

-- a text after a prefix of it
abbrev pub strip_prefix : List ℕ → List ℕ → Option (List ℕ)
strip_prefix [] text = Some text
strip_prefix (b ∷ bs) [] = None
strip_prefix (b ∷ bs) (c ∷ cs) = if c == b then strip_prefix bs cs else None

-- what is left after a name and a slash
abbrev pub strip_component : List ℕ → Option (List ℕ) → Option (List ℕ)
strip_component name rest = option_and_then (strip_prefix (codes "/"))
    (option_and_then (strip_prefix name) rest)

-- this is left, and nothing else
abbrev pub is_exactly : List ℕ → Option (List ℕ) → Bool
is_exactly name None = false
is_exactly name (Some rest) = bytes_eq rest name

-- of entries the first of which one of two rests is the title
abbrev pub entry_among : Option (List ℕ) → Option (List ℕ) → List (NodeId × EntryRecord)
    → Option NodeId
entry_among rest other [] = None
entry_among rest other (e ∷ es) =
    cond (is_exactly (title_of e.1) rest || is_exactly (title_of e.1) other) (Some e.0)
    (entry_among rest other es)

-- of a group's entries and those below it the first that one of two rests names
abbrev mutual
  pub entry_in : Option (List ℕ) → Option (List ℕ) → Tree → Option NodeId
  entry_in rest other (node u r es ts) = or_else (entry_among rest other es)
      (entry_in_all rest other ts)

  -- the same of groups side by side
  pub entry_in_all : Option (List ℕ) → Option (List ℕ) → Trees → Option NodeId
  entry_in_all rest other none = None
  entry_in_all rest other (beside t ts) =
      or_else (entry_in (strip_component (name_of t) rest) (strip_component (name_of t) other) t)
      (entry_in_all rest other ts)

-- of the groups below a group the first that a rest names
abbrev mutual
  pub group_in : Option (List ℕ) → Tree → Option NodeId
  group_in rest (node u r es ts) = group_in_all rest ts

  -- the same of groups side by side
  pub group_in_all : Option (List ℕ) → Trees → Option NodeId
  group_in_all rest none = None
  group_in_all rest (beside t ts) =
      or_else (cond (is_exactly (name_of t) rest) (Some (id_of t))
      (group_in (strip_component (name_of t) rest) t)) (group_in_all rest ts)
