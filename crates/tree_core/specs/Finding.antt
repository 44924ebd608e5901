-- Which entry and which group a text names: by its id in braces, or by its path.
use Rattle.std.specs.Prelude.{ℕ, Bool, ◌||◌, ◌==◌, if◌then◌else◌, cond, List, [], ◌∷◌, ◌++◌, codes, Option, None, Some, is_some, bytes_eq}
use Rattle.std.specs.Io.BufRead.{strip_last}
use Rattle.std.specs.Option.{option_and_then}
use Rattle.uuid.specs.Text.{hyphenated_text, lower}
use Rattle.vault_model.specs.Db.{NodeId}
use Rattle.vault_model.specs.Tree.{BareDoc}
use Rattle.vault_model.specs.Walk.{Node, Walked, an_entry, a_group, walk}

-- a first choice, or else another
abbrev pub or_else : {A : Type 0} → Option A → Option A → Option A
or_else None other = other
or_else (Some x) other = Some x

-- what is found first along a list
abbrev pub first : {A B : Type 0} → (A → Option B) → List A → Option B
first found [] = None
first found (x ∷ xs) = or_else (found x) (first found xs)

-- the id of an entry, where it is one
abbrev pub entry_id : Node → Option NodeId
entry_id (an_entry id entry) = Some id
entry_id (a_group id group) = None

-- the id of a group, where it is one
abbrev pub group_id : Node → Option NodeId
group_id (an_entry id entry) = None
group_id (a_group id group) = Some id

-- the text by which an id names a node: the id as it is shown, in braces
abbrev pub id_name : NodeId → List ℕ
id_name id = codes "{" ++ hyphenated_text lower id ++ codes "}"

-- an id, where a text names it
abbrev pub id_named : List ℕ → NodeId → Option NodeId
id_named text id = cond (bytes_eq text (id_name id)) (Some id) None

-- an entry whose id a text names
abbrev pub entry_by_id : List ℕ → Walked → Option NodeId
entry_by_id text w = option_and_then (id_named text) (entry_id w.found)

-- a group whose id a text names
abbrev pub group_by_id : List ℕ → Walked → Option NodeId
group_by_id text w = option_and_then (id_named text) (group_id w.found)

-- an entry that a text names: the text is its path, or a slash and its path
abbrev pub entry_named : List ℕ → Walked → Option NodeId
entry_named text w = cond (bytes_eq text w.path || bytes_eq text (codes "/" ++ w.path))
    (entry_id w.found) None

-- the entry that a text names: the one whose id it names, and else the first in document order
-- whose path it is
unfoldable pub entry_found : BareDoc → List ℕ → Option NodeId
entry_found doc text =
    or_else (first (entry_by_id text) (walk doc)) (first (entry_named text) (walk doc))

-- a text without one slash at its start
abbrev pub without_front : List ℕ → List ℕ
without_front [] = []
without_front (b ∷ bs) = if b == 47 then bs else b ∷ bs

-- a text without one slash at its start and one at its end
abbrev pub without_slashes : List ℕ → List ℕ
without_slashes text = strip_last 47 (without_front text)

-- a group whose path is a text
abbrev pub group_named : List ℕ → Walked → Option NodeId
group_named text w = cond (bytes_eq text w.path) (group_id w.found) None

-- the group whose path a text is, but for slashes: the first in document order. The empty text is
-- the root's path.
unfoldable pub group_at_path : BareDoc → List ℕ → Option NodeId
group_at_path doc text = first (group_named (without_slashes text)) (walk doc)

-- the group that a text names: the one whose id it names, and else the one whose path it is
unfoldable pub group_found : BareDoc → List ℕ → Option NodeId
group_found doc text =
    or_else (first (group_by_id (without_slashes text)) (walk doc)) (group_at_path doc text)

-- an entry whose path is a text
abbrev pub entry_at : List ℕ → Walked → Option NodeId
entry_at text w = cond (bytes_eq text w.path) (entry_id w.found) None

-- some entry has this very path
unfoldable pub has_entry_path : BareDoc → List ℕ → Bool
has_entry_path doc path = is_some (first (entry_at path) (walk doc))

-- some group has this very path; the root's is empty
unfoldable pub has_group_path : BareDoc → List ℕ → Bool
has_group_path doc path = is_some (first (group_named path) (walk doc))
