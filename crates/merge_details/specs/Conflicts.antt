-- The conflicts of a merge: the entries whose current version in the target is not that of the
-- result, and was not known to a source that held them.
use Rattle.std.specs.Prelude.{ℕ, Bool, false, not, ◌&&◌, if◌then◌else◌, List, Option, None, Some, map}
use Rattle.std.specs.declared.cmp.Ordering.{Ordering}
use Rattle.std.specs.FinMap.{FinMap, contains_key, entries, find, from_entries, insert}
use Rattle.std.specs.List.{filter, list_any}
use Rattle.std.specs.Ordering.{eq_by_cmp}
use Rattle.vault_model.specs.Db.{Mark, NodeId, id_cmp, mark_cmp}
use Rattle.vault_model.specs.Orders.{bytes_cmp, pair_cmp}
use Rattle.vault_model.specs.Shape.{EntryRecord, versions_of}
use Rattle.vault_model.specs.Tree.{BareDoc, entry_rows}
use Rattle.merge_details.specs.Paths.{path_in}
use Rattle.merge_details.specs.declared.conflict_tables.ConflictTimes.{ConflictTimes}

-- the entry of an id in a document, where there is one
abbrev pub entry_in : BareDoc → NodeId → Option EntryRecord
entry_in doc id = find id_cmp id (entry_rows doc.tree)

-- two versions are the same
abbrev pub same_mark : Mark → Mark → Bool
same_mark = eq_by_cmp mark_cmp

-- a version is among those of an entry, the current one and those before it
abbrev pub has_version : EntryRecord → Mark → Bool
has_version e mark = contains_key (versions_of e) mark

-- there is an entry, and it does not have this version
abbrev pub lacks_version : Mark → Option EntryRecord → Bool
lacks_version mark None = false
lacks_version mark (Some e) = not (has_version e mark)

-- What a document holds: at each id the entry, where there is one.
abbrev pub Holding : Type 0
Holding = NodeId → Option EntryRecord

-- The version of an entry that was current is not the one that is current now, and a source held
-- the entry without it.
abbrev pub is_overtaken : List Holding → NodeId → (new old : EntryRecord) → Bool
is_overtaken sources id new old = not (same_mark old.current.mark new.current.mark)
    && list_any (λ (held : Holding). lacks_version old.current.mark (held id)) sources

-- the same, where the target held the entry
abbrev pub is_overtaken_if : List Holding → NodeId → EntryRecord → Option EntryRecord → Bool
is_overtaken_if sources id new None = false
is_overtaken_if sources id new (Some old) = is_overtaken sources id new old

-- An entry of the result is in conflict, by what the target and the sources held.
abbrev pub is_conflict : Holding → List Holding → NodeId × EntryRecord → Bool
is_conflict target sources e = is_overtaken_if sources e.0 e.1 (target e.0)

-- when the current version of an entry was made, where there is an entry
abbrev pub current_time : Option EntryRecord → ℕ
current_time None = 0
current_time (Some e) = e.current.mark.modified

-- paths with ids, by which conflicts rise: by path, and of one path by id
abbrev pub key_cmp : List ℕ × NodeId → List ℕ × NodeId → Ordering
key_cmp = pair_cmp bytes_cmp id_cmp

-- a conflict: its path and its id, and when the version that is current now was made, and the one
-- that was current in the target
abbrev pub conflict_row : (NodeId → List ℕ) → Holding → NodeId × EntryRecord
    → (List ℕ × NodeId) × ConflictTimes
conflict_row path target e = (
  (path e.0, e.0),
  record { current = e.1.current.mark.modified; older = current_time (target e.0) },
)

-- the conflicts among these entries of the result, which have these paths
abbrev pub conflicts_among : (NodeId → List ℕ) → Holding → List Holding
    → List (NodeId × EntryRecord) → FinMap key_cmp ConflictTimes
conflicts_among path target sources rows =
    from_entries (map (conflict_row path target) (filter (is_conflict target sources) rows))

-- The conflicts of a merge of sources into a target: the entries of the result that are in conflict,
-- by rising path, and those of one path by rising id.
abbrev pub conflicts : BareDoc → List BareDoc → BareDoc
    → List ((List ℕ × NodeId) × ConflictTimes)
conflicts target sources new = entries
    (conflicts_among (path_in new) (entry_in target) (map entry_in sources) (entry_rows new.tree))

-- ---- how the code makes them

-- the conflicts with an entry of the result, if it is one
abbrev pub with_conflict : (NodeId → List ℕ) → Holding → List Holding → NodeId × EntryRecord
    → FinMap key_cmp ConflictTimes → FinMap key_cmp ConflictTimes
with_conflict path target sources e found = if is_conflict target sources e
    then insert found (conflict_row path target e).0 (conflict_row path target e).1 else found
