-- A version put into its place among versions that rise, and the versions of an entry exchanged.
use Rattle.std.specs.Prelude.{◌≡◌, Bool, true, List, [], ◌∷◌, map}
use Rattle.std.specs.FinMap.{entries}
use Rattle.std.specs.Ordering.{is_gt}
use Rattle.vault_model.specs.Db.{NodeId, Versions, mark_cmp}
use Rattle.vault_model.specs.Join.{stats_join}
use Rattle.vault_model.specs.Shape.{BareVersion, version_of}
use Rattle.vault_model.specs.Tree.{BareDoc}
use Rattle.tree_core.specs.Changes.{changed_at, changed_entry}
use Rattle.tree_core.specs.InOrder.{put_in_order}

-- versions with one more in its place; of one mark they are made one
abbrev pub put_version : BareVersion → List BareVersion → List BareVersion
put_version v versions = put_in_order (λ (w : BareVersion). mark_cmp v.mark w.mark) v
    (λ (w : BareVersion). record w { stats = stats_join v.stats w.stats }) versions

-- versions in rising order, each of its own mark: those of a map
abbrev pub AreRising : List BareVersion → Type 0
AreRising versions = (all : Versions) × (versions ≡ map version_of (entries all))

-- a version is greater than the last of some others, where there is one
abbrev pub is_above : BareVersion → List BareVersion → Bool
is_above v [] = true
is_above v (w ∷ []) = is_gt (mark_cmp v.mark w.mark)
is_above v (w ∷ x ∷ xs) = is_above v (x ∷ xs)

-- a document in which an entry in a group has other versions
abbrev pub with_versions : (group id : NodeId) → BareVersion → List BareVersion → BareDoc → BareDoc
with_versions group id current history d = record d {
  tree = changed_at group (changed_entry id (λ e. record e {
    current = current;
    history = history;
  })) d.tree;
}
