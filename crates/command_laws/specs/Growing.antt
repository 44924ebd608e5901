-- Entries that come to say something else grow in what is current, whatever old versions are
-- dropped.
use Rattle.std.specs.Prelude.{◌≡◌, ℕ, Bool, List, [], ◌∷◌, Result, Ok, Some}
use Rattle.vault_model.specs.declared.metas.Meta.{Meta}
use Rattle.vault_model.specs.Bare.{BareContent}
use Rattle.vault_model.specs.Db.{Mark, NodeId}
use Rattle.vault_model.specs.Join.{join}
use Rattle.vault_model.specs.Plans.{World, change}
use Rattle.vault_model.specs.SeenNodes.{entry_time}
use Rattle.vault_model.specs.Shape.{BareVersion, EntryRecord, versions_of}
use Rattle.vault_model.specs.Tree.{BareDoc, IsDoc, db_in}
use Rattle.tree_core.specs.After.{Holding, after_attach, after_change, after_detach, after_edit, after_restore, edited_so, entry_named, time_after}
use Rattle.tree_core.specs.declared.fails.TreeFail.{TreeFail}
use Rattle.tree_core.specs.Changes.{changed_at, changed_entry}
use Rattle.tree_core.specs.FurtherChanges.{FurtherChange}
use Rattle.tree_core.specs.Histories.{version_numbered}
use Rattle.tree_core.specs.NewNodes.{GivenValues}
use Rattle.growth_laws.specs.Growth.{GrowsTo}
use Rattle.history_laws.specs.Current.{current_view, current}
use Rattle.history_laws.specs.Histories.{IsTrimmedEvent, schedule_step}
use Rattle.history_laws.specs.TwoEdits.{IsNow}

-- two records of an entry that differ in its history alone
pub record IsAlike (a b : EntryRecord) : Type 0 where
  pub placed : a.placed ≡ b.placed
  pub previous : a.previous ≡ b.previous
  pub shown : current (versions_of a) ≡ current (versions_of b)

-- an entry changed to one of two that are alike: the documents are alike in what is current
abbrev pub RelabelShows : Type 0
RelabelShows = (d : BareDoc) (g u : NodeId) (a b : EntryRecord) → IsAlike a b
    → IsDoc (record d { tree = changed_at g (changed_entry u (λ _. a)) d.tree })
    → IsDoc (record d { tree = changed_at g (changed_entry u (λ _. b)) d.tree })
    → current_view (db_in (record d { tree = changed_at g (changed_entry u (λ _. a)) d.tree }))
    ≡ current_view (db_in (record d { tree = changed_at g (changed_entry u (λ _. b)) d.tree }))

-- the database of a document is that of another, grown in what is current
abbrev pub GrowsInCurrent : BareDoc → BareDoc → Type 0
GrowsInCurrent d e = current_view (join (db_in d ∷ db_in e ∷ [])) ≡ current_view (db_in e)

-- an entry comes to say something else, by what it said, whatever versions the limits of histories
-- drop
abbrev pub ChangeGrowsInCurrent : Type 0
ChangeGrowsInCurrent = (path : List ℕ) (allows : BareContent → Result (Unit {0}) TreeFail)
    (says : Meta → BareContent → BareContent) (now : ℕ) (d e : BareDoc) → IsDoc d → IsDoc e
    → after_change path allows says now d ≡ Ok e → GrowsInCurrent d e

-- an entry is edited, whatever versions the limits of histories drop
abbrev pub EditGrowsInCurrent : Type 0
EditGrowsInCurrent = (path : List ℕ) (values : GivenValues) (further : FurtherChange) (now : ℕ)
    (d e : BareDoc) → IsDoc d → IsDoc e → after_edit path values further now d ≡ Ok e
    → GrowsInCurrent d e

-- something is attached to an entry, whatever versions the limits of histories drop
abbrev pub AttachGrowsInCurrent : Type 0
AttachGrowsInCurrent = (path name bytes : List ℕ) (replaces : Bool) (now : ℕ) (d e : BareDoc)
    → IsDoc d → IsDoc e → after_attach path name bytes replaces now d ≡ Ok e → GrowsInCurrent d e

-- an attachment of an entry is taken away, whatever versions the limits of histories drop
abbrev pub DetachGrowsInCurrent : Type 0
DetachGrowsInCurrent = (path name : List ℕ) (now : ℕ) (d e : BareDoc) → IsDoc d → IsDoc e
    → after_detach path name now d ≡ Ok e → GrowsInCurrent d e

-- a version of an entry is restored, whatever versions the limits of histories drop
abbrev pub RestoreGrowsInCurrent : Type 0
RestoreGrowsInCurrent = (path : List ℕ) (number now : ℕ) (d e : BareDoc) → IsDoc d → IsDoc e
    → after_restore path number now d ≡ Ok e → GrowsInCurrent d e

-- what grows grows in what is current
abbrev pub GrowthIsInCurrent : Type 0
GrowthIsInCurrent = (d e : BareDoc) → GrowsTo d e → GrowsInCurrent d e

-- and what grows in what is current is an event where histories are trimmed
abbrev pub GrowthIsAnEvent : Type 0
GrowthIsAnEvent = (n : ℕ) (w : World) (i : ℕ) (e : BareDoc) → GrowsInCurrent (w i).doc e
    → IsTrimmedEvent n w (schedule_step (change i e))

-- the mark of the version that a change makes of an entry at a time
abbrev pub changed_mark : BareDoc → (Meta → BareContent → BareContent) → ℕ → EntryRecord → Mark
changed_mark d says time x =
    record { modified = time; content = says d.meta x.current.mark.content }

-- after a change the version that it made is the current one
abbrev pub ChangeIsNow : Type 0
ChangeIsNow = (path : List ℕ) (allows : BareContent → Result (Unit {0}) TreeFail)
    (says : Meta → BareContent → BareContent) (now time : ℕ) (held : Holding) (d e : BareDoc)
    → IsDoc d → IsDoc e → entry_named path d ≡ Ok held
    → time_after now (entry_time held.entry.1) ≡ Ok time
    → after_change path allows says now d ≡ Ok e
    → IsNow (db_in e) held.entry.0 (changed_mark d says time held.entry.1)

-- the mark of the version that an edit makes of an entry at a time
abbrev pub edited_mark : BareDoc → GivenValues → FurtherChange → ℕ → EntryRecord → Mark
edited_mark d values further = changed_mark d (edited_so values further)

-- after an edit the version that it made is the current one
abbrev pub EditIsNow : Type 0
EditIsNow = (path : List ℕ) (values : GivenValues) (further : FurtherChange) (now time : ℕ)
    (held : Holding) (d e : BareDoc) → IsDoc d → IsDoc e → entry_named path d ≡ Ok held
    → time_after now (entry_time held.entry.1) ≡ Ok time
    → after_edit path values further now d ≡ Ok e
    → IsNow (db_in e) held.entry.0 (edited_mark d values further time held.entry.1)

-- the mark of the version that says at a time what another says
abbrev pub restored_mark : BareVersion → ℕ → Mark
restored_mark version time = record { modified = time; content = version.mark.content }

-- after a version is restored the version that this made is the current one
abbrev pub RestoreIsNow : Type 0
RestoreIsNow = (path : List ℕ) (number now time : ℕ) (held : Holding) (version : BareVersion)
    (d e : BareDoc) → IsDoc d → IsDoc e → entry_named path d ≡ Ok held
    → version_numbered number held.entry.1 ≡ Some version
    → time_after now (entry_time held.entry.1) ≡ Ok time → after_restore path number now d ≡ Ok e
    → IsNow (db_in e) held.entry.0 (restored_mark version time)
