-- What drops the newest version does not grow in what is current: the join with what was before has that version,
-- so that its time for the entry is a later one.
use Rattle.std.proofs.Common.{◌≡◌, ◌≤◌, ◌<◌, true, inl, inr, List, [], ◌∷◌, Some, None, codes, refl, sym, ap, subst, ◌∙◌, arith}
use Rattle.std.specs.FinMap.{contains_key, get}
use Rattle.std.specs.Option.{option_map}
use Rattle.vault_model.specs.Db.{Db, holds, newest, stamp_in, state_time}
use Rattle.vault_model.specs.Join.{Agreed, IsIn, IsPart, join, kept}
use Rattle.vault_model.specs.Plans.{begin, change}
use Rattle.vault_model.specs.SeenNodes.{entry_time}
use Rattle.vault_model.specs.Shape.{EntryRecord, GroupRecord, versions_of}
use Rattle.vault_model.specs.Tree.{BareDoc, IsDoc, db_in, shape_of}
use Rattle.vault_model.proofs.Tests.{or_left, some_is, some_of}
use Rattle.merge_core.specs.Example.{bank, edited, root}
use Rattle.merge_core.proofs.Facts.{held_by, own_from_alive}
use Rattle.merge_core.proofs.Laid.{db_entries, db_groups}
use Rattle.merge_core.proofs.MoreLaws.{kept_version}
use Rattle.merge_core.proofs.Regroup.{part_kept}
use Rattle.merge_core.proofs.SoundDoc.{db_tomb, document_sound, shape_entry, shape_group}
use Rattle.merge_core.proofs.Versions.{mark_newest}
use Rattle.tree_core.specs.After.{Holding}
use Rattle.tree_core.specs.Finding.{entry_found}
use Rattle.tree_core.specs.FurtherChanges.{no_further_change}
use Rattle.growth_laws.proofs.Stays.{versions_time}
use Rattle.history_laws.specs.Histories.{Event, after_event, schedule_step}
use Rattle.history_laws.proofs.CurrentJoin.{view_stamp}
use Rattle.history_laws.proofs.FreeLaws.{free_histories_agree}
use Rattle.command_laws.specs.Adding.{IsUnused}
use Rattle.command_laws.specs.Growing.{GrowsInCurrent, edited_mark}
use Rattle.command_laws.proofs.Commands.{adding_is_free, edit_adds}
use Rattle.command_laws.proofs.Edits.{edit_grows_in_current, edit_is_now}
use Rattle.edit_examples.specs.Cases.{new_notes, unedited}
use Rattle.edit_examples.specs.Newest.{ReplacingGrows, UndoingGrows}
use Rattle.edit_examples.proofs.Edited.{doc_after, doc_before, doc_earlier, earlier, earlier_made, edit_made, made_at, old, other_notes}

-- ---- the documents agree: two copies of one were edited

abbrev edits : List Event
edits = schedule_step (change 0 edited) ∷ schedule_step (change 1 earlier) ∷ []

nothing_drawn : (known : List Db) → IsUnused known None
nothing_drawn known x u h e = cc e

all_agree : Agreed (db_in earlier ∷ db_in edited ∷ db_in unedited ∷ [])
all_agree =
    let w = begin (λ _. unedited) in
    (free_histories_agree 128 (db_in unedited) (λ _. unedited) edits (record {
      sound = document_sound unedited doc_before;
      copies = λ i. refl;
      events = (
        edit_grows_in_current (codes "Bank") new_notes no_further_change 20 unedited edited doc_before doc_after edit_made,
        (edit_grows_in_current (codes "Bank") other_notes no_further_change 15 unedited earlier doc_before doc_earlier earlier_made, tt),
      );
      free = (
        adding_is_free w (db_in unedited ∷ []) 0 None edited doc_after
            (edit_adds (codes "Bank") new_notes no_further_change 20 unedited edited doc_before doc_after edit_made) (nothing_drawn (db_in unedited ∷ [])),
        (
          adding_is_free (after_event 128 w (schedule_step (change 0 edited))) (db_in edited ∷ db_in unedited ∷ []) 1 None earlier doc_earlier
              (edit_adds (codes "Bank") other_notes no_further_change 15 unedited earlier doc_before doc_earlier earlier_made) (nothing_drawn (db_in edited ∷ db_in unedited ∷ [])),
          tt,
        ),
      );
    })).0

-- ---- what the newest version says

-- the entry's time in a document is no later than that of its record
stamp_of : (d : BareDoc) → IsDoc d → (x : EntryRecord) → get (shape_of d).entries bank ≡ Some x → get (shape_of d).groups bank ≡ None → stamp_in (db_in d) bank ≤ entry_time x
unfolding stamp_in
stamp_of d isd x there none =
    let entries = ap newest (db_entries (shape_of d) bank ∙ ap (option_map versions_of) there) in
    let groups = ap state_time (db_groups (shape_of d) bank ∙ ap (option_map (λ (g : GroupRecord). g.state)) none) in
    let last = versions_time x in
    omega (arith, entries, groups, last)

no_tomb : (n : Db) → IsIn n (db_in earlier ∷ db_in edited ∷ db_in unedited ∷ []) → get n.tombs bank ≡ None
no_tomb n (inl p) = ap (λ (m : Db). get m.tombs bank) (sym p) ∙ db_tomb earlier doc_earlier bank
no_tomb n (inr (inl p)) = ap (λ (m : Db). get m.tombs bank) (sym p) ∙ db_tomb edited doc_after bank
no_tomb n (inr (inr (inl p))) = ap (λ (m : Db). get m.tombs bank) (sym p) ∙ db_tomb unedited doc_before bank
no_tomb n (inr (inr (inr z))) = absurd z

abbrev held : Holding
held = record { group = root; entry = (bank, old) }

module _ (e : BareDoc) (isd : IsDoc e) (member : IsIn (db_in e) (db_in earlier ∷ db_in edited ∷ db_in unedited ∷ [])) where
  abbrev both : List Db
  both = db_in edited ∷ db_in e ∷ []

  part : IsPart both (db_in earlier ∷ db_in edited ∷ db_in unedited ∷ [])
  part = (
    tt,
    λ m h. elim h [
      | inl p ↦ inr (inl p)
      | inr i ↦ elim i [ inl p ↦ subst (λ (n : Db). IsIn n (db_in earlier ∷ db_in edited ∷ db_in unedited ∷ [])) p member | inr z ↦ absurd z ]
    ],
  )

  is_kept : kept both bank ≡ true
  unfolding entry_found
  is_kept =
      let now = edit_is_now (codes "Bank") new_notes no_further_change 20 20 held unedited edited doc_before doc_after refl refl edit_made in
      let there : holds (db_in edited) bank ≡ true = or_left (contains_key (db_in edited).entries bank) (contains_key (db_in edited).groups bank) (some_is (get (db_in edited).entries bank) now.versions now.entry) in
      part_kept (db_in earlier ∷ db_in edited ∷ db_in unedited ∷ []) both all_agree part bank
      ∙ own_from_alive all_agree.compatible both part bank (held_by both (db_in edited) bank (inl refl) there) (λ n h. no_tomb n (part.1 n h))

  -- the join has the version of 20
  newer : 20 ≤ stamp_in (join both) bank
  unfolding stamp_in entry_found
  newer =
      let now = edit_is_now (codes "Bank") new_notes no_further_change 20 20 held unedited edited doc_before doc_after refl refl edit_made in
      let k = edited_mark unedited new_notes no_further_change 20 old in
      let s = some_of (get now.versions k) now.there in
      let there = kept_version both (db_in edited) bank now.versions k s.0 (inl refl) is_kept now.entry s.1 in
      let last = mark_newest there.versions k there.stats there.version in
      let entries = ap newest there.entry in
      omega (arith, entries, last)

  pub no_growth : stamp_in (db_in e) bank < 20 → GrowsInCurrent edited e → ⊥
  no_growth less grows =
      let one = view_stamp (join both) bank in
      let same = ap (λ (m : Db). stamp_in m bank) grows in
      let two = view_stamp (db_in e) bank in
      let high = newer in
      omega (arith, one, same, two, high, less)

old_stamp : stamp_in (db_in unedited) bank < 20
old_stamp = let low = stamp_of unedited doc_before old (shape_entry unedited doc_before bank) (shape_group unedited doc_before bank) in omega (arith, low)

early_stamp : stamp_in (db_in earlier) bank < 20
early_stamp =
    let low = stamp_of earlier doc_earlier (record old { current = made_at 15 other_notes; history = old.current ∷ [] }) (shape_entry earlier doc_earlier bank) (shape_group earlier doc_earlier bank) in
    omega (arith, low)

pub undoing_fails : ¬ UndoingGrows
undoing_fails law = no_growth unedited doc_before (inr (inr (inl refl))) old_stamp (law root bank edited doc_after doc_before)

pub replacing_fails : ¬ ReplacingGrows
replacing_fails law = no_growth earlier doc_earlier (inl refl) early_stamp (law (made_at 15 other_notes) root bank edited doc_after doc_earlier)
