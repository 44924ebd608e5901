-- The version before an edit is the last of the history after it.
use Rattle.std.proofs.Common.{◌≡◌, ◌<◌, ◌==◌, ◌⊎◌, ◌+◌, ℕ, Bool, true, false, zero, suc, cond, inl, inr, List, [], ◌∷◌, Option, Some, None, map, length, reverse, is_some, refl, sym, ap, subst, ◌∙◌, arith, true≢false}
use Rattle.std.proofs.Math.Dec.{T}
use Rattle.std.proofs.lemmas.Bool.{lt-ltb}
use Rattle.std.proofs.lemmas.List.{length-map}
use Rattle.std.proofs.lemmas.Option.{same_Some, slice_get-map}
use Rattle.std.specs.declared.cmp.Ordering.TheVariants.{Less, Equal, Greater}
use Rattle.std.specs.FinMap.{entries, entries_sorted, find, get, get-entries, is_sorted}
use Rattle.std.specs.FinMap.Entries.{below_all}
use Rattle.std.specs.Option.{option_map}
use Rattle.std.specs.Ordering.{is_eq, is_lt, ordering_then}
use Rattle.std.specs.Prelude.{slice_get}
use Rattle.vault_model.specs.declared.contents.Stats.{Stats}
use Rattle.vault_model.specs.Db.{Mark, Versions, mark_cmp}
use Rattle.vault_model.specs.Join.{IsIn, stats_join}
use Rattle.vault_model.specs.Orders.{content_cmp}
use Rattle.vault_model.specs.SeenNodes.{entry_time}
use Rattle.vault_model.specs.Shape.{BareVersion, EntryRecord, version_of, versions_of}
use Rattle.vault_model.specs.Tree.{BareDoc, IsDoc}
use Rattle.vault_model.proofs.Orders.{mark_order}
use Rattle.merge_core.proofs.Semilattice.{some-gather}
use Rattle.merge_core.proofs.SoundDoc.{as_map, version_marks}
use Rattle.merge_core.proofs.Tables.{entry_get, get_single}
use Rattle.merge_core.proofs.Unite.{get-unite_all, tie, ties}
use Rattle.tree_core.specs.After.{changed_content, edited_so, entry_named, time_after}
use Rattle.tree_core.specs.FurtherChanges.{has_unset}
use Rattle.tree_core.specs.Histories.{rising_versions, version_numbered}
use Rattle.tree_core.proofs.Numbered.{from_end}
use Rattle.tree_edits.proofs.RisingVersions.{first, less, second}
use Rattle.growth_laws.proofs.Commands.{found}
use Rattle.growth_laws.proofs.Outcomes.{bind_ok, same_ok}
use Rattle.frame_laws.specs.Frame.{entry_of}
use Rattle.frame_laws.specs.Undoing.{IsNewest, RestoreUndoes, said_of}
use Rattle.frame_laws.proofs.EntryFrames.{found_named, is_entry, restore_frames, was_entry}

-- ---- the last of rows that rise

later : (j k : Mark) → j.modified < k.modified → mark_cmp j k ≡ Less
unfolding mark_cmp
later j k before =
    ap (λ b. ordering_then (cond b Less (cond (j.modified == k.modified) Equal Greater)) (content_cmp j.content k.content)) (lt-ltb j.modified k.modified before)

not_below : (k : Mark) → mark_cmp k k ≡ Less → ⊥
not_below k e = true≢false (sym (ties mark_order.total mark_order.same k) ∙ ap is_eq e)

-- what is found is at the head or behind it
pick : {A : Type 0} (b : Bool) (x : A) (o : Option A) → is_some (cond b (Some x) o) ≡ true → (b ≡ true) ⊎ (is_some o ≡ true)
pick true x o h = inl refl
pick false x o h = inr h

abbrev IsLast : Mark → List (Mark × Stats) → ℕ → Type 0
IsLast k es at = (r : Mark × Stats) × ((slice_get es at ≡ Some r) × (r.0 ≡ k))

-- a row of a mark that no other is above is the last
last_row : (k : Mark) (es : List (Mark × Stats)) (at : ℕ) → suc at ≡ length es → T (is_sorted mark_cmp es) → is_some (find mark_cmp k es) ≡ true
    → ((r : Mark × Stats) → IsIn r es → (r.0 ≡ k) ⊎ (mark_cmp r.0 k ≡ Less)) → IsLast k es at
last_row k [] at n h there most = absurd (omega (arith, n))
last_row k (x ∷ []) (suc at) n h there most = absurd (omega (arith, n))
last_row k (x ∷ []) zero n h there most =
    elim (pick (is_eq (mark_cmp k x.0)) x.1 None there) [
      | inl t ↦ (x, (refl, sym (tie mark_order.total mark_order.same k x.0 t)))
      | inr z ↦ absurd (true≢false (sym z))
    ]
last_row k (x ∷ y ∷ es) zero n h there most = absurd (omega (arith, n))
last_row k (x ∷ y ∷ es) (suc at) n h there most =
    of (pick (is_eq (mark_cmp k x.0)) x.1 (find mark_cmp k (y ∷ es)) there)
    (λ z. last_row k (y ∷ es) at (omega (arith, n)) (second (below_all mark_cmp x.0 (y ∷ es)) (is_sorted mark_cmp (y ∷ es)) h) z (λ r i. most r (inr i)))
  where
    next : mark_cmp x.0 y.0 ≡ Less
    next = less (mark_cmp x.0 y.0) (first (is_lt (mark_cmp x.0 y.0)) (below_all mark_cmp x.0 es) (first (below_all mark_cmp x.0 (y ∷ es)) (is_sorted mark_cmp (y ∷ es)) h))

    of : (is_eq (mark_cmp k x.0) ≡ true) ⊎ (is_some (find mark_cmp k (y ∷ es)) ≡ true) → (is_some (find mark_cmp k (y ∷ es)) ≡ true → IsLast k (y ∷ es) at) → IsLast k (x ∷ y ∷ es) (suc at)
    of (inr z) rest = rest z
    of (inl t) rest =
        let same = tie mark_order.total mark_order.same k x.0 t in
        let above : mark_cmp k y.0 ≡ Less = ap (λ m. mark_cmp m y.0) same ∙ next in
        elim (most y (inr (inl refl))) [
          | inl p ↦ absurd (not_below k (ap (mark_cmp k) (sym p) ∙ above))
          | inr q ↦ absurd (not_below k (mark_order.total.trans k y.0 k above q))
        ]

-- ---- the versions of an entry

module _ (x : EntryRecord) (newest : IsNewest x) where
  abbrev vs : Versions
  vs = versions_of x

  current_there : is_some (find mark_cmp x.current.mark (entries vs)) ≡ true
  current_there =
      let k = x.current.mark in
      let one = get_single mark_order.total mark_order.same (k, x.current.stats) k ∙ ap (λ b. cond b (Some x.current.stats) None) (ties mark_order.total mark_order.same k) in
      let all = some-gather stats_join (map (λ (m : Versions). get m k) (map as_map (x.current ∷ x.history))) x.current.stats (inl one) in
      ap is_some (sym (get-entries vs k) ∙ get-unite_all mark_order.total mark_order.same stats_join (map as_map (x.current ∷ x.history)) k ∙ all.1)

  none_above : (r : Mark × Stats) → IsIn r (entries vs) → (r.0 ≡ x.current.mark) ⊎ (mark_cmp r.0 x.current.mark ≡ Less)
  none_above r i =
      let v = version_marks x r.0 r.1 (entry_get mark_order.total mark_order.same vs r i) in
      of v.0 v.1.0 v.1.1
    where
      of : (v : BareVersion) → IsIn v (x.current ∷ x.history) → r.0 ≡ v.mark → (r.0 ≡ x.current.mark) ⊎ (mark_cmp r.0 x.current.mark ≡ Less)
      of v (inl p) is = inl (is ∙ ap (λ (w : BareVersion). w.mark) (sym p))
      of v (inr h) is = inr (ap (λ m. mark_cmp m x.current.mark) is ∙ later v.mark x.current.mark (newest v h))

  some_rows : (es : List (Mark × Stats)) → is_some (find mark_cmp x.current.mark es) ≡ true → (at : ℕ) × (suc at ≡ length es)
  some_rows [] h = absurd (true≢false (sym h))
  some_rows (e ∷ es) h = (length es, refl)

  -- the last of them in rising order is the current one
  pub last_rising : (w : BareVersion) × ((slice_get (reverse (rising_versions x)) 0 ≡ Some w) × (w.mark ≡ x.current.mark))
  last_rising =
      let n = some_rows (entries vs) current_there in
      let many : 1 + n.0 ≡ length (rising_versions x) = omega (arith, n.1, length-map (entries vs) version_of) in
      let r = last_row x.current.mark (entries vs) n.0 n.1 (entries_sorted vs) current_there none_above in (
        version_of r.0,
        (
          sym (from_end (rising_versions x) 0 n.0 many) ∙ slice_get-map version_of (entries vs) n.0 ∙ ap (option_map version_of) r.1.0,
          r.1.1,
        ),
      )

-- ---- the law

pub restore_undoes : RestoreUndoes
restore_undoes path again values further now later entry d e r isd ise isr named found_again newest drops h g =
    let held = bind_ok (entry_named path d) _ e h in
    let allowed = bind_ok (has_unset further held.0.entry.1.current.mark.content) _ e held.1.1 in
    let time = bind_ok (time_after now (entry_time held.0.entry.1)) _ e allowed.1.1 in
    let is = same_ok _ e time.1.1 in
    let f = found path d held.0 held.1.0 in
    let x = held.0.entry.1 in
    let k = changed_content d.meta (edited_so values further d.meta) time.0 in
    let isk = subst IsDoc (sym is) ise in
    let key = same_Some held.0.entry.0 entry (sym (found_named path d held.0 held.1.0) ∙ named) in
    let was = ap (entry_of d) (sym key) ∙ was_entry d isd held.0 f k isk in
    let R = restore_frames again 1 later e r ise isr g in
    let same = same_Some R.entry entry (sym R.named ∙ found_again) in
    let before = same_Some R.before (k x) (sym R.was ∙ ap (entry_of e) (same ∙ sym key) ∙ ap (λ (w : BareDoc). entry_of w held.0.entry.0) (sym is) ∙ is_entry d isd held.0 f k isk) in
    let last = last_rising x (newest x was) in
    let version = same_Some R.changed.old last.0
    (sym R.changed.numbered ∙ ap (version_numbered 1) before ∙ ap (λ (vs : List BareVersion). slice_get (reverse vs) 0) (drops held.0 held.1.0) ∙ last.1.0) in
    let content = λ (x : EntryRecord). x.current.mark.content in
    ap (said_of r) (sym same) ∙ ap (option_map content) R.is
    ∙ ap Some (R.changed.content ∙ ap (λ (w : BareVersion). w.mark.content) version ∙ ap (λ (m : Mark). m.content) last.1.1)
    ∙ sym (ap (option_map content) was)
