-- Entries that come to say something else grow in what is current, whatever versions are dropped.
use Rattle.std.proofs.Common.{◌≡◌, ◌<◌, ◌&&◌, ◌⊎◌, ℕ, Bool, true, false, not, cond, inl, inr, List, [], ◌∷◌, Option, Some, None, Ok, is_some, map, length, refl, sym, ap, subst, ◌∙◌, arith}
use Rattle.std.specs.Prelude.{ℤ}
use Rattle.outside_core.specs.Results.{◌>>=◌}
use Rattle.std.specs.FinMap.{entries, get, same_map}
use Rattle.std.specs.List.{list_all}
use Rattle.std.specs.Option.{ok_or, option_map}
use Rattle.std.specs.Ordering.{eq_by_cmp}
use Rattle.std.specs.declared.cmp.Ordering.TheVariants.{Less}
use Rattle.vault_model.specs.declared.contents.Stats.{Stats}
use Rattle.vault_model.specs.Bare.{BareContent}
use Rattle.vault_model.specs.Db.{Mark, NodeId, Versions, mark_cmp}
use Rattle.vault_model.specs.Join.{IsIn, stats_join}
use Rattle.vault_model.specs.Proper.{is_proper_content}
use Rattle.vault_model.specs.SeenNodes.{entry_time}
use Rattle.vault_model.specs.Shape.{BareVersion, EntryRecord, version_of, versions_of}
use Rattle.vault_model.specs.Tree.{BareDoc, IsDoc, Tree, db_in, entry_rows, is_proper_entry, shape_of}
use Rattle.vault_model.specs.Unite.{join_options}
use Rattle.vault_model.proofs.Orders.{mark_order}
use Rattle.vault_model.proofs.Tests.{and_both, and_true, apart, decide, from_map, is_false}
use Rattle.merge_core.proofs.Distinct.{in_all}
use Rattle.merge_core.proofs.Laid.{db_entries}
use Rattle.merge_core.proofs.Semilattice.{none-gather}
use Rattle.merge_core.proofs.SoundDoc.{all_in, as_map, version_marks}
use Rattle.merge_core.proofs.Tables.{entry_get, get_single}
use Rattle.merge_core.proofs.Unite.{get-unite_all, tie, ties}
use Rattle.merge_core.proofs.Versions.{mark_newest}
use Rattle.tree_core.specs.After.{Holding, after_restore, changed_content, edited_so, entry_named, time_after, version_or_refusal}
use Rattle.tree_core.specs.declared.fails.TreeFail.TheVariants.{NoVersion}
use Rattle.tree_core.specs.Attachments.{has_attachment, is_attachable, with_attachment, without_attachment}
use Rattle.tree_core.specs.Changes.{changed_at, changed_entry}
use Rattle.tree_core.specs.FurtherChanges.{has_unset}
use Rattle.tree_core.specs.Histories.{is_within, rising_versions, settled_history, versions_size, with_version, within_limits}
use Rattle.tree_core.specs.NewNodes.{new_version}
use Rattle.tree_core.proofs.Edited.{changed_same, entry_is_proper, set_is_doc}
use Rattle.growth_laws.specs.Growth.{GrowsTo}
use Rattle.growth_laws.proofs.Carries.{change_entry_row, entry_in}
use Rattle.growth_laws.proofs.Commands.{Found, found, found_in, versions_grow}
use Rattle.growth_laws.proofs.LostSteps.{edit_stays}
use Rattle.growth_laws.proofs.Outcomes.{bind_ok, rest_ok, same_ok, time_ok}
use Rattle.growth_laws.proofs.Stays.{entry_is, versions_time}
use Rattle.growth_laws.proofs.StaysGrow.{stays_grow}
use Rattle.growth_laws.proofs.Steps.{change_root}
use Rattle.history_laws.specs.Current.{current_view, current, is_past}
use Rattle.history_laws.specs.TwoEdits.{IsNow}
use Rattle.history_laws.proofs.CurrentJoin.{view_alike}
use Rattle.history_laws.proofs.Newest.{current_stays, get_current, is_not_itself, later_mark, past_by, past_found}
use Rattle.command_laws.specs.Growing.{AttachGrowsInCurrent, ChangeGrowsInCurrent, ChangeIsNow, DetachGrowsInCurrent, EditGrowsInCurrent, EditIsNow, GrowsInCurrent, IsAlike, RestoreGrowsInCurrent, RestoreIsNow}
use Rattle.command_laws.proofs.ShownTrees.{relabel_shows}

-- ---- an entry whose current version is the latest

module _ (r : EntryRecord) (late : (w : BareVersion) → IsIn w r.history → w.mark.modified < r.current.mark.modified) where
  abbrev vs : Versions
  vs = versions_of r

  abbrev top : Mark
  top = r.current.mark

  not_top : (w : BareVersion) → IsIn w r.history → eq_by_cmp mark_cmp top w.mark ≡ false
  not_top w h = is_false (eq_by_cmp mark_cmp top w.mark) (λ t.
      let same = ap (λ (k : Mark). k.modified) (tie mark_order.total mark_order.same top w.mark t) in
      let less = late w h in
      absurd (omega (arith, same, less)))

  at_single : (v : BareVersion) (k : Mark) → get (as_map v) k ≡ cond (eq_by_cmp mark_cmp k v.mark) (Some v.stats) None
  at_single v k = get_single mark_order.total mark_order.same (v.mark, v.stats) k

  -- at the latest mark there is what the current version says
  at_top : get vs top ≡ Some r.current.stats
  at_top =
      get-unite_all mark_order.total mark_order.same stats_join (map as_map (r.current ∷ r.history)) top
      ∙ (λ i. join_options stats_join ((at_single r.current top ∙ ap (λ b. cond b (Some r.current.stats) None) (ties mark_order.total mark_order.same top)) i)
      (none-gather stats_join (map (λ (m : Versions). get m top) (map as_map r.history)) others i))
    where
      others : (o : Option Stats) → IsIn o (map (λ (m : Versions). get m top) (map as_map r.history)) → o ≡ None
      others o h =
          let m = from_map (λ (m : Versions). get m top) (map as_map r.history) o h in
          let w = from_map as_map r.history m.0 m.1.0 in
          sym m.1.1 ∙ ap (λ (x : Versions). get x top) (sym w.1.1) ∙ at_single w.0 top ∙ ap (λ b. cond b (Some w.0.stats) None) (not_top w.0 w.1.0)

  top_last : is_past vs top ≡ false
  top_last = is_false (is_past vs top) (λ t.
      let f = past_found vs top t in
      let s = some f.0 f.1.0 in
      let v = version_marks r f.0 s.0 s.1 in
      from v.0 v.1.0 f.0 v.1.1 f.1.1)
    where
      some : (k : Mark) → is_some (get vs k) ≡ true → (s : Stats) × (get vs k ≡ Some s)
      some k h = at (get vs k) refl h
        where
          at : (o : Option Stats) → get vs k ≡ o → is_some o ≡ true → (s : Stats) × (get vs k ≡ Some s)
          at None q t = cc t
          at (Some s) q t = (s, q)

      from : (v : BareVersion) → IsIn v (r.current ∷ r.history) → (j : Mark) → j ≡ v.mark → mark_cmp top j ≡ Less → ⊥
      from v (inl p) j is less = is_not_itself top (ap (mark_cmp top) (ap (λ (w : BareVersion). w.mark) p ∙ sym is) ∙ less)
      from v (inr h) j is less =
          is_not_itself top (mark_order.total.trans top j top less (ap (λ k. mark_cmp k top) is ∙ later_mark v.mark top (late v h)))

  -- every other mark is past
  other_past : (k : Mark) (s : Stats) → eq_by_cmp mark_cmp k top ≡ false → get vs k ≡ Some s → is_past vs k ≡ true
  other_past k s off q =
      let v = version_marks r k s q in
      past_by vs k top (ap is_some at_top) (from v.0 v.1.0 v.1.1)
    where
      from : (v : BareVersion) → IsIn v (r.current ∷ r.history) → k ≡ v.mark → mark_cmp k top ≡ Less
      from v (inl p) is = apart (eq_by_cmp mark_cmp k top) (ap (eq_by_cmp mark_cmp k) (ap (λ (w : BareVersion). w.mark) p ∙ sym is) ∙ ties mark_order.total mark_order.same k) off
      from v (inr h) is = ap (λ j. mark_cmp j top) is ∙ later_mark v.mark top (late v h)

  -- so the current version alone is current
  only_current : current vs ≡ as_map r.current
  only_current = same_map mark_order.total mark_order.same (current vs) (as_map r.current) (λ k. at k (decide (eq_by_cmp mark_cmp k top)))
    where
      gone : (k : Mark) (o : Option Stats) → get vs k ≡ o → eq_by_cmp mark_cmp k top ≡ false → cond (not (is_past vs k)) o None ≡ None
      gone k None q off = none_either (not (is_past vs k))
        where
          none_either : (b : Bool) → cond {A = Option Stats} b None None ≡ None
          none_either true = refl
          none_either false = refl
      gone k (Some s) q off = ap (λ b. cond (not b) (Some s) None) (other_past k s off q)

      at : (k : Mark) → ((eq_by_cmp mark_cmp k top ≡ true) ⊎ (eq_by_cmp mark_cmp k top ≡ false)) → get (current vs) k ≡ get (as_map r.current) k
      at k (inl t) =
          let same = tie mark_order.total mark_order.same k top t in
          ap (get (current vs)) same ∙ current_stays vs top top_last ∙ at_top
          ∙ sym (at_single r.current k ∙ ap (λ b. cond b (Some r.current.stats) None) t)
      at k (inr t) =
          get_current vs k ∙ gone k (get vs k) refl t
          ∙ sym (at_single r.current k ∙ ap (λ b. cond b (Some r.current.stats) None) t)

-- ---- histories within limits

kept_from : (items size : ℤ) (vs : List BareVersion) (w : BareVersion) → IsIn w (within_limits items size vs) → IsIn w vs
kept_from items size [] w h = h
kept_from items size (v ∷ vs) w h = pick (kept_from items size vs w) (is_within (length (v ∷ vs)) items && is_within (versions_size (v ∷ vs)) size) h
  where
    pick : (IsIn w (within_limits items size vs) → IsIn w vs) → (b : Bool) → IsIn w (cond b (v ∷ vs) (within_limits items size vs)) → IsIn w (v ∷ vs)
    pick rest true i = i
    pick rest false i = inr (rest i)

-- a version of those that rise is one of the entry's
rising_from : (x : EntryRecord) (w : BareVersion) → IsIn w (rising_versions x) → get (versions_of x) w.mark ≡ Some w.stats
rising_from x w h =
    let f = from_map version_of (entries (versions_of x)) w h in
    let g = entry_get mark_order.total mark_order.same (versions_of x) f.0 f.1.0 in
    ap (λ (y : BareVersion). get (versions_of x) y.mark) (sym f.1.1) ∙ g ∙ ap (λ (y : BareVersion). Some y.stats) f.1.1

rising_proper : (x : EntryRecord) → is_proper_entry x ≡ true → list_all (λ (v : BareVersion). is_proper_content v.mark.content) (rising_versions x) ≡ true
rising_proper x proper = in_all (λ (v : BareVersion). is_proper_content v.mark.content) (rising_versions x) (λ w h.
    let m = version_marks x w.mark w.stats (rising_from x w h) in
    ap (λ (y : Mark). is_proper_content y.content) m.1.1 ∙ all_in (λ (y : BareVersion). is_proper_content y.mark.content) (x.current ∷ x.history) m.0 proper m.1.0)

rising_before : (x : EntryRecord) (time : ℕ) → entry_time x < time → (w : BareVersion) → IsIn w (rising_versions x) → w.mark.modified < time
rising_before x time late w h =
    let a = mark_newest (versions_of x) w.mark w.stats (rising_from x w h) in
    let b = versions_time x in
    omega (arith, a, b, late)

-- ---- edits

-- the document with an entry changed to a record
abbrev with_record : BareDoc → Holding → EntryRecord → BareDoc
with_record d held r = record d { tree = changed_at held.group (changed_entry held.entry.0 (λ _. r)) d.tree }

module _ (d : BareDoc) (isd : IsDoc d) (held : Holding) (f : Found d held) (v : BareVersion) (items size : ℤ) where
  abbrev x : EntryRecord
  x = held.entry.1

  abbrev whole : EntryRecord
  whole = with_version v x

  abbrev cut : EntryRecord
  cut = settled_history items size whole

  module _ (late : entry_time x < v.mark.modified) (iscut : IsDoc (with_record d held cut)) where
    alike : IsAlike cut whole
    alike = record {
      placed = refl;
      previous = refl;
      shown = only_current cut (λ w h. rising_before x v.mark.modified late w (kept_from items size (rising_versions x) w h))
          ∙ sym (only_current whole (rising_before x v.mark.modified late));
    }

    cut_row : IsIn (held.entry.0, cut) (entry_rows (with_record d held cut).tree)
    cut_row = entry_in held.group (changed_entry held.entry.0 (λ _. cut)) d.tree f.group f.there (change_root held.entry.0 (λ _. cut) f.group) (held.entry.0, cut) (change_entry_row held.entry.0 (λ _. cut) held.entry f.group f.own)

    -- the version that was made is the current one
    cut_now : IsNow (db_in (with_record d held cut)) held.entry.0 v.mark
    cut_now =
        let after : (w : BareVersion) → IsIn w cut.history → w.mark.modified < v.mark.modified = λ w h. rising_before x v.mark.modified late w (kept_from items size (rising_versions x) w h) in
        record {
          versions = versions_of cut;
          entry = db_entries (shape_of (with_record d held cut)) held.entry.0 ∙ ap (option_map versions_of) (entry_is (with_record d held cut) iscut held.entry.0 cut cut_row);
          there = ap is_some (at_top cut after);
          last = top_last cut after;
        }

    proper : is_proper_entry whole ≡ true
    proper =
        let good = all_in (λ (r : NodeId × EntryRecord). is_proper_entry r.1) (entry_rows (with_record d held cut).tree) (held.entry.0, cut) iscut.entries_proper cut_row in
        let parts = and_true (is_proper_content v.mark.content) (list_all (λ (w : BareVersion). is_proper_content w.mark.content) cut.history) good in
        and_both (is_proper_content v.mark.content) (list_all (λ (w : BareVersion). is_proper_content w.mark.content) whole.history) parts.0
        (rising_proper x (entry_is_proper d isd held.group held.entry.0 held.entry (found_in d held f)))

    is_whole : IsDoc (with_record d held whole)
    is_whole = set_is_doc d isd held.group held.entry.0 (λ _. whole) (λ e p. proper) (with_record d held whole).tree refl

    whole_grows : GrowsTo d (with_record d held whole)
    whole_grows =
        stays_grow d (with_record d held whole) isd is_whole
        (edit_stays d held.group (λ _. whole) held.entry f.group isd is_whole f.there f.own refl refl (versions_grow v x) (omega (arith, late)))

    same_now : current_view (db_in (with_record d held cut)) ≡ current_view (db_in (with_record d held whole))
    same_now = relabel_shows d held.group held.entry.0 cut whole alike iscut is_whole

    cut_grows : GrowsInCurrent d (with_record d held cut)
    cut_grows =
        view_alike (db_in d ∷ db_in (with_record d held cut) ∷ []) (db_in d ∷ db_in (with_record d held whole) ∷ []) (λ i. current_view (db_in d) ∷ same_now i ∷ [])
        ∙ ap current_view whole_grows ∙ sym same_now

-- ---- an entry that says something else

module _ (d e : BareDoc) (isd : IsDoc d) (ise : IsDoc e) (held : Holding) (f : Found d held) (says : BareContent → BareContent) (now time : ℕ)
    (timed : time_after now (entry_time held.entry.1) ≡ Ok time)
    (is : record d { tree = changed_at held.group (changed_entry held.entry.0 (changed_content d.meta says time)) d.tree } ≡ e) where
  abbrev said : BareVersion
  said = new_version (says held.entry.1.current.mark.content) time held.entry.1.current

  same : with_record d held (changed_content d.meta says time held.entry.1) ≡ e
  same = ap (λ (t : Tree). record d { tree = t })
      (changed_same held.group held.entry.0 (λ _. changed_content d.meta says time held.entry.1) (changed_content d.meta says time) held.entry d.tree (found_in d held f) refl) ∙ is

  pub said_grows_in_current : GrowsInCurrent d e
  said_grows_in_current =
      subst (λ (w : BareDoc). GrowsInCurrent d w) same
      (cut_grows d isd held f said d.meta.settings.value.history_items d.meta.settings.value.history_size (time_ok now (entry_time held.entry.1) time timed) (subst IsDoc (sym same) ise))

  pub said_is_now : IsNow (db_in e) held.entry.0 said.mark
  said_is_now =
      subst (λ (w : BareDoc). IsNow (db_in w) held.entry.0 said.mark) same
      (cut_now d isd held f said d.meta.settings.value.history_items d.meta.settings.value.history_size (time_ok now (entry_time held.entry.1) time timed) (subst IsDoc (sym same) ise))

pub change_grows_in_current : ChangeGrowsInCurrent
change_grows_in_current path allows says now d e isd ise h =
    let held = bind_ok (entry_named path d) _ e h in
    let allowed = bind_ok (allows held.0.entry.1.current.mark.content) _ e held.1.1 in
    let time = bind_ok (time_after now (entry_time held.0.entry.1)) _ e allowed.1.1 in
    said_grows_in_current d e isd ise held.0 (found path d held.0 held.1.0) (says d.meta) now time.0 time.1.0 (same_ok _ e time.1.1)

pub edit_grows_in_current : EditGrowsInCurrent
edit_grows_in_current path values further = change_grows_in_current path (has_unset further) (edited_so values further)

pub attach_grows_in_current : AttachGrowsInCurrent
attach_grows_in_current path name bytes replaces = change_grows_in_current path (is_attachable name replaces) (λ _. with_attachment name bytes)

pub detach_grows_in_current : DetachGrowsInCurrent
detach_grows_in_current path name = change_grows_in_current path (has_attachment name) (λ _. without_attachment name)

pub restore_grows_in_current : RestoreGrowsInCurrent
restore_grows_in_current path number now d e isd ise h =
    let held = bind_ok (entry_named path d) _ e h in
    let version = bind_ok (version_or_refusal number held.0.entry.1) _ e held.1.1 in
    let time = bind_ok (time_after now (entry_time held.0.entry.1)) _ e version.1.1 in
    said_grows_in_current d e isd ise held.0 (found path d held.0 held.1.0) (λ _. version.0.mark.content) now time.0 time.1.0 (same_ok _ e time.1.1)

pub change_is_now : ChangeIsNow
change_is_now path allows says now time held d e isd ise named timed h =
    let allowed = bind_ok (allows held.entry.1.current.mark.content) _ e (rest_ok (entry_named path d) _ held e named h) in
    said_is_now d e isd ise held (found path d held named) (says d.meta) now time timed
    (same_ok _ e (rest_ok (time_after now (entry_time held.entry.1)) _ time e timed allowed.1.1))

pub edit_is_now : EditIsNow
edit_is_now path values further = change_is_now path (has_unset further) (edited_so values further)

pub restore_is_now : RestoreIsNow
restore_is_now path number now time held version d e isd ise named old timed h =
    let f = found path d held named in
    let k = λ (v : BareVersion) (t : ℕ). changed_content d.meta (λ _. v.mark.content) t in
    let made : after_restore path number now d ≡ Ok (record d { tree = changed_at held.group (changed_entry held.entry.0 (k version time)) d.tree }) =
    ap (λ r. r >>= (λ x. version_or_refusal number x.entry.1 >>= (λ v. time_after now (entry_time x.entry.1) >>= (λ t. Ok (record d { tree = changed_at x.group (changed_entry x.entry.0 (k v t)) d.tree }))))) named
    ∙ ap (λ (o : Option BareVersion). ok_or o (NoVersion number) >>= (λ v. time_after now (entry_time held.entry.1) >>= (λ t. Ok (record d { tree = changed_at held.group (changed_entry held.entry.0 (k v t)) d.tree })))) old
    ∙ ap (λ r. r >>= (λ t. Ok (record d { tree = changed_at held.group (changed_entry held.entry.0 (k version t)) d.tree }))) timed in
    said_is_now d e isd ise held f (λ _. version.mark.content) now time timed (same_ok _ e (sym made ∙ h))
