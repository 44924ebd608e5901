-- Commands are carried out under their conditions.
use Rattle.std.proofs.Common.{◌≡◌, ◌≤◌, ◌||◌, ◌+◌, ℕ, Bool, true, false, cond, not, max, inl, inr, nat_lt, Option, Some, None, Result, Ok, Err, is_some, refl, sym, ap, subst, ◌∙◌, arith}
use Rattle.std.proofs.lemmas.Bool.{ltb-true}
use Rattle.std.specs.Option.{ok_or, option_and_then}
use Rattle.std.specs.Prelude.{List, [], ◌∷◌, if◌then◌else◌}
use Rattle.outside_core.specs.Results.{◌>>=◌}
use Rattle.time_core.specs.Times.{last_stamp}
use Rattle.vault_model.specs.declared.metas.Meta.{Meta}
use Rattle.vault_model.specs.Bare.{BareAttachment, BareContent, BareField}
use Rattle.vault_model.specs.Db.{NodeId}
use Rattle.vault_model.specs.Join.{IsIn, is_id}
use Rattle.vault_model.specs.SeenNodes.{entry_time}
use Rattle.vault_model.specs.Shape.{EntryRecord}
use Rattle.vault_model.specs.Tree.{BareDoc, IsDoc, LEVELS, Tree, height, id_of}
use Rattle.vault_model.proofs.Tests.{and_true, decide, is_false, not_true}
use Rattle.tree_core.specs.declared.fails.TreeFail.{TreeFail}
use Rattle.tree_core.specs.declared.fails.TreeFail.TheVariants.{AlreadyThere, IdTaken, IntoItself, NameTaken, NoAttachment, NoField, NoVersion, RootFixed, StampLimit, TooDeep}
use Rattle.tree_core.specs.After.{Holding, after_change, after_recycling, bin_level, edited_so, entry_deleted, entry_moved_to, entry_named, entry_recycled, group_deleted, group_moved_to, group_named, group_recycled, is_group_taken, is_parent, is_recycled, named_or_refusal, needs_bin, refuse_if, time_after, version_or_refusal, with_bin, with_bin_made}
use Rattle.tree_core.specs.Attachments.{attachment_of, has_attachment, is_attachable, with_attachment, without_attachment}
use Rattle.tree_core.specs.FurtherChanges.{has_field, has_unset, missing_from}
use Rattle.tree_core.specs.Changes.{changed_at, group_with, has_group, is_free, level_of, parent_of, placed_of, with_group}
use Rattle.tree_core.specs.Finding.{group_at_path, group_found, has_entry_path, without_slashes}
use Rattle.tree_core.specs.NewNodes.{empty_bin}
use Rattle.tree_core.specs.NewPaths.{before_last, new_path}
use Rattle.tree_core.proofs.Around.{found_id}
use Rattle.tree_core.proofs.Binds.{passes}
use Rattle.tree_removals.proofs.GroupBins.{absent_inside, level_of_last}
use Rattle.tree_removals.proofs.NewBins.{free_absent}
use Rattle.growth_laws.proofs.Commands.{bin_there}
use Rattle.frame_laws.proofs.FoundAgain.{Held, held_entry}
use Rattle.condition_laws.specs.Conditions.{AddSucceeds, AttachSucceeds, CanMakeBin, CanPut, DetachSucceeds, EditSucceeds, HasTimeAfter, MakeGroupSucceeds, MoveEntrySucceeds, MoveGroupSucceeds, NamesEntry, NamesGroup, RemoveEntrySucceeds, RemoveGroupSucceeds, RestoreSucceeds}

-- ---- steps that are not refused

-- Some answer is not refused.
abbrev Succeeds : {A : Type 0} → Result A TreeFail → Type 0
Succeeds {A} r = (x : A) × (r ≡ Ok x)

done : {A : Type 0} (x : A) → Succeeds (Ok x)
done x = (x, refl)

-- a first step that gives this, and a rest that succeeds
step : {A B : Type 0} (r : Result A TreeFail) (next : A → Result B TreeFail) (x : A) → r ≡ Ok x → Succeeds (next x) → Succeeds (r >>= next)
step r next x is (y, h) = (y, ap (λ t. t >>= next) is ∙ h)

in_time : (now time : ℕ) → HasTimeAfter time now → time_after now time ≡ Ok (max now (time + 1))
in_time now time most =
    ap (λ b. if b then Err (StampLimit (max now (time + 1))) else Ok (max now (time + 1))) (within (max now (time + 1)) most)
  where
    within : (t : ℕ) → t ≤ last_stamp → nat_lt last_stamp t ≡ false
    within t most = is_false (nat_lt last_stamp t) (λ p. let less = ltb-true last_stamp t p in omega (arith, less, most))

fits_levels : (n : ℕ) → n ≤ LEVELS → nat_lt LEVELS n ≡ false
fits_levels n most = is_false (nat_lt LEVELS n) (λ p. let less = ltb-true LEVELS n p in omega (arith, less, most))

-- ---- the entry that a path names

held_so : (path : List ℕ) (d : BareDoc) → IsDoc d → (n : NamesEntry path d) → Held path d n.group n.before
held_so path d isd n = held_entry path d isd n.entry n.group n.before n.named n.held n.is

-- an entry is moved where its time has one after it
moved : (d : BareDoc) (held : Holding) (to : NodeId) (now : ℕ) → HasTimeAfter held.entry.1.placed now → Succeeds (entry_moved_to to held now d)
moved d held to now time = step (time_after now held.entry.1.placed) _ (max now (held.entry.1.placed + 1)) (in_time now held.entry.1.placed time) (done _)

-- ---- an entry that says something else

-- what an entry said allows that it says something else
change_succeeds : (path : List ℕ) (allows : BareContent → Result (Unit {0}) TreeFail) (says : Meta → BareContent → BareContent) (now : ℕ) (d : BareDoc) → IsDoc d → (n : NamesEntry path d)
    → allows n.before.current.mark.content ≡ Ok tt → HasTimeAfter (entry_time n.before) now → Succeeds (after_change path allows says now d)
change_succeeds path allows says now d isd n allowed time =
    let h = held_so path d isd n in
    step (entry_named path d) _ h.held h.is
    (step (allows h.held.entry.1.current.mark.content) _ tt (ap (λ (x : EntryRecord). allows x.current.mark.content) h.record_is ∙ allowed)
    (step (time_after now (entry_time h.held.entry.1)) _ (max now (entry_time h.held.entry.1 + 1))
    (in_time now (entry_time h.held.entry.1) (subst (λ x. HasTimeAfter (entry_time x) now) (sym h.record_is) time)) (done _)))

-- none of the fields is missing
none_missing : (place : ℕ) (unset : List (List ℕ)) (fields : List BareField) → ((name : List ℕ) → IsIn name unset → has_field name fields ≡ true) → missing_from place unset fields ≡ Ok tt
none_missing place [] fields there = refl
none_missing place (name ∷ more) fields there =
    ap (λ b. if b then missing_from (place + 1) more fields else Err (NoField place)) (there name (inl refl))
    ∙ none_missing (place + 1) more fields (λ other i. there other (inr i))

pub edit_succeeds : EditSucceeds
edit_succeeds path values further now d isd can =
    change_succeeds path (has_unset further) (edited_so values further) now d isd can.entry (none_missing 0 further.unset can.entry.before.current.mark.content.fields can.fields) can.time

pub attach_succeeds : AttachSucceeds
attach_succeeds path name bytes replaces now d isd can =
    change_succeeds path (is_attachable name replaces) (λ _. with_attachment name bytes) now d isd can.entry (may replaces can.free) can.time
  where
    may : (b : Bool) → (b ≡ false → attachment_of name can.entry.before.current.mark.content ≡ None) → is_attachable name b can.entry.before.current.mark.content ≡ Ok tt
    may true h = refl
    may false h = ap (λ (o : Option BareAttachment). cond {A = Result (Unit {0}) TreeFail} (is_some o) (Err NameTaken) (Ok tt)) (h refl)

pub detach_succeeds : DetachSucceeds
detach_succeeds path name now d isd can =
    change_succeeds path (has_attachment name) (λ _. without_attachment name) now d isd can.entry
    (ap (λ (o : Option BareAttachment). cond {A = Result (Unit {0}) TreeFail} (is_some o) (Ok tt) (Err NoAttachment)) can.there) can.time

-- ---- restore

pub restore_succeeds : RestoreSucceeds
restore_succeeds path number now d isd can =
    let h = held_so path d isd can.entry in
    step (entry_named path d) _ h.held h.is
    (step (version_or_refusal number h.held.entry.1) _ can.version (ap (λ (x : EntryRecord). version_or_refusal number x) h.record_is ∙ ap (λ o. ok_or o (NoVersion number)) can.numbered)
    (step (time_after now (entry_time h.held.entry.1)) _ (max now (entry_time h.held.entry.1 + 1))
    (in_time now (entry_time h.held.entry.1) (subst (λ x. HasTimeAfter (entry_time x) now) (sym h.record_is) can.time)) (done _)))

-- ---- moves

pub move_entry_succeeds : MoveEntrySucceeds
move_entry_succeeds path goal now d isd can =
    let h = held_so path d isd can.entry in
    step (entry_named path d) _ h.held h.is
    (step (named_or_refusal (group_found d goal)) _ can.to (ap named_or_refusal can.aimed)
    (step (refuse_if (is_id h.held.group can.to) AlreadyThere) _ tt (ap (λ b. refuse_if b AlreadyThere) (ap (λ v. is_id v can.to) h.group ∙ can.apart))
    (moved d h.held can.to now (subst (λ x. HasTimeAfter x.placed now) (sym h.record_is) can.time))))

-- a group that can be put into another
put_succeeds : (d : BareDoc) (group : Tree) (to : NodeId) (now : ℕ) → CanPut group to (level_of to d.tree) now → Succeeds (group_moved_to to group now d)
put_succeeds d group to now can =
    step (refuse_if (has_group to group) (IntoItself (id_of group))) _ tt (ap (λ b. refuse_if b (IntoItself (id_of group))) can.outside)
    (step (refuse_if (nat_lt LEVELS (level_of to d.tree + height group)) TooDeep) _ tt (ap (λ b. refuse_if b TooDeep) (fits_levels (level_of to d.tree + height group) can.fits))
    (step (time_after now (placed_of group)) _ (max now (placed_of group + 1)) (in_time now (placed_of group) can.time) (done _)))

named_is : (path : List ℕ) (d : BareDoc) (n : NamesGroup path d) → group_named path d ≡ Ok n.group
named_is path d n = ap (λ o. named_or_refusal (option_and_then (λ id. group_with id d.tree) o)) n.named ∙ ap named_or_refusal n.is

named_id : (path : List ℕ) (d : BareDoc) (n : NamesGroup path d) → id_of n.group ≡ n.id
named_id path d n = found_id n.id d.tree n.group n.is

pub move_group_succeeds : MoveGroupSucceeds
move_group_succeeds path goal now d can =
    let id = named_id path d can.moving in
    step (group_named path d) _ can.moving.group (named_is path d can.moving)
    (step (named_or_refusal (group_found d goal)) _ can.to (ap named_or_refusal can.aimed)
    (step (refuse_if (is_parent can.to (parent_of (id_of can.moving.group) d.tree)) AlreadyThere) _ tt (ap (λ b. refuse_if b AlreadyThere) (ap (λ v. is_parent can.to (parent_of v d.tree)) id ∙ can.apart))
    (step (refuse_if (is_id (id_of can.moving.group) (id_of d.tree)) RootFixed) _ tt (ap (λ b. refuse_if b RootFixed) (ap (λ v. is_id v (id_of d.tree)) id ∙ can.no_root))
    (put_succeeds d can.moving.group can.to now can.put))))

-- ---- new nodes

pub add_succeeds : AddSucceeds
add_succeeds path id values now d can =
    step (named_or_refusal (group_at_path d (before_last path))) _ can.group (ap named_or_refusal can.named)
    (step (refuse_if (has_entry_path d (new_path path)) NameTaken) _ tt (ap (λ b. refuse_if b NameTaken) can.free_path)
    (step (refuse_if (not (is_free id d)) (IdTaken id)) _ tt (ap (λ b. refuse_if (not b) (IdTaken id)) can.free_id) (done _)))

pub make_group_succeeds : MakeGroupSucceeds
make_group_succeeds text id now d can =
    let path = without_slashes text in
    step (named_or_refusal (group_at_path d (before_last path))) _ can.group (ap named_or_refusal can.named)
    (step (refuse_if (is_group_taken (new_path path) d) NameTaken) _ tt (λ i. refuse_if (can.free_path i || can.no_root i) NameTaken)
    (step (refuse_if (nat_lt LEVELS (level_of can.group d.tree + 1)) TooDeep) _ tt (ap (λ b. refuse_if b TooDeep) (fits_levels (level_of can.group d.tree + 1) can.fits))
    (step (refuse_if (not (is_free id d)) (IdTaken id)) _ tt (ap (λ b. refuse_if (not b) (IdTaken id)) can.free_id) (done _))))

-- ---- removals

-- a bin that can be made is
bin_succeeds : (id : NodeId) (now : ℕ) (d : BareDoc) → CanMakeBin (Some id) now d
    → with_bin_made (Some id) now d ≡ Ok (record d { tree = changed_at (id_of d.tree) (with_group (empty_bin id now)) d.tree; meta = with_bin id (max now (d.meta.bin.changed + 1)) d.meta })
bin_succeeds id now d can =
    let both = can id refl in
    passes _ (not (is_free id d)) (IdTaken id) (ap not both.0)
    ∙ ap (λ r. r >>= λ time. Ok (record d { tree = changed_at (id_of d.tree) (with_group (empty_bin id now)) d.tree; meta = with_bin id time d.meta })) (in_time now d.meta.bin.changed both.1)

recycled_entry : (bin : Option NodeId) (held : Holding) (now : ℕ) (d : BareDoc) → CanMakeBin bin now d → HasTimeAfter held.entry.1.placed now → Succeeds (entry_recycled bin held now d)
recycled_entry None held now d made time =
    let m = moved d held d.meta.bin.value.id now time in
    step (entry_moved_to d.meta.bin.value.id held now d) after_recycling m.0 m.1 (done _)
recycled_entry (Some id) held now d made time =
    let ready : BareDoc = record d { tree = changed_at (id_of d.tree) (with_group (empty_bin id now)) d.tree; meta = with_bin id (max now (d.meta.bin.changed + 1)) d.meta } in
    let m = moved ready held id now time in
    step (with_bin_made (Some id) now d) _ ready (bin_succeeds id now d made) (step (entry_moved_to id held now ready) after_recycling m.0 m.1 (done _))

pub remove_entry_succeeds : RemoveEntrySucceeds
remove_entry_succeeds path bin now d isd can =
    let h = held_so path d isd can.entry in
    step (entry_named path d) _ h.held h.is
    (elim (decide (is_recycled h.held.group d)) [
      | inl p ↦
          let goes = ap (λ v. is_recycled v d) (sym h.group) ∙ p in
          let r = recycled_entry bin h.held now d (can.made goes) (subst (λ x. HasTimeAfter x.placed now) (sym h.record_is) (can.time goes)) in
          (r.0, ap (λ b. if b then entry_recycled bin h.held now d else Ok (entry_deleted h.held now d)) p ∙ r.1)
      | inr p ↦ (entry_deleted h.held now d, ap (λ b. if b then entry_recycled bin h.held now d else Ok (entry_deleted h.held now d)) p)
    ])

-- the bin of a document that needs none is there, at its level
bin_level_there : (d : BareDoc) → has_group d.meta.bin.value.id d.tree ≡ true → bin_level d ≡ level_of d.meta.bin.value.id d.tree
bin_level_there d has = ap (λ b. if b then level_of d.meta.bin.value.id d.tree else 2) has

bin_level_missing : (d : BareDoc) → has_group d.meta.bin.value.id d.tree ≡ false → bin_level d ≡ 2
bin_level_missing d off = ap (λ b. if b then level_of d.meta.bin.value.id d.tree else 2) off

recycled_group : (path : List ℕ) (bin : Option NodeId) (now : ℕ) (d : BareDoc) (n : NamesGroup path d) → is_some bin ≡ needs_bin d → is_recycled n.id d ≡ true → CanMakeBin bin now d
    → CanPut n.group d.meta.bin.value.id (bin_level d) now → Succeeds (group_recycled bin n.group now d)
recycled_group path bin now d n needed goes made can =
    step (refuse_if (has_group d.meta.bin.value.id n.group) (IntoItself (id_of n.group))) _ tt (ap (λ b. refuse_if b (IntoItself (id_of n.group))) can.outside)
    (step (refuse_if (nat_lt LEVELS (bin_level d + height n.group)) TooDeep) _ tt (ap (λ b. refuse_if b TooDeep) (fits_levels (bin_level d + height n.group) can.fits))
    (of bin needed made))
  where
    of : (o : Option NodeId) → is_some o ≡ needs_bin d → CanMakeBin o now d → Succeeds (with_bin_made o now d >>= λ ready. (group_moved_to ready.meta.bin.value.id n.group now ready >>= after_recycling))
    of None q k =
        let has = bin_there d n.id goes (sym q) in
        let m = put_succeeds d n.group d.meta.bin.value.id now (record { outside = can.outside; fits = subst (λ l. l + height n.group ≤ LEVELS) (bin_level_there d has) can.fits; time = can.time }) in
        step (group_moved_to d.meta.bin.value.id n.group now d) after_recycling m.0 m.1 (done _)
    of (Some id) q k =
        let ready : BareDoc = record d { tree = changed_at (id_of d.tree) (with_group (empty_bin id now)) d.tree; meta = with_bin id (max now (d.meta.bin.changed + 1)) d.meta } in
        let absent = free_absent id d (k id refl).0 in
        let missing : has_group d.meta.bin.value.id d.tree ≡ false = not_true (has_group d.meta.bin.value.id d.tree) (and_true d.meta.bin.value.enabled (not (has_group d.meta.bin.value.id d.tree)) (sym q)).1 in
        let level = level_of_last id (empty_bin id now) d.tree refl absent in
        let deep = bin_level_missing d missing in
        let most = can.fits in
        let m = put_succeeds ready n.group id now (record { outside = absent_inside n.id id d.tree n.group n.is absent; fits = omega (arith, level, deep, most); time = can.time }) in
        step (with_bin_made (Some id) now d) _ ready (bin_succeeds id now d k) (step (group_moved_to id n.group now ready) after_recycling m.0 m.1 (done _))

pub remove_group_succeeds : RemoveGroupSucceeds
remove_group_succeeds path bin now d needed can =
    let n = can.removing in
    let id = named_id path d n in
    step (group_named path d) _ n.group (named_is path d n)
    (step (refuse_if (is_id (id_of n.group) (id_of d.tree)) RootFixed) _ tt (ap (λ b. refuse_if b RootFixed) (ap (λ v. is_id v (id_of d.tree)) id ∙ can.no_root))
    (elim (decide (is_recycled (id_of n.group) d)) [
      | inl p ↦
          let goes = ap (λ v. is_recycled v d) (sym id) ∙ p in
          let r = recycled_group path bin now d n needed goes (can.made goes) (can.put goes) in
          (r.0, ap (λ b. if b then group_recycled bin n.group now d else Ok (group_deleted n.group now d)) p ∙ r.1)
      | inr p ↦ (group_deleted n.group now d, ap (λ b. if b then group_recycled bin n.group now d else Ok (group_deleted n.group now d)) p)
    ]))
