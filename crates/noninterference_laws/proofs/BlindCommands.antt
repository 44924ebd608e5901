-- Commands that look at no value make the same of documents that are the same but for what is hidden.
use Rattle.std.proofs.Common.{◌≡◌, ◌||◌, ◌&&◌, ◌+◌, ℕ, Bool, true, false, not, cond, List, [], ◌∷◌, Option, None, Some, Result, Ok, Err, ◌++◌, codes, is_some, map, nat_lt, refl, sym, ap, ◌∙◌}
use Rattle.std.specs.Option.{option_and_then, option_map, unwrap_or}
use Rattle.std.specs.Prelude.{if◌then◌else◌}
use Rattle.std.specs.Str.{bytes_eq}
use Rattle.outside_core.specs.Results.{◌>>=◌}
use Rattle.vault_model.specs.Bare.{BareField}
use Rattle.vault_model.specs.Db.{NodeId}
use Rattle.vault_model.specs.Join.{is_id}
use Rattle.vault_model.specs.Tree.{BareDoc, LEVELS, Tree, height, id_of}
use Rattle.vault_model.specs.Walk.{Node, Walked, a_group, an_entry, walk}
use Rattle.tree_core.specs.declared.fails.TreeFail.{TreeFail}
use Rattle.tree_core.specs.declared.fails.TreeFail.TheVariants.{AlreadyThere, IdTaken, IntoItself, NameTaken, RootFixed, TooDeep}
use Rattle.tree_core.specs.After.{AfterRemoval, Holding, after_make_group, after_move_entry, after_move_group, after_new_group, after_remove_entry, after_remove_group, bin_level, entry_deleted, entry_moved_to, entry_named, entry_recycled, group_deleted, group_moved_to, group_named, group_recycled, has_group_in, held_in, is_group_taken, is_parent, is_recycled, named_or_refusal, needs_bin, refuse_if, time_after, with_bin, with_bin_made}
use Rattle.tree_core.specs.Changes.{changed_at, entry_at, group_moved, group_with, has_group, holder, is_free, level_of, parent_of, placed_of, tree_buried, with_group, without_group}
use Rattle.tree_core.specs.Finding.{entry_by_id, entry_found, entry_id, group_at_path, id_named, entry_named as entry_at_path, first, group_found, group_named as group_with_path, has_group_path, or_else, without_slashes}
use Rattle.tree_core.specs.NewNodes.{empty_bin, empty_group}
use Rattle.tree_core.specs.NewPaths.{after_last, before_last, names_root, new_path}
use Rattle.cli_messages.specs.declared.answers.Refusal.{Refusal}
use Rattle.cli_needs.specs.declared.command.Command.{Command}
use Rattle.cli_needs.specs.declared.command.Command.TheVariants.{Ls, Show, History, Search, Add, Edit, Restore, ExportAttachment, ImportAttachment, RemoveAttachment, Move, Remove, MakeGroup, RemoveGroup, Merge, Import, Create, Export, EditFile, Info}
use Rattle.cli_printing.specs.Listing.{tree_listed}
use Rattle.cli_changes.specs.Entries.{AfterCommand, entry_title, held_title, time_of}
use Rattle.cli_changes.specs.Fails.{change_or_refusal}
use Rattle.cli_changes.specs.Nodes.{after_entry_move, after_group_move, after_mkdir, after_mv, after_rm, after_rmdir, found_name, group_name, names_group, with_entry_moved_at, with_group_at, with_group_moved_at, without_entry_at, without_group_at}
use Rattle.cli_changes.specs.Reports.{removal_report, report}
use Rattle.cli_commands.specs.Commands.{Inputs, bin_id, change_with, listing_of, makes_node, new_document, printed_text, printing}
use Rattle.noninterference_laws.specs.Masks.{CommandsAreBlind, DrawsAreBlind, ShowsTitles, is_secret, mask, mask_change, mask_row, mask_tree, reads_no_value}
use Rattle.noninterference_laws.proofs.MaskedTrees.{entry_buried_mask, entry_mask, entry_moved_mask, entry_taken_mask, free_mask, group_mask, group_moved_mask, group_put_mask, group_taken_mask, has_mask, height_mask, holder_mask, id_mask, level_mask, parent_mask, placed_mask, tree_buried_mask}
use Rattle.noninterference_laws.proofs.Screens.{group_path_same, group_same, info_same, lines_same, listed_same, mask_node, mask_walked, name_same, named_same, secret_titles, title_same, walk_same}

-- ---- steps that may be refused

abbrev pub on_ok : {A B E : Type 0} → (A → B) → Result A E → Result B E
on_ok f (Ok x) = Ok (f x)
on_ok f (Err e) = Err e

-- one step and then the next, where both are the same but for what is hidden
pub bind_on : {A A' B B' E : Type 0} (f : A → A') (g : B → B') (r : Result A E) (r' : Result A' E) (next : A → Result B E) (next' : A' → Result B' E) → r' ≡ on_ok f r → ((x : A) → next' (f x) ≡ on_ok g (next x))
    → (r' >>= next') ≡ on_ok g (r >>= next)
bind_on {A = A} {E = E} f g r r' next next' e h = ap (λ t. t >>= next') e ∙ of r
  where
    of : (t : Result A E) → (on_ok f t >>= next') ≡ on_ok g (t >>= next)
    of (Ok x) = h x
    of (Err e) = refl

-- the same where the first step is the same
pub bind_next : {A B B' E : Type 0} (g : B → B') (r r' : Result A E) (next : A → Result B E) (next' : A → Result B' E) → r' ≡ r → ((x : A) → next' x ≡ on_ok g (next x)) → (r' >>= next') ≡ on_ok g (r >>= next)
bind_next {A = A} {E = E} g r r' next next' e h = ap (λ t. t >>= next') e ∙ of r
  where
    of : (t : Result A E) → (t >>= next') ≡ on_ok g (t >>= next)
    of (Ok x) = h x
    of (Err e) = refl

named_map : {A B : Type 0} (f : A → B) (o : Option A) → named_or_refusal (option_map f o) ≡ on_ok f (named_or_refusal o)
named_map f None = refl
named_map f (Some x) = refl

if_on : {A B E : Type 0} (g : A → B) (b b' : Bool) (x y : Result A E) (x' y' : Result B E) → b' ≡ b → x' ≡ on_ok g x → y' ≡ on_ok g y → (if b' then x' else y') ≡ on_ok g (if b then x else y)
if_on g b b' x y x' y' e p q = ap (λ c. if c then x' else y') e ∙ of b
  where
    of : (c : Bool) → (if c then x' else y') ≡ on_ok g (if c then x else y)
    of true = p
    of false = q

module _ (p : BareField → Bool) (titles : ShowsTitles p) where
  -- ---- what a path names

  first_map : (f : Walked → Option NodeId) → ((w : Walked) → f (mask_walked p titles w) ≡ f w) → (ws : List Walked) → first f (map (mask_walked p titles) ws) ≡ first f ws
  first_map f same [] = refl
  first_map f same (w ∷ ws) = λ i. or_else (same w i) (first_map f same ws i)

  entry_id_same : (n : Node) → entry_id (mask_node p titles n) ≡ entry_id n
  unfolding mask_node
  entry_id_same (an_entry u e) = refl
  entry_id_same (a_group u r) = refl

  entry_path_same : (text : List ℕ) (w : Walked) → entry_at_path text (mask_walked p titles w) ≡ entry_at_path text w
  unfolding mask_walked
  entry_path_same text w = ap (λ o. cond (bytes_eq text w.path || bytes_eq text (codes "/" ++ w.path)) o None) (entry_id_same w.found)

  entry_by_id_same : (text : List ℕ) (w : Walked) → entry_by_id text (mask_walked p titles w) ≡ entry_by_id text w
  unfolding mask_walked
  entry_by_id_same text w = ap (option_and_then (id_named text)) (entry_id_same w.found)

  entry_same : (d : BareDoc) (text : List ℕ) → entry_found (mask p d) text ≡ entry_found d text
  unfolding entry_found
  entry_same d text = λ i. or_else
      ((ap (first (entry_by_id text)) ((walk_same p titles) [] d.tree) ∙ first_map (entry_by_id text) (entry_by_id_same text) (walk d)) i)
      ((ap (first (entry_at_path text)) ((walk_same p titles) [] d.tree) ∙ first_map (entry_at_path text) (entry_path_same text) (walk d)) i)

  path_same : (d : BareDoc) (path : List ℕ) → has_group_path (mask p d) path ≡ has_group_path d path
  unfolding has_group_path
  path_same d path = ap is_some (ap (first (group_with_path path)) ((walk_same p titles) [] d.tree) ∙ first_map (group_with_path path) (named_same p titles path) (walk d))

  abbrev pub mask_held : Holding → Holding
  mask_held held = record held { entry = mask_row p held.entry }

  pub entry_named_mask : (path : List ℕ) (d : BareDoc) → entry_named path (mask p d) ≡ on_ok mask_held (entry_named path d)
  entry_named_mask path d =
      bind_next mask_held (named_or_refusal (entry_found d path)) (named_or_refusal (entry_found (mask p d) path))
      (λ id. named_or_refusal (holder id d.tree) >>= held_in id d.tree) (λ id. named_or_refusal (holder id (mask_tree p d.tree)) >>= held_in id (mask_tree p d.tree)) (ap named_or_refusal (entry_same d path))
      (λ id. bind_next mask_held (named_or_refusal (holder id d.tree)) (named_or_refusal (holder id (mask_tree p d.tree))) (held_in id d.tree) (held_in id (mask_tree p d.tree)) (ap named_or_refusal (holder_mask p titles id d.tree))
      (λ group. bind_on (mask_row p) mask_held (named_or_refusal (entry_at group id d.tree)) (named_or_refusal (entry_at group id (mask_tree p d.tree)))
      (λ entry. Ok (record { group = group; entry = entry })) (λ entry. Ok (record { group = group; entry = entry }))
      (ap named_or_refusal (entry_mask p titles group id d.tree) ∙ named_map (mask_row p) (entry_at group id d.tree)) (λ entry. refl)))

  group_named_mask : (path : List ℕ) (d : BareDoc) → group_named path (mask p d) ≡ on_ok (mask_tree p) (group_named path d)
  group_named_mask path d = ap (λ o. named_or_refusal (option_and_then (λ id. group_with id (mask_tree p d.tree)) o)) (group_same p titles d path) ∙ of (group_found d path)
    where
      of : (o : Option NodeId) → named_or_refusal (option_and_then (λ id. group_with id (mask_tree p d.tree)) o) ≡ on_ok (mask_tree p) (named_or_refusal (option_and_then (λ id. group_with id d.tree) o))
      of None = refl
      of (Some id) = ap named_or_refusal (group_mask p titles id d.tree) ∙ named_map (mask_tree p) (group_with id d.tree)

  -- ---- moves

  abbrev placing : BareDoc → Tree → BareDoc
  placing d t = record d { tree = t }

  entry_to_mask : (to : NodeId) (held : Holding) (now : ℕ) (d : BareDoc) → entry_moved_to to (mask_held held) now (mask p d) ≡ on_ok (mask p) (entry_moved_to to held now d)
  entry_to_mask to held now d =
      bind_next (mask p) (time_after now held.entry.1.placed) (time_after now held.entry.1.placed) _ _ refl
      (λ time. ap (λ t. Ok (placing d t)) (entry_moved_mask p titles held.group to time held.entry d.tree))

  move_entry_mask : (path goal : List ℕ) (now : ℕ) (d : BareDoc) → after_move_entry path goal now (mask p d) ≡ on_ok (mask p) (after_move_entry path goal now d)
  move_entry_mask path goal now d =
      bind_on mask_held (mask p) (entry_named path d) (entry_named path (mask p d)) _ _ (entry_named_mask path d)
      (λ held. bind_next (mask p) (named_or_refusal (group_found d goal)) (named_or_refusal (group_found (mask p d) goal)) _ _ (ap named_or_refusal (group_same p titles d goal))
      (λ group. bind_next (mask p) (refuse_if (is_id held.group group) AlreadyThere) (refuse_if (is_id held.group group) AlreadyThere) _ _ refl
      (λ x. entry_to_mask group held now d)))

  group_to_mask : (to : NodeId) (c : Tree) (now : ℕ) (d : BareDoc) → group_moved_to to (mask_tree p c) now (mask p d) ≡ on_ok (mask p) (group_moved_to to c now d)
  group_to_mask to c now d =
      bind_next (mask p) (refuse_if (has_group to c) (IntoItself (id_of c))) (refuse_if (has_group to (mask_tree p c)) (IntoItself (id_of (mask_tree p c)))) _ _ (λ i. refuse_if (has_mask p titles to c i) (IntoItself (id_mask p titles c i)))
      (λ x. bind_next (mask p) (refuse_if (nat_lt LEVELS (level_of to d.tree + height c)) TooDeep) (refuse_if (nat_lt LEVELS (level_of to (mask_tree p d.tree) + height (mask_tree p c))) TooDeep) _ _
      (λ i. refuse_if (nat_lt LEVELS (level_mask p titles to d.tree i + (height_mask p titles) c i)) TooDeep)
      (λ y. bind_next (mask p) (time_after now (placed_of c)) (time_after now (placed_of (mask_tree p c))) _ _ (ap (time_after now) (placed_mask p titles c))
      (λ time.
      (λ i. Ok (placing d (group_moved (unwrap_or (parent_of (id_mask p titles c i) (mask_tree p d.tree)) (id_mask p titles d.tree i)) to time (mask_tree p c) (mask_tree p d.tree))))
      ∙ (λ i. Ok (placing d (group_moved (unwrap_or (parent_mask p titles (id_of c) d.tree i) (id_of d.tree)) to time (mask_tree p c) (mask_tree p d.tree))))
      ∙ ap (λ t. Ok (placing d t)) (group_moved_mask p titles (unwrap_or (parent_of (id_of c) d.tree) (id_of d.tree)) to time c d.tree))))

  move_group_mask : (path goal : List ℕ) (now : ℕ) (d : BareDoc) → after_move_group path goal now (mask p d) ≡ on_ok (mask p) (after_move_group path goal now d)
  move_group_mask path goal now d =
      bind_on (mask_tree p) (mask p) (group_named path d) (group_named path (mask p d)) _ _ (group_named_mask path d)
      (λ c. bind_next (mask p) (named_or_refusal (group_found d goal)) (named_or_refusal (group_found (mask p d) goal)) _ _ (ap named_or_refusal (group_same p titles d goal))
      (λ group. bind_next (mask p) (refuse_if (is_parent group (parent_of (id_of c) d.tree)) AlreadyThere) (refuse_if (is_parent group (parent_of (id_of (mask_tree p c)) (mask_tree p d.tree))) AlreadyThere) _ _
      ((λ i. refuse_if (is_parent group (parent_of (id_mask p titles c i) (mask_tree p d.tree))) AlreadyThere) ∙ (λ i. refuse_if (is_parent group (parent_mask p titles (id_of c) d.tree i)) AlreadyThere))
      (λ x. bind_next (mask p) (refuse_if (is_id (id_of c) (id_of d.tree)) RootFixed) (refuse_if (is_id (id_of (mask_tree p c)) (id_of (mask_tree p d.tree))) RootFixed) _ _ (λ i. refuse_if (is_id (id_mask p titles c i) (id_mask p titles d.tree i)) RootFixed)
      (λ y. group_to_mask group c now d))))

  -- ---- groups that are made

  new_group_mask : (path : List ℕ) (id : NodeId) (now : ℕ) (d : BareDoc) → after_new_group path id now (mask p d) ≡ on_ok (mask p) (after_new_group path id now d)
  new_group_mask path id now d =
      bind_next (mask p) (named_or_refusal (group_at_path d (before_last path))) (named_or_refusal (group_at_path (mask p d) (before_last path))) _ _ (ap named_or_refusal (group_path_same p titles d (before_last path)))
      (λ group. bind_next (mask p) (refuse_if (is_group_taken (new_path path) d) NameTaken) (refuse_if (is_group_taken (new_path path) (mask p d)) NameTaken) _ _
      (ap (λ b. refuse_if (b || names_root (new_path path)) NameTaken) (path_same d (new_path path)))
      (λ x. bind_next (mask p) (refuse_if (nat_lt LEVELS (level_of group d.tree + 1)) TooDeep) (refuse_if (nat_lt LEVELS (level_of group (mask_tree p d.tree) + 1)) TooDeep) _ _
      (ap (λ n. refuse_if (nat_lt LEVELS (n + 1)) TooDeep) (level_mask p titles group d.tree))
      (λ y. bind_next (mask p) (refuse_if (not (is_free id d)) (IdTaken id)) (refuse_if (not (is_free id (mask p d))) (IdTaken id)) _ _ (ap (λ b. refuse_if (not b) (IdTaken id)) (free_mask p titles id d))
      (λ z. ap (λ t. Ok (placing d t)) (group_put_mask p titles group (empty_group id (after_last path) now) d.tree)))))

  -- ---- the bin

  abbrev with_meta : BareDoc → NodeId → ℕ → Tree → BareDoc
  with_meta d id time t = record d { tree = t; meta = with_bin id time d.meta }

  bin_mask : (bin : Option NodeId) (now : ℕ) (d : BareDoc) → with_bin_made bin now (mask p d) ≡ on_ok (mask p) (with_bin_made bin now d)
  bin_mask None now d = refl
  bin_mask (Some id) now d =
      bind_next (mask p) (refuse_if (not (is_free id d)) (IdTaken id)) (refuse_if (not (is_free id (mask p d))) (IdTaken id)) _ _ (ap (λ b. refuse_if (not b) (IdTaken id)) (free_mask p titles id d))
      (λ x. bind_next (mask p) (time_after now d.meta.bin.changed) (time_after now d.meta.bin.changed) _ _ refl
      (λ time. (λ i. Ok (with_meta d id time (changed_at (id_mask p titles d.tree i) (with_group (empty_bin id now)) (mask_tree p d.tree))))
      ∙ ap (λ t. Ok (with_meta d id time t)) (group_put_mask p titles (id_of d.tree) (empty_bin id now) d.tree)))

  in_mask : (u : NodeId) (o : Option Tree) → has_group_in u (option_map (mask_tree p) o) ≡ has_group_in u o
  in_mask u None = refl
  in_mask u (Some t) = has_mask p titles u t

  recycled_mask : (u : NodeId) (d : BareDoc) → is_recycled u (mask p d) ≡ is_recycled u d
  recycled_mask u d = ap (λ b. d.meta.bin.value.enabled && not b) (ap (has_group_in u) (group_mask p titles d.meta.bin.value.id d.tree) ∙ in_mask u (group_with d.meta.bin.value.id d.tree))

  needs_mask : (d : BareDoc) → needs_bin (mask p d) ≡ needs_bin d
  needs_mask d = ap (λ b. d.meta.bin.value.enabled && not b) (has_mask p titles d.meta.bin.value.id d.tree)

  bin_level_mask : (d : BareDoc) → bin_level (mask p d) ≡ bin_level d
  bin_level_mask d = λ i. if (has_mask p titles) d.meta.bin.value.id d.tree i then (level_mask p titles) d.meta.bin.value.id d.tree i else 2

  -- ---- removals

  abbrev mask_removal : AfterRemoval → AfterRemoval
  mask_removal a = record a { doc = mask p a.doc }

  entry_recycled_mask : (bin : Option NodeId) (held : Holding) (now : ℕ) (d : BareDoc) → entry_recycled bin (mask_held held) now (mask p d) ≡ on_ok mask_removal (entry_recycled bin held now d)
  entry_recycled_mask bin held now d =
      bind_on (mask p) mask_removal (with_bin_made bin now d) (with_bin_made bin now (mask p d)) _ _ (bin_mask bin now d)
      (λ ready. bind_on (mask p) mask_removal (entry_moved_to ready.meta.bin.value.id held now ready) (entry_moved_to ready.meta.bin.value.id (mask_held held) now (mask p ready)) _ _
      (entry_to_mask ready.meta.bin.value.id held now ready) (λ moved. refl))

  entry_deleted_mask : (held : Holding) (now : ℕ) (d : BareDoc) → entry_deleted (mask_held held) now (mask p d) ≡ mask_removal (entry_deleted held now d)
  entry_deleted_mask held now d =
      λ i. record (entry_deleted held now d) { doc = record d { tree = entry_taken_mask p titles held.group held.entry.0 d.tree i; tombs = entry_buried_mask p titles now held.entry d.tombs i } }

  remove_entry_mask : (path : List ℕ) (bin : Option NodeId) (now : ℕ) (d : BareDoc) → after_remove_entry path bin now (mask p d) ≡ on_ok mask_removal (after_remove_entry path bin now d)
  remove_entry_mask path bin now d =
      bind_on mask_held mask_removal (entry_named path d) (entry_named path (mask p d)) _ _ (entry_named_mask path d)
      (λ held. if_on mask_removal (is_recycled held.group d) (is_recycled held.group (mask p d)) (entry_recycled bin held now d) (Ok (entry_deleted held now d)) (entry_recycled bin (mask_held held) now (mask p d))
      (Ok (entry_deleted (mask_held held) now (mask p d))) (recycled_mask held.group d) (entry_recycled_mask bin held now d) (ap Ok (entry_deleted_mask held now d)))

  group_recycled_mask : (bin : Option NodeId) (c : Tree) (now : ℕ) (d : BareDoc) → group_recycled bin (mask_tree p c) now (mask p d) ≡ on_ok mask_removal (group_recycled bin c now d)
  group_recycled_mask bin c now d =
      bind_next mask_removal (refuse_if (has_group d.meta.bin.value.id c) (IntoItself (id_of c))) (refuse_if (has_group d.meta.bin.value.id (mask_tree p c)) (IntoItself (id_of (mask_tree p c)))) _ _
      (λ i. refuse_if (has_mask p titles d.meta.bin.value.id c i) (IntoItself (id_mask p titles c i)))
      (λ x. bind_next mask_removal (refuse_if (nat_lt LEVELS (bin_level d + height c)) TooDeep) (refuse_if (nat_lt LEVELS (bin_level (mask p d) + height (mask_tree p c))) TooDeep) _ _
      (λ i. refuse_if (nat_lt LEVELS (bin_level_mask d i + (height_mask p titles) c i)) TooDeep)
      (λ y. bind_on (mask p) mask_removal (with_bin_made bin now d) (with_bin_made bin now (mask p d)) _ _ (bin_mask bin now d)
      (λ ready. bind_on (mask p) mask_removal (group_moved_to ready.meta.bin.value.id c now ready) (group_moved_to ready.meta.bin.value.id (mask_tree p c) now (mask p ready)) _ _
      (group_to_mask ready.meta.bin.value.id c now ready) (λ moved. refl))))

  group_deleted_mask : (c : Tree) (now : ℕ) (d : BareDoc) → group_deleted (mask_tree p c) now (mask p d) ≡ mask_removal (group_deleted c now d)
  group_deleted_mask c now d =
      (λ i. record (group_deleted c now d) { doc = record d { tree = changed_at (unwrap_or (parent_of (id_mask p titles c i) (mask_tree p d.tree)) (id_mask p titles d.tree i)) (without_group (id_mask p titles c i)) (mask_tree p d.tree); tombs = tree_buried_mask p titles now c d.tombs i } })
      ∙ (λ i. record (group_deleted c now d) { doc = record d { tree = changed_at (unwrap_or (parent_mask p titles (id_of c) d.tree i) (id_of d.tree)) (without_group (id_of c)) (mask_tree p d.tree); tombs = tree_buried now c d.tombs } })
      ∙ (λ i. record (group_deleted c now d) { doc = record d { tree = group_taken_mask p titles (unwrap_or (parent_of (id_of c) d.tree) (id_of d.tree)) (id_of c) d.tree i; tombs = tree_buried now c d.tombs } })

  remove_group_mask : (path : List ℕ) (bin : Option NodeId) (now : ℕ) (d : BareDoc) → after_remove_group path bin now (mask p d) ≡ on_ok mask_removal (after_remove_group path bin now d)
  remove_group_mask path bin now d =
      bind_on (mask_tree p) mask_removal (group_named path d) (group_named path (mask p d)) _ _ (group_named_mask path d)
      (λ c. bind_next mask_removal (refuse_if (is_id (id_of c) (id_of d.tree)) RootFixed) (refuse_if (is_id (id_of (mask_tree p c)) (id_of (mask_tree p d.tree))) RootFixed) _ _ (λ i. refuse_if (is_id (id_mask p titles c i) (id_mask p titles d.tree i)) RootFixed)
      (λ x. if_on mask_removal (is_recycled (id_of c) d) (is_recycled (id_of (mask_tree p c)) (mask p d)) (group_recycled bin c now d) (Ok (group_deleted c now d)) (group_recycled bin (mask_tree p c) now (mask p d))
      (Ok (group_deleted (mask_tree p c) now (mask p d))) (ap (λ v. is_recycled v (mask p d)) (id_mask p titles c) ∙ recycled_mask (id_of c) d) (group_recycled_mask bin c now d) (ap Ok (group_deleted_mask c now d))))

  -- ---- what commands report

  abbrev mask_command : AfterCommand → AfterCommand
  mask_command a = record a { doc = mask p a.doc }

  refusal_map : {A B : Type 0} (file : List ℕ) (f : A → B) (r : Result A TreeFail) → change_or_refusal file (on_ok f r) ≡ on_ok f (change_or_refusal file r)
  refusal_map file f (Ok x) = refl
  refusal_map file f (Err why) = refl

  title_mask : (path : List ℕ) (d : BareDoc) → entry_title path (mask p d) ≡ entry_title path d
  title_mask path d = ap held_title (entry_named_mask path d) ∙ of (entry_named path d)
    where
      of : (r : Result Holding TreeFail) → held_title (on_ok mask_held r) ≡ held_title r
      of (Ok held) = title_same p titles held.entry.1
      of (Err why) = refl

  group_name_mask : (path : List ℕ) (d : BareDoc) → group_name path (mask p d) ≡ group_name path d
  group_name_mask path d = ap found_name (group_named_mask path d) ∙ of (group_named path d)
    where
      of : (r : Result Tree TreeFail) → found_name (on_ok (mask_tree p) r) ≡ found_name r
      of (Ok t) = name_same p titles t
      of (Err why) = refl

  -- the same at a moment that must be in the calendar
  in_time : {A B : Type 0} (file : List ℕ) (f : A → B) (now : ℕ) (made : ℕ → Result A TreeFail) (made' : ℕ → Result B TreeFail) → ((time : ℕ) → made' time ≡ on_ok f (made time))
      → change_or_refusal file (time_of now >>= made') ≡ on_ok f (change_or_refusal file (time_of now >>= made))
  in_time file f now made made' same = ap (change_or_refusal file) (bind_next f (time_of now) (time_of now) made made' refl same) ∙ refusal_map file f (time_of now >>= made)

  mkdir_mask : (file : List ℕ) (quiet : Bool) (path : List ℕ) (id : NodeId) (now : ℕ) (d : BareDoc) → after_mkdir file quiet path id now (mask p d) ≡ on_ok mask_command (after_mkdir file quiet path id now d)
  unfolding after_mkdir
  mkdir_mask file quiet path id now d =
      bind_on (mask p) mask_command (change_or_refusal file (with_group_at path id now d)) (change_or_refusal file (with_group_at path id now (mask p d))) _ _
      (in_time file (mask p) now (λ time. after_make_group path id time d) (λ time. after_make_group path id time (mask p d)) (λ time. new_group_mask (without_slashes path) id time d)) (λ new. refl)

  entry_move_mask : (file : List ℕ) (quiet : Bool) (path group : List ℕ) (now : ℕ) (d : BareDoc) → after_entry_move file quiet path group now (mask p d) ≡ on_ok mask_command (after_entry_move file quiet path group now d)
  unfolding after_entry_move
  entry_move_mask file quiet path group now d =
      bind_on (mask p) mask_command (change_or_refusal file (with_entry_moved_at path group now d)) (change_or_refusal file (with_entry_moved_at path group now (mask p d))) _ _
      (in_time file (mask p) now (λ time. after_move_entry path group time d) (λ time. after_move_entry path group time (mask p d)) (λ time. move_entry_mask path group time d))
      (λ new. λ i. Ok (record { text = report quiet (codes "moved entry ") (title_mask path d i) (Some group); doc = mask p new }))

  group_move_mask : (file : List ℕ) (quiet : Bool) (path group : List ℕ) (now : ℕ) (d : BareDoc) → after_group_move file quiet path group now (mask p d) ≡ on_ok mask_command (after_group_move file quiet path group now d)
  unfolding after_group_move
  group_move_mask file quiet path group now d =
      bind_on (mask p) mask_command (change_or_refusal file (with_group_moved_at path group now d)) (change_or_refusal file (with_group_moved_at path group now (mask p d))) _ _
      (in_time file (mask p) now (λ time. after_move_group path group time d) (λ time. after_move_group path group time (mask p d)) (λ time. move_group_mask path group time d))
      (λ new. λ i. Ok (record { text = report quiet (codes "moved group ") (group_name_mask path d i) (Some group); doc = mask p new }))

  mv_mask : (file : List ℕ) (quiet : Bool) (path group : List ℕ) (now : ℕ) (d : BareDoc) → after_mv file quiet path group now (mask p d) ≡ on_ok mask_command (after_mv file quiet path group now d)
  mv_mask file quiet path group now d =
      if_on mask_command (names_group path) (names_group path) (after_group_move file quiet path group now d) (after_entry_move file quiet path group now d)
      (after_group_move file quiet path group now (mask p d)) (after_entry_move file quiet path group now (mask p d)) refl (group_move_mask file quiet path group now d) (entry_move_mask file quiet path group now d)

  rm_mask : (file : List ℕ) (quiet : Bool) (path : List ℕ) (bin : Option NodeId) (now : ℕ) (d : BareDoc) → after_rm file quiet path bin now (mask p d) ≡ on_ok mask_command (after_rm file quiet path bin now d)
  unfolding after_rm
  rm_mask file quiet path bin now d =
      bind_on mask_removal mask_command (change_or_refusal file (without_entry_at path bin now d)) (change_or_refusal file (without_entry_at path bin now (mask p d))) _ _
      (in_time file mask_removal now (λ time. after_remove_entry path bin time d) (λ time. after_remove_entry path bin time (mask p d)) (λ time. remove_entry_mask path bin time d))
      (λ after. λ i. Ok (record { text = removal_report quiet after.removed (codes "recycled entry ") (codes "deleted entry ") (title_mask path d i); doc = mask p after.doc }))

  rmdir_mask : (file : List ℕ) (quiet : Bool) (path : List ℕ) (bin : Option NodeId) (now : ℕ) (d : BareDoc) → after_rmdir file quiet path bin now (mask p d) ≡ on_ok mask_command (after_rmdir file quiet path bin now d)
  unfolding after_rmdir
  rmdir_mask file quiet path bin now d =
      bind_on mask_removal mask_command (change_or_refusal file (without_group_at path bin now d)) (change_or_refusal file (without_group_at path bin now (mask p d))) _ _
      (in_time file mask_removal now (λ time. after_remove_group path bin time d) (λ time. after_remove_group path bin time (mask p d)) (λ time. remove_group_mask path bin time d))
      (λ after. λ i. Ok (record { text = removal_report quiet after.removed (codes "recycled group ") (codes "deleted group ") (group_name_mask path d i); doc = mask p after.doc }))

  -- ---- the commands

  new_mask : (r : Result AfterCommand Refusal) → new_document (on_ok mask_command r) ≡ mask_change p (new_document r)
  new_mask (Ok after) = refl
  new_mask (Err refusal) = refl

  listing_mask_of : (file : List ℕ) (recursive flat ids : Bool) (o : Option Tree) → listing_of file recursive flat ids (option_map (mask_tree p) o) ≡ mask_change p (listing_of file recursive flat ids o)
  listing_mask_of file recursive flat ids None = refl
  listing_mask_of file recursive flat ids (Some t) = ap (λ text. Ok (printing text)) (lines_same p titles recursive flat ids [] t)

  pub change_mask : (command : Command) → reads_no_value command ≡ true → (time : ℕ) (input : Inputs) (id : NodeId) (d : BareDoc)
      → change_with time command input id (mask p d) ≡ mask_change p (change_with time command input id d)
  change_mask (Ls access file group recursive flat ids) is time input id d = ap (listing_of file recursive flat ids) (listed_same p titles group d) ∙ listing_mask_of file recursive flat ids (tree_listed group d)
  change_mask (Move access file node group) is time input id d = ap new_document (mv_mask file access.quiet node group time d) ∙ new_mask (after_mv file access.quiet node group time d)
  change_mask (Remove access file entry) is time input id d =
      ap (λ b. new_document (after_rm file access.quiet entry (if b then Some id else None) time (mask p d))) (needs_mask d)
      ∙ ap new_document (rm_mask file access.quiet entry (bin_id id d) time d) ∙ new_mask (after_rm file access.quiet entry (bin_id id d) time d)
  change_mask (MakeGroup access file group) is time input id d = ap new_document (mkdir_mask file access.quiet group id time d) ∙ new_mask (after_mkdir file access.quiet group id time d)
  change_mask (RemoveGroup access file group) is time input id d =
      ap (λ b. new_document (after_rmdir file access.quiet group (if b then Some id else None) time (mask p d))) (needs_mask d)
      ∙ ap new_document (rmdir_mask file access.quiet group (bin_id id d) time d) ∙ new_mask (after_rmdir file access.quiet group (bin_id id d) time d)
  change_mask (Info access file) is time input id d = ap (λ text. printed_text (Ok text)) (info_same p titles input.settings d)
  change_mask (Show access file entry clear all attachments names totp at) is time input id d = cc is
  change_mask (History access file entry) is time input id d = cc is
  change_mask (Search access file term) is time input id d = cc is
  change_mask (Add access file entry asked) is time input id d = cc is
  change_mask (Edit access file entry asked further) is time input id d = cc is
  change_mask (Restore access file entry version) is time input id d = cc is
  change_mask (ExportAttachment access file entry name to) is time input id d = cc is
  change_mask (ImportAttachment access file entry name source replaces) is time input id d = cc is
  change_mask (RemoveAttachment access file entry name) is time input id d = cc is
  change_mask (Merge access file names from same dry details) is time input id d = cc is
  change_mask (Import access format source from file) is time input id d = cc is
  change_mask (Create access file name cipher kdf) is time input id d = cc is
  change_mask (Export access format file) is time input id d = cc is
  change_mask (EditFile access file change) is time input id d = cc is

  pub makes_mask : (command : Command) (d : BareDoc) → makes_node command (mask p d) ≡ makes_node command d
  makes_mask (Ls access file group recursive flat ids) d = refl
  makes_mask (Move access file node group) d = refl
  makes_mask (Remove access file entry) d = needs_mask d
  makes_mask (MakeGroup access file group) d = refl
  makes_mask (RemoveGroup access file group) d = needs_mask d
  makes_mask (Info access file) d = refl
  makes_mask (Show access file entry clear all attachments names totp at) d = refl
  makes_mask (History access file entry) d = refl
  makes_mask (Search access file term) d = refl
  makes_mask (Add access file entry asked) d = refl
  makes_mask (Edit access file entry asked further) d = refl
  makes_mask (Restore access file entry version) d = refl
  makes_mask (ExportAttachment access file entry name to) d = refl
  makes_mask (ImportAttachment access file entry name source replaces) d = refl
  makes_mask (RemoveAttachment access file entry name) d = refl
  makes_mask (Merge access file names from same dry details) d = refl
  makes_mask (Import access format source from file) d = refl
  makes_mask (Create access file name cipher kdf) d = refl
  makes_mask (Export access format file) d = refl
  makes_mask (EditFile access file change) d = refl

pub commands_are_blind : CommandsAreBlind
commands_are_blind d e alike command is time input id =
    sym (change_mask is_secret secret_titles command is time input id d) ∙ ap (change_with time command input id) alike ∙ change_mask is_secret secret_titles command is time input id e

pub draws_are_blind : DrawsAreBlind
draws_are_blind d e alike command = sym (makes_mask is_secret secret_titles command d) ∙ ap (makes_node command) alike ∙ makes_mask is_secret secret_titles command e
