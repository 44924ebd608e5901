-- Where an entry is changed and its title stays, paths name the same entries, and each is in the same group.
use Rattle.std.proofs.Common.{◌≡◌, ◌||◌, ◌++◌, ℕ, true, false, cond, inl, inr, List, [], ◌∷◌, Option, None, Some, Ok, is_some, find, map, codes, bytes_eq, refl, sym, ap, ◌∙◌}
use Rattle.std.proofs.lemmas.Option.{same_Some}
use Rattle.std.specs.Option.{ok_or, option_and_then}
use Rattle.outside_core.specs.Results.{◌>>=◌}
use Rattle.vault_model.specs.Bare.{BareAttachment}
use Rattle.vault_model.specs.Db.{NodeId}
use Rattle.vault_model.specs.Join.{is_id}
use Rattle.vault_model.specs.SeenNodes.{entry_time}
use Rattle.vault_model.specs.Shape.{EntryRecord}
use Rattle.vault_model.specs.Tree.{BareDoc, IsDoc, Tree, Trees, beside, entry_rows, entry_rows_all, node, node_ids, none}
use Rattle.vault_model.specs.Walk.{Walked, name_of, slash_joined, title_of, walk, walk_tree, walk_trees, walked_entry}
use Rattle.vault_model.proofs.Tests.{decide, map_append, some_of}
use Rattle.tree_core.specs.declared.fails.TreeFail.TheVariants.{NoAttachment}
use Rattle.tree_core.specs.After.{Holding, changed_content, entry_named, held_in, named_or_refusal, time_after}
use Rattle.tree_core.specs.Attachments.{attachment_named, attachment_of, is_attachable, with_attachment}
use Rattle.tree_core.specs.Changes.{changed_at, changed_entry, changed_in, entry_at, has_group, holder, holder_among, own_entry, with_changed, without_entry}
use Rattle.tree_core.specs.Finding.{entry_found, entry_id, first, id_named, or_else}
use Rattle.tree_core.proofs.Around.{entries_rows}
use Rattle.tree_core.proofs.Binds.{names}
use Rattle.tree_core.proofs.Counted.{once}
use Rattle.tree_core.proofs.EntriesRemoved.{found_at, own_id}
use Rattle.tree_core.proofs.Holders.{held_at}
use Rattle.growth_laws.proofs.Outcomes.{bind_ok, named_ok, same_ok}
use Rattle.growth_laws.proofs.Stays.{entry_is}
use Rattle.growth_laws.proofs.Steps.{own_row, take_root}
use Rattle.frame_laws.specs.Entries.{ExportGivesImported, is_hidden_after}
use Rattle.frame_laws.specs.Frame.{entry_of}
use Rattle.frame_laws.proofs.EntryFrames.{attach_frames, found_named}
use Rattle.frame_laws.proofs.Finds.{row_was}

-- ---- the entry that a path names

-- An entry that a path names is held, with the record that the document has of it.
pub record Held (path : List ℕ) (d : BareDoc) (g : NodeId) (x : EntryRecord) : Type 0 where
  pub held : Holding
  pub is : entry_named path d ≡ Ok held
  pub group : held.group ≡ g
  pub record_is : held.entry.1 ≡ x

pub held_entry : (path : List ℕ) (d : BareDoc) → IsDoc d → (u g : NodeId) (x : EntryRecord) → entry_found d path ≡ Some u → holder u d.tree ≡ Some g → entry_of d u ≡ Some x → Held path d g x
held_entry path d isd u g x named held is =
    let some = some_of (entry_at g u d.tree) (held_at u g d.tree (once (node_ids d.tree) isd.distinct) held) in
    let at = found_at g u d.tree some.0 some.1 in
    let key = own_id u at.0 some.0 at.1.1 in
    let own = ap (λ v. own_entry v at.0) key ∙ at.1.1 in
    let row = row_was g (without_entry some.0.0) d.tree at.0 at.1.0 (take_root some.0.0 at.0) entry_rows entry_rows_all entries_rows some.0 (own_row some.0.0 some.0 at.0 own) in
    let there : entry_of d u ≡ Some some.0.1 = ap (entry_of d) (sym key) ∙ entry_is d isd some.0.0 some.0.1 row in
    record {
      held = record { group = g; entry = some.0 };
      is = names (λ id. named_or_refusal (holder id d.tree) >>= held_in id d.tree) (entry_found d path) u named
          ∙ names (held_in u d.tree) (holder u d.tree) g held
          ∙ names (λ entry. Ok (record { group = g; entry = entry })) (entry_at g u d.tree) some.0 some.1;
      group = refl;
      record_is = same_Some some.0.1 x (sym there ∙ is);
    }

-- ---- an entry whose title stays

-- what a path's name depends on: the path of a node, and the id of an entry
abbrev seen : Walked → List ℕ × Option NodeId
seen w = (w.path, entry_id w.found)

first_seen : (f : List ℕ × Option NodeId → Option NodeId) (ws : List Walked) → first (λ w. f (seen w)) ws ≡ first f (map seen ws)
first_seen f [] = refl
first_seen f (w ∷ ws) = ap (or_else (f (seen w))) (first_seen f ws)

module _ (g u : NodeId) (k : EntryRecord → EntryRecord) (keeps : (x : EntryRecord) → title_of (k x) ≡ title_of x) where
  abbrev now : Tree → Tree
  now = changed_at g (changed_entry u k)

  abbrev all_now : Trees → Trees
  all_now = changed_in g (changed_entry u k)

  entries_seen : (way : List (List ℕ)) (es : List (NodeId × EntryRecord)) → map seen (map (walked_entry way) (with_changed u k es)) ≡ map seen (map (walked_entry way) es)
  entries_seen way [] = refl
  entries_seen way (e ∷ es) =
      elim (decide (is_id e.0 u)) [
        | inl p ↦
            ap (λ b. map seen (map (walked_entry way) (cond b ((e.0, k e.1) ∷ es) (e ∷ with_changed u k es)))) p
            ∙ ap (λ title. (slash_joined (way ++ title ∷ []), Some e.0) ∷ map seen (map (walked_entry way) es)) (keeps e.1)
        | inr p ↦
            ap (λ b. map seen (map (walked_entry way) (cond b ((e.0, k e.1) ∷ es) (e ∷ with_changed u k es)))) p
            ∙ ap (λ ws. seen (walked_entry way e) ∷ ws) (entries_seen way es)
      ]

  name_stays : (t : Tree) → name_of (now t) ≡ name_of t
  name_stays (node v r es ts) =
      elim (is_id v g) as (λ b. name_of (cond b (node v r (with_changed u k es) ts) (node v r es (all_now ts))) ≡ r.state.content.name) [
        | true ↦ refl
        | false ↦ refl
      ]

  mutual
    tree_seen : (way : List (List ℕ)) (t : Tree) → map seen (walk_tree way (now t)) ≡ map seen (walk_tree way t)
    tree_seen way (node v r es ts) =
        let head : List ℕ × Option NodeId = (slash_joined way, None) in
        elim (decide (is_id v g)) [
          | inl p ↦
              ap (λ b. map seen (walk_tree way (cond b (node v r (with_changed u k es) ts) (node v r es (all_now ts))))) p
              ∙ ap (λ ws. head ∷ ws)
              (map_append seen (map (walked_entry way) (with_changed u k es)) (walk_trees way ts)
              ∙ ap (λ ws. ws ++ map seen (walk_trees way ts)) (entries_seen way es)
              ∙ sym (map_append seen (map (walked_entry way) es) (walk_trees way ts)))
          | inr p ↦
              ap (λ b. map seen (walk_tree way (cond b (node v r (with_changed u k es) ts) (node v r es (all_now ts))))) p
              ∙ ap (λ ws. head ∷ ws)
              (map_append seen (map (walked_entry way) es) (walk_trees way (all_now ts))
              ∙ ap (λ ws. map seen (map (walked_entry way) es) ++ ws) (trees_seen way ts)
              ∙ sym (map_append seen (map (walked_entry way) es) (walk_trees way ts)))
        ]

    trees_seen : (way : List (List ℕ)) (ts : Trees) → map seen (walk_trees way (all_now ts)) ≡ map seen (walk_trees way ts)
    trees_seen way none = refl
    trees_seen way (beside t ts) =
        elim (decide (has_group g t)) [
          | inl p ↦
              ap (λ b. map seen (walk_trees way (cond b (beside (now t) ts) (beside t (all_now ts))))) p
              ∙ map_append seen (walk_tree (way ++ name_of (now t) ∷ []) (now t)) (walk_trees way ts)
              ∙ ap (λ n. map seen (walk_tree (way ++ n ∷ []) (now t)) ++ map seen (walk_trees way ts)) (name_stays t)
              ∙ ap (λ ws. ws ++ map seen (walk_trees way ts)) (tree_seen (way ++ name_of t ∷ []) t)
              ∙ sym (map_append seen (walk_tree (way ++ name_of t ∷ []) t) (walk_trees way ts))
          | inr p ↦
              ap (λ b. map seen (walk_trees way (cond b (beside (now t) ts) (beside t (all_now ts))))) p
              ∙ map_append seen (walk_tree (way ++ name_of t ∷ []) t) (walk_trees way (all_now ts))
              ∙ ap (λ ws. map seen (walk_tree (way ++ name_of t ∷ []) t) ++ ws) (trees_seen way ts)
              ∙ sym (map_append seen (walk_tree (way ++ name_of t ∷ []) t) (walk_trees way ts))
        ]

  pub found_still : (d : BareDoc) (path : List ℕ) → entry_found (record d { tree = now d.tree }) path ≡ entry_found d path
  unfolding entry_found
  found_still d path =
      let same = tree_seen [] d.tree in
      let by_id = λ (p : List ℕ × Option NodeId). option_and_then (id_named path) p.1 in
      let by_path = λ (p : List ℕ × Option NodeId). cond (bytes_eq path p.0 || bytes_eq path (codes "/" ++ p.0)) p.1 None in
      let after = walk (record d { tree = now d.tree }) in
      (λ i. or_else (first_seen by_id after i) (first_seen by_path after i))
      ∙ ap (λ ps. or_else (first by_id ps) (first by_path ps)) same
      ∙ sym (λ i. or_else (first_seen by_id (walk d) i) (first_seen by_path (walk d) i))

  entry_stays : (w : NodeId) (es : List (NodeId × EntryRecord)) → is_some (find (λ (e : NodeId × EntryRecord). is_id e.0 w) (with_changed u k es)) ≡ is_some (find (λ (e : NodeId × EntryRecord). is_id e.0 w) es)
  entry_stays w [] = refl
  entry_stays w (e ∷ es) =
      let test = λ (x : NodeId × EntryRecord). is_id x.0 w in
      let rest = entry_stays w es in
      elim (is_id e.0 u) as (λ b. is_some (find test (cond b ((e.0, k e.1) ∷ es) (e ∷ with_changed u k es))) ≡ is_some (find test (e ∷ es))) [
        | true ↦ elim (is_id e.0 w) as (λ c. is_some (cond c (Some (e.0, k e.1)) (find test es)) ≡ is_some (cond c (Some e) (find test es))) [ true ↦ refl | false ↦ refl ]
        | false ↦ elim (is_id e.0 w) as (λ c. is_some (cond c (Some e) (find test (with_changed u k es))) ≡ is_some (cond c (Some e) (find test es))) [ true ↦ refl | false ↦ rest ]
      ]

  mutual
    pub holder_stays : (w : NodeId) (t : Tree) → holder w (now t) ≡ holder w t
    holder_stays w (node v r es ts) =
        elim (decide (is_id v g)) [
          | inl p ↦
              ap (λ b. holder w (cond b (node v r (with_changed u k es) ts) (node v r es (all_now ts)))) p
              ∙ ap (λ b. cond b (Some v) (holder_among w ts)) (entry_stays w es)
          | inr p ↦
              ap (λ b. holder w (cond b (node v r (with_changed u k es) ts) (node v r es (all_now ts)))) p
              ∙ ap (λ o. cond (is_some (find (λ (e : NodeId × EntryRecord). is_id e.0 w) es)) (Some v) o) (holders_stay w ts)
        ]

    holders_stay : (w : NodeId) (ts : Trees) → holder_among w (all_now ts) ≡ holder_among w ts
    holders_stay w none = refl
    holders_stay w (beside t ts) =
        elim (decide (has_group g t)) [
          | inl p ↦ ap (λ b. holder_among w (cond b (beside (now t) ts) (beside t (all_now ts)))) p ∙ ap (λ o. or_else o (holder_among w ts)) (holder_stays w t)
          | inr p ↦ ap (λ b. holder_among w (cond b (beside (now t) ts) (beside t (all_now ts)))) p ∙ ap (or_else (holder w t)) (holders_stay w ts)
        ]

-- ---- what is attached is taken out

pub export_gives_imported : ExportGivesImported
export_gives_imported path name bytes replaces now d e isd ise h =
    let held = bind_ok (entry_named path d) _ e h in
    let allowed = bind_ok (is_attachable name replaces held.0.entry.1.current.mark.content) _ e held.1.1 in
    let time = bind_ok (time_after now (entry_time held.0.entry.1)) _ e allowed.1.1 in
    let is = same_ok _ e time.1.1 in
    let k = changed_content d.meta (with_attachment name bytes) time.0 in
    let u = held.0.entry.0 in
    let A = attach_frames path name bytes replaces now d e isd ise h in
    let was = found_named path d held.0 held.1.0 in
    let same = same_Some A.entry u (sym A.named ∙ was) in
    let named = ap (λ (w : BareDoc). entry_found w path) (sym is) ∙ found_still held.0.group u k (λ x. refl) d path ∙ was in
    let holds = ap (λ (w : BareDoc). holder u w.tree) (sym is) ∙ holder_stays held.0.group u k (λ x. refl) u d.tree ∙ in_group path d held.0 held.1.0 in
    let H = held_entry path e ise u held.0.group A.after named holds (ap (entry_of e) (sym same) ∙ A.is) in
    let made : BareAttachment = record { name = name; bytes = bytes; hidden = is_hidden_after (attachment_of name A.before.current.mark.content) } in (
      made,
      (
        ap (λ r. r >>= (λ (x : Holding). attachment_named name x.entry.1.current.mark.content)) H.is
            ∙ ap (λ (x : EntryRecord). attachment_named name x.current.mark.content) H.record_is
            ∙ ap (λ o. ok_or o NoAttachment) A.changed.attached,
        refl,
      ),
    )
  where
    -- the group that holds the entry that a path names
    in_group : (path : List ℕ) (d : BareDoc) (held : Holding) → entry_named path d ≡ Ok held → holder held.entry.0 d.tree ≡ Some held.group
    in_group path d held h =
        let id = bind_ok (named_or_refusal (entry_found d path)) _ held h in
        let group = bind_ok (named_or_refusal (holder id.0 d.tree)) _ held id.1.1 in
        let entry = bind_ok (named_or_refusal (entry_at group.0 id.0 d.tree)) _ held group.1.1 in
        let is = same_ok _ held entry.1.1 in
        let at = found_at group.0 id.0 d.tree entry.0 (named_ok (entry_at group.0 id.0 d.tree) entry.0 entry.1.0) in
        ap (λ (x : Holding). holder x.entry.0 d.tree) (sym is) ∙ ap (λ v. holder v d.tree) (own_id id.0 at.0 entry.0 at.1.1)
        ∙ named_ok (holder id.0 d.tree) group.0 group.1.0 ∙ ap (λ (x : Holding). Some x.group) is
