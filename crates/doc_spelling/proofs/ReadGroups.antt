-- Groups with all below them are read back.
use Rattle.std.proofs.Common.{◌≡◌, ℕ, suc, ◌+◌, ◌-◌, ◌≤◌, Bool, true, false, cond, Option, Some, None, List, [], ◌∷◌, ◌++◌, map, Result, Ok, Err, length, bytes_eq, codes, ap, ap₂, sym, refl, ◌∙◌, arith}
use Rattle.std.proofs.lemmas.Bool.{ne_eqb}
use Rattle.std.proofs.lemmas.List.{map-append}
use Rattle.std.specs.Str.{is_utf8}
use Rattle.vault_model.specs.Db.{NodeId, nil_id}
use Rattle.vault_model.specs.Proper.{rises}
use Rattle.vault_model.specs.Shape.{EntryRecord, GroupRecord}
use Rattle.vault_model.specs.Tree as vault
use Rattle.vault_model.specs.Tree.{Tree, Trees, height, height_all}
use Rattle.vault_model.specs.declared.contents.Item.{Item}
use Rattle.vault_model.specs.declared.contents.Tri.TheVariants.{Inherit}
use Rattle.markup_grammar.specs.Elements as told
use Rattle.markup_grammar.specs.Elements.{own_text}
use Rattle.markup_grammar.specs.Tree.{start_tag}
use Rattle.markup_grammar.specs.TreeElements.{element_at, content_at}
use Rattle.doc_forms.specs.declared.cursor.Cursor.{Cursor}
use Rattle.doc_forms.specs.declared.fails.DocFail.{DocFail}
use Rattle.doc_forms.specs.Entries.{node_id}
use Rattle.doc_forms.specs.Groups.{ReadTree, ReadTrees, node, none, beside, GroupParts, no_group, group_rows, record_of, group_end, group, group_parts, group_child, append_tree, with_group_content}
use Rattle.doc_forms.specs.Metas.{ReadBinary}
use Rattle.doc_forms.specs.ElementTexts.{Setting}
use Rattle.doc_forms.specs.Children.{unknown_child, by_name, all_children, count_node}
use Rattle.outside_core.specs.Results.{◌>>=◌}
use Rattle.doc_forms.specs.ElementTexts.{ElementText}
use Rattle.doc_spelling.specs.Pieces.{Piece, ◌▹▹◌, piece_if, pieces_of, unless_empty, unless_nil, text_piece, hidden_len, hidden_len_all, element_of, content_of}
use Rattle.doc_spelling.specs.Pool.{PoolPair}
use Rattle.doc_spelling.specs.Values.{id_piece, items_pieces}
use Rattle.vault_model.specs.declared.forms.DocForm.{DocForm}
use Rattle.doc_spelling.specs.ResolvedParts.{entry_with, tree_with, trees_with, group_parts_with, own_entry, own_tree, own_trees}
use Rattle.doc_spelling.specs.Ranges.{entry_nodes, tree_nodes, trees_nodes}
use Rattle.doc_spelling.specs.Groups.{group_times, name_pieces, choice_pieces, record_pieces, group_piece, group_pieces}
use Rattle.doc_spelling.specs.Entries.{previous_pieces, entry_piece}
use Rattle.doc_spelling.proofs.Frame.{HasTexts, ◌▸▸◌, cursor_after, Reads, ReadsAll, reads_none, ◌▸◌, all_alike, by_row, row_of, piece_name, name_is, text_value, plain_end, no_protection}
use Rattle.doc_spelling.proofs.Goods.{Each, If, IsId, GoodTimes}
use Rattle.doc_spelling.proofs.ReadOptions.{or_old, maybe_part, unless_empty_back, unless_nil_back, if_not_empty, if_not_nil, or_else, or_none}
use Rattle.doc_spelling.proofs.ReadEntries.{counted_next, node_id_is, folded_map, GoodEntry, entry_read}
use Rattle.doc_spelling.proofs.ReadFields.{text_says, GoodItem, items_read}
use Rattle.doc_spelling.proofs.ReadLists.{fold_over, each_piece, fold_along, append_all}
use Rattle.doc_spelling.specs.Ranges.{count_all}
use Rattle.doc_spelling.proofs.ReadTimes.{times_read}
use Rattle.doc_spelling.proofs.ValueTexts.{number_says, bool_says, choice_says, id_says, id_or_none_says, own_id_says}

-- ---- what is good

pub record GoodGroup (u : NodeId) (r : GroupRecord) : Type 0 where
  pub id : IsId u
  pub other : bytes_eq u nil_id ≡ false
  pub previous : IsId r.previous
  pub name : is_utf8 r.state.content.name ≡ true
  pub notes : is_utf8 r.state.content.notes ≡ true
  pub tags : is_utf8 r.state.content.tags ≡ true
  pub icon : r.state.content.icon ≤ 4294967295
  pub custom_icon : If IsId r.state.content.custom_icon
  pub times : GoodTimes (group_times r)
  pub sequence : is_utf8 r.state.content.sequence ≡ true
  pub top_entry : IsId r.view.top_entry
  pub items : Each GoodItem r.state.content.items
  pub items_rise : rises (λ (i : Item). i.key) r.state.content.items ≡ true

abbrev mutual
  pub GoodTree : List ReadBinary → List PoolPair → Tree → Type 0
  GoodTree pool items (vault.node u r es ts) = GoodGroup u r × Each (GoodEntry pool items) es × GoodTrees pool items ts

  pub GoodTrees : List ReadBinary → List PoolPair → Trees → Type 0
  GoodTrees pool items vault.none = Unit {0}
  GoodTrees pool items (vault.beside t ts) = GoodTree pool items t × GoodTrees pool items ts

-- ---- the loop of a group

same_next : {A B : Type 0} (r : Result A DocFail) (f g : A → Result B DocFail) → ((x : A) → f x ≡ g x) → (r >>= f) ≡ (r >>= g)
same_next (Ok x) f g e = e x
same_next (Err x) f g e = refl

parts_are : (s : Setting) (levels : ℕ) (content : told.Content) (p : GroupParts) (c : Cursor) → group_parts s levels content p c ≡ all_children (group_child s levels) content p c
parts_are s levels (told.last t) p c = refl
parts_are s levels (told.also t e more) p c = same_next (group_child s levels p e c) _ _ (λ x. parts_are s levels more x.0 x.1)
parts_are s levels (told.cut t answer) p c = refl

-- ---- groups side by side

abbrev append_trees : ReadTrees → ReadTrees → ReadTrees
append_trees g none = g
append_trees g (beside t ts) = append_trees (append_tree g t) ts

abbrev side_trees : ReadTrees → ReadTrees → ReadTrees
side_trees none ts = ts
side_trees (beside t g) ts = beside t (side_trees g ts)

side_none : (g : ReadTrees) → side_trees g none ≡ g
side_none none = refl
side_none (beside t g) = ap (beside t) (side_none g)

side_append : (g : ReadTrees) (t : ReadTree) (ts : ReadTrees) → side_trees (append_tree g t) ts ≡ side_trees g (beside t ts)
side_append none t ts = refl
side_append (beside u g) t ts = ap (beside u) (side_append g t ts)

appended_trees : (ts g : ReadTrees) → append_trees g ts ≡ side_trees g ts
appended_trees none g = sym (side_none g)
appended_trees (beside t ts) g = appended_trees ts (append_tree g t) ∙ side_append g t ts

append_with : (pool : List ReadBinary) (g : ReadTrees) (t : ReadTree) → trees_with pool (append_tree g t) ≡ append_tree (trees_with pool g) (tree_with pool t)
append_with pool none t = refl
append_with pool (beside u g) t = ap (beside (tree_with pool u)) (append_with pool g t)

-- ---- what is known at a group's end

abbrev said_group : NodeId → GroupRecord → List (NodeId × EntryRecord) → Trees → GroupParts → GroupParts
said_group u r es ts p = record {
  id = Some u;
  previous = or_old (unless_nil r.previous) p.previous;
  times = group_times r;
  content = record r.state.content {
    created = p.content.created;
    expiry = p.content.expiry;
    expires = p.content.expires;
    custom_icon = or_else r.state.content.custom_icon p.content.custom_icon;
    items = or_old (unless_empty r.state.content.items) p.content.items;
    tags = or_old (unless_empty r.state.content.tags) p.content.tags;
  };
  view = r.view;
  entries = fold_over (λ e l. l ++ own_entry e ∷ []) p.entries es;
  groups = append_trees p.groups (own_trees ts);
}

abbrev tree_of : GroupParts → NodeId → ReadTree
tree_of p u = node u (record_of p) p.entries p.groups

made : GroupRecord → Option NodeId → List Item → List ℕ → NodeId → GroupRecord
made r icon items tags previous = record r { previous = previous; state = record r.state { content = record r.state.content { custom_icon = icon; items = items; tags = tags } } }

tree_is : (u : NodeId) (r : GroupRecord) (es : List (NodeId × EntryRecord)) (ts : Trees) → tree_of (said_group u r es ts no_group) u ≡ own_tree (vault.node u r es ts)
unfolding made
tree_is u r es ts =
    let entries = fold_over (λ e l. l ++ own_entry e ∷ []) [] es in
    let groups = append_trees none (own_trees ts) in
    let c = r.state.content in
    ap₂ (λ icon items. node u (made r icon items (or_old (unless_empty c.tags) []) (or_old (unless_nil r.previous) nil_id)) entries groups) (or_none c.custom_icon) (unless_empty_back c.items)
    ∙ (ap₂ (λ tags previous. node u (made r c.custom_icon c.items tags previous) entries groups) (unless_empty_back c.tags) (unless_nil_back r.previous)
    ∙ ap₂ (λ entries groups. node u r entries groups) (folded_map own_entry (λ x l. l ++ x ∷ []) [] es ∙ append_all [] (map own_entry es)) (appended_trees (own_trees ts) none))

-- ---- reading

-- A group below which so many levels are allowed is read.
pub record ReadsTree (s : Setting) (pool : List ReadBinary) (form : DocForm) (items : List PoolPair) (levels : ℕ) (t : Tree) : Type 0 where
  pub texts : HasTexts (group_piece form items t)
  pub read : (place : ℕ) (c : Cursor) → c.nodes + tree_nodes t ≤ 262144
      → (r : ReadTree) × (group s levels true (element_at place (element_of s.keystream c.offset (group_piece form items t))) c ≡ Ok (r, cursor_after c (hidden_len (group_piece form items t)) (tree_nodes t))) × (tree_with pool r ≡ own_tree t)

first : {A : Type 0} (b : Bool) (x y : A) → b ≡ true → cond b x y ≡ x
first true x y e = refl
first false x y e = cc e

second : {A : Type 0} (b : Bool) (x y : A) → b ≡ false → cond b x y ≡ y
second true x y e = cc e
second false x y e = refl

end_is : (s : Setting) (place : ℕ) (text : List ℕ) (p : GroupParts) (u : NodeId) (c : Cursor) (h n : ℕ) → p.id ≡ Some u → bytes_eq u nil_id ≡ false → c.nodes + (1 + n) ≤ 262144
    → group_end s true place [] text p (cursor_after c h n) ≡ Ok (tree_of p u, cursor_after c h (1 + n))
end_is s place text p u c h n e unless_nil room =
    ap (λ (r : Result (ElementText × Cursor) DocFail). r >>= λ y. (count_node y.1 >>= λ after. (node_id place p.id >>= λ u. Ok (tree_of p u, after)))) (plain_end s place [] text (cursor_after c h n) no_protection)
    ∙ (ap (λ (r : Result Cursor DocFail). r >>= λ after. (node_id place p.id >>= λ u. Ok (tree_of p u, after))) (counted_next c h n room)
    ∙ ap (λ (r : Result NodeId DocFail). r >>= λ u. Ok (tree_of p u, cursor_after c h (1 + n))) (node_id_is place p.id u e unless_nil))

pub has_level : (t : Tree) → 1 ≤ height t
has_level (vault.node u r es ts) = omega arith

pub group_name : (form : DocForm) (items : List PoolPair) (t : Tree) → piece_name (group_piece form items t) ≡ codes "Group"
group_name form items (vault.node u r es ts) = refl

module _ (s : Setting) (pool : List ReadBinary) (form : DocForm) (items : List PoolPair) (same_form : form ≡ s.form) where
  -- an element that is no group
  other : (levels : ℕ) {x : Piece} {f : GroupParts → GroupParts} {n : ℕ} → bytes_eq (piece_name x) (codes "Group") ≡ false
      → Reads s (group_parts_with pool) (row_of (piece_name x) (group_rows s) (unknown_child s)) x f n → Reads s (group_parts_with pool) (group_child s levels) x f n
  other levels {x} {f} {n} e r = record {
    texts = r.texts;
    read = λ place p c room.
        let by_name_is : Reads s (group_parts_with pool) (by_name s (group_rows s)) x f n = by_row (group_rows s) r in
        let a = by_name_is.read place p c room in
        (a.0, second _ _ _ (ap (λ name. bytes_eq name (codes "Group")) (name_is place s.keystream c.offset x) ∙ e) ∙ a.1, a.2);
  }

  -- a group in a group
  below : (levels : ℕ) (t : Tree) → 1 ≤ levels → ReadsTree s pool form items (levels - 1) t
      → Reads s (group_parts_with pool) (group_child s levels) (group_piece form items t) (λ p. record p { groups = append_tree p.groups (own_tree t) }) (tree_nodes t)
  below levels t some r = record {
    texts = r.texts;
    read = λ place p c room.
        let a = r.read place c room in (
          record p { groups = append_tree p.groups a.0 },
          first _ _ _ (ap (λ name. bytes_eq name (codes "Group")) (name_is place s.keystream c.offset (group_piece form items t) ∙ group_name form items t))
              ∙ (second _ _ _ (ne_eqb levels 0 (omega arith))
              ∙ ap (λ (r : Result (ReadTree × Cursor) DocFail). r >>= λ x. Ok (record p { groups = append_tree p.groups x.0 }, x.1)) a.1),
          ap (λ g. record (group_parts_with pool p) { groups = g }) (append_with pool p.groups a.0 ∙ ap (append_tree (trees_with pool p.groups)) a.2),
        );
  }

  custom_icon_read : (levels : ℕ) (o : Option NodeId) → If IsId o
      → ReadsAll s (group_parts_with pool) (group_child s levels) (piece_if (id_piece (codes "CustomIconUUID")) o) (λ p. with_group_content (λ c. record c { custom_icon = or_else o c.custom_icon }) p) 0
  custom_icon_read levels None good = reads_none
  custom_icon_read levels (Some u) good =
      other levels refl (text_value s (group_parts_with pool) _ _ _ _ (Some u) (λ p. with_group_content (λ c. record c { custom_icon = Some u }) p) (id_or_none_says u good.bytes good.sixteen) (λ p. refl)) ▸ reads_none

  items_at_end : (levels : ℕ) (items : List Item) → Each GoodItem items → rises (λ (i : Item). i.key) items ≡ true
      → ReadsAll s (group_parts_with pool) (group_child s levels) (items_pieces form items) (λ p. with_group_content (λ c. record c { items = or_old (unless_empty items) c.items }) p) 0
  items_at_end levels [] good up = reads_none
  items_at_end levels (i ∷ is) good up =
      other levels refl (items_read form (i ∷ is) good up (λ p v. with_group_content (λ c. record c { items = v }) p) (λ p. with_group_content (λ c. record c { items = i ∷ is }) p) (λ p. refl)) ▸ reads_none

  entries_read : (levels : ℕ) (es : List (NodeId × EntryRecord)) → Each (GoodEntry pool items) es
      → ReadsAll s (group_parts_with pool) (group_child s levels) (pieces_of (entry_piece form items) es) (λ p. record p { entries = fold_over (λ e l. l ++ own_entry e ∷ []) p.entries es }) (count_all entry_nodes es)
  entries_read levels es good = all_alike _ (count_all entry_nodes es)
      (λ p. fold_along (λ (p : GroupParts). p.entries) (λ p l. record p { entries = l }) (λ e l. l ++ own_entry e ∷ []) (λ p. refl) (λ p l. refl) (λ p l k. refl) p es)
      refl
      (each_piece (entry_piece form items) (λ e p. record p { entries = p.entries ++ own_entry e ∷ [] }) (GoodEntry pool items) entry_nodes
      (λ e h. other levels refl (entry_read pool form items same_form e h (λ p r. record p { entries = p.entries ++ r ∷ [] }) (λ p. record p { entries = p.entries ++ own_entry e ∷ [] })
      (λ p r same. ap (λ l. record (group_parts_with pool p) { entries = l }) (map-append (entry_with pool) p.entries (r ∷ []) ∙ ap (λ x. map (entry_with pool) p.entries ++ x ∷ []) same)))) es good)

  names_row : (levels : ℕ) (u : NodeId) (r : GroupRecord) → GoodGroup u r
      → ReadsAll s (group_parts_with pool) (group_child s levels) (name_pieces r.state.content)
      (λ p. with_group_content (λ k. record k {
        name = r.state.content.name;
        notes = r.state.content.notes;
        tags = or_old (unless_empty r.state.content.tags) k.tags;
        icon = r.state.content.icon;
        custom_icon = or_else r.state.content.custom_icon k.custom_icon;
      }) p) 0
  names_row levels u r h =
      let c = r.state.content in
      other levels refl (text_value s (group_parts_with pool) _ _ _ _ c.name (λ p. with_group_content (λ k. record k { name = c.name }) p) (text_says c.name h.name) (λ p. refl))
      ▸ (other levels refl (text_value s (group_parts_with pool) _ _ _ _ c.notes (λ p. with_group_content (λ k. record k { notes = c.notes }) p) (text_says c.notes h.notes) (λ p. refl))
      ▸ (maybe_part (text_piece (codes "Tags")) (λ (p : GroupParts). p.content.tags) (λ p t. with_group_content (λ k. record k { tags = t }) p) (λ t. is_utf8 t ≡ true) (λ p. refl)
      (λ t utf8. other levels refl (text_value s (group_parts_with pool) _ _ _ _ t (λ p. with_group_content (λ k. record k { tags = t }) p) (text_says t utf8) (λ p. refl)))
      (unless_empty c.tags) (if_not_empty (λ t. is_utf8 t ≡ true) c.tags h.tags)
      ▸▸ (other levels refl (text_value s (group_parts_with pool) _ _ _ _ c.icon (λ p. with_group_content (λ k. record k { icon = c.icon }) p) (number_says 48 4294967295 c.icon h.icon (omega (arith, h.icon))) (λ p. refl))
      ▸ custom_icon_read levels c.custom_icon h.custom_icon)))

  choices_row : (levels : ℕ) (u : NodeId) (r : GroupRecord) → GoodGroup u r
      → ReadsAll s (group_parts_with pool) (group_child s levels) (choice_pieces r)
      (λ p. record (with_group_content (λ k. record k { sequence = r.state.content.sequence; auto_type = r.state.content.auto_type; searching = r.state.content.searching }) p) { view = r.view }) 0
  choices_row levels u r h =
      let c = r.state.content in
      other levels refl (text_value s (group_parts_with pool) _ _ _ _ r.view.expanded (λ p. record p { view = record p.view { expanded = r.view.expanded } }) (bool_says true r.view.expanded) (λ p. refl))
      ▸ other levels refl (text_value s (group_parts_with pool) _ _ _ _ c.sequence (λ p. with_group_content (λ k. record k { sequence = c.sequence }) p) (text_says c.sequence h.sequence) (λ p. refl))
      ▸ other levels refl (text_value s (group_parts_with pool) _ _ _ _ c.auto_type (λ p. with_group_content (λ k. record k { auto_type = c.auto_type }) p) (choice_says Inherit c.auto_type) (λ p. refl))
      ▸ other levels refl (text_value s (group_parts_with pool) _ _ _ _ c.searching (λ p. with_group_content (λ k. record k { searching = c.searching }) p) (choice_says Inherit c.searching) (λ p. refl))
      ▸ other levels refl (text_value s (group_parts_with pool) _ _ _ _ r.view.top_entry (λ p. record p { view = record p.view { top_entry = r.view.top_entry } }) (id_says nil_id r.view.top_entry h.top_entry.bytes h.top_entry.sixteen) (λ p. refl))
      ▸ reads_none

  previous_read : (levels : ℕ) (u : NodeId) → IsId u
      → ReadsAll s (group_parts_with pool) (group_child s levels) (previous_pieces u) (λ p. record p { previous = or_old (unless_nil u) p.previous }) 0
  previous_read levels u id =
      maybe_part (id_piece (codes "PreviousParentGroup")) (λ (p : GroupParts). p.previous) (λ p u. record p { previous = u }) IsId (λ p. refl)
      (λ u id. other levels refl (text_value s (group_parts_with pool) _ _ _ _ u (λ p. record p { previous = u }) (id_says nil_id u id.bytes id.sixteen) (λ p. refl)))
      (unless_nil u) (if_not_nil IsId u id)

  record_read : (levels : ℕ) (u : NodeId) (r : GroupRecord) → GoodGroup u r
      → ReadsAll s (group_parts_with pool) (group_child s levels) (record_pieces form u r) (λ p. record (said_group u r [] vault.none p) { entries = p.entries; groups = p.groups }) 0
  record_read levels u r h =
      all_alike (λ p. record (said_group u r [] vault.none p) { entries = p.entries; groups = p.groups }) 0 (λ p. refl) refl
      (other levels refl (text_value s (group_parts_with pool) _ _ _ _ u (λ p. record p { id = Some u }) (own_id_says u h.id.bytes h.id.sixteen) (λ p. refl))
      ▸ (names_row levels u r h
      ▸▸ ((other levels refl (times_read form (group_times r) h.times (λ p v. record p { times = v }) (λ p. record p { times = group_times r }) (λ p. refl)) ▸ choices_row levels u r h)
      ▸▸ (previous_read levels r.previous h.previous ▸▸ items_at_end levels r.state.content.items h.items h.items_rise))))

  rows_read : (levels : ℕ) (u : NodeId) (r : GroupRecord) (es : List (NodeId × EntryRecord)) (ts : Trees) → GoodGroup u r → Each (GoodEntry pool items) es
      → ReadsAll s (group_parts_with pool) (group_child s levels) (group_pieces form items ts) (λ p. record p { groups = append_trees p.groups (own_trees ts) }) (trees_nodes ts)
      → ReadsAll s (group_parts_with pool) (group_child s levels) (record_pieces form u r ▹▹ (pieces_of (entry_piece form items) es ▹▹ group_pieces form items ts)) (said_group u r es ts) (count_all entry_nodes es + trees_nodes ts)
  rows_read levels u r es ts h good rest =
      all_alike (said_group u r es ts) (count_all entry_nodes es + trees_nodes ts) (λ p. refl) (omega arith)
      (record_read levels u r h ▸▸ (entries_read levels es good ▸▸ rest))

  mutual
    pub tree_read : (t : Tree) → GoodTree pool items t → (levels : ℕ) → height t ≤ suc levels → ReadsTree s pool form items levels t
    tree_read (vault.node u r es ts) good levels low =
        let all = rows_read levels u r es ts good.0 good.1 (trees_read ts good.2 levels (omega arith)) in
        record {
          texts = all.texts;
          read = λ place c room.
              let inner = record_pieces form u r ▹▹ (pieces_of (entry_piece form items) es ▹▹ group_pieces form items ts) in
              let after = place + length (start_tag (codes "Group") []) in
              let content = content_at after (content_of s.keystream c.offset inner) in
              let a = all.read after no_group c (omega arith) in (
                tree_of a.0 u,
                ap (λ (r : Result (GroupParts × Cursor) DocFail). r >>= λ x. group_end s true place [] (own_text content) x.0 x.1) (parts_are s levels content no_group c ∙ a.1)
                    ∙ end_is s place (own_text content) a.0 u c (hidden_len_all inner) (count_all entry_nodes es + trees_nodes ts) (ap (λ (p : GroupParts). p.id) a.2) good.0.other room,
                ap (λ (p : GroupParts). tree_of p u) a.2 ∙ tree_is u r es ts,
              );
        }

    trees_read : (ts : Trees) → GoodTrees pool items ts → (levels : ℕ) → height_all ts ≤ levels
        → ReadsAll s (group_parts_with pool) (group_child s levels) (group_pieces form items ts) (λ p. record p { groups = append_trees p.groups (own_trees ts) }) (trees_nodes ts)
    trees_read vault.none good levels low = reads_none
    trees_read (vault.beside t ts) good levels low =
        let some : 1 ≤ levels = omega (arith, has_level t) in
        below levels t some (tree_read t good.0 (levels - 1) (omega arith)) ▸ trees_read ts good.1 levels (omega arith)
