-- What is printed of a document does not look at what is hidden.
use Rattle.std.proofs.Common.{◌≡◌, ℕ, Bool, true, false, not, ◌&&◌, ◌||◌, cond, inl, inr, List, [], ◌∷◌, ◌++◌, Option, None, Some, codes, map, length, suc, refl, sym, ap, ◌∙◌}
use Rattle.std.specs.Fmt.{decimal}
use Rattle.std.specs.List.{find}
use Rattle.std.specs.Option.{option_and_then, option_map, unwrap_or}
use Rattle.std.specs.Str.{bytes_eq}
use Rattle.kdbx_frame.specs.declared.settings.Settings.{Settings}
use Rattle.vault_model.specs.Bare.{BareContent, BareField}
use Rattle.vault_model.specs.Db.{NodeId}
use Rattle.vault_model.specs.Shape.{BareVersion, EntryRecord}
use Rattle.vault_model.specs.Tree.{BareDoc, Tree, Trees, beside, entry_rows, entry_rows_all, group_rows, group_rows_all, id_of, node, none}
use Rattle.vault_model.specs.Walk.{Node, Walked, a_group, an_entry, name_of, title_of, value_of, walk, walk_tree, walk_trees, walked_entry, slash_joined}
use Rattle.vault_model.proofs.Tests.{decide, map_append}
use Rattle.tree_core.specs.Finding.{first, group_at_path, group_by_id, group_found, group_id, group_named, id_named, or_else, without_slashes}
use Rattle.cli_printing.specs.Info.{bin_state, file_lines, info_shown, line, name_lines as name_lines_of}
use Rattle.cli_printing.specs.Listing.{front_below, group_lines, name_lines, name_listed, title_lines, tree_among, tree_listed, tree_with}
use Rattle.noninterference_laws.specs.Masks.{InfoIsBlind, ListingIsBlind, MasksLookAlike, ShowsTitles, is_secret, listing, mask, mask_attachment, mask_content, mask_entry, mask_field, mask_row, mask_tree, mask_trees, mask_version}

module _ (p : BareField → Bool) (titles : ShowsTitles p) where
  -- ---- titles and names

  same_key : (f : BareField) → (mask_field p f).key ≡ f.key
  same_key f = at (p f)
    where
      at : (b : Bool) → (cond b (record f { value = [] }) f).key ≡ f.key
      at true = refl
      at false = refl

  value_in : Option BareField → List ℕ
  value_in o = unwrap_or (option_map (λ (f : BareField). f.value) o) []

  title_stays : (fs : List BareField) → value_of (codes "Title") (map (mask_field p) fs) ≡ value_of (codes "Title") fs
  title_stays [] = refl
  title_stays (f ∷ fs) = elim (decide (bytes_eq (codes "Title") f.key)) [
    | inl q ↦
        ap (λ k. unwrap_or (option_map (λ (g : BareField). g.value) (cond (bytes_eq (codes "Title") k) (Some (mask_field p f)) (find (λ (g : BareField). bytes_eq (codes "Title") g.key) (map (mask_field p) fs)))) []) (same_key f)
        ∙ ap (λ b. unwrap_or (option_map (λ (g : BareField). g.value) (cond b (Some (mask_field p f)) (find (λ (g : BareField). bytes_eq (codes "Title") g.key) (map (mask_field p) fs)))) []) q
        ∙ ap (λ b. (cond b (record f { value = [] }) f).value) (titles f q)
        ∙ sym (ap (λ b. unwrap_or (option_map (λ (g : BareField). g.value) (cond b (Some f) (find (λ (g : BareField). bytes_eq (codes "Title") g.key) fs))) []) q)
    | inr q ↦
        ap (λ k. unwrap_or (option_map (λ (g : BareField). g.value) (cond (bytes_eq (codes "Title") k) (Some (mask_field p f)) (find (λ (g : BareField). bytes_eq (codes "Title") g.key) (map (mask_field p) fs)))) []) (same_key f)
        ∙ ap (λ b. unwrap_or (option_map (λ (g : BareField). g.value) (cond b (Some (mask_field p f)) (find (λ (g : BareField). bytes_eq (codes "Title") g.key) (map (mask_field p) fs)))) []) q
        ∙ title_stays fs
        ∙ sym (ap (λ b. unwrap_or (option_map (λ (g : BareField). g.value) (cond b (Some f) (find (λ (g : BareField). bytes_eq (codes "Title") g.key) fs))) []) q)
  ]

  pub title_same : (e : EntryRecord) → title_of (mask_entry p e) ≡ title_of e
  title_same e = title_stays e.current.mark.content.fields

  pub name_same : (t : Tree) → name_of (mask_tree p t) ≡ name_of t
  name_same (node u r es ts) = refl

  -- ---- listings

  titles_same : (ids : Bool) (front : List ℕ) (es : List (NodeId × EntryRecord)) → title_lines ids front (map (mask_row p) es) ≡ title_lines ids front es
  titles_same ids front [] = refl
  titles_same ids front (e ∷ es) = λ i. ((front ++ name_listed ids e.0 (title_same e.1 i)) ++ codes "\n") ++ titles_same ids front es i

  tree_id_same : (t : Tree) → id_of (mask_tree p t) ≡ id_of t
  tree_id_same (node u r es ts) = refl

  mutual
    pub lines_same : (recursive flat ids : Bool) (front : List ℕ) (t : Tree) → group_lines recursive flat ids front (mask_tree p t) ≡ group_lines recursive flat ids front t
    lines_same recursive flat ids front (node u r es ts) = λ i. titles_same ids front es i ++ names_same recursive flat ids front ts i

    names_same : (recursive flat ids : Bool) (front : List ℕ) (ts : Trees) → name_lines recursive flat ids front (mask_trees p ts) ≡ name_lines recursive flat ids front ts
    names_same recursive flat ids front none = refl
    names_same recursive flat ids front (beside t ts) =
        (λ i. (((front ++ name_listed ids (tree_id_same t i) (name_same t i)) ++ codes "/\n") ++ cond recursive (group_lines recursive flat ids (front_below flat front (name_same t i)) (mask_tree p t)) []) ++ name_lines recursive flat ids front (mask_trees p ts))
        ∙ (λ i. (((front ++ name_listed ids (id_of t) (name_of t)) ++ codes "/\n") ++ cond recursive (lines_same recursive flat ids (front_below flat front (name_of t)) t i) []) ++ names_same recursive flat ids front ts i)

  -- ---- what a path names

  unfoldable pub mask_node : Node → Node
  mask_node (an_entry u e) = an_entry u (mask_entry p e)
  mask_node (a_group u r) = a_group u r

  unfoldable pub mask_walked : Walked → Walked
  mask_walked w = record w { found = mask_node w.found }

  entries_walk : (names : List (List ℕ)) (es : List (NodeId × EntryRecord)) → map (walked_entry names) (map (mask_row p) es) ≡ map mask_walked (map (walked_entry names) es)
  unfolding mask_walked mask_node
  entries_walk names [] = refl
  entries_walk names (e ∷ es) = λ i. record { path = slash_joined (names ++ title_same e.1 i ∷ []); found = an_entry e.0 (mask_entry p e.1) } ∷ entries_walk names es i

  mutual
    unfolding mask_walked mask_node

    pub walk_same : (names : List (List ℕ)) (t : Tree) → walk_tree names (mask_tree p t) ≡ map mask_walked (walk_tree names t)
    walk_same names (node u r es ts) =
        ap (λ ws. record { path = slash_joined names; found = a_group u r } ∷ ws)
        ((λ i. entries_walk names es i ++ walks_same names ts i) ∙ sym (map_append mask_walked (map (walked_entry names) es) (walk_trees names ts)))

    walks_same : (names : List (List ℕ)) (ts : Trees) → walk_trees names (mask_trees p ts) ≡ map mask_walked (walk_trees names ts)
    walks_same names none = refl
    walks_same names (beside t ts) =
        ap (λ n. walk_tree (names ++ n ∷ []) (mask_tree p t) ++ walk_trees names (mask_trees p ts)) (name_same t)
        ∙ (λ i. walk_same (names ++ name_of t ∷ []) t i ++ walks_same names ts i)
        ∙ sym (map_append mask_walked (walk_tree (names ++ name_of t ∷ []) t) (walk_trees names ts))

  id_same : (n : Node) → group_id (mask_node n) ≡ group_id n
  unfolding mask_node
  id_same (an_entry u e) = refl
  id_same (a_group u r) = refl

  pub named_same : (text : List ℕ) (w : Walked) → group_named text (mask_walked w) ≡ group_named text w
  unfolding mask_walked
  named_same text w = ap (λ o. cond (bytes_eq text w.path) o None) (id_same w.found)

  by_id_same : (text : List ℕ) (w : Walked) → group_by_id text (mask_walked w) ≡ group_by_id text w
  unfolding mask_walked
  by_id_same text w = ap (option_and_then (id_named text)) (id_same w.found)

  pub first_same : (f : Walked → Option NodeId) → ((w : Walked) → f (mask_walked w) ≡ f w) → (ws : List Walked) → first f (map mask_walked ws) ≡ first f ws
  first_same f same [] = refl
  first_same f same (w ∷ ws) = λ i. or_else (same w i) (first_same f same ws i)

  walked_same : (f : Walked → Option NodeId) → ((w : Walked) → f (mask_walked w) ≡ f w) → (d : BareDoc) → first f (walk (mask p d)) ≡ first f (walk d)
  walked_same f same d = ap (first f) (walk_same [] d.tree) ∙ first_same f same (walk d)

  pub group_path_same : (d : BareDoc) (text : List ℕ) → group_at_path (mask p d) text ≡ group_at_path d text
  unfolding group_at_path
  group_path_same d text = walked_same (group_named (without_slashes text)) (named_same (without_slashes text)) d

  pub group_same : (d : BareDoc) (text : List ℕ) → group_found (mask p d) text ≡ group_found d text
  unfolding group_found
  group_same d text = λ i. or_else (walked_same (group_by_id (without_slashes text)) (by_id_same (without_slashes text)) d i) (group_path_same d text i)

  or_mask : (a b : Option Tree) → or_else (option_map (mask_tree p) a) (option_map (mask_tree p) b) ≡ option_map (mask_tree p) (or_else a b)
  or_mask None b = refl
  or_mask (Some t) b = refl

  pick_mask : (b : Bool) (t : Tree) (o : Option Tree) → cond b (Some (mask_tree p t)) (option_map (mask_tree p) o) ≡ option_map (mask_tree p) (cond b (Some t) o)
  pick_mask true t o = refl
  pick_mask false t o = refl

  mutual
    tree_same : (id : NodeId) (t : Tree) → tree_with id (mask_tree p t) ≡ option_map (mask_tree p) (tree_with id t)
    tree_same id (node u r es ts) =
        ap (λ o. cond (bytes_eq u id) (Some (mask_tree p (node u r es ts))) o) (trees_same id ts)
        ∙ pick_mask (bytes_eq u id) (node u r es ts) (tree_among id ts)

    trees_same : (id : NodeId) (ts : Trees) → tree_among id (mask_trees p ts) ≡ option_map (mask_tree p) (tree_among id ts)
    trees_same id none = refl
    trees_same id (beside t ts) = (λ i. or_else (tree_same id t i) (trees_same id ts i)) ∙ or_mask (tree_with id t) (tree_among id ts)

  pub listed_same : (group : Option (List ℕ)) (d : BareDoc) → tree_listed group (mask p d) ≡ option_map (mask_tree p) (tree_listed group d)
  listed_same None d = refl
  listed_same (Some path) d = ap (option_and_then (λ id. tree_with id (mask p d).tree)) (group_same d path) ∙ at (group_found d path)
    where
      at : (o : Option NodeId) → option_and_then (λ id. tree_with id (mask_tree p d.tree)) o ≡ option_map (mask_tree p) (option_and_then (λ id. tree_with id d.tree) o)
      at None = refl
      at (Some id) = tree_same id d.tree

  listing_same : (recursive flat ids : Bool) (o : Option Tree) → option_map (group_lines recursive flat ids []) (option_map (mask_tree p) o) ≡ option_map (group_lines recursive flat ids []) o
  listing_same recursive flat ids None = refl
  listing_same recursive flat ids (Some t) = ap Some (lines_same recursive flat ids [] t)

  pub listing_mask : (group : Option (List ℕ)) (recursive flat ids : Bool) (d : BareDoc) → listing group recursive flat ids (mask p d) ≡ listing group recursive flat ids d
  listing_mask group recursive flat ids d = ap (option_map (group_lines recursive flat ids [])) (listed_same group d) ∙ listing_same recursive flat ids (tree_listed group d)

  -- ---- db-info

  mutual
    pub groups_same : (t : Tree) → group_rows (mask_tree p t) ≡ group_rows t
    groups_same (node u r es ts) = ap (λ rs. (u, r) ∷ rs) (all_groups_same ts)

    all_groups_same : (ts : Trees) → group_rows_all (mask_trees p ts) ≡ group_rows_all ts
    all_groups_same none = refl
    all_groups_same (beside t ts) = λ i. groups_same t i ++ all_groups_same ts i

  mutual
    pub rows_same : (t : Tree) → entry_rows (mask_tree p t) ≡ map (mask_row p) (entry_rows t)
    rows_same (node u r es ts) = ap (λ rs. map (mask_row p) es ++ rs) (all_rows_same ts) ∙ sym (map_append (mask_row p) es (entry_rows_all ts))

    all_rows_same : (ts : Trees) → entry_rows_all (mask_trees p ts) ≡ map (mask_row p) (entry_rows_all ts)
    all_rows_same none = refl
    all_rows_same (beside t ts) = (λ i. rows_same t i ++ all_rows_same ts i) ∙ sym (map_append (mask_row p) (entry_rows t) (entry_rows_all ts))

  length_map : {A B : Type 0} (f : A → B) (xs : List A) → length (map f xs) ≡ length xs
  length_map f [] = refl
  length_map f (x ∷ xs) = ap (λ n. suc n) (length_map f xs)

  abbrev info_like : Option Settings → BareDoc → ℕ → ℕ → List ℕ
  info_like settings doc groups entries =
      name_lines_of doc ++ file_lines settings
      ++ (line (codes "Groups: ") (decimal groups) ++ line (codes "Entries: ") (decimal entries) ++ line (codes "Recycle bin: ") (bin_state doc.meta.bin.value.enabled))

  pub info_same : (settings : Option Settings) (d : BareDoc) → info_shown settings (mask p d) ≡ info_shown settings d
  info_same settings d = λ i. info_like settings d (length (groups_same d.tree i)) ((ap length (rows_same d.tree) ∙ length_map (mask_row p) (entry_rows d.tree)) i)

-- ---- what is secret

pub secret_titles : ShowsTitles is_secret
secret_titles f q = ap (λ b. not b && (f.hidden || bytes_eq (codes "Password") f.key)) q

pub listing_is_blind : ListingIsBlind
listing_is_blind d e alike group recursive flat ids = sym (listing_mask is_secret secret_titles group recursive flat ids d) ∙ ap (listing group recursive flat ids) alike ∙ listing_mask is_secret secret_titles group recursive flat ids e

pub info_is_blind : InfoIsBlind
info_is_blind d e alike settings = sym (info_same is_secret secret_titles settings d) ∙ ap (info_shown settings) alike ∙ info_same is_secret secret_titles settings e

-- ---- masked twice

field_twice : (f : BareField) → (mask_field is_secret) ((mask_field is_secret) f) ≡ (mask_field is_secret) f
field_twice f = at (is_secret f) refl
  where
    at : (b : Bool) → is_secret f ≡ b → (mask_field is_secret) (cond b (record f { value = [] }) f) ≡ cond b (record f { value = [] }) f
    at true e = ap (λ b. cond b (record f { value = [] }) (record f { value = [] })) e
    at false e = ap (λ b. cond b (record f { value = [] }) f) e

map_twice : {A : Type 0} (g : A → A) → ((x : A) → g (g x) ≡ g x) → (xs : List A) → map g (map g xs) ≡ map g xs
map_twice g twice [] = refl
map_twice g twice (x ∷ xs) = λ i. twice x i ∷ map_twice g twice xs i

content_twice : (c : BareContent) → (mask_content is_secret) ((mask_content is_secret) c) ≡ (mask_content is_secret) c
content_twice c = λ i. record c {
  fields = map_twice (mask_field is_secret) field_twice c.fields i;
  attachments = map_twice mask_attachment (λ a. ap (λ bs. record a { bytes = bs }) (map_twice (λ b. 0) (λ b. refl) a.bytes)) c.attachments i;
}

version_twice : (v : BareVersion) → (mask_version is_secret) ((mask_version is_secret) v) ≡ (mask_version is_secret) v
version_twice v = λ i. record v { mark = record v.mark { content = content_twice v.mark.content i } }

row_twice : (r : NodeId × EntryRecord) → (mask_row is_secret) ((mask_row is_secret) r) ≡ (mask_row is_secret) r
row_twice r = λ i. (r.0, record r.1 { current = version_twice r.1.current i; history = map_twice (mask_version is_secret) version_twice r.1.history i })

mutual
  tree_twice : (t : Tree) → (mask_tree is_secret) ((mask_tree is_secret) t) ≡ (mask_tree is_secret) t
  tree_twice (node u r es ts) = λ i. node u r (map_twice (mask_row is_secret) row_twice es i) (trees_twice ts i)

  trees_twice : (ts : Trees) → (mask_trees is_secret) ((mask_trees is_secret) ts) ≡ (mask_trees is_secret) ts
  trees_twice none = refl
  trees_twice (beside t ts) = λ i. beside (tree_twice t i) (trees_twice ts i)

pub masks_look_alike : MasksLookAlike
masks_look_alike d = λ i. record d { tree = tree_twice d.tree i }
