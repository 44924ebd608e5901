-- The names of a written document are words, and at most 136 of its elements are open at once.
use Rattle.std.proofs.Common.{◌≡◌, ℕ, zero, suc, ◌≤◌, ◌&&◌, Bool, true, false, Option, Some, None, List, [], ◌∷◌, codes, ap₂, refl, arith}
use Rattle.vault_model.specs.Bare.{BareField}
use Rattle.vault_model.specs.Db.{NodeId}
use Rattle.vault_model.specs.Shape.{BareVersion, EntryRecord, GroupRecord}
use Rattle.vault_model.specs.Tree as vault
use Rattle.vault_model.specs.Tree.{Tree, Trees, BareDoc, height, height_all}
use Rattle.vault_model.specs.declared.contents.AutoType.{AutoType}
use Rattle.vault_model.specs.declared.contents.Item.{Item}
use Rattle.vault_model.specs.declared.forms.DocForm.{DocForm}
use Rattle.vault_model.specs.declared.forms.DocForm.TheVariants.{Plain, V3, V4}
use Rattle.vault_model.specs.declared.metas.Meta.{Meta}
use Rattle.vault_model.specs.Bare.{BareContent}
use Rattle.vault_model.specs.declared.metas.Icon.{Icon}
use Rattle.doc_forms.specs.Attachments.{binaries_from}
use Rattle.doc_spelling.specs.Pieces.{Piece, Pieces, none, beside, ◌▹◌, ◌▹▹◌, pieces_of, piece_if, unless_empty, unless_zero, unless_nil, unless_true, unless_false, text_piece, base64_piece}
use Rattle.doc_spelling.specs.Pool.{PoolPair}
use Rattle.doc_spelling.specs.Values.{bool_piece, id_piece, time_piece, value_piece, change_pieces, item_piece, items_piece, items_pieces}
use Rattle.doc_spelling.specs.Entries.{field_piece, attachment_piece, association_piece, auto_type_piece, icon_pieces, previous_pieces, text_pieces, held_pieces, version_pieces, history_item_piece, history_piece, entry_piece}
use Rattle.doc_spelling.specs.Groups.{name_pieces, record_pieces, group_piece, group_pieces}
use Rattle.doc_spelling.specs.Metas.{icon_piece, numbered_piece, binary_piece, pool_pieces, hash_pieces, settings_change_pieces, title_pieces, setting_pieces, meta_piece}
use Rattle.doc_spelling.specs.Documents.{tomb_piece, root_piece, file_piece}
use Rattle.vault_model.proofs.Tests.{and_true}
use Rattle.doc_spelling.proofs.SoundPieces.{fits_height, fit_height}
use Rattle.doc_spelling.proofs.ReadGroups.{has_level}

yes : (a b : Bool) → a ≡ true → b ≡ true → a && b ≡ true
yes a b e f = ap₂ (λ a b. a && b) e f

joined_fit : (k : ℕ) (xs ys : Pieces) → fit_height k xs ≡ true → fit_height k ys ≡ true → fit_height k (xs ▹▹ ys) ≡ true
joined_fit k none ys e f = f
joined_fit k (beside x xs) ys e f =
    let both = and_true (fits_height k x) (fit_height k xs) e in
    yes (fits_height k x) _ both.0 (joined_fit k xs ys both.1 f)

all_fit : {A : Type 0} (k : ℕ) (piece : A → Piece) (xs : List A) → ((x : A) → fits_height k (piece x) ≡ true) → fit_height k (pieces_of piece xs) ≡ true
all_fit k piece [] e = refl
all_fit k piece (x ∷ xs) e = yes (fits_height k (piece x)) _ (e x) (all_fit k piece xs e)

some_fits : {A : Type 0} (k : ℕ) (piece : A → Piece) (o : Option A) → ((x : A) → fits_height k (piece x) ≡ true) → fit_height k (piece_if piece o) ≡ true
some_fits k piece None e = refl
some_fits k piece (Some x) e = yes (fits_height k (piece x)) true (e x) refl

value_fits : (k : ℕ) (form : DocForm) (bytes : List ℕ) (h : Bool) → fits_height (suc k) (value_piece form (codes "Value") bytes h) ≡ true
value_fits k form bytes false = refl
value_fits k Plain bytes true = refl
value_fits k V3 bytes true = refl
value_fits k V4 bytes true = refl

field_fits : (k : ℕ) (form : DocForm) (f : BareField) → fits_height (suc (suc k)) (field_piece form f) ≡ true
field_fits k form f = yes (fits_height (suc k) (value_piece form (codes "Value") f.value f.hidden)) true (value_fits k form f.value f.hidden) refl

changes_fit : (k : ℕ) (form : DocForm) (n : ℕ) → fit_height (suc k) (change_pieces form n) ≡ true
changes_fit k form n = some_fits (suc k) (time_piece form (codes "LastModificationTime")) (unless_zero n) (λ n. refl)

items_fit : (k : ℕ) (form : DocForm) (items : List Item) → fits_height (suc (suc (suc k))) (items_piece form items) ≡ true
items_fit k form items = all_fit (suc (suc k)) (item_piece form) items (λ i. changes_fit k form i.changed)

some_items_fit : (k : ℕ) (form : DocForm) (items : List Item) → fit_height (suc (suc (suc k))) (items_pieces form items) ≡ true
some_items_fit k form items = some_fits (suc (suc (suc k))) (items_piece form) (unless_empty items) (items_fit k form)

typing_fits : (k : ℕ) (a : AutoType) → fits_height (suc (suc (suc k))) (auto_type_piece a) ≡ true
typing_fits k a = all_fit (suc (suc k)) association_piece a.pairs (λ a. refl)

icons_fit : (k icon : ℕ) (o : Option NodeId) → fit_height (suc k) (icon_pieces icon o) ≡ true
icons_fit k icon o = some_fits (suc k) (id_piece (codes "CustomIconUUID")) o (λ u. refl)

texts_fit : (k : ℕ) (c : BareContent) → fit_height (suc k) (text_pieces c) ≡ true
texts_fit k c = some_fits (suc k) (bool_piece (codes "QualityCheck")) (unless_true c.quality) (λ b. refl)

previous_fit : (k : ℕ) (u : NodeId) → fit_height (suc k) (previous_pieces u) ≡ true
previous_fit k u = some_fits (suc k) (id_piece (codes "PreviousParentGroup")) (unless_nil u) (λ u. refl)

held_fit : (k : ℕ) (form : DocForm) (items : List PoolPair) (c : BareContent) → fit_height (suc (suc (suc k))) (held_pieces form items c) ≡ true
held_fit k form items c =
    joined_fit (suc (suc (suc k))) (pieces_of (field_piece form) c.fields) _ (all_fit (suc (suc (suc k))) (field_piece form) c.fields (field_fits (suc k) form))
    (joined_fit (suc (suc (suc k))) (pieces_of (attachment_piece items) c.attachments) _ (all_fit (suc (suc (suc k))) (attachment_piece items) c.attachments (λ a. refl))
    (yes (fits_height (suc (suc (suc k))) (auto_type_piece c.auto_type)) _ (typing_fits k c.auto_type) (some_items_fit k form c.items)))

version_fits : (k : ℕ) (form : DocForm) (items : List PoolPair) (e : NodeId × EntryRecord) (v : BareVersion) → fit_height (suc (suc (suc k))) (version_pieces form items e v) ≡ true
version_fits k form items e v =
    let c = v.mark.content in
    joined_fit (suc (suc (suc k))) (icon_pieces c.icon c.custom_icon) _ (icons_fit (suc (suc k)) c.icon c.custom_icon)
    (joined_fit (suc (suc (suc k))) (text_pieces c) _ (texts_fit (suc (suc k)) c)
    (joined_fit (suc (suc (suc k))) (previous_pieces e.1.previous) _ (previous_fit (suc (suc k)) e.1.previous)
    (held_fit k form items c)))

history_fits : (k : ℕ) (form : DocForm) (items : List PoolPair) (e : NodeId × EntryRecord) → fits_height (suc (suc (suc (suc (suc k))))) (history_piece form items e) ≡ true
history_fits k form items e = all_fit (suc (suc (suc (suc k)))) (history_item_piece form items e) e.1.history (version_fits k form items e)

entry_fits : (k : ℕ) (form : DocForm) (items : List PoolPair) (e : NodeId × EntryRecord) → fits_height (suc (suc (suc (suc (suc (suc k)))))) (entry_piece form items e) ≡ true
entry_fits k form items e =
    joined_fit (suc (suc (suc (suc (suc k))))) (version_pieces form items e e.1.current) (history_piece form items e ▹ none) (version_fits (suc (suc k)) form items e e.1.current)
    (yes (fits_height (suc (suc (suc (suc (suc k))))) (history_piece form items e)) true (history_fits k form items e) refl)

record_fits : (k : ℕ) (form : DocForm) (u : NodeId) (r : GroupRecord) → fit_height (suc (suc (suc k))) (record_pieces form u r) ≡ true
record_fits k form u r =
    let c = r.state.content in
    joined_fit (suc (suc (suc k))) (name_pieces c) _ (joined_fit (suc (suc (suc k))) (piece_if (text_piece (codes "Tags")) (unless_empty c.tags)) (icon_pieces c.icon c.custom_icon) (some_fits (suc (suc (suc k))) (text_piece (codes "Tags")) (unless_empty c.tags) (λ t. refl)) (icons_fit (suc (suc k)) c.icon c.custom_icon))
    (joined_fit (suc (suc (suc k))) (previous_pieces r.previous) _ (previous_fit (suc (suc k)) r.previous) (some_items_fit k form c.items))

mutual
  tree_fits : (t : Tree) (k : ℕ) (form : DocForm) (items : List PoolPair) → height t ≤ suc k → fits_height (suc (suc (suc (suc (suc (suc (suc k))))))) (group_piece form items t) ≡ true
  tree_fits (vault.node u r es ts) k form items low =
      joined_fit (suc (suc (suc (suc (suc (suc k)))))) (record_pieces form u r) _ (record_fits (suc (suc (suc k))) form u r)
      (joined_fit (suc (suc (suc (suc (suc (suc k)))))) (pieces_of (entry_piece form items) es) (group_pieces form items ts) (all_fit (suc (suc (suc (suc (suc (suc k)))))) (entry_piece form items) es (entry_fits k form items)) (trees_fit ts k form items (omega arith)))

  trees_fit : (ts : Trees) (k : ℕ) (form : DocForm) (items : List PoolPair) → height_all ts ≤ k → fit_height (suc (suc (suc (suc (suc (suc k)))))) (group_pieces form items ts) ≡ true
  trees_fit vault.none k form items low = refl
  trees_fit (vault.beside t ts) zero form items low = absurd (omega (arith, has_level t))
  trees_fit (vault.beside t ts) (suc k) form items low =
      yes (fits_height (suc (suc (suc (suc (suc (suc (suc k))))))) (group_piece form items t)) _ (tree_fits t k form items (omega arith)) (trees_fit ts (suc k) form items (omega arith))

icon_fits : (k : ℕ) (form : DocForm) (i : Icon) → fits_height (suc (suc k)) (icon_piece form i) ≡ true
icon_fits k form i =
    joined_fit (suc k) (piece_if (text_piece (codes "Name")) (unless_empty i.name)) (change_pieces form i.changed) (some_fits (suc k) (text_piece (codes "Name")) (unless_empty i.name) (λ t. refl)) (changes_fit k form i.changed)

binary_fits : (k : ℕ) (form : DocForm) (n : ℕ) (bytes : List ℕ) (h : Bool) → fits_height (suc k) (numbered_piece form n bytes h) ≡ true
binary_fits k form n bytes false = refl
binary_fits k Plain n bytes true = refl
binary_fits k V3 n bytes true = refl
binary_fits k V4 n bytes true = refl

pool_fits : (k : ℕ) (form : DocForm) (items : List PoolPair) → fit_height (suc (suc (suc k))) (pool_pieces form items) ≡ true
pool_fits k V4 items = refl
pool_fits k Plain items = yes (fit_height (suc (suc k)) (pieces_of (binary_piece Plain) (binaries_from 0 items))) true (all_fit (suc (suc k)) (binary_piece Plain) (binaries_from 0 items) (λ b. binary_fits (suc k) Plain b.number b.bytes b.hidden)) refl
pool_fits k V3 items = yes (fit_height (suc (suc k)) (pieces_of (binary_piece V3) (binaries_from 0 items))) true (all_fit (suc (suc k)) (binary_piece V3) (binaries_from 0 items) (λ b. binary_fits (suc k) V3 b.number b.bytes b.hidden)) refl

hash_fits : (k : ℕ) (form : DocForm) (hash : Option (List ℕ)) → fit_height (suc k) (hash_pieces form hash) ≡ true
hash_fits k Plain hash = refl
hash_fits k V3 hash = some_fits (suc k) (base64_piece (codes "HeaderHash") []) hash (λ h. refl)
hash_fits k V4 hash = refl

settings_change_fits : (k : ℕ) (form : DocForm) (n : ℕ) → fit_height (suc k) (settings_change_pieces form n) ≡ true
settings_change_fits k Plain n = refl
settings_change_fits k V3 n = some_fits (suc k) (time_piece V3 (codes "SettingsChanged")) (unless_zero n) (λ n. refl)
settings_change_fits k V4 n = refl

title_fits : (k : ℕ) (form : DocForm) (m : Meta) → fit_height (suc k) (title_pieces form m) ≡ true
title_fits k form m = joined_fit (suc k) (settings_change_pieces form m.settings.changed) _ (settings_change_fits k form m.settings.changed) refl

setting_fits : (k : ℕ) (form : DocForm) (m : Meta) → fit_height (suc (suc (suc k))) (setting_pieces form m) ≡ true
setting_fits k form m =
    joined_fit (suc (suc (suc k))) (piece_if (bool_piece (codes "MasterKeyChangeForceOnce")) (unless_false m.settings.value.key_force_once)) _
    (some_fits (suc (suc (suc k))) (bool_piece (codes "MasterKeyChangeForceOnce")) (unless_false m.settings.value.key_force_once) (λ b. refl))
    (yes (fit_height (suc (suc k)) (pieces_of (icon_piece form) m.icons)) true (all_fit (suc (suc k)) (icon_piece form) m.icons (icon_fits k form)) refl)

meta_fits : (k : ℕ) (form : DocForm) (hash : Option (List ℕ)) (items : List PoolPair) (m : Meta) → fits_height (suc (suc (suc (suc k)))) (meta_piece form hash items m) ≡ true
meta_fits k form hash items m =
    joined_fit (suc (suc (suc k))) (hash_pieces form hash) _ (hash_fits (suc (suc k)) form hash)
    (joined_fit (suc (suc (suc k))) (title_pieces form m) _ (title_fits (suc (suc k)) form m)
    (joined_fit (suc (suc (suc k))) (setting_pieces form m) _ (setting_fits k form m)
    (joined_fit (suc (suc (suc k))) (pool_pieces form items) (items_piece form m.items ▹ none) (pool_fits k form items)
    (yes (fits_height (suc (suc (suc k))) (items_piece form m.items)) true (items_fit k form m.items) refl))))

pub document_fits : (form : DocForm) (hash : Option (List ℕ)) (items : List PoolPair) (d : BareDoc) → height d.tree ≤ 128 → fits_height 136 (file_piece form hash items d) ≡ true
document_fits form hash items d low =
    yes (fits_height 135 (meta_piece form hash items d.meta)) _ (meta_fits 131 form hash items d.meta)
    (yes (fits_height 135 (root_piece form items d)) true
    (yes (fits_height 134 (group_piece form items d.tree)) _ (tree_fits d.tree 127 form items low) (yes (fit_height 133 (pieces_of (tomb_piece form) d.tombs)) true (all_fit 133 (tomb_piece form) d.tombs (λ t. refl)) refl)) refl)
