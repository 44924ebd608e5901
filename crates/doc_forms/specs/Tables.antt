-- Lists in which a key occurs once, and the elements that several kinds of others hold: times and
-- custom items.
use Rattle.std.specs.Prelude.{ℕ, false, if◌then◌else◌, List, [], ◌∷◌, codes}
use Rattle.std.specs.List.{prefix_len}
use Rattle.std.specs.Ordering.{is_gt, is_eq}
use Rattle.std.specs.declared.cmp.Ordering.{Ordering}
use Rattle.std.specs.declared.cmp.Ordering.TheVariants.{Less, Equal, Greater}
use Rattle.vault_model.specs.Orders.{bytes_cmp}
use Rattle.vault_model.specs.declared.contents.Item.{Item}
use Rattle.doc_forms.specs.declared.times.Times.{Times}
use Rattle.doc_forms.specs.Children.{Child, value, container}
use Rattle.doc_forms.specs.ElementTexts.{Setting}
use Rattle.doc_forms.specs.Values.{text_in, value_or, boolean, number64, time}

-- ---- lists by keys

-- what comes of the first of some things: it comes before, in the place of, or after the new one
abbrev pub put_beside : {A : Type 0} → Ordering → A → A → List A → List A → List A
put_beside Less x y ys after = x ∷ y ∷ ys
put_beside Equal x y ys after = x ∷ ys
put_beside Greater x y ys after = y ∷ after

-- things that rise by their keys, and one more, in the place of that of its key
abbrev pub put : {A : Type 0} → (A → List ℕ) → A → List A → List A
put key x [] = x ∷ []
put key x (y ∷ ys) = put_beside (bytes_cmp (key x) (key y)) x y ys (put key x ys)

-- how many things have lesser keys than this one
abbrev pub position_of : {A : Type 0} → (A → List ℕ) → List ℕ → List A → ℕ
position_of key k list = prefix_len (λ x. is_gt (bytes_cmp k (key x))) list

-- things without the first of them, where that has the key
abbrev pub without_key : {A : Type 0} → (A → List ℕ) → List ℕ → List A → List A
without_key key k [] = []
without_key key k (x ∷ xs) = if is_eq (bytes_cmp k (key x)) then xs else x ∷ xs

-- ---- times

-- the times where no element says any
abbrev pub no_times : Times
no_times =
    record {
      modified = 0;
      created = 0;
      accessed = 0;
      expiry = 0;
      expires = false;
      usage = 0;
      placed
          = 0;
    }

-- the children of `Times`
abbrev pub times_rows : Setting → List (List ℕ × Child Times)
times_rows s =
    (codes "LastModificationTime", value s (value_or 0 time) (λ p v. record p { modified = v }))
    ∷ (codes "CreationTime", value s (value_or 0 time) (λ p v. record p { created = v }))
    ∷ (codes "LastAccessTime", value s (value_or 0 time) (λ p v. record p { accessed = v }))
    ∷ (codes "ExpiryTime", value s (value_or 0 time) (λ p v. record p { expiry = v }))
    ∷ (codes "Expires", value s (value_or false boolean) (λ p v. record p { expires = v }))
    ∷ (codes "UsageCount", value s (value_or 0 number64) (λ p v. record p { usage = v }))
    ∷ (codes "LocationChanged", value s (value_or 0 time) (λ p v. record p { placed = v }))
    ∷ []

-- `Times`: the last one counts as a whole
abbrev pub times : {P : Type 0} → Setting → (P → Times → P) → Child P
times s keep = container s (times_rows s) no_times keep

-- ---- custom items

-- a custom item of which nothing is known
abbrev pub no_item : Item
no_item = record { key = []; value = []; changed = 0 }

-- the children of `Item`
abbrev pub item_rows : Setting → List (List ℕ × Child Item)
item_rows s =
    (codes "Key", value s text_in (λ p v. record p { key = v }))
    ∷ (codes "Value", value s text_in (λ p v. record p { value = v }))
    ∷ (codes "LastModificationTime", value s (value_or 0 time) (λ p v. record p { changed = v }))
    ∷ []

-- the children of `CustomData`: of two items of one key the last counts
abbrev pub items_rows : Setting → List (List ℕ × Child (List Item))
items_rows s = (
  codes "Item",
  container s (item_rows s) no_item
      (λ items item. put (λ (i : Item). i.key) item items),
) ∷ []

-- `CustomData`
abbrev pub custom_data : {P : Type 0} → Setting → (P → List Item → P) → Child P
custom_data s keep = container s (items_rows s) [] keep
