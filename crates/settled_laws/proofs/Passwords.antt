-- The versions that an item of Bitwarden gives are in order.
use Rattle.std.proofs.Common.{◌≡◌, ◌<◌, ℕ, zero, suc, Bool, true, false, ◌&&◌, ◌||◌, cond, ◌⊎◌, inl, inr, List, [], ◌∷◌, ◌++◌, map, length, codes, Ok, Some, refl, sym, ap, subst, ◌∙◌}
use Rattle.std.specs.Cmp.{tied_itself}
use Rattle.std.specs.Cmp.Lexicographic.{slice_cmp}
use Rattle.std.specs.List.{list_all, list_any}
use Rattle.std.specs.Ordering.{bool_cmp, is_lt, nat_cmp, ordering_reverse, ordering_then}
use Rattle.std.specs.Str.{bytes_eq}
use Rattle.std.specs.declared.cmp.Ordering.{Ordering}
use Rattle.std.specs.declared.cmp.Ordering.TheVariants.{Equal, Greater, Less}
use Rattle.bitwarden_fields.proofs.Sorted.{fields_rise}
use Rattle.bitwarden_fields.specs.Keys.{first_free, free_key, has_key, numbered_key, put_all, with_field, with_fields}
use Rattle.bitwarden_fields.specs.Said.{addresses_of, code_field, custom_field, field, fields_of, first_text, login_of, more_addresses, objects_fields, said_fields}
use Rattle.bitwarden_forms.specs.Json.{text, values}
use Rattle.bitwarden_items.specs.Passwords.{EarlierPassword, earlier_cmp, earlier_password, earlier_passwords, put_beside, put_password, put_passwords}
use Rattle.bitwarden_items.specs.Versions.{created_at, earlier_version, entry_modified, in_time, item_row, modified_at}
use Rattle.bitwarden_laws.proofs.Earlier.{in_map}
use Rattle.bitwarden_laws.proofs.Passwords.{earlier, has_password}
use Rattle.doc_forms.specs.Tables.{put, put_beside as put_field_beside}
use Rattle.import_again_laws.proofs.Newer.{less as nat_less}
use Rattle.import_laws.proofs.Sources.{then_ok}
use Rattle.import_tree.specs.Entries.{content_at}
use Rattle.merge_core.proofs.SoundDoc.{all_in}
use Rattle.serde_json.specs.Data.{Data}
use Rattle.settled_laws.specs.Settled.{is_orderly_entry, versions_rise}
use Rattle.vault_model.proofs.Orders.{bytes_order, field_order, nat_order, pairs_order}
use Rattle.vault_model.proofs.Tests.{and_both, and_true}
use Rattle.vault_model.specs.Bare.{BareField}
use Rattle.vault_model.specs.Db.{Mark, NodeId, mark_cmp}
use Rattle.vault_model.specs.Join.{IsIn}
use Rattle.vault_model.specs.Orders.{bytes_cmp, content_cmp, field_cmp}
use Rattle.vault_model.specs.Proper.{rises}
use Rattle.vault_model.specs.Shape.{BareVersion, EntryRecord}

-- ---- passwords that were put rise

abbrev is_later : EarlierPassword → EarlierPassword → Bool
is_later p q = is_lt (earlier_cmp p q)

abbrev passwords_rise : List EarlierPassword → Bool
passwords_rise [] = true
passwords_rise (p ∷ ps) = list_all (is_later p) ps && passwords_rise ps

less_from : (r : Ordering) → is_lt r ≡ true → r ≡ Less
less_from Less e = refl
less_from Equal e = cc e
less_from Greater e = cc e

later_through : (p q r : EarlierPassword) → earlier_cmp p q ≡ Less → is_later q r ≡ true → is_later p r ≡ true
later_through p q r less more =
    ap is_lt ((pairs_order nat_order bytes_order).total.trans (p.date, p.password) (q.date, q.password) (r.date, r.password) less (less_from (earlier_cmp q r) more))

later_all : (p q : EarlierPassword) (rs : List EarlierPassword) → earlier_cmp p q ≡ Less → list_all (is_later q) rs ≡ true → list_all (is_later p) rs ≡ true
later_all p q [] less all = refl
later_all p q (r ∷ rs) less all =
    let both = and_true (is_later q r) (list_all (is_later q) rs) all in
    and_both (is_later p r) (list_all (is_later p) rs) (later_through p q r less both.0) (later_all p q rs less both.1)

turned_password : (p q : EarlierPassword) → earlier_cmp p q ≡ Greater → is_later q p ≡ true
turned_password p q e = ap is_lt ((pairs_order nat_order bytes_order).total.antisymm (q.date, q.password) (p.date, p.password) ∙ ap ordering_reverse e)

all_beside : (o : Ordering) (test : EarlierPassword → Bool) (p q : EarlierPassword) (qs after : List EarlierPassword) → test p ≡ true → list_all test (q ∷ qs) ≡ true → list_all test after ≡ true
    → list_all test (put_beside o p q qs after) ≡ true
all_beside Less test p q qs after here all rest = and_both (test p) (list_all test (q ∷ qs)) here all
all_beside Equal test p q qs after here all rest = all
all_beside Greater test p q qs after here all rest = and_both (test q) (list_all test after) (and_true (test q) (list_all test qs) all).0 rest

all_put : (test : EarlierPassword → Bool) (p : EarlierPassword) (qs : List EarlierPassword) → test p ≡ true → list_all test qs ≡ true → list_all test (put_password p qs) ≡ true
all_put test p [] here all = and_both (test p) true here refl
all_put test p (q ∷ qs) here all =
    all_beside (earlier_cmp p q) test p q qs (put_password p qs) here all (all_put test p qs here (and_true (test q) (list_all test qs) all).1)

rises_beside : (o : Ordering) (p q : EarlierPassword) (qs : List EarlierPassword) → earlier_cmp p q ≡ o → passwords_rise (q ∷ qs) ≡ true → passwords_rise (put_password p qs) ≡ true
    → passwords_rise (put_beside o p q qs (put_password p qs)) ≡ true
rises_beside Less p q qs e all rest =
    let parts = and_true (list_all (is_later q) qs) (passwords_rise qs) all in
    and_both (list_all (is_later p) (q ∷ qs)) (passwords_rise (q ∷ qs)) (and_both (is_later p q) (list_all (is_later p) qs) (ap is_lt e) (later_all p q qs e parts.0)) all
rises_beside Equal p q qs e all rest = all
rises_beside Greater p q qs e all rest =
    let parts = and_true (list_all (is_later q) qs) (passwords_rise qs) all in
    and_both (list_all (is_later q) (put_password p qs)) (passwords_rise (put_password p qs)) (all_put (is_later q) p qs (turned_password p q e) parts.0) rest

put_rises : (p : EarlierPassword) (qs : List EarlierPassword) → passwords_rise qs ≡ true → passwords_rise (put_password p qs) ≡ true
put_rises p [] all = refl
put_rises p (q ∷ qs) all =
    rises_beside (earlier_cmp p q) p q qs refl all (put_rises p qs (and_true (list_all (is_later q) qs) (passwords_rise qs) all).1)

all_rise : (ps qs : List EarlierPassword) → passwords_rise qs ≡ true → passwords_rise (put_passwords ps qs) ≡ true
all_rise [] qs all = all
all_rise (p ∷ ps) qs all = all_rise ps (put_password p qs) (put_rises p qs all)

-- ---- fields that differ in what some of them say

-- of two fields of one key the first is the second, or says what is below what the second says
abbrev Below : BareField → BareField → Type 0
Below f g = (f.key ≡ g.key) × ((f ≡ g) ⊎ (bytes_cmp f.value g.value ≡ Less))

abbrev AreBelow : List BareField → List BareField → Type 0
AreBelow [] [] = Unit {0}
AreBelow [] (g ∷ gs) = ⊥
AreBelow (f ∷ fs) [] = ⊥
AreBelow (f ∷ fs) (g ∷ gs) = Below f g × AreBelow fs gs

below_same : (fs : List BareField) → AreBelow fs fs
below_same [] = tt
below_same (f ∷ fs) = ((refl, inl refl), below_same fs)

below_append : (fs gs xs ys : List BareField) → AreBelow fs gs → AreBelow xs ys → AreBelow (fs ++ xs) (gs ++ ys)
below_append [] [] xs ys a b = b
below_append [] (g ∷ gs) xs ys a b = absurd a
below_append (f ∷ fs) [] xs ys a b = absurd a
below_append (f ∷ fs) (g ∷ gs) xs ys a b = (a.0, below_append fs gs xs ys a.1 b)

abbrev keys_of : List BareField → List (List ℕ)
keys_of fs = map (λ (f : BareField). f.key) fs

same_keys : (fs gs : List BareField) → AreBelow fs gs → keys_of fs ≡ keys_of gs
same_keys [] [] a = refl
same_keys [] (g ∷ gs) a = absurd a
same_keys (f ∷ fs) [] a = absurd a
same_keys (f ∷ fs) (g ∷ gs) a = λ i. a.0.0 i ∷ same_keys fs gs a.1 i

has_by_keys : (fs : List BareField) (key : List ℕ) → has_key fs key ≡ list_any (λ (k : List ℕ). bytes_eq k key) (keys_of fs)
has_by_keys [] key = refl
has_by_keys (f ∷ fs) key = ap (λ b. bytes_eq f.key key || b) (has_by_keys fs key)

length_keys : (fs : List BareField) → length fs ≡ length (keys_of fs)
length_keys [] = refl
length_keys (f ∷ fs) = ap suc (length_keys fs)

module _ (fs gs : List BareField) (below : AreBelow fs gs) where
  same_has : (key : List ℕ) → has_key fs key ≡ has_key gs key
  same_has key = has_by_keys fs key ∙ ap (list_any (λ (k : List ℕ). bytes_eq k key)) (same_keys fs gs below) ∙ sym (has_by_keys gs key)

  same_first : (n number : ℕ) (key : List ℕ) → first_free n number fs key ≡ first_free n number gs key
  same_first zero number key = refl
  same_first (suc n) number key = λ i. cond (same_has (numbered_key key number) i) (same_first n (suc number) key i) (numbered_key key number)

  same_free : (key : List ℕ) → free_key fs key ≡ free_key gs key
  same_free key =
      ap (λ n. cond (has_key fs key) (first_free n 2 fs key) key) (length_keys fs ∙ ap length (same_keys fs gs below) ∙ sym (length_keys gs))
      ∙ (λ i. cond (same_has key i) (same_first (length gs) 2 key i) key)

  below_with : (f g : BareField) → Below f g → AreBelow (with_field f fs) (with_field g gs)
  below_with f g b =
      let key : free_key fs f.key ≡ free_key gs g.key = same_free f.key ∙ ap (free_key gs) b.0 in
      below_append fs gs (record f { key = free_key fs f.key } ∷ []) (record g { key = free_key gs g.key } ∷ []) below ((key, renamed key b.1), tt)
    where
      renamed : free_key fs f.key ≡ free_key gs g.key → ((f ≡ g) ⊎ (bytes_cmp f.value g.value ≡ Less))
          → ((record f { key = free_key fs f.key } ≡ record g { key = free_key gs g.key }) ⊎ (bytes_cmp f.value g.value ≡ Less))
      renamed key (inl same) = inl (λ i. record (same i) { key = key i })
      renamed key (inr less) = inr less

all_with : (xs ys fs gs : List BareField) → AreBelow xs ys → AreBelow fs gs → AreBelow (with_fields xs fs) (with_fields ys gs)
all_with [] [] fs gs a b = b
all_with [] (y ∷ ys) fs gs a b = absurd a
all_with (x ∷ xs) [] fs gs a b = absurd a
all_with (x ∷ xs) (y ∷ ys) fs gs a b = all_with xs ys (with_field x fs) (with_field y gs) a.1 (below_with fs gs b x y a.0)

abbrev put_field : BareField → List BareField → List BareField
put_field f fs = put (λ (x : BareField). x.key) f fs

below_beside : (o : Ordering) (f g x y : BareField) (xs ys fs gs : List BareField) → Below f g → Below x y → AreBelow xs ys → AreBelow fs gs
    → AreBelow (put_field_beside o f x xs fs) (put_field_beside o g y ys gs)
below_beside Less f g x y xs ys fs gs a b c d = (a, (b, c))
below_beside Equal f g x y xs ys fs gs a b c d = (a, c)
below_beside Greater f g x y xs ys fs gs a b c d = (b, d)

below_put : (f g : BareField) (xs ys : List BareField) → Below f g → AreBelow xs ys → AreBelow (put_field f xs) (put_field g ys)
below_put f g [] [] a b = (a, tt)
below_put f g [] (y ∷ ys) a b = absurd b
below_put f g (x ∷ xs) [] a b = absurd b
below_put f g (x ∷ xs) (y ∷ ys) a b =
    subst (λ o. AreBelow (put_field_beside (bytes_cmp f.key x.key) f x xs (put_field f xs)) (put_field_beside o g y ys (put_field g ys))) (λ i. bytes_cmp (a.0 i) (b.0.0 i))
    (below_beside (bytes_cmp f.key x.key) f g x y xs ys (put_field f xs) (put_field g ys) a b.0 b.1 (below_put f g xs ys a b.1))

below_put_all : (fs gs xs ys : List BareField) → AreBelow fs gs → AreBelow xs ys → AreBelow (put_all fs xs) (put_all gs ys)
below_put_all [] [] xs ys a b = b
below_put_all [] (g ∷ gs) xs ys a b = absurd a
below_put_all (f ∷ fs) [] xs ys a b = absurd a
below_put_all (f ∷ fs) (g ∷ gs) xs ys a b = below_put_all fs gs (put_field f xs) (put_field g ys) a.1 (below_put f g xs ys a.0 b)

-- such fields are the same, or the first ones come before the others
field_less : (f g : BareField) → f.key ≡ g.key → bytes_cmp f.value g.value ≡ Less → field_cmp f g ≡ Less
unfolding field_cmp
field_less f g key less =
    ap (λ k. ordering_then (bytes_cmp f.key k) (ordering_then (bytes_cmp f.value g.value) (bool_cmp f.hidden g.hidden))) (sym key)
    ∙ ap (λ o. ordering_then o (ordering_then (bytes_cmp f.value g.value) (bool_cmp f.hidden g.hidden))) (tied_itself bytes_order.total f.key)
    ∙ ap (λ o. ordering_then o (bool_cmp f.hidden g.hidden)) less

fields_less : (fs gs : List BareField) → AreBelow fs gs → (fs ≡ gs) ⊎ (slice_cmp field_cmp fs gs ≡ Less)
fields_less [] [] a = inl refl
fields_less [] (g ∷ gs) a = absurd a
fields_less (f ∷ fs) [] a = absurd a
fields_less (f ∷ fs) (g ∷ gs) ((key, inr less), a) = inr (ap (λ o. ordering_then o (slice_cmp field_cmp fs gs)) (field_less f g key less))
fields_less (f ∷ fs) (g ∷ gs) ((key, inl same), a) =
    elim (fields_less fs gs a) [
      | inl rest ↦ inl (λ i. same i ∷ rest i)
      | inr less ↦ inr (ap (λ h. ordering_then (field_cmp f h) (slice_cmp field_cmp fs gs)) (sym same)
          ∙ ap (λ o. ordering_then o (slice_cmp field_cmp fs gs)) (tied_itself field_order.total f) ∙ less)
    ]

-- ---- versions with such passwords

then_first : (o rest : Ordering) → o ≡ Less → ordering_then o rest ≡ Less
then_first o rest less = ap (λ x. ordering_then x rest) less

then_tied : (o rest : Ordering) → o ≡ Equal → rest ≡ Less → ordering_then o rest ≡ Less
then_tied o rest tied less = ap (λ x. ordering_then x rest) tied ∙ less

nat_tied : (n : ℕ) → nat_cmp n n ≡ Equal
nat_tied n = tied_itself nat_order.total n

not_below : (x : BareField) (xs : List BareField) → rises (λ (f : BareField). f.key) (x ∷ xs) ≡ true → (f : BareField) → IsIn f xs → x.key ≡ f.key → ⊥
not_below x xs up f i same =
    let both = and_true (list_all (λ (y : BareField). is_lt (bytes_cmp x.key y.key)) xs) (rises (λ (y : BareField). y.key) xs) up in
    let less = less_from (bytes_cmp x.key f.key) (all_in (λ (y : BareField). is_lt (bytes_cmp x.key y.key)) xs f both.0 i) in
    cc (sym less ∙ ap (bytes_cmp x.key) (sym same) ∙ tied_itself bytes_order.total x.key)

-- of fields whose keys rise one has a key
one_of_key : (fs : List BareField) → rises (λ (f : BareField). f.key) fs ≡ true → (f g : BareField) → IsIn f fs → IsIn g fs → f.key ≡ g.key → f ≡ g
one_of_key [] up f g i j same = absurd i
one_of_key (x ∷ xs) up f g (inl p) (inl q) same = sym p ∙ q
one_of_key (x ∷ xs) up f g (inl p) (inr j) same = absurd (not_below x xs up g j (ap (λ (y : BareField). y.key) p ∙ same))
one_of_key (x ∷ xs) up f g (inr i) (inl q) same = absurd (not_below x xs up f i (ap (λ (y : BareField). y.key) q ∙ sym same))
one_of_key (x ∷ xs) up f g (inr i) (inr j) same =
    one_of_key xs (and_true (list_all (λ (y : BareField). is_lt (bytes_cmp x.key y.key)) xs) (rises (λ (y : BareField). y.key) xs) up).1 f g i j same

module _ (item : Data) (p q : List ℕ) (less : bytes_cmp p q ≡ Less) where
  abbrev after_password : List BareField
  after_password =
      field (codes "URL") (first_text (addresses_of (login_of item))) false
      ∷ ((more_addresses (addresses_of (login_of item)) ++ code_field (text (codes "totp") (login_of item)))
      ++ (map custom_field (values (codes "fields") (Some item)) ++ objects_fields item))

  said_below : AreBelow (said_fields p item) (said_fields q item)
  said_below = ((refl, inl refl), ((refl, inl refl), ((refl, inl refl), ((refl, inr less), below_same after_password))))

  all_below : AreBelow (fields_of p item) (fields_of q item)
  all_below = below_put_all (with_fields (said_fields p item) []) (with_fields (said_fields q item) []) [] []
      (all_with (said_fields p item) (said_fields q item) [] [] said_below tt) tt

  not_same : fields_of p item ≡ fields_of q item → ⊥
  not_same same =
      let mine = subst (λ (fs : List BareField). IsIn (field (codes "Password") p true) fs) same (has_password p item) in
      let one = one_of_key (fields_of q item) (fields_rise q item) (field (codes "Password") p true) (field (codes "Password") q true) mine (has_password q item) refl in
      let tied : bytes_cmp p q ≡ Equal = ap (bytes_cmp p) (sym (ap (λ (f : BareField). f.value) one)) ∙ tied_itself bytes_order.total p in
      cc (sym less ∙ tied)

  fields_before : slice_cmp field_cmp (fields_of p item) (fields_of q item) ≡ Less
  fields_before = elim (fields_less (fields_of p item) (fields_of q item) all_below) [ inl same ↦ absurd (not_same same) | inr before ↦ before ]

content_before : (now created : ℕ) (fs gs : List BareField) → slice_cmp field_cmp fs gs ≡ Less → content_cmp (content_at now created fs) (content_at now created gs) ≡ Less
unfolding content_cmp
content_before now created fs gs before =
    then_tied (nat_cmp created created) _ (nat_tied created) (then_tied (nat_cmp now now) _ (nat_tied now) (then_first (slice_cmp field_cmp fs gs) _ before))

mark_before : (j k : Mark) → (o : Ordering) → nat_cmp j.modified k.modified ≡ o → (o ≡ Less) ⊎ ((o ≡ Equal) × (content_cmp j.content k.content ≡ Less)) → mark_cmp j k ≡ Less
unfolding mark_cmp
mark_before j k o e (inl less) = then_first (nat_cmp j.modified k.modified) (content_cmp j.content k.content) (e ∙ less)
mark_before j k o e (inr both) = then_tied (nat_cmp j.modified k.modified) (content_cmp j.content k.content) (e ∙ both.0) both.1

module _ (now : ℕ) (item : Data) where
  abbrev version : EarlierPassword → BareVersion
  version = earlier_version now item

  password_before : (p q : EarlierPassword) (o : Ordering) → nat_cmp p.date q.date ≡ o → earlier_cmp p q ≡ Less → mark_cmp (version p).mark (version q).mark ≡ Less
  password_before p q Less e less = mark_before (version p).mark (version q).mark Less e (inl refl)
  password_before p q Equal e less =
      let passwords : bytes_cmp p.password q.password ≡ Less = ap (λ o. ordering_then o (bytes_cmp p.password q.password)) (sym e) ∙ less in
      mark_before (version p).mark (version q).mark Equal e
      (inr (refl, content_before now (created_at now item) (fields_of p.password item) (fields_of q.password item) (fields_before item p.password q.password passwords)))
  password_before p q Greater e less = absurd (cc (sym (ap (λ o. ordering_then o (bytes_cmp p.password q.password)) e) ∙ less))

  date_before : (p : EarlierPassword) (current : BareVersion) → p.date < current.mark.modified → mark_cmp (version p).mark current.mark ≡ Less
  date_before p current less = mark_before (version p).mark current.mark Less (nat_less p.date current.mark.modified less) (inl refl)

  abbrev is_after : EarlierPassword → BareVersion → Bool
  is_after p w = is_lt (mark_cmp (version p).mark w.mark)

  after_all : (current : BareVersion) (p : EarlierPassword) (ps : List EarlierPassword) → p.date < current.mark.modified → list_all (is_later p) ps ≡ true
      → list_all (is_after p) (map version ps ++ current ∷ []) ≡ true
  after_all current p [] less all = and_both (is_after p current) true (ap is_lt (date_before p current less)) refl
  after_all current p (q ∷ qs) less all =
      let both = and_true (is_later p q) (list_all (is_later p) qs) all in
      and_both (is_after p (version q)) (list_all (is_after p) (map version qs ++ current ∷ []))
      (ap is_lt (password_before p q (nat_cmp p.date q.date) refl (less_from (earlier_cmp p q) both.0))) (after_all current p qs less both.1)

  all_versions_rise : (current : BareVersion) (ps : List EarlierPassword) → ((p : EarlierPassword) → IsIn p ps → p.date < current.mark.modified) → passwords_rise ps ≡ true
      → versions_rise (map version ps ++ current ∷ []) ≡ true
  all_versions_rise current [] before up = refl
  all_versions_rise current (p ∷ ps) before up =
      let both = and_true (list_all (is_later p) ps) (passwords_rise ps) up in
      and_both (list_all (is_after p) (map version ps ++ current ∷ [])) (versions_rise (map version ps ++ current ∷ []))
      (after_all current p ps (before p (inl refl)) both.0) (all_versions_rise current ps (λ q h. before q (inr h)) both.1)

  pub item_orderly : (id : NodeId) (row : NodeId × EntryRecord) → item_row now id item ≡ Ok row → is_orderly_entry row.1 ≡ true
  item_orderly id row is =
      let made = then_ok (in_time (modified_at now item)) _ row is in
      let same : (id, entry_modified now item made.0) ≡ row = cc made.1.1 in
      let e : EntryRecord = entry_modified now item made.0 in
      let up = all_rise (map (earlier_password now) (values (codes "passwordHistory") (Some item))) [] refl in
      let before : (p : EarlierPassword) → IsIn p (earlier_passwords now item) → p.date < e.current.mark.modified =
      λ p h. earlier now id item (id, e) (version p) (is ∙ ap Ok (sym same)) (in_map version p (earlier_passwords now item) h) in
      ap (λ (r : NodeId × EntryRecord). is_orderly_entry r.1) (sym same) ∙ all_versions_rise e.current (earlier_passwords now item) before up
