-- The items of a dictionary, one after another, as they are read.
use Rattle.std.proofs.Common.{◌≡◌, ◌≢◌, ◌+◌, ◌-◌, ◌<◌, ◌≤◌, ℕ, zero, suc, Bool, true, false, inl, inr, cond, List, [], ◌∷◌, ◌++◌, length, take, drop, slice_index, Result, Ok, Err, nat_lt, refl, sym, ap, subst, ◌∙◌, arith, length-append}
use Rattle.std.specs.Prelude.{◌==◌}
use Rattle.std.specs.Int.{from_le_bytes, w32}
use Rattle.std.proofs.lemmas.Bool.{eqb-false, eqb-true, le-ltb}
use Rattle.std.proofs.lemmas.List.{drop_at, length-take-le, take-append-drop, take_at}
use Rattle.outside_core.specs.Results.{◌>>=◌, repeat_steps}
use Rattle.vault_model.proofs.Tests.{apart}
use Rattle.kdbx_parts.specs.Dictionary.{Item, ItemsRead, counted_bytes, item_at, item_refusal, item_step, length_fits, with_item}
use Rattle.kdbx_parts.specs.Parts.{split_bytes}
use Rattle.kdbx_parts.specs.declared.fail.FrameFail.{FrameFail}
use Rattle.header_cause_laws.specs.FieldCauses.{HasItems, HasNoItem, IsItem, ItemsLead}
use Rattle.header_cause_laws.proofs.Fields.{cut_made, cut_short}
use Rattle.header_cause_laws.proofs.Steps.{given_by, refused_at, same_fail, which}

-- ---- one item

split_again : (fail : FrameFail) (n : ℕ) (xs ys : List ℕ) → length xs ≡ n → split_bytes fail n (xs ++ ys) ≡ Ok (xs, ys)
split_again fail n xs ys h =
    let enough : nat_lt (length (xs ++ ys)) n ≡ false = le-ltb (length (xs ++ ys)) n (omega (arith, length-append xs ys, h)) in
    rw (enough, take_at xs ys n h, drop_at xs ys n h) refl

then_ok : {A B : Type 0} (r : Result A FrameFail) (x : A) (next : A → Result B FrameFail) → r ≡ Ok x → (r >>= next) ≡ next x
then_ok r x next h = ap (λ q. q >>= next) h

counted_again : (fail : FrameFail) (len bytes rest : List ℕ) → length len ≡ 4 → from_le_bytes w32 len ≡ length bytes
    → counted_bytes fail (len ++ (bytes ++ rest)) ≡ Ok (bytes, rest)
counted_again fail len bytes rest four is =
    then_ok (split_bytes fail 4 (len ++ (bytes ++ rest))) (len, bytes ++ rest) (λ n. split_bytes fail (from_le_bytes w32 n.0) n.1) (split_again fail 4 len (bytes ++ rest) four)
    ∙ split_again fail (from_le_bytes w32 len) bytes rest (sym is)

-- what is an item is read as one
item_again : (fail : FrameFail) (bytes : List ℕ) (item : Item) → IsItem bytes item → item_at fail bytes ≡ Ok item
unfolding item_at
item_again fail bytes item is =
    let after_value = item.value ++ item.rest in
    let after_key = is.value_len ++ after_value in
    let tail = is.key_len ++ (item.key ++ after_key) in
    ap (item_at fail) is.is
    ∙ (then_ok (split_bytes fail 1 (item.kind ∷ tail)) (item.kind ∷ [], tail) _ (split_again fail 1 (item.kind ∷ []) tail refl)
    ∙ (then_ok (counted_bytes fail tail) (item.key, after_key) _ (counted_again fail is.key_len item.key after_key is.key_four is.key_is)
    ∙ (then_ok (counted_bytes fail after_key) (item.value, item.rest) _ (counted_again fail is.value_len item.value item.rest is.value_four is.value_is)
    ∙ ap (λ (b : Bool). cond b (Ok item) (Err fail)) is.fits)))

-- bytes that are counted are there
record IsCounted (bytes : List ℕ) (parts : List ℕ × List ℕ) : Type 0 where
  len : List ℕ
  is : bytes ≡ len ++ (parts.0 ++ parts.1)
  four : length len ≡ 4
  len_is : from_le_bytes w32 len ≡ length parts.0

counted_made : (fail : FrameFail) (bytes : List ℕ) (parts : List ℕ × List ℕ) → counted_bytes fail bytes ≡ Ok parts → IsCounted bytes parts
counted_made fail bytes parts h =
    let a = given_by (split_bytes fail 4 bytes) (λ n. split_bytes fail (from_le_bytes w32 n.0) n.1) parts h in
    let head = cut_made fail 4 bytes a.0 a.1.0 in
    let n = from_le_bytes w32 a.0.0 in
    let body = cut_made fail n a.0.1 parts a.1.1 in
    record {
      len = a.0.0;
      is = sym (take-append-drop 4 bytes) ∙ ((λ i. sym head.first i ++ sym head.then i)
          ∙ ap (λ bs. a.0.0 ++ bs) (sym (take-append-drop n a.0.1) ∙ (λ i. sym body.first i ++ sym body.then i)));
      four = ap length head.first ∙ length-take-le 4 bytes head.enough;
      len_is = sym (ap length body.first ∙ length-take-le n a.0.1 body.enough);
    }

abbrev item_in : Item → Result Item FrameFail → Item
item_in other (Ok item) = item
item_in other (Err e) = other

first_is : (bytes : List ℕ) → 1 ≤ length bytes → bytes ≡ slice_index (take 1 bytes) 0 ∷ drop 1 bytes
first_is [] long = absurd (omega (arith, long))
first_is (b ∷ bs) long = refl

-- what is read as an item is one
item_read : (fail : FrameFail) (bytes : List ℕ) (item : Item) → item_at fail bytes ≡ Ok item → IsItem bytes item × (length item.rest < length bytes)
unfolding item_at
item_read fail bytes item h =
    let a = given_by (split_bytes fail 1 bytes) _ item h in
    let head = cut_made fail 1 bytes a.0 a.1.0 in
    let b = given_by (counted_bytes fail a.0.1) _ item a.1.1 in
    let key = counted_made fail a.0.1 b.0 b.1.0 in
    let c = given_by (counted_bytes fail b.0.1) _ item b.1.1 in
    let value = counted_made fail b.0.1 c.0 c.1.0 in
    let made : Item = record { kind = slice_index a.0.0 0; key = b.0.0; value = c.0.0; rest = c.0.1 } in
    let kind_is : slice_index (take 1 bytes) 0 ≡ slice_index a.0.0 0 = ap (λ bs. slice_index bs 0) (sym head.first) in
    let is : bytes ≡ made.kind ∷ (key.len ++ (made.key ++ (value.len ++ (made.value ++ made.rest)))) =
    first_is bytes head.enough ∙ ((λ i. kind_is i ∷ sym head.then i) ∙ ap (λ bs. made.kind ∷ bs) (key.is ∙ ap (λ bs. key.len ++ (made.key ++ bs)) value.is)) in
    elim (which (length_fits made.kind (length made.value)) (Ok made) (Err fail) (Ok item) c.1.1) [
      | inl d ↦ subst (λ (x : Item). IsItem bytes x × (length x.rest < length bytes)) (ap (item_in made) d.1) (
        record {
          key_len = key.len;
          value_len = value.len;
          is = is;
          key_four = key.four;
          key_is = key.len_is;
          value_four = value.four;
          value_is = value.len_is;
          fits = d.0;
        },
        shorter made key.len value.len is,
      )
      | inr d ↦ cc d.1
    ]
  where
    shorter : (made : Item) (key_len value_len : List ℕ) → bytes ≡ made.kind ∷ (key_len ++ (made.key ++ (value_len ++ (made.value ++ made.rest)))) → length made.rest < length bytes
    shorter made key_len value_len is =
        let a = length-append key_len (made.key ++ (value_len ++ (made.value ++ made.rest))) in
        let b = length-append made.key (value_len ++ (made.value ++ made.rest)) in
        let c = length-append value_len (made.value ++ made.rest) in
        let d = length-append made.value made.rest in
        let e = ap length is in
        omega (arith, a, b, c, d, e)

-- what is refused of an item is so with the refusal that it is given
counted_fails : (fail why : FrameFail) (bytes : List ℕ) → counted_bytes fail bytes ≡ Err why → fail ≡ why
counted_fails fail why bytes h = elim (refused_at (split_bytes fail 4 bytes) (λ n. split_bytes fail (from_le_bytes w32 n.0) n.1) why h) [
  | inl a ↦ (cut_short fail why 4 bytes a).1
  | inr a ↦ (cut_short fail why (from_le_bytes w32 a.0.0) a.0.1 a.1.1).1
]

item_fails : (fail why : FrameFail) (bytes : List ℕ) → item_at fail bytes ≡ Err why → fail ≡ why
unfolding item_at
item_fails fail why bytes h = elim (refused_at (split_bytes fail 1 bytes) _ why h) [
  | inl a ↦ (cut_short fail why 1 bytes a).1
  | inr a ↦ elim (refused_at (counted_bytes fail a.0.1) _ why a.1.1) [
    | inl b ↦ counted_fails fail why a.0.1 b
    | inr b ↦ elim (refused_at (counted_bytes fail b.0.1) _ why b.1.1) [
      | inl c ↦ counted_fails fail why b.0.1 c
      | inr c ↦ elim (which (length_fits (slice_index a.0.0 0) (length c.0.0)) _ _ (Err why) c.1.1) [
        | inl d ↦ cc d.1
        | inr d ↦ same_fail fail why d.1
      ]
    ]
  ]
]

-- ---- no item

no_bytes : (bytes : List ℕ) → length bytes < 1 → HasNoItem bytes
no_bytes [] short = record { no_end = λ more e. cc e; no_item = λ item is. absurd (no_more item is.key_len is.value_len is.is) }
  where
    no_more : (item : Item) (key_len value_len : List ℕ) → [] ≡ item.kind ∷ (key_len ++ (item.key ++ (value_len ++ (item.value ++ item.rest)))) → ⊥
    no_more item key_len value_len e = cc e
no_bytes (b ∷ bs) short = absurd (omega (arith, short))

-- ---- steps

module _ (whole : ℕ) (from : ItemsRead) where
  abbrev fail : FrameFail
  fail = item_refusal whole from

  -- where a step is refused there is no item
  pub step_refused : (why : FrameFail) → item_step whole from ≡ Err why → (fail ≡ why) × HasNoItem from.rest
  unfolding item_step
  step_refused why h = elim (refused_at (split_bytes fail 1 from.rest) _ why h) [
    | inl a ↦ let c = cut_short fail why 1 from.rest a in (c.1, no_bytes from.rest c.0)
    | inr a ↦
        let head = cut_made fail 1 from.rest a.0 a.1.0 in
        elim (which (slice_index a.0.0 0 == 0) _ _ (Err why) a.1.1) [
          | inl b ↦ cc b.1
          | inr b ↦ elim (refused_at (item_at fail from.rest) _ why b.1) [
            | inl c ↦ (
              item_fails fail why from.rest c,
              record {
                no_end = λ more e. apart (slice_index a.0.0 0 == 0) (ap (λ bs. slice_index bs 0 == 0) (head.first ∙ ap (take 1) e)) b.0;
                no_item = λ item is. cc (sym (item_again fail from.rest item is) ∙ c);
              },
            )
            | inr c ↦ cc c.1.1
          ]
        ]
  ]

  -- a step that goes on has read an item
  pub record IsOn (to : ItemsRead) : Type 0 where
    pub item : Item
    pub is_item : IsItem from.rest item
    pub not_zero : item.kind ≢ 0
    pub to_is : record { keys = with_item from.keys item; rest = item.rest } ≡ to
    pub shorter : length to.rest < length from.rest

  -- a step that is the last has come to the byte 0
  pub record IsLast (to : ItemsRead) : Type 0 where
    pub more : List ℕ
    pub rest_is : from.rest ≡ 0 ∷ more
    pub keys_are : to.keys ≡ from.keys

  -- what a step gives
  abbrev pub Stepped : Bool → ItemsRead → Type 0
  Stepped true to = IsLast to
  Stepped false to = IsOn to

  abbrev step_in : Bool × ItemsRead → Result (Bool × ItemsRead) FrameFail → Bool × ItemsRead
  step_in other (Ok x) = x
  step_in other (Err e) = other

  pub step_given : (x : Bool × ItemsRead) → item_step whole from ≡ Ok x → Stepped x.0 x.1
  unfolding item_step
  step_given x h =
      let a = given_by (split_bytes fail 1 from.rest) _ x h in
      let head = cut_made fail 1 from.rest a.0 a.1.0 in
      let kind_is : slice_index a.0.0 0 ≡ slice_index (take 1 from.rest) 0 = ap (λ bs. slice_index bs 0) head.first in
      elim (which (slice_index a.0.0 0 == 0) _ _ (Ok x) a.1.1) [
        | inl b ↦
            let at_end : ItemsRead = record { keys = from.keys; rest = a.0.1 } in
            subst (λ (y : Bool × ItemsRead). Stepped y.0 y.1) (ap (step_in (true, at_end)) b.1) (record {
              more = drop 1 from.rest;
              rest_is = first_is from.rest head.enough ∙ ap (λ (k : ℕ). k ∷ drop 1 from.rest) (sym kind_is ∙ eqb-true (slice_index a.0.0 0) 0 b.0);
              keys_are = refl;
            })
        | inr b ↦
            let c = given_by (item_at fail from.rest) _ x b.1 in
            let read = item_read fail from.rest c.0 c.1.0 in
            let on : ItemsRead = record { keys = with_item from.keys c.0; rest = c.0.rest } in
            subst (λ (y : Bool × ItemsRead). Stepped y.0 y.1) (ap (step_in (false, on)) c.1.1) (record {
              item = c.0;
              is_item = read.0;
              not_zero = λ zero. eqb-false (slice_index a.0.0 0) 0 b.0 (kind_is ∙ (same_kind from.rest c.0 read.0 ∙ zero));
              to_is = refl;
              shorter = read.1;
            })
      ]
    where
      same_kind : (bytes : List ℕ) (item : Item) → IsItem bytes item → slice_index (take 1 bytes) 0 ≡ item.kind
      same_kind bytes item is = ap (λ (bs : List ℕ). slice_index (take 1 bs) 0) is.is

-- ---- items one after another

module _ (content : List ℕ) where
  abbrev whole : ℕ
  whole = length content

  -- where the items are refused
  pub record IsRefused (why : FrameFail) : Type 0 where
    pub now : ItemsRead
    pub has : HasItems content now
    pub is : item_refusal whole now ≡ why
    pub no_item : HasNoItem now.rest

  -- where they end
  pub record IsEnded (to : ItemsRead) : Type 0 where
    pub now : ItemsRead
    pub has : HasItems content now
    pub more : List ℕ
    pub rest_is : now.rest ≡ 0 ∷ more
    pub keys_are : to.keys ≡ now.keys

  -- what comes of items that lead from here
  abbrev LeadsOn : ItemsRead → Type 0
  LeadsOn from = (items : List Item) (now : ItemsRead) → ItemsLead items from now → HasItems content now

  leads_on : (from to : ItemsRead) → IsOn whole from to → LeadsOn from → LeadsOn to
  leads_on from to on leads = subst LeadsOn on.to_is (λ items now lead. leads (on.item ∷ items) now (on.is_item, on.not_zero, lead))

  pub steps_refused : (n : ℕ) (from : ItemsRead) → length from.rest ≤ n → LeadsOn from → (why : FrameFail)
      → repeat_steps (item_step whole) (item_refusal whole) n from ≡ Err why → IsRefused why
  unfolding repeat_steps
  steps_refused zero from low leads why h =
      record { now = from; has = leads [] from refl; is = same_fail (item_refusal whole from) why h; no_item = no_bytes from.rest (omega (arith, low)) }
  steps_refused (suc n) from low leads why h = elim (refused_at (item_step whole from) _ why h) [
    | inl a ↦ let s = step_refused whole from why a in record { now = from; has = leads [] from refl; is = s.0; no_item = s.1 }
    | inr a ↦ by a.0.0 a.0.1 (step_given whole from a.0 a.1.0) a.1.1 (λ to short led e. steps_refused n to short led why e)
  ]
    where
      by : (b : Bool) (to : ItemsRead) → Stepped whole from b to → cond b (Ok to) (repeat_steps (item_step whole) (item_refusal whole) n to) ≡ Err why
          → ((to : ItemsRead) → length to.rest ≤ n → LeadsOn to → repeat_steps (item_step whole) (item_refusal whole) n to ≡ Err why → IsRefused why) → IsRefused why
      by true to stepped e later = cc e
      by false to stepped e later = later to (omega (arith, low, stepped.shorter)) (leads_on from to stepped leads) e

  pub steps_ended : (n : ℕ) (from : ItemsRead) → LeadsOn from → (to : ItemsRead)
      → repeat_steps (item_step whole) (item_refusal whole) n from ≡ Ok to → IsEnded to
  unfolding repeat_steps
  steps_ended zero from leads to h = cc h
  steps_ended (suc n) from leads to h =
      let a = given_by (item_step whole from) _ to h in
      by a.0.0 a.0.1 (step_given whole from a.0 a.1.0) a.1.1 (λ next led e. steps_ended n next led to e)
    where
      read_in : ItemsRead → Result ItemsRead FrameFail → ItemsRead
      read_in other (Ok x) = x
      read_in other (Err e) = other

      by : (b : Bool) (next : ItemsRead) → Stepped whole from b next → cond b (Ok next) (repeat_steps (item_step whole) (item_refusal whole) n next) ≡ Ok to
          → ((next : ItemsRead) → LeadsOn next → repeat_steps (item_step whole) (item_refusal whole) n next ≡ Ok to → IsEnded to) → IsEnded to
      by true next stepped e later = record {
        now = from;
        has = leads [] from refl;
        more = stepped.more;
        rest_is = stepped.rest_is;
        keys_are = ap (λ (r : Result ItemsRead FrameFail). (read_in next r).keys) (sym e) ∙ stepped.keys_are;
      }
      by false next stepped e later = later next (leads_on from next stepped leads) e
