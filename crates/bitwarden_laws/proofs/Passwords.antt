-- The field of a password stands among the fields of its version.
use Rattle.std.proofs.Common.{◌≡◌, ◌⊎◌, ◌||◌, ◌==◌, inl, inr, ℕ, zero, suc, ◌+◌, ◌<◌, ◌≤◌, Bool, true, false, true≢false, cond, List, [], ◌∷◌, ◌++◌, Result, Ok, Err, max, map, length, refl, sym, ap, subst, ◌∙◌, arith}
use Rattle.std.proofs.lemmas.Slice.Eq.{bytes_eq-Decides}
use Rattle.std.specs.Fmt.{decimal}
use Rattle.std.specs.List.{list_any}
use Rattle.std.specs.Prelude.{codes, nat_le, Some}
use Rattle.std.specs.Str.{bytes_eq}
use Rattle.std.specs.declared.cmp.Ordering.{Ordering}
use Rattle.std.specs.declared.cmp.Ordering.TheVariants.{Equal, Greater, Less}
use Rattle.bitwarden_items.specs.BitwardenFields.Keys.{first_free, free_key, has_key, numbered_key, put_all, with_field, with_fields}
use Rattle.bitwarden_items.specs.BitwardenFields.Said.{addresses_of, code_field, custom_field, field, fields_of, first_text, login_of, more_addresses, objects_fields, said_fields}
use Rattle.bitwarden_forms.specs.Json.{text, values}
use Rattle.bitwarden_forms.specs.declared.fails.BitwardenFail.{BitwardenFail}
use Rattle.bitwarden_forms.specs.declared.fails.BitwardenFail.TheVariants as fail
use Rattle.bitwarden_items.specs.Passwords.{EarlierPassword, date_or, earlier_password, earlier_passwords}
use Rattle.bitwarden_items.specs.Versions.{earlier_version, entry_modified, in_time, item_row, modified_at}
use Rattle.bitwarden_laws.proofs.Earlier.{all_have, from_map, in_map}
use Rattle.bitwarden_laws.specs.Kept.{HasPassword, PasswordsAreKept, VersionsAreEarlier}
use Rattle.doc_forms.specs.Tables.{put, put_beside}
use Rattle.outside_core.specs.Results.{◌>>=◌}
use Rattle.serde_json.specs.Data.{Data}
use Rattle.time_core.specs.Times.{last_stamp}
use Rattle.vault_model.proofs.Orders.{bytes_order}
use Rattle.vault_model.proofs.Tests.{any_true, apart, decide, greatest_above, in_either, in_front, or_left, or_right}
use Rattle.vault_model.specs.Bare.{BareField}
use Rattle.vault_model.specs.Db.{NodeId, greatest}
use Rattle.vault_model.specs.Join.{IsIn}
use Rattle.vault_model.specs.Orders.{bytes_cmp}
use Rattle.vault_model.specs.Shape.{BareVersion, EntryRecord}

-- ---- keys

differ : (a b : List ℕ) → bytes_eq a b ≡ false → a ≡ b → ⊥
differ a b other same = true≢false (sym ((bytes_eq-Decides a b).1 same) ∙ other)

abbrev has_space : List ℕ → Bool
has_space key = list_any (λ byte. byte == 32) key

space_after : (key rest : List ℕ) → has_space (key ++ 32 ∷ rest) ≡ true
space_after [] rest = refl
space_after (byte ∷ key) rest = or_right (byte == 32) (has_space (key ++ 32 ∷ rest)) (space_after key rest)

append_assoc : (a b c : List ℕ) → (a ++ b) ++ c ≡ a ++ (b ++ c)
append_assoc [] b c = refl
append_assoc (x ∷ a) b c = ap (λ l. x ∷ l) (append_assoc a b c)

numbered_space : (key : List ℕ) (number : ℕ) → has_space (numbered_key key number) ≡ true
numbered_space key number = ap has_space (append_assoc key (codes " ") (decimal number)) ∙ space_after key (decimal number)

either_space : (b : Bool) (x y : List ℕ) → has_space x ≡ true → has_space y ≡ true → has_space (cond b x y) ≡ true
either_space true x y p q = p
either_space false x y p q = q

free_space : (n number : ℕ) (fields : List BareField) (key : List ℕ) → has_space (first_free n number fields key) ≡ true
free_space zero number fields key = numbered_space key number
free_space (suc n) number fields key =
    either_space (has_key fields (numbered_key key number)) (first_free n (suc number) fields key) (numbered_key key number) (free_space n (suc number) fields key) (numbered_space key number)

-- ---- one field that stands under its key alone

module _ (x : BareField) (plain : has_space x.key ≡ false) where
  -- a field of its key is the field
  abbrev Alone : List BareField → Type 0
  Alone fields = (f : BareField) → IsIn f fields → f.key ≡ x.key → f ≡ x

  other_key : (b : Bool) (fields : List BareField) (key : List ℕ) → IsIn x fields → has_key fields key ≡ b
      → cond b (first_free (length fields) 2 fields key) key ≡ x.key → ⊥
  other_key true fields key is e same = true≢false (sym (free_space (length fields) 2 fields key) ∙ ap has_space same ∙ plain)
  other_key false fields key is e same =
      apart (has_key fields key) (any_true (λ (f : BareField). bytes_eq f.key key) fields x is ((bytes_eq-Decides x.key key).1 (sym same))) e

  alone_with : (f : BareField) (fields : List BareField) → IsIn x fields → Alone fields → Alone (with_field f fields)
  alone_with f fields is alone g among same =
      elim (in_either fields (record f { key = free_key fields f.key } ∷ []) g among) [
        | inl before ↦ alone g before same
        | inr (inl new) ↦ absurd (other_key (has_key fields f.key) fields f.key is refl (ap (λ (h : BareField). h.key) new ∙ same))
        | inr (inr none) ↦ absurd none
      ]

  -- fields with more of them
  pub with_more : (more fields : List BareField) → IsIn x fields → Alone fields → IsIn x (with_fields more fields) × Alone (with_fields more fields)
  with_more [] fields is alone = (is, alone)
  with_more (f ∷ more) fields is alone =
      with_more more (with_field f fields) (in_front fields (record f { key = free_key fields f.key } ∷ []) x is) (alone_with f fields is alone)

  old_beside : (o : Ordering) (f y : BareField) (ys after : List BareField) → bytes_cmp f.key y.key ≡ o → (f.key ≡ x.key → f ≡ x) → IsIn x (y ∷ ys) → (IsIn x ys → IsIn x after)
      → IsIn x (put_beside o f y ys after)
  old_beside Less f y ys after e own is later = inr is
  old_beside Equal f y ys after e own (inl is) later = inl (own (bytes_order.same f.key y.key e ∙ ap (λ (h : BareField). h.key) is))
  old_beside Equal f y ys after e own (inr is) later = inr is
  old_beside Greater f y ys after e own (inl is) later = inl is
  old_beside Greater f y ys after e own (inr is) later = inr (later is)

  put_keeps : (f : BareField) (ys : List BareField) → (f.key ≡ x.key → f ≡ x) → IsIn x ys → IsIn x (put (λ (h : BareField). h.key) f ys)
  put_keeps f [] own is = absurd is
  put_keeps f (y ∷ ys) own is = old_beside (bytes_cmp f.key y.key) f y ys (put (λ (h : BareField). h.key) f ys) refl own is (put_keeps f ys own)

new_beside : (o : Ordering) (f y : BareField) (ys after : List BareField) → IsIn f after → IsIn f (put_beside o f y ys after)
new_beside Less f y ys after is = inl refl
new_beside Equal f y ys after is = inl refl
new_beside Greater f y ys after is = inr is

put_has : (f : BareField) (ys : List BareField) → IsIn f (put (λ (h : BareField). h.key) f ys)
put_has f [] = inl refl
put_has f (y ∷ ys) = new_beside (bytes_cmp f.key y.key) f y ys (put (λ (h : BareField). h.key) f ys) (put_has f ys)

all_put : (x : BareField) (plain : has_space x.key ≡ false) (fields sorted : List BareField) → ((f : BareField) → IsIn f fields → f.key ≡ x.key → f ≡ x) → IsIn x sorted ⊎ IsIn x fields
    → IsIn x (put_all fields sorted)
all_put x plain [] sorted alone (inl is) = is
all_put x plain [] sorted alone (inr is) = absurd is
all_put x plain (f ∷ fields) sorted alone (inl is) =
    all_put x plain fields (put (λ (h : BareField). h.key) f sorted) (λ g among. alone g (inr among)) (inl (put_keeps x plain f sorted (alone f (inl refl)) is))
all_put x plain (f ∷ fields) sorted alone (inr (inl is)) =
    all_put x plain fields (put (λ (h : BareField). h.key) f sorted) (λ g among. alone g (inr among))
    (inl (subst (λ (y : BareField). IsIn y (put (λ (h : BareField). h.key) f sorted)) is (put_has f sorted)))
all_put x plain (f ∷ fields) sorted alone (inr (inr is)) =
    all_put x plain fields (put (λ (h : BareField). h.key) f sorted) (λ g among. alone g (inr among)) (inr is)

-- ---- the password of an item's fields

module _ (password : List ℕ) (item : Data) where
  abbrev own : BareField
  own = field (codes "Password") password true

  abbrev title : BareField
  title = field (codes "Title") (text (codes "name") (Some item)) false

  abbrev notes : BareField
  notes = field (codes "Notes") (text (codes "notes") (Some item)) false

  abbrev user : BareField
  user = field (codes "UserName") (text (codes "username") (login_of item)) false

  abbrev four : List BareField
  four = title ∷ notes ∷ user ∷ own ∷ []

  abbrev others : List BareField
  others = field (codes "URL") (first_text (addresses_of (login_of item))) false
      ∷ ((more_addresses (addresses_of (login_of item)) ++ code_field (text (codes "totp") (login_of item)))
      ++ (map custom_field (values (codes "fields") (Some item)) ++ objects_fields item))

  begins : with_fields (said_fields password item) [] ≡ with_fields others four
  begins = refl

  alone : (f : BareField) → IsIn f four → f.key ≡ codes "Password" → f ≡ own
  alone f (inl is) same = absurd (differ (codes "Title") (codes "Password") refl (ap (λ (h : BareField). h.key) is ∙ same))
  alone f (inr (inl is)) same = absurd (differ (codes "Notes") (codes "Password") refl (ap (λ (h : BareField). h.key) is ∙ same))
  alone f (inr (inr (inl is))) same = absurd (differ (codes "UserName") (codes "Password") refl (ap (λ (h : BareField). h.key) is ∙ same))
  alone f (inr (inr (inr (inl is)))) same = sym is
  alone f (inr (inr (inr (inr is)))) same = absurd is

  pub has_password : IsIn own (fields_of password item)
  has_password =
      let all = with_more own refl others four (inr (inr (inr (inl refl)))) alone in
      all_put own refl (with_fields (said_fields password item) []) []
      (subst (λ (fs : List BareField). (f : BareField) → IsIn f fs → f.key ≡ codes "Password" → f ≡ own) (sym begins) all.1)
      (inr (subst (λ (fs : List BareField). IsIn own fs) (sym begins) all.0))

-- ---- the laws

in_limit : (b : Bool) (time m : ℕ) → (let r : Result ℕ BitwardenFail = cond b (Ok time) (Err (fail.StampLimit time)) in r) ≡ Ok m → time ≡ m
in_limit true time m e = cc e
in_limit false time m e = cc e

made_of : (now : ℕ) (id : NodeId) (item : Data) (row : NodeId × EntryRecord) (r : Result ℕ BitwardenFail)
    → (r >>= λ m. let made : Result (NodeId × EntryRecord) BitwardenFail = Ok (id, entry_modified now item m) in made) ≡ Ok row
    → (m : ℕ) × (r ≡ Ok m) × ((id, entry_modified now item m) ≡ row)
made_of now id item row (Ok m) e = (m, refl, cc e)
made_of now id item row (Err f) e = cc e

pub kept : PasswordsAreKept
kept now id item row value is among =
    let made = made_of now id item row (in_time (modified_at now item)) is in
    let p = earlier_password now value in
    let listed = all_have p (map (earlier_password now) (values (codes "passwordHistory") (Some item))) [] (in_map (earlier_password now) value (values (codes "passwordHistory") (Some item)) among) in (
      earlier_version now item p,
      subst (λ (r : NodeId × EntryRecord). IsIn (earlier_version now item p) r.1.history) made.2 (in_map (earlier_version now item) p (earlier_passwords now item) listed),
      has_password p.password item,
    )

pub earlier : VersionsAreEarlier
earlier now id item row version is among =
    let made = made_of now id item row (in_time (modified_at now item)) is in
    let limit = in_limit (nat_le (modified_at now item) last_stamp) (modified_at now item) made.0 made.1 in
    let found = from_map (earlier_version now item) version (earlier_passwords now item) (subst (λ (r : NodeId × EntryRecord). IsIn version r.1.history) (sym made.2) among) in
    let least : found.0.date + 1 ≤ modified_at now item =
    greatest_above (date_or now (codes "revisionDate") item ∷ map (λ (p : EarlierPassword). p.date + 1) (earlier_passwords now item)) (found.0.date + 1)
    (inr (in_map (λ (p : EarlierPassword). p.date + 1) found.0 (earlier_passwords now item) found.1)) in
    let date : found.0.date ≡ version.mark.modified = ap (λ (v : BareVersion). v.mark.modified) found.2 in
    let current : made.0 ≡ row.1.current.mark.modified = ap (λ (r : NodeId × EntryRecord). r.1.current.mark.modified) made.2 in
    omega (arith, least, limit, date, current)
