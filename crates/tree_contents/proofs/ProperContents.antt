-- What a version says stays in order when it is edited.
use Rattle.std.proofs.Common.{◌≡◌, ◌&&◌, ◌||◌, ℕ, Bool, true, List, [], ◌∷◌, Option, None, Some, IfSome, Result, Ok, Err, OnOk, map, refl, sym, ap, ◌∙◌}
use Rattle.std.specs.Prelude.{codes}
use Rattle.std.specs.Borrow.{Bor}
use Rattle.std.specs.List.{list_all, zip}
use Rattle.std.specs.Str.{bytes_eq, chars, is_utf8}
use Rattle.secret_core.specs.Secret.{SecretBuffer}
use Rattle.vault_model.specs.declared.metas.Protection.{Protection}
use Rattle.vault_model.specs.Bare.{BareAttachment, BareContent, BareField}
use Rattle.vault_model.specs.Proper.{is_proper_content, is_text_content, is_text_field, is_text_item, is_text_typing, rises}
use Rattle.vault_model.proofs.Tests.{and_both, and_true}
use Rattle.tree_core.specs.declared.values.Expiry.{Expiry}
use Rattle.tree_core.specs.declared.values.Expiry.TheVariants.{At, Never}
use Rattle.tree_core.specs.Attachments.{but_attachment, with_attachment, without_attachment}
use Rattle.tree_core.specs.FurtherChanges.{FurtherChange, further_changed, with_expiry, with_own_value, with_own_values, without_fields}
use Rattle.tree_core.specs.NewNodes.{GivenValues, edited_content, edited_fields, field, lent_value, with_given, with_otp, with_value, with_values, without_field}
use Rattle.tree_core.specs.Tags.{changed_tags}
use Rattle.tree_contents.specs.Texts.{AreTexts, is_text_value}
use Rattle.tree_contents.proofs.Kept.{all_put, all_without, rises_put, rises_without}

-- ---- texts

pub lent_text : (o : Option (Bor (List ℕ))) → IfSome o (λ text. is_utf8 text.now ≡ true) → is_text_value (lent_value o) ≡ true
lent_text None h = refl
lent_text (Some text) h = h

pub notes_key : is_utf8 (codes "Notes") ≡ true
unfolding is_utf8 chars lib.Utf8.encode
notes_key = refl

pub password_key : is_utf8 (codes "Password") ≡ true
unfolding is_utf8 chars lib.Utf8.encode
password_key = refl

pub title_key : is_utf8 (codes "Title") ≡ true
unfolding is_utf8 chars lib.Utf8.encode
title_key = refl

pub url_key : is_utf8 (codes "URL") ≡ true
unfolding is_utf8 chars lib.Utf8.encode
url_key = refl

pub user_key : is_utf8 (codes "UserName") ≡ true
unfolding is_utf8 chars lib.Utf8.encode
user_key = refl

otp_key : is_utf8 (codes "otp") ≡ true
unfolding is_utf8 chars lib.Utf8.encode
otp_key = refl

-- ---- fields

abbrev key_of : BareField → List ℕ
key_of f = f.key

abbrev are_text_fields : List BareField → Bool
are_text_fields = list_all is_text_field

pub text_field : (key value : List ℕ) (hidden : Bool) → is_utf8 key ≡ true → is_utf8 value ≡ true → is_text_field (field key value hidden) ≡ true
text_field key value hidden k v = and_both (is_utf8 key) (is_utf8 value) k v

-- fields that rise and are texts
abbrev Good : List BareField → Type 0
Good fs = (rises key_of fs ≡ true) × (are_text_fields fs ≡ true)

-- a field of a key has another value
valued : (f : BareField) (value : List ℕ) → is_utf8 value ≡ true → is_text_field f ≡ true → (is_utf8 f.key && is_utf8 value) ≡ true
valued f value v h = and_both (is_utf8 f.key) (is_utf8 value) (and_true (is_utf8 f.key) (is_utf8 f.value) h).0 v

good_put : (key : List ℕ) (hidden : Bool) (value : List ℕ) (fs : List BareField) → is_utf8 key ≡ true → is_utf8 value ≡ true → Good fs → Good (with_value key hidden value fs)
good_put key hidden value fs k v h =
    let new = field key value hidden in
    let joined = λ (f : BareField). record f { value = value } in (
      rises_put key_of key new joined refl (λ f. refl) fs h.0,
      all_put key_of key new joined refl (λ f. refl) is_text_field (text_field key value hidden k v) (λ f text. valued f value v text) fs h.1,
    )

good_given : (key : List ℕ) (hidden : Bool) (value : Option (List ℕ)) (fs : List BareField) → is_utf8 key ≡ true → is_text_value value ≡ true → Good fs → Good (with_given key hidden value fs)
good_given key hidden None fs k v h = h
good_given key hidden (Some value) fs k v h = good_put key hidden value fs k v h

good_values : (p : Protection) (v : GivenValues) (fs : List BareField) → AreTexts v → Good fs → Good (with_values p v fs)
good_values p v fs t h =
    good_given (codes "UserName") p.user v.user _ user_key t.user
    (good_given (codes "URL") p.url v.url _ url_key t.url
    (good_given (codes "Title") p.title v.title _ title_key t.title
    (good_given (codes "Password") p.password v.password _ password_key t.password
    (good_given (codes "Notes") p.notes v.notes fs notes_key t.notes h))))

good_without : (key : List ℕ) (fs : List BareField) → Good fs → Good (without_field key fs)
good_without key fs h =
    let taken = λ (f : BareField). bytes_eq key f.key in (
      rises_without key_of taken (without_field key) refl (λ f fs. refl) fs h.0,
      all_without key_of taken (without_field key) refl (λ f fs. refl) is_text_field fs h.1,
    )

good_otp : (otp : Option (List ℕ)) (fs : List BareField) → is_text_value otp ≡ true → Good fs → Good (with_otp otp fs)
good_otp None fs t h = h
good_otp (Some []) fs t h = good_without (codes "otp") fs h
good_otp (Some (b ∷ bs)) fs t h = good_put (codes "otp") true (b ∷ bs) (without_field (codes "otp") fs) otp_key t (good_without (codes "otp") fs h)

good_edited : (p : Protection) (v : GivenValues) (fs : List BareField) → AreTexts v → is_text_value v.otp ≡ true → Good fs → Good (edited_fields p v fs)
good_edited p v fs t otp h = good_otp v.otp (with_values p v fs) otp (good_values p v fs t h)

-- ---- fields of one's own

good_own : (protect : Bool) (own : List ℕ × List ℕ) (fs : List BareField) → is_utf8 own.0 ≡ true → is_utf8 own.1 ≡ true → Good fs → Good (with_own_value protect own fs)
good_own protect own fs k v h =
    let new = field own.0 own.1 protect in
    let joined = λ (f : BareField). record f { value = own.1; hidden = f.hidden || protect } in (
      rises_put key_of own.0 new joined refl (λ f. refl) fs h.0,
      all_put key_of own.0 new joined refl (λ f. refl) is_text_field (text_field own.0 own.1 protect k v) (λ f text. valued f own.1 v text) fs h.1,
    )

good_owns : (protect : Bool) (names : List (List ℕ)) (values : List SecretBuffer) (fs : List BareField) → list_all is_utf8 names ≡ true → list_all (λ value. is_utf8 value.bytes) values ≡ true → Good fs
    → Good (with_own_values protect (zip names (map (λ value. value.bytes) values)) fs)
good_owns protect [] values fs k v h = h
good_owns protect (name ∷ names) [] fs k v h = h
good_owns protect (name ∷ names) (value ∷ values) fs k v h =
    let named = and_true (is_utf8 name) (list_all is_utf8 names) k in
    let given = and_true (is_utf8 value.bytes) (list_all (λ (secret : SecretBuffer). is_utf8 secret.bytes) values) v in
    good_owns protect names values (with_own_value protect (name, value.bytes) fs) named.1 given.1 (good_own protect (name, value.bytes) fs named.0 given.0 h)

good_unset : (names : List (List ℕ)) (fs : List BareField) → Good fs → Good (without_fields names fs)
good_unset [] fs h = h
good_unset (name ∷ names) fs h = good_unset names (without_field name fs) (good_without name fs h)

-- ---- attachments

abbrev name_of : BareAttachment → List ℕ
name_of a = a.name

abbrev has_text_name : BareAttachment → Bool
has_text_name a = is_utf8 a.name

abbrev Named : List BareAttachment → Type 0
Named list = (rises name_of list ≡ true) × (list_all has_text_name list ≡ true)

-- ---- what a version says

-- with other fields, attachments and tags
parts_proper : (c : BareContent) (fs : List BareField) (list : List BareAttachment) (tags : List ℕ) → (Good c.fields → Good fs) → (Named c.attachments → Named list) → (is_utf8 c.tags ≡ true → is_utf8 tags ≡ true)
    → is_proper_content c ≡ true → is_proper_content (record c { fields = fs; attachments = list; tags = tags }) ≡ true
unfolding is_proper_content
parts_proper c fs list tags keeps_fields keeps_attachments keeps_tags h =
    let R = rises (λ (f : BareField). f.key) in
    let S = rises (λ (a : BareAttachment). a.name) in
    let I = rises (λ i. i.key) c.items in
    let three = and_true (R c.fields && S c.attachments && I) (is_text_content c) h in
    let two = and_true (R c.fields && S c.attachments) I three.0 in
    let one = and_true (R c.fields) (S c.attachments) two.0 in
    let F = are_text_fields in
    let N = list_all has_text_name in
    let t7 = and_true (F c.fields && N c.attachments && is_utf8 c.tags && is_utf8 c.fore && is_utf8 c.back && is_utf8 c.url_override && is_text_typing c.auto_type) (list_all is_text_item c.items) three.1 in
    let t6 = and_true (F c.fields && N c.attachments && is_utf8 c.tags && is_utf8 c.fore && is_utf8 c.back && is_utf8 c.url_override) (is_text_typing c.auto_type) t7.0 in
    let t5 = and_true (F c.fields && N c.attachments && is_utf8 c.tags && is_utf8 c.fore && is_utf8 c.back) (is_utf8 c.url_override) t6.0 in
    let t4 = and_true (F c.fields && N c.attachments && is_utf8 c.tags && is_utf8 c.fore) (is_utf8 c.back) t5.0 in
    let t3 = and_true (F c.fields && N c.attachments && is_utf8 c.tags) (is_utf8 c.fore) t4.0 in
    let t2 = and_true (F c.fields && N c.attachments) (is_utf8 c.tags) t3.0 in
    let t1 = and_true (F c.fields) (N c.attachments) t2.0 in
    let new_fields = keeps_fields (one.0, t1.0) in
    let new_attachments = keeps_attachments (one.1, t1.1) in
    let new_tags = keeps_tags t2.1 in
    and_both (R fs && S list && I) (is_text_content (record c { fields = fs; attachments = list; tags = tags }))
    (ap (λ b. b && S list && I) new_fields.0 ∙ ap (λ b. b && I) new_attachments.0 ∙ two.1)
    (ap (λ b. b && N list && is_utf8 tags && is_utf8 c.fore && is_utf8 c.back && is_utf8 c.url_override && is_text_typing c.auto_type && list_all is_text_item c.items) (new_fields.1 ∙ sym t1.0)
    ∙ ap (λ b. F c.fields && b && is_utf8 tags && is_utf8 c.fore && is_utf8 c.back && is_utf8 c.url_override && is_text_typing c.auto_type && list_all is_text_item c.items) (new_attachments.1 ∙ sym t1.1)
    ∙ ap (λ b. F c.fields && N c.attachments && b && is_utf8 c.fore && is_utf8 c.back && is_utf8 c.url_override && is_text_typing c.auto_type && list_all is_text_item c.items) (new_tags ∙ sym t2.1)
    ∙ three.1)

expiry_proper : (expiry : Option Expiry) (c : BareContent) → is_proper_content c ≡ true → is_proper_content (with_expiry expiry c) ≡ true
unfolding is_proper_content
expiry_proper None c h = h
expiry_proper (Some Never) c h = h
expiry_proper (Some (At time)) c h = h

pub edited_proper : (p : Protection) (v : GivenValues) (change : FurtherChange) (names : List (List ℕ)) (values : List SecretBuffer) (c : BareContent)
    → change.set ≡ zip names (map (λ value. value.bytes) values) → AreTexts v → is_text_value v.otp ≡ true → list_all is_utf8 names ≡ true → list_all (λ value. is_utf8 value.bytes) values ≡ true
    → is_utf8 (changed_tags change.tags change.untags c.tags) ≡ true → is_proper_content c ≡ true → is_proper_content (further_changed change (edited_content p v c)) ≡ true
edited_proper p v change names values c set t otp named given tags h =
    let own = λ (fs : List BareField) (good : Good fs).
    good_unset change.unset (with_own_values change.protect (zip names (map (λ value. value.bytes) values)) fs) (good_owns change.protect names values fs named given good) in
    expiry_proper change.expiry _
    (ap (λ sets. is_proper_content (record c {
      fields = without_fields change.unset (with_own_values change.protect sets (edited_fields p v c.fields));
      tags = changed_tags change.tags change.untags c.tags;
    })) set
    ∙ parts_proper c (without_fields change.unset (with_own_values change.protect (zip names (map (λ value. value.bytes) values)) (edited_fields p v c.fields))) c.attachments
    (changed_tags change.tags change.untags c.tags) (λ good. own (edited_fields p v c.fields) (good_edited p v c.fields t otp good)) (λ named. named) (λ old. tags) h)

pub attached_proper : (name bytes : List ℕ) (c : BareContent) → is_utf8 name ≡ true → is_proper_content c ≡ true → is_proper_content (with_attachment name bytes c) ≡ true
attached_proper name bytes c n h =
    let new : BareAttachment = record { name = name; bytes = bytes; hidden = true } in
    let joined = λ (a : BareAttachment). record a { bytes = bytes } in
    parts_proper c c.fields (with_attachment name bytes c).attachments c.tags (λ good. good)
    (λ named. (
      rises_put name_of name new joined refl (λ a. refl) c.attachments named.0,
      all_put name_of name new joined refl (λ a. refl) has_text_name n (λ a text. text) c.attachments named.1,
    )) (λ tags. tags) h

pub detached_proper : (name : List ℕ) (c : BareContent) → is_proper_content c ≡ true → is_proper_content (without_attachment name c) ≡ true
detached_proper name c h =
    let taken = λ (a : BareAttachment). bytes_eq name a.name in
    parts_proper c c.fields (but_attachment name c.attachments) c.tags (λ good. good)
    (λ named. (
      rises_without name_of taken (but_attachment name) refl (λ a list. refl) c.attachments named.0,
      all_without name_of taken (but_attachment name) refl (λ a list. refl) has_text_name c.attachments named.1,
    )) (λ tags. tags) h

-- what holds where a call succeeds, by what else does
pub ok_then : {E P Q : Type 0} (o : Result (Unit {0}) E) → OnOk o P → (P → Q) → OnOk o Q
ok_then (Ok u) h f = f h
ok_then (Err e) h f = tt
