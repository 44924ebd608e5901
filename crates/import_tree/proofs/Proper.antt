-- What an imported entry says is in order where its texts are.
use Rattle.std.proofs.Common.{◌≡◌, ◌&&◌, ℕ, Bool, true, false, List, [], ◌∷◌, ◌++◌, Option, None, Some, refl, ap, ◌∙◌}
use Rattle.std.specs.Prelude.{codes}
use Rattle.std.specs.List.{list_all}
use Rattle.std.specs.Option.{ForSome}
use Rattle.std.specs.Str.{chars, is_utf8}
use Rattle.vault_model.specs.Bare.{BareField}
use Rattle.vault_model.specs.Proper.{is_proper_content, is_text_content, is_text_field, rises}
use Rattle.vault_model.specs.Tree.{is_proper_entry}
use Rattle.vault_model.proofs.Tests.{and_both}
use Rattle.tree_core.proofs.Counted.{all_append}
use Rattle.import_tree.specs.Entries.{AreTexts, ImportedEntry, content_at, entry_at, field, fields_of, history_field, otp_field}

-- one field after another
module _ (hidden : Bool) (value : List ℕ) (text : is_utf8 value ≡ true) (fields : List BareField) (rest : list_all is_text_field fields ≡ true) where
  with_key : (key : List ℕ) → is_utf8 key ≡ true → list_all is_text_field (field key value hidden ∷ fields) ≡ true
  with_key key named = and_both (is_text_field (field key value hidden)) (list_all is_text_field fields) (and_both (is_utf8 key) (is_utf8 value) named text) rest

notes_key : is_utf8 (codes "Notes") ≡ true
unfolding is_utf8 chars lib.Utf8.encode
notes_key = refl

password_key : is_utf8 (codes "Password") ≡ true
unfolding is_utf8 chars lib.Utf8.encode
password_key = refl

history_key : is_utf8 (codes "PasswordHistory") ≡ true
unfolding is_utf8 chars lib.Utf8.encode
history_key = refl

title_key : is_utf8 (codes "Title") ≡ true
unfolding is_utf8 chars lib.Utf8.encode
title_key = refl

url_key : is_utf8 (codes "URL") ≡ true
unfolding is_utf8 chars lib.Utf8.encode
url_key = refl

user_key : is_utf8 (codes "UserName") ≡ true
unfolding is_utf8 chars lib.Utf8.encode
user_key = refl

otp_key : is_utf8 (codes "otp") ≡ true
unfolding is_utf8 chars lib.Utf8.encode
otp_key = refl

otp_text : (otp : Option (List ℕ)) → ForSome otp (λ text. is_utf8 text ≡ true) → list_all is_text_field (otp_field otp) ≡ true
otp_text None text = refl
otp_text (Some value) text = with_key true value (text value refl) [] refl (codes "otp") otp_key

history_text : (history : Option (List ℕ)) → ForSome history (λ text. is_utf8 text ≡ true) → list_all is_text_field (history_field history) ≡ true
history_text None text = refl
history_text (Some value) text = with_key true value (text value refl) [] refl (codes "PasswordHistory") history_key

-- the texts of an entry are in UTF-8
abbrev pub HasTexts : ImportedEntry → Type 0
HasTexts entry = AreTexts entry.title entry.user entry.password entry.url entry.notes entry.history entry.otp

fields_text : (entry : ImportedEntry) → HasTexts entry → list_all is_text_field (fields_of entry) ≡ true
fields_text entry t =
    let one = otp_field entry.otp in
    let two = field (codes "UserName") entry.user false ∷ one in
    let three = field (codes "URL") entry.url false ∷ two in
    let four = field (codes "Title") entry.title false ∷ three in
    let five = history_field entry.history ++ four in
    let user = with_key false entry.user t.user one (otp_text entry.otp t.otp) (codes "UserName") user_key in
    let url = with_key false entry.url t.url two user (codes "URL") url_key in
    let title = with_key false entry.title t.title three url (codes "Title") title_key in
    let history = all_append is_text_field (history_field entry.history) four (history_text entry.history t.history) title in
    let password = with_key true entry.password t.password five history (codes "Password") password_key in
    with_key false entry.notes t.notes (field (codes "Password") entry.password true ∷ five) password (codes "Notes") notes_key

fields_rise : (entry : ImportedEntry) (history otp : Option (List ℕ)) → rises (λ (f : BareField). f.key) (fields_of (record entry { history = history; otp = otp })) ≡ true
fields_rise entry None None = refl
fields_rise entry None (Some otp) = refl
fields_rise entry (Some text) None = refl
fields_rise entry (Some text) (Some otp) = refl

content_proper : (now created : ℕ) (fields : List BareField) → rises (λ (f : BareField). f.key) fields ≡ true → list_all is_text_field fields ≡ true → is_proper_content (content_at now created fields) ≡ true
unfolding is_proper_content is_utf8 chars lib.Utf8.encode
content_proper now created fields rise texts =
    ap (λ b. b && true && true && is_text_content (content_at now created fields)) rise
    ∙ ap (λ b. b && true && true && true && true && true && true && true) texts

pub entry_proper : (now : ℕ) (entry : ImportedEntry) → HasTexts entry → is_proper_entry (entry_at now entry) ≡ true
entry_proper now entry texts =
    and_both (is_proper_content (content_at now entry.created (fields_of entry))) true
    (content_proper now entry.created (fields_of entry) (fields_rise entry entry.history entry.otp) (fields_text entry texts)) refl
