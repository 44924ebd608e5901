-- What the entries and the groups of the copies say is in order.
use Rattle.std.proofs.Common.{◌≡◌, ◌<◌, ◌+◌, ◌^◌, ℕ, Bool, true, false, ◌&&◌, if◌then◌else◌, List, [], ◌∷◌, ◌++◌, None, Some, refl, ap, ◌∙◌, arith}
use Rattle.std.specs.Prelude.{codes}
use Rattle.std.proofs.lemmas.Fmt.{IsAscii-decimal}
use Rattle.std.proofs.lemmas.Str.{IsUtf8-append, IsUtf8-from_ascii, IsUtf8-from_is_utf8, is_utf8-from_IsUtf8}
use Rattle.std.specs.Fmt.{decimal}
use Rattle.std.specs.List.{list_all}
use Rattle.std.specs.Str.{chars, is_utf8}
use Rattle.vault_model.specs.Bare.{BareField}
use Rattle.vault_model.specs.Empty.{new_group}
use Rattle.vault_model.specs.Proper.{rises, is_proper_content, is_proper_group_content, is_text_content, is_text_field, is_text_meta}
use Rattle.vault_model.specs.Shape.{BareVersion}
use Rattle.vault_model.specs.Tree.{is_proper_entry}
use Rattle.vault_model.proofs.Tests.{and_both}
use Rattle.merge_twins.specs.Twins.{entry_with, first_rules, noted_version, plain_field, row_of, second_rules, shared_version, title_of, twin_meta, version_at}

-- a text before a number
numbered : (text : List ℕ) (n : ℕ) → is_utf8 text ≡ true → n < 2 ^ 64 → is_utf8 (text ++ decimal n) ≡ true
numbered text n is small =
    is_utf8-from_IsUtf8 (text ++ decimal n)
    (IsUtf8-append text (decimal n) (IsUtf8-from_is_utf8 text is) (IsUtf8-from_ascii (decimal n) (IsAscii-decimal n small)))

letter_e : is_utf8 (codes "E") ≡ true
unfolding is_utf8 chars lib.Utf8.encode
letter_e = refl

letter_g : is_utf8 (codes "G") ≡ true
unfolding is_utf8 chars lib.Utf8.encode
letter_g = refl

title_key : is_utf8 (codes "Title") ≡ true
unfolding is_utf8 chars lib.Utf8.encode
title_key = refl

notes_key : is_utf8 (codes "Notes") ≡ true
unfolding is_utf8 chars lib.Utf8.encode
notes_key = refl

letter_a : is_utf8 (codes "a") ≡ true
unfolding is_utf8 chars lib.Utf8.encode
letter_a = refl

letter_b : is_utf8 (codes "b") ≡ true
unfolding is_utf8 chars lib.Utf8.encode
letter_b = refl

-- ---- versions

version_proper : (time : ℕ) (fields : List BareField) → rises (λ (f : BareField). f.key) fields ≡ true → list_all is_text_field fields ≡ true
    → is_proper_content (version_at time fields).mark.content ≡ true
unfolding is_proper_content is_utf8 chars lib.Utf8.encode
version_proper time fields rise texts =
    ap (λ b. b && true && true && is_text_content (version_at time fields).mark.content) rise
    ∙ ap (λ b. b && true && true && true && true && true && true && true) texts

title_text : (i : ℕ) → i < 50000 → is_text_field (title_of i) ≡ true
title_text i few =
    and_both (is_utf8 (codes "Title")) (is_utf8 (codes "E" ++ decimal i)) title_key (numbered (codes "E") i letter_e (omega arith))

title_texts : (i : ℕ) → i < 50000 → list_all is_text_field (title_of i ∷ []) ≡ true
title_texts i few = and_both (is_text_field (title_of i)) true (title_text i few) refl

shared_proper : (i : ℕ) → i < 50000 → is_proper_content (shared_version i).mark.content ≡ true
shared_proper i few = version_proper 1000 (title_of i ∷ []) refl (title_texts i few)

noted_proper : (i time : ℕ) (notes : List ℕ) → i < 50000 → is_utf8 notes ≡ true → is_proper_content (noted_version i time notes).mark.content ≡ true
noted_proper i time notes few text =
    version_proper time (plain_field (codes "Notes") notes ∷ title_of i ∷ []) refl
    (and_both (is_text_field (plain_field (codes "Notes") notes)) (list_all is_text_field (title_of i ∷ []))
    (and_both (is_utf8 (codes "Notes")) (is_utf8 notes) notes_key text) (title_texts i few))

-- ---- entries

one_proper : (v : BareVersion) (vs : List BareVersion) → is_proper_content v.mark.content ≡ true
    → list_all (λ (w : BareVersion). is_proper_content w.mark.content) vs ≡ true
    → list_all (λ (w : BareVersion). is_proper_content w.mark.content) (v ∷ vs) ≡ true
one_proper v vs first rest = and_both (is_proper_content v.mark.content) (list_all (λ (w : BareVersion). is_proper_content w.mark.content) vs) first rest

entry_proper : (b : Bool) (i placed time : ℕ) (notes : List ℕ) → i < 50000 → is_utf8 notes ≡ true
    → is_proper_entry (entry_with i placed (if b then Some (noted_version i time notes) else None)) ≡ true
entry_proper true i placed time notes few text =
    one_proper (noted_version i time notes) (shared_version i ∷ []) (noted_proper i time notes few text)
    (one_proper (shared_version i) [] (shared_proper i few) refl)
entry_proper false i placed time notes few text = one_proper (shared_version i) [] (shared_proper i few) refl

pub first_proper : (i : ℕ) → i < 50000 → is_proper_entry (row_of first_rules i).1 ≡ true
first_proper i few = entry_proper _ i _ (2000 + i) (codes "a") few letter_a

pub second_proper : (i : ℕ) → i < 50000 → is_proper_entry (row_of second_rules i).1 ≡ true
second_proper i few = entry_proper _ i 1000 (2001 + i) (codes "b") few letter_b

-- ---- groups

pub root_proper : is_proper_group_content (new_group (codes "Root") 1000).state.content ≡ true
unfolding is_proper_group_content is_utf8 chars lib.Utf8.encode
root_proper = refl

named_proper : (name : List ℕ) → is_utf8 name ≡ true → is_proper_group_content (new_group name 1000).state.content ≡ true
unfolding is_proper_group_content is_utf8 chars lib.Utf8.encode
named_proper name text = ap (λ b. b && true && true && true && true) text

pub group_proper : (g : ℕ) → g < 16 → is_proper_group_content (new_group (codes "G" ++ decimal g) 1000).state.content ≡ true
group_proper g few = named_proper (codes "G" ++ decimal g) (numbered (codes "G") g letter_g (omega arith))

-- ---- the database

pub meta_text : is_text_meta twin_meta ≡ true
unfolding is_utf8 chars lib.Utf8.encode
meta_text = refl
