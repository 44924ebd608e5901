-- What is shown of an entry does not look at what is marked hidden.
use Rattle.std.proofs.Common.{◌≡◌, ◌||◌, ◌&&◌, ℕ, suc, Bool, true, false, not, cond, inl, inr, List, [], ◌∷◌, ◌++◌, Option, None, Some, Result, Ok, Err, codes, map, length, refl, sym, ap, subst, ◌∙◌}
use mathlib.Core.List.{reverse_aux}
use Rattle.std.specs.Fmt.{decimal}
use Rattle.std.specs.List.{filter, flat_map, list_all, list_any}
use Rattle.std.specs.Prelude.{if◌then◌else◌, slice_get}
use Rattle.std.specs.Option.{ok_or, option_map}
use Rattle.std.proofs.lemmas.Option.{same_Some, slice_get-map}
use Rattle.std.specs.Str.{bytes_eq}
use Rattle.std.proofs.lemmas.Slice.Eq.{bytes_eq-Decides}
use Rattle.outside_core.specs.Results.{◌>>=◌}
use Rattle.vault_model.specs.Bare.{BareAttachment, BareField}
use Rattle.vault_model.specs.Db.{NodeId}
use Rattle.vault_model.specs.Shape.{BareVersion, EntryRecord}
use Rattle.vault_model.specs.Tree.{BareDoc, entry_rows}
use Rattle.vault_model.proofs.Tests.{and_both, and_true, decide}
use Rattle.tree_core.specs.After.{Holding, entry_named}
use Rattle.tree_core.specs.Histories.{numbered_versions, version_numbered}
use Rattle.tree_core.specs.declared.fails.TreeFail.{TreeFail}
use Rattle.find_references.specs.Fields.{fields_of, is_other, named_keys}
use Rattle.find_references.specs.References.{Piece, byte, pieces, reference}
use Rattle.find_references.specs.Resolved.{Step, after_steps, copied, piece_steps, resolved, steps}
use Rattle.find_references.specs.declared.fail.FindFail.{FindFail}
use Rattle.cli_messages.specs.Messages.{refusal_of}
use Rattle.cli_messages.specs.declared.answers.Reason.TheVariants.{NoVersion}
use Rattle.cli_messages.specs.declared.answers.Refusal.{Refusal}
use Rattle.cli_showing.specs.Refusals.{found_or_refusal}
use Rattle.cli_showing.specs.Showing.{attachment_line, entry_or_refusal, entry_shown, entry_text, field_of, id_and_tags, others_shown, value_shown, version_shown, whole_entry, with_attachments, with_current, with_fields, with_fields_shown, with_key, with_keys, with_value, with_value_of}
use Rattle.noninterference_laws.specs.Masks.{ShowIsBlind, ShowsTitles, has_no_reference, is_marked, is_plain_byte, is_shown, mask, mask_attachment, mask_entry, mask_field, mask_row, mask_version, shows_no_reference}
use Rattle.noninterference_laws.proofs.BlindCommands.{entry_named_mask, mask_held, on_ok}

pub marked_titles : ShowsTitles is_marked
marked_titles f q = ap (λ b. not b && f.hidden) q

-- ---- values without references

abbrev Rows : Type 0
Rows = List (NodeId × EntryRecord)

plain_steps : (rows others : Rows) (deeper lower : List ℕ → List Step) (ps : List Piece) → list_all is_plain_byte ps ≡ true → flat_map (piece_steps rows deeper) ps ≡ flat_map (piece_steps others lower) ps
plain_steps rows others deeper lower [] all = refl
plain_steps rows others deeper lower (byte b ∷ ps) all = ap (λ ss. copied (b ∷ []) ∷ ss) (plain_steps rows others deeper lower ps all)
plain_steps rows others deeper lower (reference r ∷ ps) all = cc all

plain_resolved : (d e : BareDoc) (text : List ℕ) → has_no_reference text ≡ true → resolved d text ≡ resolved e text
unfolding resolved
plain_resolved d e text all =
    ap (λ ss. after_steps ss (record { references = 0; text = [] }) >>= λ made. Ok made.text) (plain_steps (entry_rows d.tree) (entry_rows e.tree) (steps 9 (entry_rows d.tree)) (steps 9 (entry_rows e.tree)) (pieces 0 text) all)

-- ---- fields

abbrev hide : BareField → BareField
hide = mask_field is_marked

-- a field whose value is marked hidden, or which is as it was
hide_cases : {A : Type 0} (f : BareField) → (f.hidden ≡ true → A) → (f.hidden ≡ false → hide f ≡ f → A) → A
hide_cases f marked shown = elim (decide f.hidden) [
  | inl q ↦ marked q
  | inr q ↦ shown q (ap (λ b. cond (not (bytes_eq (codes "Title") f.key) && b) (record f { value = [] }) f) q ∙ never_hidden (not (bytes_eq (codes "Title") f.key)))
]
  where
    never_hidden : (b : Bool) → cond (b && false) (record f { value = [] }) f ≡ f
    never_hidden true = refl
    never_hidden false = refl

hide_key : (f : BareField) → (hide f).key ≡ f.key
hide_key f = at (is_marked f)
  where
    at : (b : Bool) → (cond b (record f { value = [] }) f).key ≡ f.key
    at true = refl
    at false = refl

hide_flag : (f : BareField) → (hide f).hidden ≡ f.hidden
hide_flag f = at (is_marked f)
  where
    at : (b : Bool) → (cond b (record f { value = [] }) f).hidden ≡ f.hidden
    at true = refl
    at false = refl

-- A value is marked hidden, or has no reference.
abbrev is_plain : BareField → Bool
is_plain f = f.hidden || has_no_reference f.value

-- So it is of the fields that have names of their own.
abbrev is_named_plain : BareField → Bool
is_named_plain f = is_other f || is_plain f

abbrev shown_by : BareDoc → Bool → List ℕ → Result (List ℕ) FindFail
shown_by doc hidden value = if hidden && not false then Ok (codes "PROTECTED") else resolved doc value

value_same : (d : BareDoc) (f : BareField) → is_plain f ≡ true → value_shown (mask is_marked d) false (hide f) ≡ value_shown d false f
value_same d f plain = hide_cases f
    (λ q. ap (λ b. shown_by (mask is_marked d) b (hide f).value) (hide_flag f ∙ q) ∙ sym (ap (λ b. shown_by d b f.value) q))
    (λ q same.
    ap (value_shown (mask is_marked d) false) same ∙ ap (λ b. shown_by (mask is_marked d) b f.value) q
    ∙ plain_resolved (mask is_marked d) d f.value (sym (ap (λ b. b || has_no_reference f.value) q) ∙ plain) ∙ sym (ap (λ b. shown_by d b f.value) q))

with_value_same : (d : BareDoc) (f : BareField) (text : List ℕ) → is_plain f ≡ true → with_value (mask is_marked d) false (hide f) text ≡ with_value d false f text
with_value_same d f text plain = ap (λ r. r >>= λ value. Ok ((text ++ value) ++ codes "\n")) (value_same d f plain)

-- the field of a key, hidden or not
abbrev SameOf : BareDoc → Option BareField → Option BareField → Type 0
SameOf d o o' = (text : List ℕ) → with_value_of (mask is_marked d) false o' text ≡ with_value_of d false o text

-- A key is one of those.
abbrev is_name : List ℕ → Bool
is_name key = list_any (bytes_eq key) named_keys

-- the field of such a key
named_field : (key : List ℕ) (f : BareField) → is_name key ≡ true → is_named_plain f ≡ true → bytes_eq key f.key ≡ true → is_plain f ≡ true
named_field key f name plain same =
    let here = subst (λ (k : List ℕ). is_name k ≡ true) ((bytes_eq-Decides key f.key).0 same) name in
    sym (ap (λ b. not b || is_plain f) here) ∙ plain

field_same : (d : BareDoc) (key : List ℕ) → is_name key ≡ true → (fs : List BareField) → list_all is_named_plain fs ≡ true → SameOf d (field_of key fs) (field_of key (map hide fs))
field_same d key name [] all text = refl
field_same d key name (f ∷ fs) all text =
    let parts = and_true (is_named_plain f) (list_all is_named_plain fs) all in
    let k = ap (λ k. with_value_of (mask is_marked d) false (cond (bytes_eq key k) (Some (hide f)) (field_of key (map hide fs))) text) (hide_key f) in
    k ∙ of (bytes_eq key f.key) (named_field key f name parts.0) (field_same d key name fs parts.1 text)
  where
    of : (b : Bool) → (b ≡ true → is_plain f ≡ true) → with_value_of (mask is_marked d) false (field_of key (map hide fs)) text ≡ with_value_of d false (field_of key fs) text
        → with_value_of (mask is_marked d) false (cond b (Some (hide f)) (field_of key (map hide fs))) text ≡ with_value_of d false (cond b (Some f) (field_of key fs)) text
    of true plain rest = with_value_same d f text (plain refl)
    of false plain rest = rest

-- one step and then the next, where both are the same
bind_same : {A B E : Type 0} (r r' : Result A E) (next next' : A → Result B E) → r' ≡ r → ((x : A) → next' x ≡ next x) → (r' >>= next') ≡ (r >>= next)
bind_same {A = A} {B = B} {E = E} r r' next next' e h = ap (λ t. t >>= next') e ∙ of r
  where
    of : (t : Result A E) → (t >>= next') ≡ (t >>= next)
    of (Ok x) = h x
    of (Err e) = refl

keys_same : (d : BareDoc) (fs : List BareField) → list_all is_named_plain fs ≡ true → (keys : List (List ℕ)) → list_all is_name keys ≡ true → (text : List ℕ) → with_keys (mask is_marked d) false (map hide fs) keys text ≡ with_keys d false fs keys text
keys_same d fs all [] names text = refl
keys_same d fs all (key ∷ keys) names text =
    let parts = and_true (is_name key) (list_all is_name keys) names in
    bind_same (with_value_of d false (field_of key fs) (with_key key text)) (with_value_of (mask is_marked d) false (field_of key (map hide fs)) (with_key key text))
    (with_keys d false fs keys) (with_keys (mask is_marked d) false (map hide fs) keys) (field_same d key parts.0 fs all (with_key key text)) (keys_same d fs all keys parts.1)

fields_same : (d : BareDoc) (fs : List BareField) → list_all is_plain fs ≡ true → (text : List ℕ) → with_fields (mask is_marked d) false (map hide fs) text ≡ with_fields d false fs text
fields_same d [] all text = refl
fields_same d (f ∷ fs) all text =
    let parts = and_true (is_plain f) (list_all is_plain fs) all in
    ap (λ k. with_value (mask is_marked d) false (hide f) (with_key k text) >>= with_fields (mask is_marked d) false (map hide fs)) (hide_key f)
    ∙ bind_same (with_value d false f (with_key f.key text)) (with_value (mask is_marked d) false (hide f) (with_key f.key text))
    (with_fields d false fs) (with_fields (mask is_marked d) false (map hide fs)) (with_value_same d f (with_key f.key text) parts.0) (fields_same d fs parts.1)

others_same : (fs : List BareField) → filter is_other (map hide fs) ≡ map hide (filter is_other fs)
others_same [] = refl
others_same (f ∷ fs) =
    ap (λ k. cond (not (list_any (bytes_eq k) named_keys)) (hide f ∷ filter is_other (map hide fs)) (filter is_other (map hide fs))) (hide_key f)
    ∙ of (others_same fs) (is_other f)
  where
    of : filter is_other (map hide fs) ≡ map hide (filter is_other fs) → (b : Bool) → cond b (hide f ∷ filter is_other (map hide fs)) (filter is_other (map hide fs)) ≡ map hide (cond b (f ∷ filter is_other fs) (filter is_other fs))
    of rest true = ap (λ xs. hide f ∷ xs) rest
    of rest false = rest

others_plain : (fs : List BareField) → list_all is_plain fs ≡ true → list_all is_plain (filter is_other fs) ≡ true
others_plain [] all = refl
others_plain (f ∷ fs) all = of (others_plain fs (and_true (is_plain f) (list_all is_plain fs) all).1) (is_other f)
  where
    of : list_all is_plain (filter is_other fs) ≡ true → (b : Bool) → list_all is_plain (cond b (f ∷ filter is_other fs) (filter is_other fs)) ≡ true
    of rest true =
        let parts = and_true (is_plain f) (list_all is_plain fs) all in
        and_both (is_plain f) (list_all is_plain (filter is_other fs)) parts.0 rest
    of rest false = rest

-- what is so of each field, and so of all
all_so : (p q : BareField → Bool) → ((f : BareField) → p f ≡ true → q f ≡ true) → (fs : List BareField) → list_all p fs ≡ true → list_all q fs ≡ true
all_so p q so [] all = refl
all_so p q so (f ∷ fs) all = let parts = and_true (p f) (list_all p fs) all in and_both (q f) (list_all q fs) (so f parts.0) (all_so p q so fs parts.1)

-- A value that is shown has no reference.
abbrev is_shown_plain : (all : Bool) → BareField → Bool
is_shown_plain all f = not (is_shown all f) || has_no_reference f.value

-- so of all fields it has none where it is not hidden
all_plain : (f : BareField) → is_shown_plain true f ≡ true → is_plain f ≡ true
all_plain f = by f.hidden (has_no_reference f.value)
  where
    by : (hidden plain : Bool) → (not (not hidden && true) || plain) ≡ true → (hidden || plain) ≡ true
    by true plain h = refl
    by false plain h = h

-- and of the fields that have names of their own
named_plain : (all : Bool) (f : BareField) → is_shown_plain all f ≡ true → is_named_plain f ≡ true
named_plain all f = by all (is_other f) f.hidden (has_no_reference f.value)
  where
    by : (all other hidden plain : Bool) → (not (not hidden && (all || not other)) || plain) ≡ true → (other || (hidden || plain)) ≡ true
    by all true hidden plain h = refl
    by all false true plain h = refl
    by true false false plain h = h
    by false false false plain h = h

shown_same : (d : BareDoc) (all : Bool) (fs : List BareField) → list_all (is_shown_plain all) fs ≡ true → (text : List ℕ) → with_fields (mask is_marked d) false (others_shown all (map hide fs)) text ≡ with_fields d false (others_shown all fs) text
shown_same d true fs plain text = ap (λ gs. with_fields (mask is_marked d) false gs text) (others_same fs)
    ∙ fields_same d (filter is_other fs) (others_plain fs (all_so (is_shown_plain true) is_plain all_plain fs plain)) text
shown_same d false fs plain text = refl

-- ---- attachments

zeros_length : (bs : List ℕ) → length {A = ℕ} (map {B = ℕ} (λ b. 0) bs) ≡ length bs
zeros_length [] = refl
zeros_length (b ∷ bs) = ap (λ n. suc n) (zeros_length bs)

line_same : (a : BareAttachment) → attachment_line (mask_attachment a) ≡ attachment_line a
line_same a = ap (λ n. codes "  " ++ a.name ++ codes " (" ++ decimal n ++ codes " bytes)\n") (zeros_length a.bytes)

lines_same : (xs : List BareAttachment) → flat_map attachment_line (map mask_attachment xs) ≡ flat_map attachment_line xs
lines_same [] = refl
lines_same (x ∷ xs) = λ i. line_same x i ++ lines_same xs i

attachments_same : (attachments : Bool) (e : EntryRecord) (text : List ℕ) → with_attachments attachments (mask_entry is_marked e) text ≡ with_attachments attachments e text
attachments_same true e text = ap (λ ls. (text ++ codes "Attachments:\n") ++ ls) (lines_same e.current.mark.content.attachments)
attachments_same false e text = refl

-- ---- an entry

text_same : (d : BareDoc) (all attachments : Bool) (e : NodeId × EntryRecord) → shows_no_reference all e.1 ≡ true → entry_text (mask is_marked d) false all attachments [] (mask_row is_marked e) ≡ entry_text d false all attachments [] e
text_same d all attachments e plain =
    bind_same (whole_entry d false all e) (whole_entry (mask is_marked d) false all (mask_row is_marked e))
    (λ text. Ok (with_attachments attachments e.1 text)) (λ text. Ok (with_attachments attachments (mask_entry is_marked e.1) text))
    (bind_same (with_fields_shown d false all (fields_of e.1) []) (with_fields_shown (mask is_marked d) false all (map hide (fields_of e.1)) [])
    (λ text. Ok (text ++ id_and_tags e)) (λ text. Ok (text ++ id_and_tags e))
    (bind_same (with_keys d false (fields_of e.1) named_keys []) (with_keys (mask is_marked d) false (map hide (fields_of e.1)) named_keys [])
    (with_fields d false (others_shown all (fields_of e.1))) (with_fields (mask is_marked d) false (others_shown all (map hide (fields_of e.1))))
    (keys_same d (fields_of e.1) (all_so (is_shown_plain all) is_named_plain (named_plain all) (fields_of e.1) plain) named_keys refl []) (shown_same d all (fields_of e.1) plain))
    (λ text. refl))
    (λ text. ap Ok (attachments_same attachments e.1 text))

-- ---- the version that is shown

turned : {A B : Type 0} (f : A → B) (xs ys : List A) → map f (reverse_aux xs ys) ≡ reverse_aux (map f xs) (map f ys)
turned f [] ys = refl
turned f (x ∷ xs) ys = turned f xs (x ∷ ys)

numbered_mask : (at : ℕ) (e : EntryRecord) → version_numbered at (mask_entry is_marked e) ≡ option_map (mask_version is_marked) (version_numbered at e)
numbered_mask at e =
    ap (λ (vs : List BareVersion). slice_get (mask_version is_marked e.current ∷ vs) at) (sym (turned (mask_version is_marked) e.history []))
    ∙ slice_get-map (mask_version is_marked) (numbered_versions e) at

version_mask : (at : ℕ) (e : NodeId × EntryRecord) → version_shown at (mask_row is_marked e) ≡ option_map (mask_row is_marked) (version_shown at e)
version_mask at e = ap (option_map (with_current (mask_row is_marked e))) (numbered_mask at e.1) ∙ of (version_numbered at e.1)
  where
    of : (o : Option BareVersion) → option_map (with_current (mask_row is_marked e)) (option_map (mask_version is_marked) o) ≡ option_map (mask_row is_marked) (option_map (with_current e) o)
    of None = refl
    of (Some v) = refl

abbrev version_of : List ℕ → (all attachments : Bool) → (at : ℕ) → BareDoc → Option (NodeId × EntryRecord) → Result (List ℕ) Refusal
version_of file all attachments at doc o = ok_or o (refusal_of (NoVersion at) file) >>= λ entry. found_or_refusal file (entry_text doc false all attachments [] entry)

abbrev shown_of : List ℕ → (all attachments : Bool) → (at : ℕ) → BareDoc → Result Holding TreeFail → Result (List ℕ) Refusal
shown_of file all attachments at doc r = entry_or_refusal file r >>= λ entry. version_of file all attachments at doc (version_shown at entry)

-- No value that is shown of the version of the entry that was found has a reference.
abbrev ShowsPlain : (all : Bool) → (at : ℕ) → Result Holding TreeFail → Type 0
ShowsPlain all at r = (held : Holding) (shown : NodeId × EntryRecord) → r ≡ Ok held → version_shown at held.entry ≡ Some shown → shows_no_reference all shown.1 ≡ true

entry_same : (file : List ℕ) (all attachments : Bool) (at : ℕ) (d : BareDoc) (r : Result Holding TreeFail) → ShowsPlain all at r
    → shown_of file all attachments at (mask is_marked d) (on_ok (mask_held is_marked marked_titles) r) ≡ shown_of file all attachments at d r
entry_same file all attachments at d (Ok held) plain =
    ap (version_of file all attachments at (mask is_marked d)) (version_mask at held.entry) ∙ by (version_shown at held.entry) refl
  where
    by : (o : Option (NodeId × EntryRecord)) → version_shown at held.entry ≡ o → version_of file all attachments at (mask is_marked d) (option_map (mask_row is_marked) o) ≡ version_of file all attachments at d o
    by None is = refl
    by (Some shown) is = ap (found_or_refusal file) (text_same d all attachments shown (plain held shown refl is))
entry_same file all attachments at d (Err why) plain = refl

show_mask : (file : List ℕ) (all attachments : Bool) (at : ℕ) (path : List ℕ) (d : BareDoc) → ShowsPlain all at (entry_named path d)
    → entry_shown file false all attachments [] at path (mask is_marked d) ≡ entry_shown file false all attachments [] at path d
unfolding entry_shown
show_mask file all attachments at path d plain =
    ap (shown_of file all attachments at (mask is_marked d)) (entry_named_mask is_marked marked_titles path d) ∙ entry_same file all attachments at d (entry_named path d) plain

-- ---- the same of the other document

plain_hide : (all : Bool) (fs : List BareField) → list_all (is_shown_plain all) (map hide fs) ≡ list_all (is_shown_plain all) fs
plain_hide all [] = refl
plain_hide all (f ∷ fs) = λ i. one i && plain_hide all fs i
  where
    marked : (g : BareField) → g.hidden ≡ true → is_shown_plain all g ≡ true
    marked g q = ap (λ b. not (not b && (all || not (is_other g))) || has_no_reference g.value) q

    one : is_shown_plain all (hide f) ≡ is_shown_plain all f
    one = hide_cases f (λ q. marked (hide f) (hide_flag f ∙ q) ∙ sym (marked f q)) (λ q same. ap (is_shown_plain all) same)

abbrev held_in : Holding → Result Holding TreeFail → Holding
held_in held (Ok other) = other
held_in held (Err why) = held

masked_plain : (all : Bool) (at : ℕ) (e : NodeId × EntryRecord) → ((v : NodeId × EntryRecord) → version_shown at e ≡ Some v → shows_no_reference all v.1 ≡ true)
    → (shown : NodeId × EntryRecord) → option_map (mask_row is_marked) (version_shown at e) ≡ Some shown → shows_no_reference all shown.1 ≡ true
masked_plain all at e plain shown is = by (version_shown at e) refl is
  where
    by : (o : Option (NodeId × EntryRecord)) → version_shown at e ≡ o → option_map (mask_row is_marked) o ≡ Some shown → shows_no_reference all shown.1 ≡ true
    by None k h = cc h
    by (Some v) k h = subst (λ (x : NodeId × EntryRecord). shows_no_reference all x.1 ≡ true) (same_Some (mask_row is_marked v) shown h) (plain_hide all (fields_of v.1) ∙ plain v k)

to_mask : (all : Bool) (at : ℕ) (r : Result Holding TreeFail) → ShowsPlain all at r → ShowsPlain all at (on_ok (mask_held is_marked marked_titles) r)
to_mask all at (Ok held) plain other shown is num =
    let same : mask_held is_marked marked_titles held ≡ other = ap (held_in held) is in
    masked_plain all at held.entry (λ v k. plain held v refl k) shown
    (sym (version_mask at held.entry) ∙ ap (λ (h : Holding). version_shown at h.entry) same ∙ num)
to_mask all at (Err why) plain other shown is num = cc is

from_mask : (all : Bool) (at : ℕ) (r : Result Holding TreeFail) → ShowsPlain all at (on_ok (mask_held is_marked marked_titles) r) → ShowsPlain all at r
from_mask all at (Ok held) plain other shown is num =
    let same : held ≡ other = ap (held_in held) is in
    let there : version_shown at held.entry ≡ Some shown = ap (λ (h : Holding). version_shown at h.entry) same ∙ num in
    sym (plain_hide all (fields_of shown.1))
    ∙ plain (mask_held is_marked marked_titles held) (mask_row is_marked shown) refl (version_mask at held.entry ∙ ap (option_map (mask_row is_marked)) there)
from_mask all at (Err why) plain other shown is num = cc is

pub show_is_blind : ShowIsBlind
show_is_blind d e alike path file all attachments at plain =
    let masked = subst (ShowsPlain all at) (sym (entry_named_mask is_marked marked_titles path d)) (to_mask all at (entry_named path d) plain) in
    let other = subst (λ (x : BareDoc). ShowsPlain all at (entry_named path x)) alike masked in
    let plain_e = from_mask all at (entry_named path e) (subst (ShowsPlain all at) (entry_named_mask is_marked marked_titles path e) other) in
    sym (show_mask file all attachments at path d plain) ∙ ap (entry_shown file false all attachments [] at path) alike ∙ show_mask file all attachments at path e plain_e
