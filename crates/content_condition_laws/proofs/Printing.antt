-- `show`, `search` and `export` print under their conditions.
use Rattle.std.proofs.Common.{◌≡◌, ◌≢◌, ◌≤◌, ◌-◌, ◌&&◌, ◌||◌, not, ℕ, Bool, true, false, cond, inl, inr, List, [], ◌∷◌, ◌++◌, None, Some, Result, Ok, Err, IsOk, bytes_eq, codes, length, map, nat_lt, refl, sym, ap, ◌∙◌, arith}
use Rattle.std.specs.Prelude.{if◌then◌else◌, ◌==◌}
use Rattle.std.specs.List.{filter, find, list_any}
use Rattle.std.specs.Option.{ok_or}
use Rattle.std.proofs.lemmas.Bool.{ltb-true, ne_eqb}
use Rattle.std.proofs.lemmas.List.{append-nil, append_assoc}
use Rattle.std.proofs.lemmas.Slice.Eq.{bytes_eq-Decides}
use Rattle.outside_core.specs.Results.{◌>>=◌}
use Rattle.stream_core.specs.InnerStream.{NoKeystream}
use Rattle.vault_model.specs.Bare.{BareField}
use Rattle.vault_model.specs.Db.{NodeId}
use Rattle.vault_model.specs.Join.{IsIn, IsNotEmpty}
use Rattle.vault_model.specs.Shape.{EntryRecord}
use Rattle.vault_model.specs.Tree.{BareDoc}
use Rattle.vault_model.specs.declared.forms.DocForm.TheVariants.{Plain}
use Rattle.vault_model.proofs.Tests.{and_both, any_true, from_filter, is_false, not_false, or_right}
use Rattle.doc_spelling.specs.Documents.{spelled_document}
use Rattle.doc_spelling.specs.Ranges.{tree_nodes}
use Rattle.doc_write.specs.Written.{text_or, up_to_u64, written_len}
use Rattle.doc_write.specs.declared.writing.WriteFail.TheVariants.{TooLarge, TooMany}
use Rattle.find_references.specs.Fields.{fields_of, is_other, named_keys}
use Rattle.find_references.specs.Resolved.{resolved}
use Rattle.find_references.specs.Terms.{PlacedTerm, one_at_least, terms_of, with_texts}
use Rattle.find_references.specs.declared.fail.FindFail.{FindFail}
use Rattle.find_references.specs.declared.fail.FindFail.TheVariants.{EmptyTerm}
use Rattle.find_references.specs.declared.terms.Term.{Term}
use Rattle.find_references.proofs.Limits.{within_limits}
use Rattle.find_core.specs.Search.{entries_found}
use Rattle.cli_needs.specs.declared.command.ExportFormat.TheVariants.{Csv, Xml}
use Rattle.cli_printing.specs.Exporting.{text_or_refusal}
use Rattle.otp_core.specs.declared.fails.OtpFail.TheVariants.{OtpLimit}
use Rattle.otp_core.specs.Reading.{BareOtp, otp_of_entry}
use Rattle.cli_codes.specs.Codes.{EPOCH, code_line, code_or_refusal, line_of, unix_of}
use Rattle.cli_messages.specs.Messages.{refusal_of}
use Rattle.cli_messages.specs.declared.answers.Reason.TheVariants.{NoVersion}
use Rattle.cli_showing.specs.History.{history_shown, history_text}
use Rattle.cli_showing.specs.Refusals.{found_or_refusal}
use Rattle.cli_showing.specs.Showing.{code_shown, entries_shown, entry_or_refusal, entry_shown, entry_text, field_of, is_missing, others_shown, paths_or_refusal, refuse_missing, value_shown, values_shown, version_or_refusal, with_code, with_fields, with_fields_shown, with_key, with_keys, with_names, with_value, with_value_of}
use Rattle.content_condition_laws.specs.Conditions.{CanResolve, ExportSucceeds, HistorySucceeds, SearchSucceeds, ShowCodeSucceeds, ShowSucceeds, is_printed, terms_in}

-- ---- steps that are not refused

-- Some answer is not refused.
abbrev Gives : {A E : Type 0} → Result A E → Type 0
Gives {A} {E} r = (x : A) × (r ≡ Ok x)

sure : {A E : Type 0} (x : A) → Gives {A = A} {E = E} (Ok x)
sure x = (x, refl)

-- a first step that gives something, after which the next does
after_one : {A B E : Type 0} (r : Result A E) (next : A → Result B E) → Gives r → ((x : A) → Gives (next x)) → Gives (r >>= next)
after_one r next one rest = let two = rest one.0 in (two.0, ap (λ t. t >>= next) one.1 ∙ two.1)

-- ---- values

-- a text that can be resolved is
resolves : (d : BareDoc) (text : List ℕ) → CanResolve d text → Gives (resolved d text)
resolves d text can = of (resolved d text) ((within_limits d text).is_ok.1 can)
  where
    of : (r : Result (List ℕ) FindFail) → IsOk r → Gives r
    of (Ok x) is = sure x
    of (Err e) is = cc is

module _ (d : BareDoc) (clear : Bool) where
  -- The value of a field is shown.
  abbrev Shows : BareField → Type 0
  Shows f = Gives (value_shown d clear f)

  value_gives : (f : BareField) (text : List ℕ) → Shows f → Gives (with_value d clear f text)
  value_gives f text shows = after_one (value_shown d clear f) _ shows (λ value. sure _)

  field_gives : (key : List ℕ) (fs : List BareField) (text : List ℕ) → ((f : BareField) → IsIn f fs → bytes_eq key f.key ≡ true → Shows f) → Gives (with_value_of d clear (field_of key fs) text)
  field_gives key [] text shows = sure _
  field_gives key (f ∷ fs) text shows = by (field_gives key fs text (λ g h. shows g (inr h))) (bytes_eq key f.key) refl
    where
      by : Gives (with_value_of d clear (field_of key fs) text) → (b : Bool) → bytes_eq key f.key ≡ b → Gives (with_value_of d clear (cond b (Some f) (field_of key fs)) text)
      by rest true e = value_gives f text (shows f (inl refl) e)
      by rest false e = rest

  keys_give : (fs : List BareField) (keys : List (List ℕ)) (text : List ℕ) → ((key : List ℕ) → IsIn key keys → (f : BareField) → IsIn f fs → bytes_eq key f.key ≡ true → Shows f) → Gives (with_keys d clear fs keys text)
  keys_give fs [] text shows = sure text
  keys_give fs (key ∷ keys) text shows =
      after_one (with_value_of d clear (field_of key fs) (with_key key text)) _ (field_gives key fs (with_key key text) (shows key (inl refl)))
      (λ more. keys_give fs keys more (λ k h. shows k (inr h)))

  fields_give : (fs : List BareField) (text : List ℕ) → ((f : BareField) → IsIn f fs → Shows f) → Gives (with_fields d clear fs text)
  fields_give [] text shows = sure text
  fields_give (f ∷ fs) text shows =
      after_one (with_value d clear f (with_key f.key text)) _ (value_gives f (with_key f.key text) (shows f (inl refl)))
      (λ more. fields_give fs more (λ g h. shows g (inr h)))

names_give : (d : BareDoc) (fs : List BareField) (names : List (List ℕ)) (text : List ℕ) → ((name : List ℕ) → IsIn name names → (f : BareField) → IsIn f fs → bytes_eq name f.key ≡ true → Shows d true f) → Gives (with_names d fs names text)
names_give d fs [] text shows = sure text
names_give d fs (name ∷ names) text shows =
    after_one (with_value_of d true (field_of name fs) text) _ (field_gives d true name fs text (shows name (inl refl)))
    (λ more. names_give d fs names more (λ n h. shows n (inr h)))

-- ---- show

-- a value that is not printed is shown as hidden
shown_or_hidden : (d : BareDoc) (clear : Bool) (f : BareField) → ((not f.hidden || clear) ≡ true → CanResolve d f.value) → Shows d clear f
shown_or_hidden d clear f can = by f.hidden clear can
  where
    by : (hidden clear : Bool) → ((not hidden || clear) ≡ true → CanResolve d f.value) → Gives (if hidden && not clear then Ok (codes "PROTECTED") else resolved d f.value)
    by true true can = resolves d f.value (can refl)
    by true false can = sure _
    by false true can = resolves d f.value (can refl)
    by false false can = resolves d f.value (can refl)

-- a field whose key is among those of every entry is no other
no_other : (key : List ℕ) (f : BareField) → IsIn key named_keys → bytes_eq key f.key ≡ true → not (is_other f) ≡ true
no_other key f there same =
    not_false (is_other f) (ap not (any_true (bytes_eq f.key) named_keys key there ((bytes_eq-Decides f.key key).1 (sym ((bytes_eq-Decides key f.key).0 same)))))

module _ (d : BareDoc) (clear all : Bool) (fs : List BareField) where
  -- The values that are printed can be resolved.
  abbrev Resolve : List (List ℕ) → Type 0
  Resolve names = (f : BareField) → IsIn f fs → is_printed clear all names f ≡ true → CanResolve d f.value

  keyed : Resolve [] → (key : List ℕ) → IsIn key named_keys → (f : BareField) → IsIn f fs → bytes_eq key f.key ≡ true → Shows d clear f
  keyed can key there f h same =
      shown_or_hidden d clear f (λ open_. can f h (and_both (not f.hidden || clear) (all || not (is_other f)) open_ (or_right all (not (is_other f)) (no_other key f there same))))

  others_give : Resolve [] → (text : List ℕ) → Gives (with_fields d clear (others_shown all fs) text)
  others_give can text = by all refl
    where
      by : (b : Bool) → all ≡ b → Gives (with_fields d clear (others_shown b fs) text)
      by true is =
          fields_give d clear (filter is_other fs) text (λ f h.
          shown_or_hidden d clear f (λ open_. can f (from_filter is_other fs f h).0 (and_both (not f.hidden || clear) (all || not (is_other f)) open_ (ap (λ b. b || not (is_other f)) is))))
      by false is = sure text

  shown_give : Resolve [] → Gives (with_fields_shown d clear all fs [])
  shown_give can = after_one (with_keys d clear fs named_keys []) _ (keys_give d clear fs named_keys [] (keyed can)) (λ text. others_give can text)

  named_give : (names : List (List ℕ)) → ((f : BareField) → IsIn f fs → list_any (λ n. bytes_eq n f.key) names ≡ true → CanResolve d f.value) → Gives (with_names d fs names [])
  named_give names can =
      names_give d fs names [] (λ name there f h same.
      shown_or_hidden d true f (λ open_. can f h (any_true (λ n. bytes_eq n f.key) names name there same)))

values_give : (d : BareDoc) (clear all : Bool) (names : List (List ℕ)) (e : NodeId × EntryRecord) → Resolve d clear all (fields_of e.1) names → Gives (values_shown d clear all names e)
values_give d clear all [] e can = after_one (with_fields_shown d clear all (fields_of e.1) []) _ (shown_give d clear all (fields_of e.1) can) (λ text. sure _)
values_give d clear all (name ∷ names) e can = named_give d clear all (fields_of e.1) (name ∷ names) can

text_gives : (d : BareDoc) (clear all attachments : Bool) (names : List (List ℕ)) (e : NodeId × EntryRecord) → Resolve d clear all (fields_of e.1) names → Gives (entry_text d clear all attachments names e)
text_gives d clear all attachments names e can = after_one (values_shown d clear all names e) _ (values_give d clear all names e can) (λ text. sure _)

none_missing : (fs : List BareField) (names : List (List ℕ)) → ((name : List ℕ) → IsIn name names → is_missing fs name ≡ false) → find (is_missing fs) names ≡ None
none_missing fs [] there = refl
none_missing fs (name ∷ names) there =
    ap (λ b. cond b (Some name) (find (is_missing fs) names)) (there name (inl refl)) ∙ none_missing fs names (λ n h. there n (inr h))

pub show_succeeds : ShowSucceeds
unfolding entry_shown
show_succeeds file path clear all attachments names at d can =
    let e = can.entry in
    let shown = text_gives d clear all attachments names e can.values in (
      shown.0,
      ap (λ r. entry_or_refusal file r >>= λ held. version_or_refusal file at held >>= λ entry. refuse_missing file (find (is_missing (fields_of entry.1)) names) >>= λ checked. found_or_refusal file (entry_text d clear all attachments names entry)) can.named
          ∙ ap (λ o. ok_or o (refusal_of (NoVersion at) file) >>= λ entry. refuse_missing file (find (is_missing (fields_of entry.1)) names) >>= λ checked. found_or_refusal file (entry_text d clear all attachments names entry)) can.numbered
          ∙ ap (λ o. refuse_missing file o >>= λ checked. found_or_refusal file (entry_text d clear all attachments names e)) (none_missing (fields_of e.1) names can.there)
          ∙ ap (found_or_refusal file) shown.1,
    )

-- ---- show -t

-- a number that is no greater than another
within : (most n : ℕ) → n ≤ most → nat_lt most n ≡ false
within most n less = is_false (nat_lt most n) (λ p. let over = ltb-true most n p in omega (arith, over, less))

code_gives : (fields : List BareField) (now : ℕ) (otp : BareOtp) → otp_of_entry fields ≡ Ok otp → EPOCH ≤ now → Gives (code_line fields now)
unfolding code_line
code_gives fields now otp says since = (
  line_of otp (now - EPOCH),
  ap (λ r. r >>= λ otp. (unix_of now >>= λ unix. Ok (line_of otp unix))) says
      ∙ ap (λ b. (if b then Err (OtpLimit now) else Ok (now - EPOCH)) >>= λ unix. Ok (line_of otp unix)) (within now EPOCH since),
)

pub show_code_succeeds : ShowCodeSucceeds
unfolding code_shown
show_code_succeeds file path names at now d can =
    let fields = fields_of can.entry.1 in
    let named = named_give d false false fields names can.values in
    let line = code_gives fields now can.otp can.says can.since in (
      named.0 ++ line.0,
      ap (λ r. entry_or_refusal file r >>= λ held. version_or_refusal file at held >>= λ entry. refuse_missing file (find (is_missing (fields_of entry.1)) names) >>= λ checked.
          (found_or_refusal file (with_names d (fields_of entry.1) names []) >>= λ text. with_code file (fields_of entry.1) now text)) can.named
          ∙ ap (λ o. ok_or o (refusal_of (NoVersion at) file) >>= λ entry. refuse_missing file (find (is_missing (fields_of entry.1)) names) >>= λ checked.
          (found_or_refusal file (with_names d (fields_of entry.1) names []) >>= λ text. with_code file (fields_of entry.1) now text)) can.numbered
          ∙ ap (λ o. refuse_missing file o >>= λ checked. (found_or_refusal file (with_names d fields names []) >>= λ text. with_code file fields now text)) (none_missing fields names can.there)
          ∙ ap (λ r. found_or_refusal file r >>= λ text. with_code file fields now text) named.1
          ∙ ap (λ r. code_or_refusal file r >>= λ line. Ok (named.0 ++ line)) line.1,
    )

-- ---- history

pub history_succeeds : HistorySucceeds
unfolding history_shown
history_succeeds file path d can = (_, ap (λ r. entry_or_refusal file r >>= λ entry. Ok (history_text entry.1)) can.1)

-- ---- search

abbrev term_in : PlacedTerm → Term
term_in placed = placed.term

no_bytes : (bs : List ℕ) → bs ≢ [] → (length bs == 0) ≡ false
no_bytes [] some = absurd (some refl)
no_bytes (b ∷ bs) some = ne_eqb (length (b ∷ bs)) 0 (λ h. omega (arith, h))

all_texts : (terms : List Term) (placed : List PlacedTerm) → ((p : PlacedTerm) → IsIn p placed → p.term.text ≢ []) → with_texts terms placed ≡ Ok (terms ++ map term_in placed)
all_texts terms [] texts = ap Ok (sym (append-nil terms))
all_texts terms (p ∷ ps) texts =
    ap (λ b. if b then Err (EmptyTerm p.offset) else with_texts (terms ++ p.term ∷ []) ps) (no_bytes p.term.text (texts p (inl refl)))
    ∙ all_texts (terms ++ p.term ∷ []) ps (λ q h. texts q (inr h))
    ∙ ap Ok (append_assoc terms (p.term ∷ []) (map term_in ps))

some_terms : (placed : List PlacedTerm) → IsNotEmpty placed → one_at_least (Ok (map term_in placed)) ≡ Ok (map term_in placed)
some_terms [] some = absurd some
some_terms (p ∷ ps) some = refl

some_paths : (file : List ℕ) (id : NodeId) (ids : List NodeId) (d : BareDoc) → IsIn id ids → Gives (paths_or_refusal file ids d)
some_paths file id [] d there = absurd there
some_paths file id (u ∷ us) d there = sure _

pub search_succeeds : SearchSucceeds
unfolding entries_shown terms_of
search_succeeds file words d can =
    let terms = map term_in (terms_in words) in
    let paths = some_paths file can.entry (entries_found terms d) d can.found in (
      paths.0,
      ap (λ r. found_or_refusal file (one_at_least r) >>= λ ts. paths_or_refusal file (entries_found ts d) d) (all_texts [] (terms_in words) can.texts)
          ∙ ap (λ r. found_or_refusal file r >>= λ ts. paths_or_refusal file (entries_found ts d) d) (some_terms (terms_in words) can.some)
          ∙ paths.1,
    )

-- ---- export

pub export_succeeds : ExportSucceeds
export_succeeds file Xml d can = (
  spelled_document Plain NoKeystream None d,
  ap (λ b. text_or_refusal file (if b then Err (TooMany (up_to_u64 (tree_nodes d.tree))) else text_or Plain NoKeystream None d)) (within 262144 (tree_nodes d.tree) can.0)
      ∙ ap (λ b. text_or_refusal file (if b then Err (TooLarge (up_to_u64 (written_len Plain NoKeystream None d))) else Ok (spelled_document Plain NoKeystream None d)))
      (within 134086656 (written_len Plain NoKeystream None d) can.1),
)
export_succeeds file Csv d can = sure _
