-- What an element says at its end, and elements that are passed over: each refusal has its cause.
use Rattle.std.proofs.Common.{◌≡◌, inl, inr, ℕ, ◌+◌, Bool, true, false, ◌||◌, cond, Option, Some, None, List, Result, Ok, Err, refl, sym, ap, subst, ◌∙◌}
use Rattle.markup_grammar.specs.Elements.{Element, Content, element, last, also, cut, first_cut, first_cut_in, own_text}
use Rattle.text_forms.specs.Texts.{base64_bytes, trim}
use Rattle.outside_core.specs.Results.{◌>>=◌}
use Rattle.doc_forms.specs.declared.cursor.Cursor.{Cursor}
use Rattle.doc_forms.specs.declared.fails.DocFail.{DocFail}
use Rattle.doc_forms.specs.declared.fails.DocFail.TheVariants.{BadValue}
use Rattle.doc_forms.specs.Children.{name_of}
use Rattle.doc_forms.specs.ElementTexts.{ElementText, Setting, is_protected, may_hide, pass_over, plain_text, read_element, revealed_text, text_at_end}
use Rattle.doc_forms.specs.Refusals.{checked_value}
use Rattle.document_cause_laws.specs.ElementFaults.{HasFault, HasFaultIn, HidesWrongly, Says, length_or_none, past_element, past_children, past_text}
use Rattle.document_cause_laws.specs.ElementKinds.{Kind, child_kind, may_stand_once, unknown_kind}
use Rattle.document_cause_laws.proofs.Answering.{Answering, Ending, and_ending, and_siblings, cut_answers, end_cause, with_cause}

-- ---- texts

-- what an element says at its end, and what it adds to the cursor
abbrev pub SaysAtEnd : Setting → Cursor → List ℕ → List ℕ → ElementText × Cursor → Type 0
SaysAtEnd s cursor raw text x = Says s cursor raw text x.0 × (x.1 ≡ past_text raw text cursor)

abbrev pub HidesAt : Setting → ℕ → List ℕ → List ℕ → DocFail → Type 0
HidesAt s offset raw text fail = (fail ≡ BadValue offset) × HidesWrongly s raw text

module _ (s : Setting) (offset : ℕ) (raw text : List ℕ) (cursor : Cursor) where
  abbrev past_hidden : Option (List ℕ) → Cursor
  past_hidden o = record cursor { offset = cursor.offset + length_or_none o }

  revealed : is_protected raw ≡ true → (o : Option (List ℕ)) → base64_bytes (trim text) ≡ o
      → Ending (HidesAt s offset raw text) (SaysAtEnd s cursor raw text) (checked_value offset o >>= λ bytes. Ok (revealed_text s.keystream bytes cursor))
  revealed is None e = (refl, (is, inr e))
  revealed is (Some bytes) e = (
    inr (is, (bytes, e, refl)),
    ap past_hidden (sym e) ∙ ap (λ (b : Bool). cond b (past_hidden (base64_bytes (trim text))) cursor) (sym is),
  )

  hidden : is_protected raw ≡ true → (b : Bool) → may_hide s.form ≡ b
      → Ending (HidesAt s offset raw text) (SaysAtEnd s cursor raw text)
      (cond b (checked_value offset (base64_bytes (trim text)) >>= λ bytes. Ok (revealed_text s.keystream bytes cursor)) (Err (BadValue offset)))
  hidden is true e = revealed is (base64_bytes (trim text)) refl
  hidden is false e = (refl, (is, inl e))

  at_end : (b : Bool) → is_protected raw ≡ b
      → Ending (HidesAt s offset raw text) (SaysAtEnd s cursor raw text)
      (cond b (cond (may_hide s.form) (checked_value offset (base64_bytes (trim text)) >>= λ bytes. Ok (revealed_text s.keystream bytes cursor)) (Err (BadValue offset)))
      (Ok (plain_text text, cursor)))
  at_end true is = hidden is (may_hide s.form) refl
  at_end false is = (inl (is, refl), ap (λ (b : Bool). cond b (past_hidden (base64_bytes (trim text))) cursor) (sym is))

  pub end_says : Ending (HidesAt s offset raw text) (SaysAtEnd s cursor raw text) (text_at_end s offset raw text cursor)
  end_says = at_end (is_protected raw) refl

-- the same from another cursor that is this one
pub end_says_at : (s : Setting) (offset : ℕ) (raw text : List ℕ) (now later : Cursor) → now ≡ later
    → Ending (HidesAt s offset raw text) (SaysAtEnd s later raw text) (text_at_end s offset raw text now)
end_says_at s offset raw text now later is =
    subst (λ (c : Cursor). Ending (HidesAt s offset raw text) (SaysAtEnd s c raw text) (text_at_end s offset raw text now)) is (end_says s offset raw text now)

-- a refusal of the text of an element is a fault of the element
pub text_fault : (s : Setting) (kind : Kind) (cursor : Cursor) (offset : ℕ) (name raw : List ℕ) (content : Content) (fail : DocFail)
    → HidesAt s offset raw (own_text content) fail → HasFault s kind cursor (element offset name raw content) fail
text_fault s kind cursor offset name raw content fail h = inr (inl h)

-- ---- elements that are passed over

-- no child of a kind is known
abbrev pub KnowsNone : Setting → Kind → Type 0
KnowsNone s kind = (name : List ℕ) → child_kind s.form kind name ≡ unknown_kind

mutual
  pub unknown_told : (s : Setting) (e : Element) (cursor : Cursor)
      → Answering (first_cut_in e) (HasFault s unknown_kind cursor e) (λ x. x.1 ≡ past_element s.form unknown_kind cursor e) (read_element s e cursor)
  unknown_told s (element offset name raw content) cursor =
      and_ending (first_cut content) (HasFault s unknown_kind cursor (element offset name raw content)) (λ c. c ≡ past_children s.form unknown_kind cursor content)
      (λ x. x.1 ≡ past_text raw (own_text content) (past_children s.form unknown_kind cursor content)) (pass_over s content cursor)
      (λ later. text_at_end s offset raw (own_text content) later)
      (with_cause (first_cut content) (HasFaultIn s unknown_kind false cursor content) (λ c. c ≡ past_children s.form unknown_kind cursor content)
      (HasFault s unknown_kind cursor (element offset name raw content)) (λ fail h. inl h) (pass_over s content cursor) (passed_told s unknown_kind (λ n. refl) false content cursor))
      (λ later is. ends_as (text_at_end s offset raw (own_text content) later) (end_says_at s offset raw (own_text content) later (past_children s.form unknown_kind cursor content) is))
    where
      ends_as : (r : Result (ElementText × Cursor) DocFail) → Ending (HidesAt s offset raw (own_text content)) (SaysAtEnd s (past_children s.form unknown_kind cursor content) raw (own_text content)) r
          → Ending (HasFault s unknown_kind cursor (element offset name raw content)) (λ x. x.1 ≡ past_text raw (own_text content) (past_children s.form unknown_kind cursor content)) r
      ends_as (Ok x) h = h.1
      ends_as (Err fail) h = inr (inl h)

  pub passed_told : (s : Setting) (kind : Kind) → KnowsNone s kind → (there : Bool) (content : Content) (cursor : Cursor)
      → Answering (first_cut content) (HasFaultIn s kind there cursor content) (λ c. c ≡ past_children s.form kind cursor content) (pass_over s content cursor)
  passed_told s kind none there (last text) cursor = (refl, refl)
  passed_told s kind none there (also text e more) cursor =
      and_siblings (first_cut_in e) (first_cut more) (HasFault s unknown_kind cursor e)
      (HasFaultIn s kind (there || may_stand_once kind (name_of e)) (past_element s.form (child_kind s.form kind (name_of e)) cursor e) more)
      (HasFaultIn s kind there cursor (also text e more)) (λ x. x.1 ≡ past_element s.form unknown_kind cursor e) (λ c. c ≡ past_children s.form kind cursor (also text e more))
      (λ fail h. inl (subst (λ (k : Kind). HasFault s k cursor e fail) (sym (none (name_of e))) h)) (λ fail h. inr (inr h))
      (read_element s e cursor) (λ x. pass_over s more x.1)
      (unknown_told s e cursor)
      (λ x is. subst (λ (c : Cursor). Answering (first_cut more) (HasFaultIn s kind (there || may_stand_once kind (name_of e)) c more) (λ d. d ≡ past_children s.form kind c more) (pass_over s more x.1))
      (is ∙ ap (λ (k : Kind). past_element s.form k cursor e) (sym (none (name_of e))))
      (passed_told s kind none (there || may_stand_once kind (name_of e)) more x.1))
  passed_told s kind none there (cut text answer) cursor = cut_answers (HasFaultIn s kind there cursor (cut text answer)) (λ c. c ≡ cursor) answer

-- an element of a kind of which no child is known: what it says
pub said_told : (s : Setting) (kind : Kind) → KnowsNone s kind → (offset : ℕ) (name raw : List ℕ) (content : Content) (cursor : Cursor)
    → Answering (first_cut content) (HasFault s kind cursor (element offset name raw content))
    (SaysAtEnd s (past_children s.form kind cursor content) raw (own_text content)) (read_element s (element offset name raw content) cursor)
said_told s kind none offset name raw content cursor =
    and_ending (first_cut content) (HasFault s kind cursor (element offset name raw content)) (λ c. c ≡ past_children s.form kind cursor content)
    (SaysAtEnd s (past_children s.form kind cursor content) raw (own_text content)) (pass_over s content cursor)
    (λ later. text_at_end s offset raw (own_text content) later)
    (with_cause (first_cut content) (HasFaultIn s kind false cursor content) (λ c. c ≡ past_children s.form kind cursor content)
    (HasFault s kind cursor (element offset name raw content)) (λ fail h. inl h) (pass_over s content cursor) (passed_told s kind none false content cursor))
    (λ later is. end_cause (HidesAt s offset raw (own_text content)) (HasFault s kind cursor (element offset name raw content))
    (SaysAtEnd s (past_children s.form kind cursor content) raw (own_text content)) (text_fault s kind cursor offset name raw content)
    (text_at_end s offset raw (own_text content) later) (end_says_at s offset raw (own_text content) later (past_children s.form kind cursor content) is))
