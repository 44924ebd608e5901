-- What reading keeps: if each row makes only good out of what is good, so does a container of these rows.
use Rattle.std.proofs.Common.{◌≡◌, ℕ, Bool, true, false, cond, Option, Some, None, List, [], ◌∷◌, Result, Ok, Err, IfOk, ap, sym, refl, ◌∙◌, bytes_eq}
use Rattle.std.specs.Str.{is_utf8}
use Rattle.markup_grammar.specs.Answers.{Answer, start, words, stop, finish, form, depth}
use Rattle.markup_grammar.specs.Elements.{Element, Content, element, last, also, cut}
use Rattle.doc_forms.specs.declared.cursor.Cursor.{Cursor}
use Rattle.doc_forms.specs.declared.fails.DocFail.{DocFail}
use Rattle.doc_forms.specs.Children.{Child, all_children, by_name, children_and_end, container, hidden_value, name_of, value, value_by}
use Rattle.doc_forms.specs.ElementTexts.{Setting, is_hidden, read_element, read_rest, text_at_end}
use Rattle.doc_forms.specs.Refusals.{checked_value, markup_refusal}
use Rattle.outside_core.specs.Results.{◌>>=◌}
use Rattle.doc_forms.specs.ElementTexts.{ElementText, text_bytes}
use Rattle.doc_forms.specs.Values.{text_in}

-- ---- steps

-- what holds of one step's value, and what the next makes of it
pub step_and_next : {A B : Type 0} (P : A → Type 0) (Q : B → Type 0) (r : Result A DocFail) (next : A → Result B DocFail)
    → IfOk r P → ((x : A) → P x → IfOk (next x) Q) → IfOk (r >>= next) Q
step_and_next P Q (Ok x) next p f = f x p
step_and_next P Q (Err e) next p f = tt

-- of a step nothing need be known
pub any_step : {A : Type 0} (r : Result A DocFail) → IfOk r (λ _. Unit {0})
any_step (Ok x) = tt
any_step (Err e) = tt

-- a step, whatever it gives, and the next
pub any_and_next : {A B : Type 0} (Q : B → Type 0) (r : Result A DocFail) (next : A → Result B DocFail)
    → ((x : A) → IfOk (next x) Q) → IfOk (r >>= next) Q
any_and_next Q r next f = step_and_next (λ _. Unit {0}) Q r next (any_step r) (λ x _. f x)

-- one of two steps
pub either_step : {A : Type 0} (Q : A → Type 0) (b : Bool) (r t : Result A DocFail) → IfOk r Q → IfOk t Q → IfOk (cond b r t) Q
either_step Q true r t p q = p
either_step Q false r t p q = q

-- the markup's refusal gives no value
pub refusal_keeps : {A : Type 0} (Q : A → Type 0) (answer : Answer) → IfOk (markup_refusal answer) Q
refusal_keeps Q (start offset name raw) = tt
refusal_keeps Q (words offset raw) = tt
refusal_keeps Q (stop offset) = tt
refusal_keeps Q finish = tt
refusal_keeps Q (form offset) = tt
refusal_keeps Q (depth offset) = tt

-- a value that there must be
pub value_checked : {A : Type 0} (Q : A → Type 0) (offset : ℕ) (o : Option A) → ((v : A) → o ≡ Some v → Q v) → IfOk (checked_value offset o) Q
value_checked Q offset None f = tt
value_checked Q offset (Some v) f = f v refl

-- ---- elements

-- what an element makes of something good is good
abbrev pub Keeps : {P : Type 0} → (P → Type 0) → Child P → Type 0
Keeps {P} Good child = (p : P) (e : Element) (cursor : Cursor) → Good p → IfOk (child p e cursor) (λ x. Good x.0)

-- each of some rows does so
abbrev pub Rows : {P : Type 0} → (P → Type 0) → List (List ℕ × Child P) → Type 0
Rows Good [] = Unit {0}
Rows Good (row ∷ rows) = Keeps Good row.1 × Rows Good rows

infixr 3 ◌&◌
-- one row does so, and those after it do
abbrev pub ◌&◌ : {A B : Type 0} → A → B → A × B
a & b = (a, b)

module _ {P : Type 0} (Good : P → Type 0) (s : Setting) where
  -- an element is read by the row of its name
  pub by_name_keeps : (rows : List (List ℕ × Child P)) → Rows Good rows → Keeps Good (by_name s rows)
  by_name_keeps [] kept p e cursor good = any_and_next (λ x. Good x.0) (read_element s e cursor) (λ x. Ok (p, x.1)) (λ x. good)
  by_name_keeps (row ∷ rows) kept p e cursor good =
      either_step (λ x. Good x.0) (bytes_eq (name_of e) row.0) (row.1 p e cursor) (by_name s rows p e cursor)
      (kept.0 p e cursor good) (by_name_keeps rows kept.1 p e cursor good)

  -- all elements, one after another
  pub all_keep : (child : Child P) → Keeps Good child → (content : Content) (p : P) (cursor : Cursor) → Good p
      → IfOk (all_children child content p cursor) (λ x. Good x.0)
  all_keep child kept (last text) p cursor good = good
  all_keep child kept (also text e more) p cursor good =
      step_and_next (λ x. Good x.0) (λ x. Good x.0) (child p e cursor) (λ x. all_children child more x.0 x.1)
      (kept p e cursor good) (λ x better. all_keep child kept more x.0 x.1 better)
  all_keep child kept (cut text answer) p cursor good = refusal_keeps (λ x. Good x.0) answer

  -- all that is in one element
  pub element_keeps : (rows : List (List ℕ × Child P)) → Rows Good rows → (offset : ℕ) (raw text : List ℕ) (content : Content) (p : P) (cursor : Cursor) → Good p
      → IfOk (children_and_end s (by_name s rows) offset raw text content p cursor) (λ x. Good x.0)
  element_keeps rows kept offset raw text content p cursor good =
      step_and_next (λ x. Good x.0) (λ x. Good x.0) (all_children (by_name s rows) content p cursor) _
      (all_keep (by_name s rows) (by_name_keeps rows kept) content p cursor good)
      (λ x better. any_and_next (λ y. Good y.0) (text_at_end s offset raw _ x.1) (λ y. Ok (x.0, y.1)) (λ y. better))

-- ---- kinds of rows

module _ {P Q : Type 0} (Good : P → Type 0) (Fine : Q → Type 0) (s : Setting) where
  -- a container
  pub container_keeps : (rows : List (List ℕ × Child Q)) (first : Q) (keep : P → Q → P)
      → Rows Fine rows → Fine first → ((p : P) (q : Q) → Good p → Fine q → Good (keep p q)) → Keeps Good (container s rows first keep)
  container_keeps rows first keep kept fine joins p (element offset name raw content) cursor good =
      step_and_next (λ x. Fine x.0) (λ x. Good x.0) (children_and_end s (by_name s rows) offset raw [] content first cursor) (λ x. Ok (keep p x.0, x.1))
      (element_keeps Fine s rows kept offset raw [] content first cursor fine) (λ x better. joins p x.0 good better)

  by_rule : (rule : ElementText → Option Q) → ((x : ElementText) (v : Q) → rule x ≡ Some v → Fine v) → (offset : ℕ) (raw : List ℕ) (content : Content) (cursor : Cursor)
      → IfOk (value_by s rule offset raw content cursor) (λ x. Fine x.0)
  by_rule rule fine offset raw content cursor =
      any_and_next (λ x. Fine x.0) (read_rest s offset raw [] content cursor) _ (λ x.
      step_and_next Fine (λ y. Fine y.0) (checked_value offset (rule x.0)) (λ v. Ok (v, x.1)) (value_checked Fine offset (rule x.0) (fine x.0)) (λ v f. f))

  -- a value
  pub value_keeps : (rule : ElementText → Option Q) (keep : P → Q → P)
      → ((x : ElementText) (v : Q) → rule x ≡ Some v → Fine v) → ((p : P) (v : Q) → Good p → Fine v → Good (keep p v)) → Keeps Good (value s rule keep)
  value_keeps rule keep fine joins p (element offset name raw content) cursor good =
      step_and_next (λ x. Fine x.0) (λ x. Good x.0) (value_by s rule offset raw content cursor) (λ x. Ok (keep p x.0, x.1))
      (by_rule rule fine offset raw content cursor) (λ x f. joins p x.0 good f)

  -- a value beside whether it is hidden
  pub hidden_value_keeps : (rule : ElementText → Option Q) (keep : P → Q → Bool → P)
      → ((x : ElementText) (v : Q) → rule x ≡ Some v → Fine v) → ((p : P) (v : Q) (h : Bool) → Good p → Fine v → Good (keep p v h)) → Keeps Good (hidden_value s rule keep)
  hidden_value_keeps rule keep fine joins p (element offset name raw content) cursor good =
      step_and_next (λ x. Fine x.0) (λ x. Good x.0) (value_by s rule offset raw content cursor) (λ x. Ok (keep p x.0 (is_hidden raw), x.1))
      (by_rule rule fine offset raw content cursor) (λ x f. joins p x.0 (is_hidden raw) good f)

text_by : (b : Bool) (bytes v : List ℕ) → is_utf8 bytes ≡ b → cond b (Some bytes) None ≡ Some v → is_utf8 v ≡ true
text_by true bytes v utf8 e = ap (λ (o : Option (List ℕ)). text_of o) (sym e) ∙ utf8
  where
    text_of : Option (List ℕ) → Bool
    text_of None = false
    text_of (Some t) = is_utf8 t
text_by false bytes v utf8 e = cc e

-- a text that is read is UTF-8
pub is_text : (x : ElementText) (v : List ℕ) → text_in x ≡ Some v → is_utf8 v ≡ true
is_text x v e = text_by (is_utf8 (text_bytes x)) (text_bytes x) v refl e

module _ {P : Type 0} (Good : P → Type 0) (s : Setting) where
  -- a text
  pub text_row : (keep : P → List ℕ → P) → ((p : P) (v : List ℕ) → Good p → is_utf8 v ≡ true → Good (keep p v)) → Keeps Good (value s text_in keep)
  text_row keep joins = value_keeps Good (λ v. is_utf8 v ≡ true) s text_in keep is_text joins

  -- a value that may be any
  pub any_row : {Q : Type 0} (rule : ElementText → Option Q) (keep : P → Q → P) → ((p : P) (v : Q) → Good p → Good (keep p v)) → Keeps Good (value s rule keep)
  any_row rule keep joins = value_keeps Good (λ _. Unit {0}) s rule keep (λ x v e. tt) (λ p v good _. joins p v good)

  -- a container of which nothing need be known
  pub any_container : {Q : Type 0} (rows : List (List ℕ × Child Q)) (first : Q) (keep : P → Q → P)
      → ((p : P) (v : Q) → Good p → Good (keep p v)) → Keeps Good (container s rows first keep)
  any_container rows first keep joins p (element offset name raw content) cursor good =
      any_and_next (λ x. Good x.0) (children_and_end s (by_name s rows) offset raw [] content first cursor) (λ x. Ok (keep p x.0, x.1)) (λ x. joins p x.0 good)
