-- What reading owes to the first cut in what it reads: where that is a refusal of the markup, reading refuses too, and it
-- never answers with want of memory.
use Rattle.std.proofs.Common.{ℕ, ◌+◌, nat_lt, if◌then◌else◌, Bool, true, false, cond, Option, Some, None, List, [], ◌∷◌, ◌++◌, Result, Ok, Err, bytes_eq}
use Rattle.std.specs.Option.{option_or}
use Rattle.markup_grammar.specs.Answers.{Answer, start, words, stop, finish, form, depth}
use Rattle.markup_grammar.specs.Elements.{Element, Content, element, last, also, cut, first_cut, first_cut_in, own_text}
use Rattle.text_forms.specs.Texts.{base64_bytes, trim}
use Rattle.doc_forms.specs.Children.{Child, all_children, by_name, children_and_end, container, count_node, hidden_value, name_of, value, value_by}
use Rattle.doc_forms.specs.ElementTexts.{ElementText, Setting, element_text, is_hidden, is_protected, may_hide, pass_over, plain_text, read_element, read_rest, revealed_text, text_at_end}
use Rattle.outside_core.specs.Results.{◌>>=◌}
use Rattle.doc_forms.specs.Refusals.{checked_value, markup_refusal}
use Rattle.doc_forms.specs.declared.cursor.Cursor.{Cursor}
use Rattle.doc_forms.specs.declared.fails.DocFail.{DocFail}
use Rattle.doc_forms.specs.declared.fails.DocFail.TheVariants.{BadValue, NoMemory, TooMany}

-- a refusal that is not want of memory
abbrev pub IsDefined : DocFail → Type 0
IsDefined NoMemory = ⊥
IsDefined _ = Unit {0}

-- an answer, where this is the first cut in what is read
abbrev pub Respects : {A : Type 0} → Option Answer → Result A DocFail → Type 0
Respects None (Ok x) = Unit {0}
Respects None (Err e) = IsDefined e
Respects (Some (form n)) (Ok x) = ⊥
Respects (Some (form n)) (Err e) = IsDefined e
Respects (Some (depth n)) (Ok x) = ⊥
Respects (Some (depth n)) (Err e) = IsDefined e
Respects (Some _) r = Unit {0}

-- ---- steps

-- a defined refusal respects every cut
pub refusal_respects : (A : Type 0) (o : Option Answer) (e : DocFail) → IsDefined e → Respects {A = A} o (Err e)
refusal_respects A None e h = h
refusal_respects A (Some (form n)) e h = h
refusal_respects A (Some (depth n)) e h = h
refusal_respects A (Some (start p n r)) e h = tt
refusal_respects A (Some (words p r)) e h = tt
refusal_respects A (Some (stop p)) e h = tt
refusal_respects A (Some finish) e h = tt

-- one step, and the next of what follows
pub steps : {A B : Type 0} (a b : Option Answer) (r : Result A DocFail) (next : A → Result B DocFail)
    → Respects a r → ((x : A) → Respects b (next x)) → Respects (option_or a b) (r >>= next)
steps None b (Ok x) next h f = f x
steps None b (Err e) next h f = refusal_respects _ b e h
steps (Some (form n)) b (Ok x) next h f = absurd h
steps (Some (form n)) b (Err e) next h f = h
steps (Some (depth n)) b (Ok x) next h f = absurd h
steps (Some (depth n)) b (Err e) next h f = h
steps (Some (start p n w)) b r next h f = tt
steps (Some (words p w)) b r next h f = tt
steps (Some (stop p)) b r next h f = tt
steps (Some finish) b r next h f = tt

-- one step, and the next of no element
pub step_then : {A B : Type 0} (a : Option Answer) (r : Result A DocFail) (next : A → Result B DocFail)
    → Respects a r → ((x : A) → Respects None (next x)) → Respects a (r >>= next)
step_then None (Ok x) next h f = f x
step_then None (Err e) next h f = h
step_then (Some (form n)) (Ok x) next h f = absurd h
step_then (Some (form n)) (Err e) next h f = h
step_then (Some (depth n)) (Ok x) next h f = absurd h
step_then (Some (depth n)) (Err e) next h f = h
step_then (Some (start p n w)) r next h f = tt
step_then (Some (words p w)) r next h f = tt
step_then (Some (stop p)) r next h f = tt
step_then (Some finish) r next h f = tt

-- one of two steps
pub one_of : {A : Type 0} (o : Option Answer) (b : Bool) (r t : Result A DocFail) → Respects o r → Respects o t → Respects o (cond b r t)
one_of o true r t h k = h
one_of o false r t h k = k

pub value_respects : {A : Type 0} (offset : ℕ) (o : Option A) → Respects None (checked_value offset o)
value_respects offset (Some x) = tt
value_respects offset None = tt

pub cut_respects : (A : Type 0) (answer : Answer) → Respects {A = A} (Some answer) (markup_refusal answer)
cut_respects A (form n) = tt
cut_respects A (depth n) = tt
cut_respects A (start p n r) = tt
cut_respects A (words p r) = tt
cut_respects A (stop p) = tt
cut_respects A finish = tt

pub count_respects : (cursor : Cursor) → Respects None (count_node cursor)
count_respects cursor =
    one_of None (nat_lt cursor.nodes 262144) (Ok (record cursor { nodes = cursor.nodes + 1 })) (Err (TooMany 262145)) (tt {0}) (tt {0})

-- ---- texts

pub end_respects : (s : Setting) (offset : ℕ) (raw text : List ℕ) (cursor : Cursor) → Respects None (text_at_end s offset raw text cursor)
end_respects s offset raw text cursor =
    let revealed : Result (ElementText × Cursor) DocFail =
    checked_value offset (base64_bytes (trim text)) >>= λ bytes. Ok (revealed_text s.keystream bytes cursor) in
    let hidden : Result (ElementText × Cursor) DocFail = if may_hide s.form then revealed else Err (BadValue offset) in
    one_of None (is_protected raw) hidden (Ok (plain_text text, cursor))
    (one_of None (may_hide s.form) revealed (Err (BadValue offset))
    (step_then None (checked_value offset (base64_bytes (trim text))) (λ bytes. Ok (revealed_text s.keystream bytes cursor))
    (value_respects offset (base64_bytes (trim text))) (λ bytes. tt {0})) (tt {0}))
    (tt {0})

mutual
  pub element_respects : (s : Setting) (e : Element) (cursor : Cursor) → Respects (first_cut_in e) (read_element s e cursor)
  element_respects s (element offset name raw content) cursor =
      step_then (first_cut content) (pass_over s content cursor) (λ later. element_text s offset raw content later)
      (content_respects s content cursor) (λ later. end_respects s offset raw (own_text content) later)

  content_respects : (s : Setting) (content : Content) (cursor : Cursor) → Respects (first_cut content) (pass_over s content cursor)
  content_respects s (last text) cursor = tt
  content_respects s (also text e more) cursor =
      steps (first_cut_in e) (first_cut more) (read_element s e cursor) (λ x. pass_over s more x.1)
      (element_respects s e cursor) (λ x. content_respects s more x.1)
  content_respects s (cut text answer) cursor = cut_respects _ answer

rest_respects : (s : Setting) (offset : ℕ) (raw text : List ℕ) (content : Content) (cursor : Cursor)
    → Respects (first_cut content) (read_rest s offset raw text content cursor)
rest_respects s offset raw text content cursor =
    step_then (first_cut content) (pass_over s content cursor) (λ later. text_at_end s offset raw (text ++ own_text content) later)
    (content_respects s content cursor) (λ later. end_respects s offset raw (text ++ own_text content) later)

-- ---- children

-- a child that respects the first cut in its element
abbrev pub IsSound : {P : Type 0} → Child P → Type 0
IsSound {P} child = (p : P) (e : Element) (cursor : Cursor) → Respects (first_cut_in e) (child p e cursor)

-- each row does so
abbrev pub AreSound : {P : Type 0} → List (List ℕ × Child P) → Type 0
AreSound [] = Unit {0}
AreSound (row ∷ rows) = IsSound row.1 × AreSound rows

pub names_sound : {P : Type 0} (s : Setting) (rows : List (List ℕ × Child P)) → AreSound rows → IsSound (by_name s rows)
names_sound s [] h p e cursor =
    step_then (first_cut_in e) (read_element s e cursor) (λ x. Ok (p, x.1)) (element_respects s e cursor) (λ x. tt)
names_sound s (row ∷ rows) h p e cursor =
    one_of (first_cut_in e) (bytes_eq (name_of e) row.0) (row.1 p e cursor) (by_name s rows p e cursor)
    (h.0 p e cursor) (names_sound s rows h.1 p e cursor)

pub all_respect : {P : Type 0} (child : Child P) → IsSound child → (content : Content) (p : P) (cursor : Cursor)
    → Respects (first_cut content) (all_children child content p cursor)
all_respect child h (last text) p cursor = tt
all_respect child h (also text e more) p cursor =
    steps (first_cut_in e) (first_cut more) (child p e cursor) (λ x. all_children child more x.0 x.1)
    (h p e cursor) (λ x. all_respect child h more x.0 x.1)
all_respect child h (cut text answer) p cursor = cut_respects _ answer

pub within_respects : {P : Type 0} (s : Setting) (rows : List (List ℕ × Child P)) → AreSound rows
    → (offset : ℕ) (raw text : List ℕ) (content : Content) (p : P) (cursor : Cursor)
    → Respects (first_cut content) (children_and_end s (by_name s rows) offset raw text content p cursor)
within_respects s rows h offset raw text content p cursor =
    step_then (first_cut content) (all_children (by_name s rows) content p cursor) _
    (all_respect (by_name s rows) (names_sound s rows h) content p cursor)
    (λ x. step_then None (text_at_end s offset raw (text ++ own_text content) x.1) (λ y. Ok (x.0, y.1))
    (end_respects s offset raw (text ++ own_text content) x.1) (λ y. tt))

pub container_sound : {P Q : Type 0} (s : Setting) (rows : List (List ℕ × Child Q)) (first : Q) (keep : P → Q → P) → AreSound rows
    → IsSound (container s rows first keep)
container_sound s rows first keep h p (element offset name raw content) cursor =
    step_then (first_cut content) (children_and_end s (by_name s rows) offset raw [] content first cursor) (λ x. Ok (keep p x.0, x.1))
    (within_respects s rows h offset raw [] content first cursor) (λ x. tt)

by_respects : {A : Type 0} (s : Setting) (rule : ElementText → Option A) (offset : ℕ) (raw : List ℕ) (content : Content) (cursor : Cursor)
    → Respects (first_cut content) (value_by s rule offset raw content cursor)
by_respects s rule offset raw content cursor =
    step_then (first_cut content) (read_rest s offset raw [] content cursor) _ (rest_respects s offset raw [] content cursor)
    (λ x. step_then None (checked_value offset (rule x.0)) (λ v. Ok (v, x.1)) (value_respects offset (rule x.0)) (λ v. tt))

pub value_sound : {P A : Type 0} (s : Setting) (rule : ElementText → Option A) (keep : P → A → P) → IsSound (value s rule keep)
value_sound s rule keep p (element offset name raw content) cursor =
    step_then (first_cut content) (value_by s rule offset raw content cursor) (λ x. Ok (keep p x.0, x.1))
    (by_respects s rule offset raw content cursor) (λ x. tt)

pub hidden_sound : {P A : Type 0} (s : Setting) (rule : ElementText → Option A) (keep : P → A → Bool → P) → IsSound (hidden_value s rule keep)
hidden_sound s rule keep p (element offset name raw content) cursor =
    step_then (first_cut content) (value_by s rule offset raw content cursor) (λ x. Ok (keep p x.0 (is_hidden raw), x.1))
    (by_respects s rule offset raw content cursor) (λ x. tt)
