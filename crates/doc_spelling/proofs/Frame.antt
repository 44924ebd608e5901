-- What it means that a written element is read, and how this follows for elements side by side, for
-- containers, and for values.
use Rattle.std.proofs.Common.{◌≡◌, ℕ, ◌+◌, ◌≤◌, Bool, true, false, cond, Option, Some, List, [], ◌∷◌, ◌++◌, Result, Ok, Err, length, ap, sym, refl, ◌∙◌, ap₂, arith, bytes_eq}
use Rattle.std.specs.Str.{IsUtf8}
use Rattle.markup_grammar.proofs.RoundTrip.{round_trip_lem}
use Rattle.markup_grammar.specs.Attributes.{attributes_from, last_named}
use Rattle.markup_grammar.specs.Elements as told
use Rattle.markup_grammar.specs.Elements.{own_text}
use Rattle.markup_grammar.specs.Escapes.{unescaped, unescaped_from, escaped, escaped_byte}
use Rattle.markup_grammar.specs.Tree.{spelled, start_tag}
use Rattle.markup_grammar.specs.TreeElements.{element_at, content_at}
use Rattle.markup_grammar.specs.Bytes.{is_space}
use Rattle.base64.specs.Engines.{standard}
use Rattle.base64.specs.GeneralPurpose.{encode_of, IsBytes}
use Rattle.stream_core.specs.Stream.{xor_stream}
use Rattle.stream_core.specs.InnerStream.{Keystream, keystream_byte}
use Rattle.doc_forms.specs.declared.cursor.Cursor.{Cursor}
use Rattle.doc_forms.specs.declared.fails.DocFail.{DocFail}
use Rattle.doc_forms.specs.ElementTexts.{Setting, is_protected, is_hidden, may_hide, revealed_text, text_at_end, read_rest}
use Rattle.doc_forms.specs.Children.{Child, unknown_child, name_of, by_name, all_children, value_by, value, hidden_value, children_and_end, container}
use Rattle.outside_core.specs.Results.{◌>>=◌}
use Rattle.doc_forms.specs.Refusals.{checked_value}
use Rattle.doc_forms.specs.declared.fails.DocFail.TheVariants.{BadValue}
use Rattle.doc_spelling.proofs.PlainCodes.{coded_plain}
use Rattle.doc_spelling.proofs.Goods.{Each}
use Rattle.doc_spelling.proofs.ValueTexts.{Says, stream_bytes, decoded_back, xored_bytes}
use Rattle.stream_core.proofs.StreamLemmas.{length-xored, xored-xored}
use Rattle.doc_forms.specs.ElementTexts.{ElementText, plain_text, hidden_bytes}
use Rattle.doc_forms.specs.TextForms.Texts.{base64_bytes, trim}
use Rattle.doc_spelling.specs.Pieces.{Piece, leaf, secret, box, Pieces, none, beside, ◌▹▹◌, attributes_text, protected_attribute, hidden_text, in_memory_attribute, hidden_len, hidden_len_all, element_of, content_of}

-- ---- how much has been read

-- after so many more bytes of the stream, and so many more nodes
abbrev pub cursor_after : Cursor → ℕ → ℕ → Cursor
cursor_after c h n = record { offset = c.offset + h; nodes = c.nodes + n }

cursor_same : (a b d e : ℕ) → a ≡ b → d ≡ e → (let x : Cursor = record { offset = a; nodes = d } in x) ≡ record { offset = b; nodes = e }
cursor_same a b d e p q = cc

pub cursor_same_place : (c : Cursor) → cursor_after c 0 0 ≡ c
cursor_same_place c = cursor_same (c.offset + 0) c.offset (c.nodes + 0) c.nodes (omega arith) (omega arith)

pub cursor_twice : (c : Cursor) (h n k m : ℕ) → cursor_after (cursor_after c h n) k m ≡ cursor_after c (h + k) (n + m)
cursor_twice c h n k m = cursor_same _ _ _ _ (omega arith) (omega arith)

-- ---- what it means

abbrev mutual
  -- all texts in it are UTF-8, and what is hidden is bytes
  pub HasTexts : Piece → Type 0
  HasTexts (leaf name attrs text) = Each (λ a. IsUtf8 a.1) attrs × IsUtf8 text
  HasTexts (secret name attrs bytes) = Each (λ a. IsUtf8 a.1) attrs × IsBytes bytes
  HasTexts (box name pieces) = HaveTexts pieces

  pub HaveTexts : Pieces → Type 0
  HaveTexts none = Unit {0}
  HaveTexts (beside x xs) = HasTexts x × HaveTexts xs

-- a view that hides nothing
abbrev pub identity : {A : Type 0} → A → A
identity x = x

-- An element is read wherever it begins and whatever is known before: it changes what is seen of that by f, and holds n nodes.
pub record Reads {P V : Type 0} (s : Setting) (view : P → V) (child : Child P) (piece : Piece) (f : V → V) (n : ℕ) : Type 0 where
  pub texts : HasTexts piece
  pub read : (place : ℕ) (p : P) (c : Cursor) → c.nodes + n ≤ 262144
      → (new : P) × (child p (element_at place (element_of s.keystream c.offset piece)) c ≡ Ok (new, cursor_after c (hidden_len piece) n)) × (view new ≡ f (view p))

-- The same of elements side by side.
pub record ReadsAll {P V : Type 0} (s : Setting) (view : P → V) (child : Child P) (pieces : Pieces) (f : V → V) (n : ℕ) : Type 0 where
  pub texts : HaveTexts pieces
  pub read : (place : ℕ) (p : P) (c : Cursor) → c.nodes + n ≤ 262144
      → (new : P) × (all_children child (content_at place (content_of s.keystream c.offset pieces)) p c ≡ Ok (new, cursor_after c (hidden_len_all pieces) n)) × (view new ≡ f (view p))

infixr 5 ◌▸◌
module _ {P V : Type 0} {s : Setting} {view : P → V} where
  pub reads_none : {child : Child P} → ReadsAll s view child none (λ v. v) 0
  reads_none = record { texts = tt; read = λ place p c room. (p, ap (λ (d : Cursor). Ok (p, d)) (sym (cursor_same_place c)), refl) }

  pub ◌▸◌ : {child : Child P} {x : Piece} {xs : Pieces} {f g : V → V} {n m : ℕ}
      → Reads s view child x f n → ReadsAll s view child xs g m → ReadsAll s view child (beside x xs) (λ v. g (f v)) (n + m)
  ◌▸◌ {child} {x} {xs} {f} {g} {n} {m} rx rxs = record {
    texts = (rx.texts, rxs.texts);
    read = λ place p c room.
        let e = element_of s.keystream c.offset x in
        let a = rx.read (place + length {A = ℕ} []) p c (omega arith) in
        let b = rxs.read (place + length {A = ℕ} [] + length (spelled e)) a.0 (cursor_after c (hidden_len x) n) (omega arith) in (
          b.0,
          ap (λ (r : Result (P × Cursor) DocFail). r >>= λ y. all_children child (content_at (place + length {A = ℕ} [] + length (spelled e)) (content_of s.keystream (c.offset + hidden_len x) xs)) y.0 y.1) a.1
              ∙ (b.1 ∙ ap (λ (d : Cursor). Ok (b.0, d)) (cursor_twice c (hidden_len x) n (hidden_len_all xs) m)),
          b.2 ∙ ap g a.2,
        );
  }

  -- the same, of another function and another number
  pub reads_alike : {child : Child P} {x : Piece} {f : V → V} {n : ℕ} (g : V → V) (m : ℕ) → ((v : V) → f v ≡ g v) → n ≡ m → Reads s view child x f n → Reads s view child x g m
  reads_alike {x = x} g m e k r = record {
    texts = r.texts;
    read = λ place p c room.
        let a = r.read place p c (omega arith) in
        (a.0, a.1 ∙ ap (λ (l : ℕ). Ok (a.0, cursor_after c (hidden_len x) l)) k, a.2 ∙ e (view p));
  }

  pub all_alike : {child : Child P} {xs : Pieces} {f : V → V} {n : ℕ} (g : V → V) (m : ℕ) → ((v : V) → f v ≡ g v) → n ≡ m → ReadsAll s view child xs f n → ReadsAll s view child xs g m
  all_alike {xs = xs} g m e k r = record {
    texts = r.texts;
    read = λ place p c room.
        let a = r.read place p c (omega arith) in
        (a.0, a.1 ∙ ap (λ (l : ℕ). Ok (a.0, cursor_after c (hidden_len_all xs) l)) k, a.2 ∙ e (view p));
  }

-- ---- elements before others

joined_texts : (xs ys : Pieces) → HaveTexts xs → HaveTexts ys → HaveTexts (xs ▹▹ ys)
joined_texts none ys h k = k
joined_texts (beside x xs) ys h k = (h.0, joined_texts xs ys h.1 k)

joined_len : (xs ys : Pieces) → hidden_len_all xs + hidden_len_all ys ≡ hidden_len_all (xs ▹▹ ys)
joined_len none ys = omega arith
joined_len (beside x xs) ys = omega (arith, joined_len xs ys)

-- the offset of what comes after some elements
end_place : Keystream → ℕ → ℕ → Pieces → ℕ
end_place k o place none = place
end_place k o place (beside x xs) = end_place k (o + hidden_len x) (place + length {A = ℕ} [] + length (spelled (element_of k o x))) xs

then_both : {A B C : Type 0} (r : Result A DocFail) (f : A → Result B DocFail) (g : B → Result C DocFail) (h : A → Result C DocFail)
    → ((x : A) → h x ≡ (f x >>= g)) → (r >>= h) ≡ ((r >>= f) >>= g)
then_both (Ok x) f g h e = e x
then_both (Err x) f g h e = refl

joined_children : {P : Type 0} (child : Child P) (xs ys : Pieces) (k : Keystream) (o place : ℕ) (p : P) (c : Cursor)
    → all_children child (content_at place (content_of k o (xs ▹▹ ys))) p c
    ≡ (all_children child (content_at place (content_of k o xs)) p c
    >>= λ x. all_children child (content_at (end_place k o place xs) (content_of k (o + hidden_len_all xs) ys)) x.0 x.1)
unfolding end_place
joined_children child none ys k o place p c =
    ap (λ n. all_children child (content_at place (content_of k n ys)) p c) (let e : o ≡ o + 0 = omega arith in e)
joined_children {P} child (beside x xs) ys k o place p c =
    let next = place + length {A = ℕ} [] + length (spelled (element_of k o x)) in
    let later = o + hidden_len x in
    then_both (child p (element_at (place + length {A = ℕ} []) (element_of k o x)) c)
    (λ (y : P × Cursor). all_children child (content_at next (content_of k later xs)) y.0 y.1)
    (λ (y : P × Cursor). all_children child (content_at (end_place k later next xs) (content_of k (o + (hidden_len x + hidden_len_all xs)) ys)) y.0 y.1)
    (λ (y : P × Cursor). all_children child (content_at next (content_of k later (xs ▹▹ ys))) y.0 y.1)
    (λ y. joined_children child xs ys k later next y.0 y.1
    ∙ ap (λ n. all_children child (content_at next (content_of k later xs)) y.0 y.1 >>= λ (z : P × Cursor). all_children child (content_at (end_place k later next xs) (content_of k n ys)) z.0 z.1)
    (let e : later + hidden_len_all xs ≡ o + (hidden_len x + hidden_len_all xs) = omega arith in e))

infixr 5 ◌▸▸◌
module _ {P V : Type 0} {s : Setting} {view : P → V} where
  pub ◌▸▸◌ : {child : Child P} {xs ys : Pieces} {f g : V → V} {n m : ℕ}
      → ReadsAll s view child xs f n → ReadsAll s view child ys g m → ReadsAll s view child (xs ▹▹ ys) (λ v. g (f v)) (n + m)
  ◌▸▸◌ {child} {xs} {ys} {f} {g} {n} {m} rxs rys = record {
    texts = joined_texts xs ys rxs.texts rys.texts;
    read = λ place p c room.
        let a = rxs.read place p c (omega arith) in
        let end = end_place s.keystream c.offset place xs in
        let b = rys.read end a.0 (cursor_after c (hidden_len_all xs) n) (omega arith) in (
          b.0,
          joined_children child xs ys s.keystream c.offset place p c
              ∙ (ap (λ (r : Result (P × Cursor) DocFail). r >>= λ y. all_children child (content_at end (content_of s.keystream (c.offset + hidden_len_all xs) ys)) y.0 y.1) a.1
              ∙ (b.1 ∙ ap (λ (d : Cursor). Ok (b.0, d)) (cursor_twice c (hidden_len_all xs) n (hidden_len_all ys) m ∙ ap (λ h. cursor_after c h (n + m)) (joined_len xs ys)))),
          b.2 ∙ ap g a.2,
        );
  }

-- ---- rows

-- how an element of this name is read
abbrev pub row_of : {P : Type 0} → List ℕ → List (List ℕ × Child P) → Child P → Child P
row_of name [] default = default
row_of name (row ∷ rows) default = cond (bytes_eq name row.0) row.1 (row_of name rows default)

abbrev pub piece_name : Piece → List ℕ
piece_name (leaf name attrs text) = name
piece_name (secret name attrs bytes) = name
piece_name (box name pieces) = name

chosen : {P : Type 0} (b : Bool) (row other : Child P) (r : Result (P × Cursor) DocFail) (p : P) (e : told.Element) (c : Cursor)
    → r ≡ other p e c → cond b (row p e c) r ≡ cond b row other p e c
chosen true row other r p e c h = refl
chosen false row other r p e c h = h

pub by_name_is : {P : Type 0} (s : Setting) (rows : List (List ℕ × Child P)) (p : P) (e : told.Element) (c : Cursor)
    → by_name s rows p e c ≡ row_of (name_of e) rows (unknown_child s) p e c
by_name_is s [] p e c = refl
by_name_is s (row ∷ rows) p e c =
    chosen (bytes_eq (name_of e) row.0) row.1 (row_of (name_of e) rows (unknown_child s)) (by_name s rows p e c) p e c (by_name_is s rows p e c)

pub name_is : (place : ℕ) (k : Keystream) (p : ℕ) (piece : Piece) → name_of (element_at place (element_of k p piece)) ≡ piece_name piece
name_is place k p (leaf name attrs text) = refl
name_is place k p (secret name attrs bytes) = refl
name_is place k p (box name pieces) = refl

-- an element is read where the row of its name reads it
pub by_row : {P V : Type 0} {s : Setting} {view : P → V} (rows : List (List ℕ × Child P)) {x : Piece} {f : V → V} {n : ℕ}
    → Reads s view (row_of (piece_name x) rows (unknown_child s)) x f n → Reads s view (by_name s rows) x f n
by_row {s = s} rows {x} r = record {
  texts = r.texts;
  read = λ place p c room.
      let a = r.read place p c room in
      let e = element_at place (element_of s.keystream c.offset x) in
      (a.0, by_name_is s rows p e c ∙ (ap (λ (name : List ℕ). row_of name rows (unknown_child s) p e c) (name_is place s.keystream c.offset x) ∙ a.1), a.2);
}

-- ---- the end of an element

pub protected_marks : (is_protected (attributes_text (protected_attribute ∷ [])) ≡ true) × (is_hidden (attributes_text (protected_attribute ∷ [])) ≡ true)
unfolding attributes_from last_named escaped_byte unescaped_from is_space
protected_marks = (refl, refl)

pub in_memory_marks : (is_protected (attributes_text (in_memory_attribute ∷ [])) ≡ false) × (is_hidden (attributes_text (in_memory_attribute ∷ [])) ≡ true)
unfolding attributes_from last_named escaped_byte unescaped_from is_space
in_memory_marks = (refl, refl)

pub no_protection : is_protected [] ≡ false
unfolding attributes_from last_named
no_protection = refl

pub no_hiding : is_hidden [] ≡ false
unfolding attributes_from last_named
no_hiding = refl

pub plain_end : (s : Setting) (place : ℕ) (raw text : List ℕ) (c : Cursor) → is_protected raw ≡ false → text_at_end s place raw text c ≡ Ok (plain_text text, c)
plain_end s place raw text c e = rw e refl

-- elements side by side have no text between them
pub no_text : (pieces : Pieces) (place : ℕ) (k : Keystream) (p : ℕ) → own_text (content_at place (content_of k p pieces)) ≡ []
unfolding unescaped_from
no_text none place k p = refl
no_text (beside x xs) place k p = no_text xs (place + 0 + length (spelled (element_of k p x))) k (p + hidden_len x)

-- all that is in one element, and its end
abbrev pub ReadsChildren : {P V : Type 0} → Setting → (P → V) → Child P → List ℕ → Pieces → (V → V) → ℕ → Type 0
ReadsChildren {P} s view child name pieces f n = (place begins : ℕ) (p : P) (c : Cursor) → c.nodes + n ≤ 262144
    → (new : P) × (children_and_end s child begins [] [] (content_at place (content_of s.keystream c.offset pieces)) p c ≡ Ok (new, cursor_after c (hidden_len_all pieces) n)) × (view new ≡ f (view p))

pub children_read : {P V : Type 0} (s : Setting) (view : P → V) (child : Child P) (name : List ℕ) (pieces : Pieces) (f : V → V) (n : ℕ)
    → ReadsAll s view child pieces f n → ReadsChildren s view child name pieces f n
children_read {P} s view child name pieces f n r place begins p c room =
    let a = r.read place p c room in
    let content = content_at place (content_of s.keystream c.offset pieces) in (
      a.0,
      ap (λ (r : Result (P × Cursor) DocFail). r >>= λ x. (text_at_end s begins [] ([] ++ own_text content) x.1 >>= λ y. Ok (x.0, y.1))) a.1
          ∙ ap (λ (r : Result (ElementText × Cursor) DocFail). r >>= λ y. Ok (a.0, y.1)) (plain_end s begins [] ([] ++ own_text content) (cursor_after c (hidden_len_all pieces) n) no_protection),
      a.2,
    )

-- a container is read where its children are
pub container_reads : {P V Q W : Type 0} {s : Setting} {view : P → V} {seen : Q → W} (rows : List (List ℕ × Child Q)) {pieces : Pieces} {f : W → W} {n : ℕ}
    (first : Q) (keep : P → Q → P) (name : List ℕ) (g : V → V)
    → ((p : P) (q : Q) → seen q ≡ f (seen first) → view (keep p q) ≡ g (view p))
    → ReadsAll s seen (by_name s rows) pieces f n
    → Reads s view (container s rows first keep) (box name pieces) g n
container_reads {Q = Q} {s = s} {view} {seen} rows {pieces} {f} {n} first keep name g kept r = record {
  texts = r.texts;
  read = λ place p c room.
      let a = children_read s seen (by_name s rows) name pieces f n r (place + length (start_tag name [])) place first c room in
      (keep p a.0, ap (λ (r : Result (Q × Cursor) DocFail). r >>= λ x. Ok (keep p x.0, x.1)) a.1, kept p a.0 a.2);
}

-- ---- values

-- a value is what the rule makes of the text
pub by_rule : {A : Type 0} (s : Setting) (rule : ElementText → Option A) (place : ℕ) (raw : List ℕ) (content : told.Content) (c d : Cursor) (said : ElementText) (v : A)
    → read_rest s place raw [] content c ≡ Ok (said, d) → rule said ≡ Some v → value_by s rule place raw content c ≡ Ok (v, d)
by_rule {A} s rule place raw content c d said v e f =
    ap (λ (r : Result (ElementText × Cursor) DocFail). r >>= λ x. (checked_value place (rule x.0) >>= λ v. Ok (v, x.1))) e
    ∙ ap (λ (o : Option A). checked_value place o >>= λ v. Ok (v, d)) f

-- a text is read as it was before it was escaped
pub text_rest : (s : Setting) (place : ℕ) (raw text : List ℕ) (c : Cursor) → is_protected raw ≡ false
    → read_rest s place raw [] (told.last (unescaped (escaped text))) c ≡ Ok (plain_text text, cursor_after c 0 0)
text_rest s place raw text c no_protection =
    plain_end s place raw (unescaped (escaped text)) c no_protection
    ∙ (ap (λ (t : List ℕ). Ok (plain_text t, c)) (round_trip_lem text) ∙ ap (λ (d : Cursor). Ok (plain_text text, d)) (sym (cursor_same_place c)))

-- hidden bytes are read as they were before they were hidden
pub secret_rest : (s : Setting) (place : ℕ) (raw bytes : List ℕ) (c : Cursor) → is_protected raw ≡ true → may_hide s.form ≡ true
    → IsBytes bytes
    → read_rest s place raw [] (told.last (unescaped (hidden_text s.keystream c.offset bytes))) c ≡ Ok (hidden_bytes bytes, cursor_after c (length bytes) 0)
secret_rest s place raw bytes c protected_marks may are_bytes =
    let given = xor_stream (keystream_byte s.keystream) c.offset bytes in
    let text = encode_of standard given in
    let are_given = xored_bytes (keystream_byte s.keystream) bytes c.offset (stream_bytes s.keystream) are_bytes in
    ap (λ (t : List ℕ). text_at_end s place raw t c) (ap unescaped (sym (coded_plain given are_given)) ∙ round_trip_lem text)
    ∙ (ap (λ (b : Bool). cond b (cond (may_hide s.form) (checked_value place (base64_bytes (trim text)) >>= λ bytes. Ok (revealed_text s.keystream bytes c)) (Err (BadValue place))) (Ok (plain_text text, c))) protected_marks
    ∙ (ap (λ (b : Bool). cond b (checked_value place (base64_bytes (trim text)) >>= λ bytes. Ok (revealed_text s.keystream bytes c)) (Err (BadValue place))) may
    ∙ (ap (λ (o : Option (List ℕ)). checked_value place o >>= λ bytes. Ok (revealed_text s.keystream bytes c)) (decoded_back given are_given)
    ∙ ap₂ (λ (b : List ℕ) (d : Cursor). Ok (hidden_bytes b, d)) (xored-xored (keystream_byte s.keystream) c.offset bytes)
    (cursor_same (c.offset + length given) (c.offset + length bytes) c.nodes (c.nodes + 0) (ap (λ n. c.offset + n) (length-xored (keystream_byte s.keystream) c.offset bytes)) (omega arith)))))

module _ {P V A : Type 0} (s : Setting) (view : P → V) (rule : ElementText → Option A) where
  pub text_value : (keep : P → A → P) (name : List ℕ) (text : List ℕ) (v : A) (g : V → V)
      → Says rule text v → ((p : P) → view (keep p v) ≡ g (view p)) → Reads s view (value s rule keep) (leaf name [] text) g 0
  text_value keep name text v g says kept = record {
    texts = (tt, says.0);
    read = λ place p c room. (
      keep p v,
      ap (λ (r : Result (A × Cursor) DocFail). r >>= λ x. Ok (keep p x.0, x.1)) (by_rule s rule place [] (told.last (unescaped (escaped text))) c (cursor_after c 0 0) (plain_text text) v (text_rest s place [] text c no_protection) says.1),
      kept p,
    );
  }

  pub text_hidden : (keep : P → A → Bool → P) (name : List ℕ) (attrs : List (List ℕ × List ℕ)) (text : List ℕ) (v : A) (h : Bool) (g : V → V)
      → Each (λ a. IsUtf8 a.1) attrs → is_protected (attributes_text attrs) ≡ false → is_hidden (attributes_text attrs) ≡ h
      → Says rule text v → ((p : P) → view (keep p v h) ≡ g (view p)) → Reads s view (hidden_value s rule keep) (leaf name attrs text) g 0
  text_hidden keep name attrs text v h g utf8 no_protection is says kept = record {
    texts = (utf8, says.0);
    read = λ place p c room. (
      keep p v h,
      ap (λ (r : Result (A × Cursor) DocFail). r >>= λ x. Ok (keep p x.0 (is_hidden (attributes_text attrs)), x.1)) (by_rule s rule place (attributes_text attrs) (told.last (unescaped (escaped text))) c (cursor_after c 0 0) (plain_text text) v (text_rest s place (attributes_text attrs) text c no_protection) says.1)
          ∙ ap (λ (b : Bool). Ok (keep p v b, cursor_after c 0 0)) is,
      kept p,
    );
  }

  pub secret_hidden : (keep : P → A → Bool → P) (name bytes : List ℕ) (v : A) (g : V → V)
      → may_hide s.form ≡ true → IsBytes bytes
      → rule (hidden_bytes bytes) ≡ Some v → ((p : P) → view (keep p v true) ≡ g (view p)) → Reads s view (hidden_value s rule keep) (secret name [] bytes) g 0
  secret_hidden keep name bytes v g may are_bytes says kept = record {
    texts = (tt, are_bytes);
    read = λ place p c room.
        let raw = attributes_text ([] ++ protected_attribute ∷ []) in (
          keep p v true,
          ap (λ (r : Result (A × Cursor) DocFail). r >>= λ x. Ok (keep p x.0 (is_hidden raw), x.1)) (by_rule s rule place raw (told.last (unescaped (hidden_text s.keystream c.offset bytes))) c (cursor_after c (length bytes) 0) (hidden_bytes bytes) v (secret_rest s place raw bytes c protected_marks.0 may are_bytes) says)
              ∙ ap (λ (b : Bool). Ok (keep p v b, cursor_after c (length bytes) 0)) protected_marks.1,
          kept p,
        );
  }
