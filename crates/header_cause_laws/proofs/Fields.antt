-- Fields one after another, as they are read.
use Rattle.std.proofs.Common.{◌≡◌, ◌≢◌, ◌⊎◌, ◌+◌, ◌<◌, ◌≤◌, ℕ, zero, suc, Bool, true, false, inl, inr, cond, List, [], ◌∷◌, ◌++◌, length, take, drop, slice_index, Result, Ok, Err, nat_lt, refl, sym, ap, subst, ◌∙◌, arith, length-drop}
use Rattle.std.specs.Prelude.{◌==◌}
use Rattle.std.specs.Int.{byte_len, from_le_bytes}
use Rattle.std.proofs.lemmas.Bool.{eqb-false, eqb-true, ltb-false, ltb-true}
use Rattle.std.proofs.lemmas.List.{length-take-le, take-append-drop}
use Rattle.outside_core.specs.Results.{◌>>=◌, repeat_steps}
use Rattle.vault_model.specs.declared.forms.FileVersion.{FileVersion}
use Rattle.kdbx_parts.specs.declared.fail.FrameFail.{FrameFail}
use Rattle.kdbx_parts.specs.declared.parts.LengthWidth.{LengthWidth}
use Rattle.kdbx_parts.specs.declared.parts.LengthWidth.TheVariants.{Four, Two}
use Rattle.kdbx_parts.specs.Parts.{Field, field_at, field_head_len, split_bytes, width_of}
use Rattle.kdbx_frame.specs.Fields.{FieldsRead, HeaderFields, end_missing, field_step, length_width, part_refusal, with_field}
use Rattle.header_cause_laws.specs.Headers.{IsField, LeadTo, NeedsField}
use Rattle.header_cause_laws.proofs.Steps.{given_by, refused_at, same_fail}

-- ---- cuts of bytes

-- A cut that is refused has too few bytes.
pub cut_short : (fail why : FrameFail) (n : ℕ) (rest : List ℕ) → split_bytes fail n rest ≡ Err why → (length rest < n) × (fail ≡ why)
cut_short fail why n rest h = by (nat_lt (length rest) n) refl h
  where
    by : (b : Bool) → nat_lt (length rest) n ≡ b → ◌≡◌ {A = Result (List ℕ × List ℕ) FrameFail} (cond b (Err fail) (Ok (take n rest, drop n rest))) (Err why) → (length rest < n) × (fail ≡ why)
    by true e g = (ltb-true (length rest) n e, same_fail fail why g)
    by false e g = cc g

-- What is cut has the bytes.
pub record IsCutInto (n : ℕ) (rest : List ℕ) (parts : List ℕ × List ℕ) : Type 0 where
  pub enough : n ≤ length rest
  pub first : parts.0 ≡ take n rest
  pub then : parts.1 ≡ drop n rest

pub cut_made : (fail : FrameFail) (n : ℕ) (rest : List ℕ) (parts : List ℕ × List ℕ) → split_bytes fail n rest ≡ Ok parts → IsCutInto n rest parts
cut_made fail n rest parts h = by (nat_lt (length rest) n) refl h
  where
    value : Result (List ℕ × List ℕ) FrameFail → List ℕ × List ℕ
    value (Ok x) = x
    value (Err e) = parts

    by : (b : Bool) → nat_lt (length rest) n ≡ b → ◌≡◌ {A = Result (List ℕ × List ℕ) FrameFail} (cond b (Err fail) (Ok (take n rest, drop n rest))) (Ok parts) → IsCutInto n rest parts
    by true e g = cc g
    by false e g = let enough = ltb-false (length rest) n e in record { enough = omega (arith, enough); first = ap (λ r. (value r).0) (sym g); then = ap (λ r. (value r).1) (sym g) }

-- ---- a field

-- the bytes of a head: an id, and a length
head_is : (width : LengthWidth) (rest : List ℕ) → field_head_len width ≤ length rest → take (field_head_len width) rest ≡ slice_index (take (field_head_len width) rest) 0 ∷ drop 1 (take (field_head_len width) rest)
head_is Two [] long = absurd (omega (arith, long))
head_is Two (b ∷ bs) long = refl
head_is Four [] long = absurd (omega (arith, long))
head_is Four (b ∷ bs) long = refl

len_len : (width : LengthWidth) (rest : List ℕ) → field_head_len width ≤ length rest → length (drop 1 (take (field_head_len width) rest)) ≡ byte_len (width_of width)
len_len Two rest long = let all = length-take-le (field_head_len Two) rest long in let less = length-drop 1 (take (field_head_len Two) rest) in omega (arith, all, less)
len_len Four rest long = let all = length-take-le (field_head_len Four) rest long in let less = length-drop 1 (take (field_head_len Four) rest) in omega (arith, all, less)

some_head : (width : LengthWidth) → 0 < field_head_len width
some_head Two = omega arith
some_head Four = omega arith

module _ (width : LengthWidth) (fail : ℕ → FrameFail) (rest : List ℕ) where
  abbrev head_len : ℕ
  head_len = field_head_len width

  -- A field that is refused has a part that is not whole.
  pub record IsUnread (why : FrameFail) : Type 0 where
    pub n : ℕ
    pub needs : NeedsField width rest n
    pub short : length rest < n
    pub is : fail n ≡ why

  pub unread : (why : FrameFail) → field_at width fail rest ≡ Err why → IsUnread why
  unfolding field_at
  unread why h = elim (refused_at (split_bytes (fail head_len) head_len rest) _ why h) [
    | inl a ↦ let c = cut_short (fail head_len) why head_len rest a in record { n = head_len; needs = inl refl; short = c.0; is = c.1 }
    | inr a ↦
        let head = cut_made (fail head_len) head_len rest a.0 a.1.0 in
        let n = from_le_bytes (width_of width) (drop 1 a.0.0) in
        elim (refused_at (split_bytes (fail (head_len + n)) n a.0.1) _ why a.1.1) [
          | inl b ↦
              let c = cut_short (fail (head_len + n)) why n a.0.1 b in
              let less = c.0 in
              let left = ap length head.then ∙ length-drop head_len rest in
              let enough = head.enough in
              record {
                n = head_len + n;
                needs = inr (a.0.0, a.0.1, sym (take-append-drop head_len rest) ∙ (λ i. sym head.first i ++ sym head.then i), ap length head.first ∙ length-take-le head_len rest head.enough, refl);
                short = omega (arith, less, left, enough);
                is = c.1;
              }
          | inr b ↦ cc b.1.1
        ]
  ]

  -- A field that is read is there.
  pub field_read : (field : Field) → field_at width fail rest ≡ Ok field → IsField width rest field × (length field.rest < length rest)
  unfolding field_at
  field_read field h =
      let a = given_by (split_bytes (fail head_len) head_len rest) _ field h in
      let head = cut_made (fail head_len) head_len rest a.0 a.1.0 in
      let n = from_le_bytes (width_of width) (drop 1 a.0.0) in
      let b = given_by (split_bytes (fail (head_len + n)) n a.0.1) _ field a.1.1 in
      let body = cut_made (fail (head_len + n)) n a.0.1 b.0 b.1.0 in
      let made : Field = record { id = slice_index a.0.0 0; content = b.0.0; rest = b.0.1 } in
      subst (λ (f : Field). IsField width rest f × (length f.rest < length rest)) (ap (field_in made) b.1.1)
      (is_made a.0 b.0 head body)
    where
      field_in : Field → Result Field FrameFail → Field
      field_in other (Ok f) = f
      field_in other (Err e) = other

      is_made : (a b : List ℕ × List ℕ) → IsCutInto head_len rest a → IsCutInto (from_le_bytes (width_of width) (drop 1 a.0)) a.1 b
          → IsField width rest (record { id = slice_index a.0 0; content = b.0; rest = b.1 }) × (length b.1 < length rest)
      is_made a b head body =
          let head_bytes : a.0 ≡ slice_index a.0 0 ∷ drop 1 a.0 = head.first ∙ head_is width rest head.enough ∙ ap (λ t. slice_index t 0 ∷ drop 1 t) (sym head.first) in
          let more : a.1 ≡ b.0 ++ b.1 = sym (take-append-drop (from_le_bytes (width_of width) (drop 1 a.0)) a.1) ∙ (λ i. sym body.first i ++ sym body.then i) in
          let whole : rest ≡ a.0 ++ a.1 = sym (take-append-drop head_len rest) ∙ (λ i. sym head.first i ++ sym head.then i) in
          let enough = head.enough in
          let some = some_head width in
          let left = ap length head.then ∙ length-drop head_len rest in
          let less = ap length body.then ∙ length-drop (from_le_bytes (width_of width) (drop 1 a.0)) a.1 in (
            record {
              len = drop 1 a.0;
              is = whole ∙ (λ i. head_bytes i ++ more i);
              width_is = ap (λ t. length (drop 1 t)) head.first ∙ len_len width rest head.enough;
              len_is = sym (ap length body.first ∙ length-take-le (from_le_bytes (width_of width) (drop 1 a.0)) a.1 body.enough);
            },
            omega (arith, enough, some, left, less),
          )

-- ---- all fields

module _ (version : FileVersion) (size whole : ℕ) where
  abbrev width : LengthWidth
  width = length_width version

  -- Why the fields are refused: a field that is not whole, or one that is refused.
  pub record IsPart (now : FieldsRead) (why : FrameFail) : Type 0 where
    pub n : ℕ
    pub needs : NeedsField width now.rest n
    pub short : length now.rest < n
    pub is : part_refusal size whole now n ≡ why

  pub record IsRefused (now : FieldsRead) (why : FrameFail) : Type 0 where
    pub field : Field
    pub is_field : IsField width now.rest field
    pub not_last : field.id ≢ 0
    pub refused : with_field version now.fields field ≡ Err why

  -- Fields lead to where one is refused.
  pub record IsLed (from : FieldsRead) (why : FrameFail) : Type 0 where
    pub fields : List Field
    pub now : FieldsRead
    pub lead : LeadTo version fields from now
    pub there : IsPart now why ⊎ IsRefused now why

  -- Fields lead to the last one.
  pub record IsRead (from to : FieldsRead) : Type 0 where
    pub fields : List Field
    pub before : List ℕ
    pub lead : LeadTo version fields from (record { fields = to.fields; rest = before })
    pub last : Field
    pub is_last : IsField width before last
    pub zero_id : last.id ≡ 0
    pub rest_is : last.rest ≡ to.rest

  abbrev stepped : FieldsRead → Field → Bool → Result (Bool × FieldsRead) FrameFail
  stepped read field last =
      cond last (Ok (true, record { fields = read.fields; rest = field.rest })) (with_field version read.fields field >>= λ more. Ok (false, record { fields = more; rest = field.rest }))

  abbrev state_in : (Bool × FieldsRead) → Result (Bool × FieldsRead) FrameFail → Bool × FieldsRead
  state_in other (Ok x) = x
  state_in other (Err e) = other

  -- a step that is refused
  step_refused : (from : FieldsRead) (why : FrameFail) → field_step version size whole from ≡ Err why → IsPart from why ⊎ IsRefused from why
  unfolding field_step
  step_refused from why h = elim (refused_at (field_at width (part_refusal size whole from) from.rest) (λ f. stepped from f (f.id == 0)) why h) [
    | inl a ↦ let u = unread width (part_refusal size whole from) from.rest why a in inl (record { n = u.n; needs = u.needs; short = u.short; is = u.is })
    | inr a ↦ by (a.0) (field_read width (part_refusal size whole from) from.rest a.0 a.1.0).0 (a.0.id == 0) refl a.1.1
  ]
    where
      by : (f : Field) → IsField width from.rest f → (b : Bool) → (f.id == 0) ≡ b
          → stepped from f b ≡ Err why → IsPart from why ⊎ IsRefused from why
      by f is true e g = cc g
      by f is false e g = elim (refused_at (with_field version from.fields f) _ why g) [
        | inl c ↦ inr (record { field = f; is_field = is; not_last = eqb-false f.id 0 e; refused = c })
        | inr c ↦ cc c.1.1
      ]

  -- What a step leaves: the end after field 0, or more fields after one that is not.
  record IsStep (from : FieldsRead) (x : Bool × FieldsRead) : Type 0 where
    field : Field
    is_field : IsField width from.rest field
    less : length x.1.rest < length from.rest
    rest_is : x.1.rest ≡ field.rest
    what : ((x.0 ≡ true) × (field.id ≡ 0) × (x.1.fields ≡ from.fields)) ⊎ ((x.0 ≡ false) × (field.id ≢ 0) × (with_field version from.fields field ≡ Ok x.1.fields))

  step_made : (from : FieldsRead) (x : Bool × FieldsRead) → field_step version size whole from ≡ Ok x → IsStep from x
  unfolding field_step
  step_made from x h =
      let a = given_by (field_at width (part_refusal size whole from) from.rest) (λ f. stepped from f (f.id == 0)) x h in
      let f = field_read width (part_refusal size whole from) from.rest a.0 a.1.0 in
      by a.0 f.0 f.1 (a.0.id == 0) refl a.1.1
    where
      made : (f : Field) → IsField width from.rest f → length f.rest < length from.rest → (b : Bool) (s : HeaderFields)
          → (((b ≡ true) × (f.id ≡ 0) × (s ≡ from.fields)) ⊎ ((b ≡ false) × (f.id ≢ 0) × (with_field version from.fields f ≡ Ok s))) → ◌≡◌ {A = Result (Bool × FieldsRead) FrameFail} (Ok (b, record { fields = s; rest = f.rest })) (Ok x) → IsStep from x
      made f is less b s what g = subst (IsStep from) (ap (state_in x) g) (record { field = f; is_field = is; less = less; rest_is = refl; what = what })

      by : (f : Field) → IsField width from.rest f → length f.rest < length from.rest → (b : Bool) → (f.id == 0) ≡ b
          → stepped from f b ≡ Ok x → IsStep from x
      by f is less true e g = made f is less true from.fields (inl (refl, eqb-true f.id 0 e, refl)) g
      by f is less false e g =
          let c = given_by (with_field version from.fields f) _ x g in
          made f is less false c.0 (inr (refl, eqb-false f.id 0 e, c.1.0)) c.1.1

  abbrev step : FieldsRead → Result (Bool × FieldsRead) FrameFail
  step = field_step version size whole

  abbrev out : FieldsRead → FrameFail
  out = end_missing version size whole

  -- a field more before others
  ahead : (from : FieldsRead) (x : Bool × FieldsRead) (s : IsStep from x) → s.field.id ≢ 0 → with_field version from.fields s.field ≡ Ok x.1.fields → (fs : List Field) (to : FieldsRead) → LeadTo version fs x.1 to → LeadTo version (s.field ∷ fs) from to
  ahead from x s other says fs to lead =
      (x.1.fields, s.is_field, other, says, subst (λ (r : List ℕ). LeadTo version fs (record { fields = x.1.fields; rest = r }) to) s.rest_is lead)

  pub led : (n : ℕ) (from : FieldsRead) (why : FrameFail) → length from.rest ≤ n → repeat_steps step out n from ≡ Err why → IsLed from why
  unfolding repeat_steps
  led zero from why less h =
      record { fields = []; now = from; lead = refl; there = inl (record { n = field_head_len width; needs = inl refl; short = none (some_head width); is = same_fail (out from) why h }) }
    where
      none : 0 < field_head_len width → length from.rest < field_head_len width
      none some = omega (arith, less, some)
  led (suc n) from why less h = elim (refused_at (step from) _ why h) [
    | inl a ↦ record { fields = []; now = from; lead = refl; there = step_refused from why a }
    | inr a ↦ by (λ x. led n x why) a.0 (step_made from a.0 a.1.0) a.1.1
  ]
    where
      by : ((x : FieldsRead) → length x.rest ≤ n → repeat_steps step out n x ≡ Err why → IsLed x why) → (x : Bool × FieldsRead) → IsStep from x → cond x.0 (Ok x.1) (repeat_steps step out n x.1) ≡ Err why → IsLed from why
      by later x s g = elim s.what [
        | inl w ↦ cc (sym (ap (λ b. cond b (Ok x.1) (repeat_steps step out n x.1)) w.0) ∙ g)
        | inr w ↦
            let shorter = s.less in
            let rest = later x.1 (omega (arith, shorter, less)) (sym (ap (λ b. cond b (Ok x.1) (repeat_steps step out n x.1)) w.0) ∙ g) in
            record { fields = s.field ∷ rest.fields; now = rest.now; lead = ahead from x s w.1 w.2 rest.fields rest.now rest.lead; there = rest.there }
      ]

  abbrev read_in : FieldsRead → Result FieldsRead FrameFail → FieldsRead
  read_in other (Ok r) = r
  read_in other (Err e) = other

  pub read_all : (n : ℕ) (from to : FieldsRead) → repeat_steps step out n from ≡ Ok to → IsRead from to
  unfolding repeat_steps
  read_all zero from to h = cc h
  read_all (suc n) from to h = let a = given_by (step from) _ to h in by (λ x. read_all n x to) a.0 (step_made from a.0 a.1.0) a.1.1
    where
      by : ((x : FieldsRead) → repeat_steps step out n x ≡ Ok to → IsRead x to) → (x : Bool × FieldsRead) → IsStep from x → cond x.0 (Ok x.1) (repeat_steps step out n x.1) ≡ Ok to → IsRead from to
      by later x s g = elim s.what [
        | inl w ↦
            let same : x.1 ≡ to = ap (read_in to) (sym (ap (λ b. cond b (Ok x.1) (repeat_steps step out n x.1)) w.0) ∙ g) in
            record {
              fields = [];
              before = from.rest;
              lead = λ i. record { fields = (sym w.2 ∙ ap (λ (r : FieldsRead). r.fields) same) i; rest = from.rest };
              last = s.field;
              is_last = s.is_field;
              zero_id = w.1;
              rest_is = sym s.rest_is ∙ ap (λ (r : FieldsRead). r.rest) same;
            }
        | inr w ↦
            let rest = later x.1 (sym (ap (λ b. cond b (Ok x.1) (repeat_steps step out n x.1)) w.0) ∙ g) in
            record {
              fields = s.field ∷ rest.fields;
              before = rest.before;
              lead = ahead from x s w.1 w.2 rest.fields (record { fields = to.fields; rest = rest.before }) rest.lead;
              last = rest.last;
              is_last = rest.is_last;
              zero_id = rest.zero_id;
              rest_is = rest.rest_is;
            }
      ]
