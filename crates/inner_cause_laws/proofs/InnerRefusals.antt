-- Inner fields that are refused have the cause.
use Rattle.std.proofs.Common.{◌≡◌, ◌≢◌, ◌⊎◌, ◌<◌, ◌≤◌, ℕ, zero, suc, Bool, true, false, inl, inr, cond, List, [], ◌∷◌, length, is_some, Option, None, Some, Result, Ok, Err, refl, sym, ap, subst, arith}
use Rattle.std.specs.Prelude.{◌==◌}
use Rattle.std.proofs.lemmas.Bool.{eqb-false, eqb-true}
use Rattle.outside_core.specs.Results.{◌>>=◌, repeat_steps}
use Rattle.kdbx_parts.specs.declared.fail.FrameFail.{FrameFail}
use Rattle.kdbx_parts.specs.declared.fail.FrameFail.TheVariants.{FieldLength, FieldMissing, FieldTwice, Truncated}
use Rattle.kdbx_parts.specs.declared.parts.LengthWidth.TheVariants.{Four}
use Rattle.kdbx_parts.specs.Parts.{Field, field_at, field_head_len, required, unique, unique_of_length}
use Rattle.kdbx_inner.specs.Inner.{InnerRead, PartialInner, binary_of, inner_end_missing, inner_from, inner_of, inner_step, no_inner_fields, with_inner_field}
use Rattle.header_cause_laws.specs.Headers.{IsField}
use Rattle.header_cause_laws.proofs.Fields.{field_read, unread}
use Rattle.header_cause_laws.proofs.Steps.{given_by, refused_at, same_fail, which}
use Rattle.inner_cause_laws.specs.InnerCauses.{HasField, HasFields, HasNoField, InnerCause, InnerRefusalsHaveCauses, IsWrongLength, LeadTo, ReadsTo, WasThere}

-- fields, and then more of them
lead_on : (fs gs : List Field) (from mid to : InnerRead) → LeadTo fs from mid → LeadTo gs mid to → (hs : List Field) × LeadTo hs from to
lead_on [] gs from mid to first then = (gs, subst (λ (r : InnerRead). LeadTo gs r to) (sym first) then)
lead_on (f ∷ fs) gs from mid to first then =
    let rest = lead_on fs gs (record { fields = first.0; rest = f.rest }) mid to first.4 then in
    (f ∷ rest.0, (first.0, first.1, first.2, first.3, rest.1))

module _ (text : List ℕ) where
  abbrev whole : ℕ
  whole = length text

  abbrev short : ℕ → FrameFail
  short n = Truncated whole

  because : (e why : FrameFail) → e ≡ why → InnerCause e text → InnerCause why text
  because e why same cause = subst (λ (f : FrameFail). InnerCause f text) same cause

  -- one field more after those that were read
  more_read : (now : InnerRead) → ReadsTo text now → (f : Field) → IsField Four now.rest f → f.id ≢ 0 → (more : PartialInner) → with_inner_field now.fields f ≡ Ok more
      → ReadsTo text (record { fields = more; rest = f.rest })
  more_read now reads f is other more says =
      let start : InnerRead = record { fields = no_inner_fields; rest = text } in
      let end : InnerRead = record { fields = more; rest = f.rest } in
      let all = lead_on reads.fields (f ∷ []) start now end reads.lead (more, is, other, says, refl) in
      record { fields = all.0; lead = all.1 }

  -- ---- a field that is refused

  module _ (said : PartialInner) (f : Field) (has : HasField text said f) (why : FrameFail) where
    twice : (id : ℕ) → f.id ≡ id → WasThere id said → InnerCause (FieldTwice id) text
    twice id is there = record { said = said; field = f; has = has; id_is = sym is; twice = there }

    wrong : (id : ℕ) → f.id ≡ id → IsWrongLength id (length f.content) → InnerCause (FieldLength id (length f.content)) text
    wrong id is not = record { said = said; field = f; has = has; id_is = sym is; len_is = refl; wrong = not }

    in_number : f.id ≡ 1 → unique_of_length 1 4 (is_some said.stream_id) f.content ≡ Err why → InnerCause why text
    in_number is h = elim (which (is_some said.stream_id) _ _ _ h) [
      | inl a ↦ because (FieldTwice 1) why (same_fail (FieldTwice 1) why a.1) (twice 1 is (inl (refl, a.0)))
      | inr a ↦ elim (which (length f.content == 4) _ _ _ a.1) [
        | inl b ↦ cc b.1
        | inr b ↦
            because (FieldLength 1 (length f.content)) why (same_fail (FieldLength 1 (length f.content)) why b.1)
            (wrong 1 is (inl (refl, eqb-false (length f.content) 4 b.0)))
      ]
    ]

    in_key : f.id ≡ 2 → unique 2 (is_some said.stream_key) f.content ≡ Err why → InnerCause why text
    in_key is h = elim (which (is_some said.stream_key) _ _ _ h) [
      | inl a ↦ because (FieldTwice 2) why (same_fail (FieldTwice 2) why a.1) (twice 2 is (inr (refl, a.0)))
      | inr a ↦ cc a.1
    ]

    in_binary : f.id ≡ 3 → (content : List ℕ) → f.content ≡ content → binary_of content ≡ Err why → InnerCause why text
    in_binary is [] none h =
        because (FieldLength 3 0) why (same_fail (FieldLength 3 0) why h)
        (record { said = said; field = f; has = has; id_is = sym is; len_is = sym (ap length none); wrong = inr (refl, refl) })
    in_binary is (flags ∷ bytes) some h = cc h

    in_field : with_inner_field said f ≡ Err why → InnerCause why text
    unfolding with_inner_field
    in_field h = elim (which (f.id == 1) _ _ _ h) [
      | inl a ↦ elim (refused_at (unique_of_length 1 4 (is_some said.stream_id) f.content) _ why a.1) [ inl b ↦ in_number (eqb-true f.id 1 a.0) b | inr b ↦ cc b.1.1 ]
      | inr a ↦ elim (which (f.id == 2) _ _ _ a.1) [
        | inl b ↦ elim (refused_at (unique 2 (is_some said.stream_key) f.content) _ why b.1) [ inl c ↦ in_key (eqb-true f.id 2 b.0) c | inr c ↦ cc c.1.1 ]
        | inr b ↦ elim (which (f.id == 3) _ _ _ b.1) [
          | inl c ↦ elim (refused_at (binary_of f.content) _ why c.1) [ inl d ↦ in_binary (eqb-true f.id 3 c.0) f.content refl d | inr d ↦ cc d.1.1 ]
          | inr c ↦ cc c.1
        ]
      ]
    ]

  -- ---- one field after another

  abbrev stepped : InnerRead → Field → Bool → Result (Bool × InnerRead) FrameFail
  stepped read f last =
      cond last (Ok (true, record { fields = read.fields; rest = f.rest })) (with_inner_field read.fields f >>= λ more. Ok (false, record { fields = more; rest = f.rest }))

  step_refused : (now : InnerRead) → ReadsTo text now → (why : FrameFail) → inner_step whole now ≡ Err why → InnerCause why text
  unfolding inner_step
  step_refused now reads why h = elim (refused_at (field_at Four short now.rest) (λ f. stepped now f (f.id == 0)) why h) [
    | inl a ↦
        let u = unread Four short now.rest why a in
        because (Truncated whole) why u.is (record { len_is = refl; now = now; reads = reads; n = u.n; needs = u.needs; short = u.short })
    | inr a ↦ by a.0 (field_read Four short now.rest a.0 a.1.0).0 (a.0.id == 0) refl a.1.1
  ]
    where
      by : (f : Field) → IsField Four now.rest f → (b : Bool) → (f.id == 0) ≡ b → stepped now f b ≡ Err why → InnerCause why text
      by f is true e g = cc g
      by f is false e g = elim (refused_at (with_inner_field now.fields f) _ why g) [
        | inl c ↦ in_field now.fields f (record { rest = now.rest; reads = reads; is_field = is; not_last = eqb-false f.id 0 e }) why c
        | inr c ↦ cc c.1.1
      ]

  -- What a step leaves: the end after field 0, or more fields after one that is not.
  record IsStep (now : InnerRead) (x : Bool × InnerRead) : Type 0 where
    less : length x.1.rest < length now.rest
    what : ((x.0 ≡ true) × HasFields text x.1.fields) ⊎ ((x.0 ≡ false) × ReadsTo text x.1)

  abbrev state_in : (Bool × InnerRead) → Result (Bool × InnerRead) FrameFail → Bool × InnerRead
  state_in other (Ok x) = x
  state_in other (Err e) = other

  step_made : (now : InnerRead) → ReadsTo text now → (x : Bool × InnerRead) → inner_step whole now ≡ Ok x → IsStep now x
  unfolding inner_step
  step_made now reads x h =
      let a = given_by (field_at Four short now.rest) (λ f. stepped now f (f.id == 0)) x h in
      let f = field_read Four short now.rest a.0 a.1.0 in
      by a.0 f.0 f.1 (a.0.id == 0) refl a.1.1
    where
      by : (f : Field) → IsField Four now.rest f → length f.rest < length now.rest → (b : Bool) → (f.id == 0) ≡ b → stepped now f b ≡ Ok x → IsStep now x
      by f is less true e g =
          subst (IsStep now) (ap (state_in x) g) (record {
            less = less;
            what = inl (refl, record { rest = now.rest; reads = reads; last = f; is_last = is; zero_id = eqb-true f.id 0 e });
          })
      by f is less false e g =
          let c = given_by (with_inner_field now.fields f) _ x g in
          subst (IsStep now) (ap (state_in x) c.1.1) (record { less = less; what = inr (refl, more_read now reads f is (eqb-false f.id 0 e) c.0 c.1.0) })

  abbrev step : InnerRead → Result (Bool × InnerRead) FrameFail
  step = inner_step whole

  abbrev out : InnerRead → FrameFail
  out = inner_end_missing whole

  -- What all steps come to: a refusal with its cause, or all fields.
  abbrev Ends : Result InnerRead FrameFail → Type 0
  Ends (Ok read) = HasFields text read.fields
  Ends (Err why) = InnerCause why text

  -- so it is of so many steps
  abbrev EndsAfter : ℕ → Type 0
  EndsAfter n = (now : InnerRead) → ReadsTo text now → length now.rest ≤ n → Ends (repeat_steps step out n now)

  ends : (n : ℕ) (now : InnerRead) → ReadsTo text now → length now.rest ≤ n → Ends (repeat_steps step out n now)
  unfolding repeat_steps
  ends zero now reads less =
      record { len_is = refl; now = now; reads = reads; n = field_head_len Four; needs = inl refl; short = omega (arith, less) }
  ends (suc n) now reads less = by (λ x. ends n x) (step now) refl
    where
      more : EndsAfter n → (x : Bool × InnerRead) → IsStep now x → Ends (cond x.0 (Ok x.1) (repeat_steps step out n x.1))
      more later x s = elim s.what [
        | inl w ↦ subst (λ b. Ends (cond b (Ok x.1) (repeat_steps step out n x.1))) (sym w.0) w.1
        | inr w ↦
            let shorter = s.less in
            subst (λ b. Ends (cond b (Ok x.1) (repeat_steps step out n x.1))) (sym w.0) (later x.1 w.1 (omega (arith, shorter, less)))
      ]

      by : EndsAfter n → (r : Result (Bool × InnerRead) FrameFail) → step now ≡ r → Ends (r >>= λ x. cond x.0 (Ok x.1) (repeat_steps step out n x.1))
      by later (Ok x) is = more later x (step_made now reads x is)
      by later (Err why) is = step_refused now reads why is

  -- ---- all fields

  missing : {A : Type 0} (id : ℕ) (o : Option A) (why : FrameFail) → (o ≡ None → HasNoField id text) → required id o ≡ Err why → InnerCause why text
  missing id None why lacks h = because (FieldMissing id) why (same_fail (FieldMissing id) why h) (lacks refl)
  missing id (Some a) why lacks h = cc h

  abbrev start : InnerRead
  start = record { fields = no_inner_fields; rest = text }

  refused : (why : FrameFail) → inner_of text ≡ Err why → InnerCause why text
  unfolding inner_of
  refused why h = elim (refused_at (inner_from text) _ why h) [
    | inl a ↦ subst Ends a (ends whole start reads (omega arith))
    | inr a ↦
        let has : HasFields text a.0.fields = subst Ends a.1.0 (ends whole start reads (omega arith)) in
        elim (refused_at (required 1 a.0.fields.stream_id) _ why a.1.1) [
          | inl b ↦ missing 1 a.0.fields.stream_id why (λ none. record { said = a.0.fields; has = has; lacks = inl (refl, none) }) b
          | inr b ↦ elim (refused_at (required 2 a.0.fields.stream_key) _ why b.1.1) [
            | inl c ↦ missing 2 a.0.fields.stream_key why (λ none. record { said = a.0.fields; has = has; lacks = inr (refl, none) }) c
            | inr c ↦ cc c.1.1
          ]
        ]
  ]
    where
      reads : ReadsTo text start
      reads = record { fields = []; lead = refl }

pub inner_refusals : InnerRefusalsHaveCauses
inner_refusals text why h = refused text why h
