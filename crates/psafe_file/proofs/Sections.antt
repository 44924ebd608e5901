-- Records, one after another.
use Rattle.std.proofs.Common.{◌≡◌, ℕ, ◌+◌, ◌<◌, true, false, List, [], ◌∷◌, ◌++◌, length, take, drop, refl, ap, sym, ◌∙◌, get_or, append_assoc, subst}
use Rattle.std.proofs.lemmas.List.{append-nil, drop-drop, drop_more, take_more}
use Rattle.psafe_file.specs.Ends.{EndsFirst}
use Rattle.psafe_file.specs.Fields.{SafeField, after_header, in_first, is_end, records_in}

-- Fields more at the start of the first record, if there is one.
abbrev pub onto_first : List SafeField → List (List SafeField) → List (List SafeField)
onto_first fields [] = []
onto_first fields (record_fields ∷ records) = (fields ++ record_fields) ∷ records

-- A field that is never read.
abbrev pub no_field : SafeField
no_field = record { offset = 0; kind = 0; content = [] }

pub onto_none : (records : List (List SafeField)) → records ≡ onto_first [] records
onto_none [] = refl
onto_none (r ∷ rs) = refl

onto_one : (fields : List SafeField) (field : SafeField) (records : List (List SafeField))
    → onto_first fields (in_first field records) ≡ onto_first (fields ++ field ∷ []) records
onto_one fields field [] = refl
onto_one fields field (r ∷ rs) = ap (λ (l : List SafeField). l ∷ rs) (sym (append_assoc fields (field ∷ []) r))

module _ (fields : List SafeField) (at : ℕ) (within : at < length fields) (d : SafeField)
    (records : records_in fields ≡ onto_first (take at fields) (records_in (drop at fields)))
    (later : after_header (drop at fields) ≡ after_header fields) where
  here : List SafeField
  here = get_or fields at d ∷ drop (at + 1) fields

  pub at_end : is_end (get_or fields at d) ≡ true → EndsFirst fields at
  at_end ends =
      let e = drop_more fields at d within in
      let is : records_in fields ≡ onto_first (take at fields) (records_in (get_or fields at d ∷ drop (at + 1) fields)) = subst (λ (l : List SafeField). records_in fields ≡ onto_first (take at fields) (records_in l)) e records in
      let after : after_header (get_or fields at d ∷ drop (at + 1) fields) ≡ after_header fields = subst (λ (l : List SafeField). after_header l ≡ after_header fields) e later in
      record {
        within = within;
        records = simp ends at is ∙ ap (λ (l : List SafeField). l ∷ records_in (drop (at + 1) fields)) (append-nil (take at fields));
        later = sym (simp ends at after);
      }

  pub goes_on_records : is_end (get_or fields at d) ≡ false
      → records_in fields ≡ onto_first (take (at + 1) fields) (records_in (drop (at + 1) fields))
  goes_on_records goes_on =
      let e = drop_more fields at d within in
      let is : records_in fields ≡ onto_first (take at fields) (records_in (get_or fields at d ∷ drop (at + 1) fields)) = subst (λ (l : List SafeField). records_in fields ≡ onto_first (take at fields) (records_in l)) e records in
      simp goes_on at is ∙ onto_one (take at fields) (get_or fields at d) (records_in (drop (at + 1) fields))
      ∙ ap (λ (l : List SafeField). onto_first l (records_in (drop (at + 1) fields))) (sym (take_more fields at d within))

  pub goes_on_later : is_end (get_or fields at d) ≡ false → after_header (drop (at + 1) fields) ≡ after_header fields
  goes_on_later goes_on =
      let e = drop_more fields at d within in
      let after : after_header (get_or fields at d ∷ drop (at + 1) fields) ≡ after_header fields = subst (λ (l : List SafeField). after_header l ≡ after_header fields) e later in
      simp goes_on at after

-- A record more, of what is left from a place on.
pub record_more : (all : List SafeField) (start len : ℕ) (done : List (List SafeField)) (record_fields : List SafeField) (total : List (List SafeField))
    → EndsFirst (drop start all) len → record_fields ≡ take len (drop start all) → done ++ records_in (drop start all) ≡ total
    → (done ++ record_fields ∷ []) ++ records_in (drop (start + (len + 1)) all) ≡ total
record_more all start len done record_fields total ends is so_far =
    let next : record_fields ∷ records_in (drop (start + (len + 1)) all) ≡ records_in (drop start all) =
    ap (λ (r : List SafeField). r ∷ records_in (drop (start + (len + 1)) all)) is
    ∙ ap (λ (l : List SafeField). take len (drop start all) ∷ records_in l) (sym (drop-drop (len + 1) start all))
    ∙ sym ends.records in
    append_assoc done (record_fields ∷ []) (records_in (drop (start + (len + 1)) all)) ∙ ap (λ (l : List (List SafeField)). done ++ l) next ∙ so_far
