-- The place of the last column that has one of some names, found from the first column on.
use Rattle.std.proofs.Common.{◌≡◌, ◌<◌, ◌+◌, ◌||◌, get_or, map, take, drop, append_assoc, sym, arith, ℕ, suc, zero, Bool, true, false, cond, List, [], ◌∷◌, ◌++◌, Option, Some, None, length, refl, ap, ◌∙◌}
use Rattle.std.proofs.lemmas.List.{drop_more}
use Rattle.std.specs.Borrow.{Bor}
use Rattle.csv.specs.Records.{field_at}
use Rattle.table_reading.specs.Columns.{is_among, is_called, is_named, passed_at, passed_from, place_after, place_of}
use Rattle.table_reading.specs.declared.columns.Columns.{Columns}

pub place_push : (names : List (List ℕ)) (columns : List (List ℕ)) (column : List ℕ) → place_of names (columns ++ column ∷ []) ≡ cond (is_among names column) (Some (length columns)) (place_of names columns)
place_push names [] column = refl
place_push names (first ∷ columns) column =
    let here = cond (is_among names first) (Some zero) None in
    ap (place_after here) (place_push names columns column) ∙ further here (is_among names column) (length columns) (place_of names columns)
  where
    further : (here : Option ℕ) (b : Bool) (n : ℕ) (before : Option ℕ) → place_after here (cond b (Some n) before) ≡ cond b (Some (suc n)) (place_after here before)
    further here true n before = refl
    further here false n before = refl

-- the columns up to a place, and the one that is there
column_at : (columns : List (List ℕ)) (at : ℕ) → at < length columns
    → (column : List ℕ) × (field_at columns at ≡ Some column) × (take (suc at) columns ≡ take at columns ++ column ∷ []) × (length (take at columns) ≡ at)
unfolding field_at
column_at [] at less = absurd (omega (arith, less))
column_at (first ∷ columns) zero less = (first, refl, refl, refl)
column_at (first ∷ columns) (suc at) less =
    let (column, is, more, many) = column_at columns at (omega (arith, less)) in
    (column, is, ap (λ cs. first ∷ cs) more, ap suc many)

-- one more column
pub place_step : (names : List (List ℕ)) (columns : List (List ℕ)) (at : ℕ) (before after : Option ℕ) (named : Bool) → at < length columns → before ≡ place_of names (take at columns)
    → named ≡ is_named names (field_at columns at) → after ≡ cond named (Some at) before → after ≡ place_of names (take (at + 1) columns)
place_step names columns at before after named less is found chosen =
    let (column, there, more, many) = column_at columns at less in
    let next : suc at ≡ at + 1 = omega arith in
    chosen
    ∙ ap (λ (b : Bool). cond b (Some at) before) (found ∙ ap (is_named names) there)
    ∙ ap (λ n. cond (is_among names column) (Some n) before) (sym many)
    ∙ ap (λ o. cond (is_among names column) (Some (length (take at columns))) o) is
    ∙ sym (place_push names (take at columns) column)
    ∙ ap (place_of names) (sym more)
    ∙ ap (λ n. place_of names (take n columns)) next

-- the columns from a place on, the first of them apart
pub column_first : (columns : List (List ℕ)) (at : ℕ) → at < length columns → (column : List ℕ) × (field_at columns at ≡ Some column) × (drop at columns ≡ column ∷ drop (at + 1) columns)
unfolding field_at
column_first [] at less = absurd (omega (arith, less))
column_first (first ∷ columns) zero less = (first, refl, refl)
column_first (first ∷ columns) (suc at) less =
    let (column, is, more) = column_first columns at (omega (arith, less)) in
    let next : suc at + 1 ≡ suc (at + 1) = omega arith in
    (column, is, more ∙ ap (λ n. column ∷ drop n (first ∷ columns)) (sym next))

-- a column has the name of a place, or one of those after it
pub among_here : (column : List ℕ) (names : List (Bor (List ℕ))) (i : ℕ) (d : Bor (List ℕ)) → i < length names → is_called column (get_or names i d).now ≡ true
    → is_among (map (λ (name : Bor (List ℕ)). name.now) (drop i names)) column ≡ true
among_here column names i d less is =
    ap (λ (l : List (Bor (List ℕ))). is_among (map (λ (name : Bor (List ℕ)). name.now) l) column) (drop_more names i d less)
    ∙ ap (λ b. b || is_among (map (λ (name : Bor (List ℕ)). name.now) (drop (i + 1) names)) column) is

pub among_later : (column : List ℕ) (names : List (Bor (List ℕ))) (i : ℕ) (d : Bor (List ℕ)) → i < length names → is_called column (get_or names i d).now ≡ false
    → is_among (map (λ (name : Bor (List ℕ)). name.now) (drop (i + 1) names)) column ≡ is_among (map (λ (name : Bor (List ℕ)). name.now) (drop i names)) column
among_later column names i d less is =
    sym (ap (λ (l : List (Bor (List ℕ))). is_among (map (λ (name : Bor (List ℕ)). name.now) l) column) (drop_more names i d less)
    ∙ ap (λ b. b || is_among (map (λ (name : Bor (List ℕ)). name.now) (drop (i + 1) names)) column) is)

-- one more column is passed over, or not
pub passed_step : (columns : Columns) (names passed before : List (List ℕ)) (at : ℕ) → at < length names
    → passed ≡ before ++ passed_at columns at (field_at names at)
    → passed ++ passed_from columns (at + 1) (drop (at + 1) names) ≡ before ++ passed_from columns at (drop at names)
passed_step columns names passed before at less is =
    let (column, there, more) = column_first names at less in
    let rest = passed_from columns (at + 1) (drop (at + 1) names) in
    ap (λ (l : List (List ℕ)). l ++ rest) (is ∙ ap (λ o. before ++ passed_at columns at o) there)
    ∙ append_assoc before (passed_at columns at (Some column)) rest
    ∙ ap (λ l. before ++ passed_from columns at l) (sym more)
