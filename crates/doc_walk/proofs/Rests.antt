-- The same step, by another definition of the rest.
use Rattle.std.proofs.Common.{◌≡◌, ℕ, List, ◌++◌, take, drop, ◌∙◌, ap, Result, Ok, Err}
use Rattle.outside_core.specs.Results.{◌>>=◌}
use Rattle.markup_grammar.specs.Elements.{Content, element, innermost, open_contents}
use Rattle.doc_forms.specs.declared.cursor.Cursor.{Cursor}
use Rattle.doc_forms.specs.declared.fails.DocFail.{DocFail}
use Rattle.doc_forms.specs.ElementTexts.{Setting}
use Rattle.doc_forms.specs.Children.{Child, by_name}
use Rattle.doc_walk.proofs.Pieces.{given_same, carried}
use Rattle.doc_walk.specs.declared.walk.Tag.{Tag}
use Rattle.doc_walk.specs.Steps.{Course, Rest, Steps, map_rest}
use Rattle.doc_walk.specs.Tags.{child_step}
use Rattle.doc_walk.proofs.Rows.{Differs, later_rows}

pub same_rest : {X Y : Type 0} (view : X → Y) (old new : Course) (r : Result X DocFail) (rest other : Rest Y)
    → ((s : Setting) (content : Content) (cursor : Cursor) → rest s content cursor ≡ other s content cursor)
    → Steps view old new r rest → Steps view old new r other
same_rest view old new r rest other same steps = record {
  gives = given_same (λ x. (view x, new.cursor)) r _ _ (same old.setting (innermost (open_contents old.answers)) old.cursor) steps.gives;
  left = steps.left;
  shorter = steps.shorter;
  setting = steps.setting;
}

-- an element that has none of the names of the first rows is read by the later ones
pub by_later_rows : {X P : Type 0} (view : X → P) (old new : Course) (r : Result X DocFail) (n : ℕ) (rows : Setting → List (List ℕ × Child P)) (parts : P) (tag : Tag)
    → ((s : Setting) → take n (rows s) ++ drop n (rows s) ≡ rows s)
    → ((s : Setting) → Differs tag.name.now (take n (rows s)))
    → Steps view old new r (child_step (λ s. by_name s (drop n (rows s))) parts tag)
    → Steps view old new r (child_step (λ s. by_name s (rows s)) parts tag)
by_later_rows view old new r n rows parts tag whole differs steps =
    same_rest view old new r (child_step (λ s. by_name s (drop n (rows s))) parts tag) (child_step (λ s. by_name s (rows s)) parts tag)
    (λ s content cursor.
    later_rows s (take n (rows s)) (drop n (rows s)) parts (element tag.offset tag.name.now tag.attrs.raw.now content) cursor (differs s)
    ∙ ap (λ l. by_name s l parts (element tag.offset tag.name.now tag.attrs.raw.now content) cursor) (whole s))
    steps

-- with a value put in its place
pub kept_step : {X A P : Type 0} (keep : A → P) (v : A) (old new : Course) (r : Result X DocFail) (rest : Rest A)
    → Steps (λ _. v) old new r rest → Steps (λ _. keep v) old new r (map_rest keep rest)
kept_step keep v old new (Ok x) rest steps = record {
  gives = ap (λ d. d >>= λ y. Ok (keep y.0, y.1)) steps.gives;
  left = steps.left;
  shorter = steps.shorter;
  setting = steps.setting;
}
kept_step keep v old new (Err e) rest steps = record {
  gives = carried e (rest old.setting (innermost (open_contents old.answers)) old.cursor) _ (λ same. ap (λ d. d >>= λ y. Ok (keep y.0, y.1)) same) steps.gives;
  left = tt;
  shorter = tt;
  setting = steps.setting;
}

-- the same, with the rest known from the step
pub kept_in : {X A P : Type 0} {v : A} {old new : Course} {r : Result X DocFail} {rest : Rest A} (keep : A → P)
    → Steps (λ _. v) old new r rest → Steps (λ _. keep v) old new r (map_rest keep rest)
kept_in {v = v} {old = old} {new = new} {r = r} {rest = rest} keep steps = kept_step keep v old new r rest steps

-- an element is read by other rows that are the same in this setting
pub same_rows : {X P : Type 0} (view : X → P) (old new : Course) (r : Result X DocFail) (rows other : Setting → List (List ℕ × Child P)) (parts : P) (tag : Tag)
    → rows old.setting ≡ other old.setting
    → Steps view old new r (child_step (λ s. by_name s (rows s)) parts tag)
    → Steps view old new r (child_step (λ s. by_name s (other s)) parts tag)
same_rows view old new r rows other parts tag same steps = record {
  gives = given_same (λ x. (view x, new.cursor)) r _ _ (ap (λ l. by_name old.setting l parts (element tag.offset tag.name.now tag.attrs.raw.now (innermost (open_contents old.answers))) old.cursor) same) steps.gives;
  left = steps.left;
  shorter = steps.shorter;
  setting = steps.setting;
}
