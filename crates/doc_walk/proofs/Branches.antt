-- A branch of a match on names: the element of that name, as its row reads it.
use Rattle.std.proofs.Common.{◌≡◌, ℕ, Option, List, [], refl, ap, sym, ◌∙◌, append-nil, Result, Ok, Err}
use Rattle.outside_core.specs.Results.{◌>>=◌}
use Rattle.markup_grammar.specs.Elements.{element, innermost, open_contents}
use Rattle.doc_forms.specs.declared.cursor.Cursor.{Cursor}
use Rattle.doc_forms.specs.declared.fails.DocFail.{DocFail}
use Rattle.doc_forms.specs.ElementTexts.{ElementText, Setting}
use Rattle.doc_forms.specs.Children.{Child, by_name}
use Rattle.doc_forms.specs.Refusals.{Returns}
use Rattle.doc_walk.proofs.Pieces.{carried}
use Rattle.doc_walk.proofs.Rests.{same_rest, kept_step}
use Rattle.doc_walk.proofs.Rows.{Differs, later_rows}
use Rattle.doc_walk.specs.declared.walk.Tag.{Tag}
use Rattle.doc_walk.specs.Steps.{Course, Rest, Steps, map_rest}
use Rattle.doc_walk.specs.Tags.{text_step, value_step, pass_step, check_step, child_step}

-- ---- an element that is read and not kept

-- what is known, wherever the walk is
abbrev known_at : {A P : Type 0} → P → A × Cursor → Result (P × Cursor) DocFail
known_at p x = Ok (p, x.1)

dropped_twice : {A P : Type 0} (p : P) (d : Result (A × Cursor) DocFail) → ((d >>= known_at (tt {0})) >>= known_at p) ≡ (d >>= known_at p)
dropped_twice p (Ok x) = refl
dropped_twice p (Err e) = refl

-- what is known stays
not_kept : {X A P : Type 0} (p : P) (old new : Course) (r : Result X DocFail) (rest : Rest A)
    → Steps (λ _. tt {0}) old new r (map_rest (λ _. tt {0}) rest) → Steps (λ _. p) old new r (map_rest (λ _. p) rest)
not_kept p old new r rest steps =
    same_rest (λ _. p) old new r (map_rest (λ _. p) (map_rest (λ _. tt {0}) rest)) (map_rest (λ _. p) rest)
    (λ s content cursor. dropped_twice p (rest s content cursor))
    (kept_step (λ _. p) (tt {0}) old new r (map_rest (λ _. tt {0}) rest) steps)

-- an element of which only the kind of its value counts
pub checked_in : {X A P : Type 0} {old new : Course} {r : Result X DocFail} (rule : ElementText → Option A) (tag : Tag) (p : P)
    → Steps (λ _. tt {0}) old new r (check_step rule tag) → Steps (λ _. p) old new r (map_rest (λ _. p) (value_step rule tag))
checked_in {old = old} {new = new} {r = r} rule tag p steps = not_kept p old new r (value_step rule tag) steps

-- an element whose name no row has is passed over
pub passed_over : {X P : Type 0} (old new : Course) (r : Result X DocFail) (rows : Setting → List (List ℕ × Child P)) (parts : P) (tag : Tag)
    → ((s : Setting) → Differs tag.name.now (rows s))
    → Steps (λ _. tt {0}) old new r (pass_step tag)
    → Steps (λ _. parts) old new r (child_step (λ s. by_name s (rows s)) parts tag)
passed_over old new r rows parts tag differs steps =
    same_rest (λ _. parts) old new r (map_rest (λ _. parts) (text_step tag)) (child_step (λ s. by_name s (rows s)) parts tag)
    (λ s content cursor.
    later_rows s (rows s) [] parts (element tag.offset tag.name.now tag.attrs.raw.now content) cursor (differs s)
    ∙ ap (λ l. by_name s l parts (element tag.offset tag.name.now tag.attrs.raw.now content) cursor) (append-nil (rows s)))
    (not_kept parts old new r (text_step tag) steps)

-- ---- an element that is read, and then put with what is known

-- as it is put
pub put_in : {X Y P Z : Type 0} {view : X → Y} {old new : Course} {rest : Rest Y} {x : X} {p : P} {r : Result Z DocFail} (keep : Y → P)
    → Steps view old new (Ok x) rest → Returns (λ _. p) r (Ok (keep (view x))) → Steps (λ _. p) old new r (map_rest keep rest)
put_in {new = new} {r = Ok z} keep steps puts = record {
  gives = ap (λ d. d >>= λ y. Ok (keep y.0, y.1)) steps.gives ∙ ap (λ d. d >>= λ q. Ok (q, new.cursor)) puts;
  left = steps.left;
  shorter = steps.shorter;
  setting = steps.setting;
}
put_in {view = view} {x = x} {r = Err e} keep steps puts = record {
  gives = carried e (Ok (keep (view x))) _ (λ (never : Ok (keep (view x)) ≡ Err e). cc) puts;
  left = tt;
  shorter = tt;
  setting = steps.setting;
}

-- as it is refused
pub refused_in : {X Y P Z : Type 0} {view : X → Y} {any : Z → P} {old new : Course} {rest : Rest Y} {e : DocFail} (keep : Y → P)
    → Steps view old new (Err e) rest → Steps any old new (Err e) (map_rest keep rest)
refused_in {old = old} {rest = rest} {e = e} keep steps = record {
  gives = carried e (rest old.setting (innermost (open_contents old.answers)) old.cursor) _ (λ same. ap (λ d. d >>= λ y. Ok (keep y.0, y.1)) same) steps.gives;
  left = tt;
  shorter = tt;
  setting = steps.setting;
}

-- ---- an element that is read, and what comes of it

-- what the rest of an element says, and what comes of that
abbrev pub then_rest : {Y Q : Type 0} → Rest Y → (Y → Result Q DocFail) → Rest Q
then_rest rest next s content cursor = rest s content cursor >>= λ x. next x.0 >>= λ q. Ok (q, x.1)

-- as it is given or refused
pub then_in : {X Y Q Z : Type 0} {view : X → Y} {shown : Z → Q} {old new : Course} {rest : Rest Y} {x : X} {r : Result Z DocFail} (next : Y → Result Q DocFail)
    → Steps view old new (Ok x) rest → Returns shown r (next (view x)) → Steps shown old new r (then_rest rest next)
then_in {new = new} {r = Ok z} next steps gives = record {
  gives = ap (λ d. d >>= λ y. next y.0 >>= λ q. Ok (q, y.1)) steps.gives ∙ ap (λ d. d >>= λ q. Ok (q, new.cursor)) gives;
  left = steps.left;
  shorter = steps.shorter;
  setting = steps.setting;
}
then_in {view = view} {new = new} {x = x} {r = Err e} next steps gives = record {
  gives = rw steps.gives (carried e (next (view x)) (next (view x) >>= λ q. Ok (q, new.cursor)) (λ same. ap (λ d. d >>= λ q. Ok (q, new.cursor)) same) gives);
  left = tt;
  shorter = tt;
  setting = steps.setting;
}

-- where the element itself is refused
pub then_refused : {X Y Q Z : Type 0} {view : X → Y} {any : Z → Q} {old new : Course} {rest : Rest Y} {e : DocFail} (next : Y → Result Q DocFail)
    → Steps view old new (Err e) rest → Steps any old new (Err e) (then_rest rest next)
then_refused {old = old} {rest = rest} {e = e} next steps = record {
  gives = carried e (rest old.setting (innermost (open_contents old.answers)) old.cursor) _ (λ same. ap (λ d. d >>= λ y. next y.0 >>= λ q. Ok (q, y.1)) same) steps.gives;
  left = tt;
  shorter = tt;
  setting = steps.setting;
}

-- ---- an element that is read, and what is made of it

-- as it is made
pub made_in : {X Y Q Z : Type 0} {view : X → Y} {shown : Z → Q} {old new : Course} {rest : Rest Y} {x : X} {z : Z} (make : Y → Q)
    → shown z ≡ make (view x) → Steps view old new (Ok x) rest → Steps shown old new (Ok z) (map_rest make rest)
made_in {Q = Q} {new = new} make made steps = record {
  gives = ap (λ d. d >>= λ y. Ok (make y.0, y.1)) steps.gives ∙ ap (λ (q : Q). let r : Result (Q × Cursor) DocFail = Ok (q, new.cursor) in r) (sym made);
  left = steps.left;
  shorter = steps.shorter;
  setting = steps.setting;
}

-- seen in another way
pub seen_in : {X Y Z : Type 0} {view : X → Y} {shown : Z → Y} {old new : Course} {rest : Rest Y} {x : X} {z : Z}
    → shown z ≡ view x → Steps view old new (Ok x) rest → Steps shown old new (Ok z) rest
seen_in {Y = Y} {new = new} same steps = record {
  gives = steps.gives ∙ ap (λ (y : Y). let r : Result (Y × Cursor) DocFail = Ok (y, new.cursor) in r) (sym same);
  left = steps.left;
  shorter = steps.shorter;
  setting = steps.setting;
}

-- as it is refused, seen in another way
pub unseen_in : {X Y Z : Type 0} {view : X → Y} {any : Z → Y} {old new : Course} {rest : Rest Y} {e : DocFail}
    → Steps view old new (Err e) rest → Steps any old new (Err e) rest
unseen_in steps = record { gives = steps.gives; left = tt; shorter = tt; setting = steps.setting }
