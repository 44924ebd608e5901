-- An element that has ended and is counted.
use Rattle.std.proofs.Common.{◌≡◌, length, ap, ◌∙◌, arith, Result, Ok, Err}
use Rattle.outside_core.specs.Results.{◌>>=◌}
use Rattle.markup_grammar.specs.Elements.{innermost, open_contents}
use Rattle.doc_forms.specs.declared.cursor.Cursor.{Cursor}
use Rattle.doc_forms.specs.declared.fails.DocFail.{DocFail}
use Rattle.doc_forms.specs.Children.{count_node}
use Rattle.doc_forms.specs.Refusals.{Fails}
use Rattle.doc_walk.proofs.Pieces.{carried}
use Rattle.doc_walk.specs.Steps.{Course, Rest, Steps}

-- what is known of it, where the walk is then
abbrev with_cursor : {P : Type 0} → P → Cursor → Result (P × Cursor) DocFail
with_cursor p after = Ok (p, after)

-- the rest of an element, which is then counted
abbrev pub counted_rest : {P : Type 0} → Rest P → Rest P
counted_rest rest s content cursor = rest s content cursor >>= λ x. count_node x.1 >>= λ after. Ok (x.0, after)

-- a walk has counted one element more
pub record Counts (mid new : Course) : Type 0 where
  pub cursor : count_node mid.cursor ≡ Ok new.cursor
  pub answers : new.answers ≡ mid.answers
  pub setting : new.setting ≡ mid.setting

pub counted_in : {X P : Type 0} {view : X → P} {old mid new : Course} {rest : Rest P} {x : X}
    → Steps view old mid (Ok x) rest → Counts mid new → Steps view old new (Ok x) (counted_rest rest)
counted_in {view = view} {x = x} steps counts = record {
  gives = ap (λ d. d >>= λ y. count_node y.1 >>= λ after. Ok (y.0, after)) steps.gives ∙ ap (λ d. d >>= with_cursor (view x)) counts.cursor;
  left = ap open_contents counts.answers ∙ steps.left;
  shorter = omega (arith, ap length counts.answers, steps.shorter);
  setting = counts.setting ∙ steps.setting;
}

-- one that is refused before it ends
pub refused_before : {X P Z : Type 0} {view : X → P} {any : Z → P} {old new : Course} {rest : Rest P} {e : DocFail}
    → Steps view old new (Err e) rest → Steps any old new (Err e) (counted_rest rest)
refused_before {old = old} {rest = rest} {e = e} steps = record {
  gives = carried e (rest old.setting (innermost (open_contents old.answers)) old.cursor) _
      (λ same. ap (λ d. d >>= λ x. count_node x.1 >>= λ after. Ok (x.0, after)) same) steps.gives;
  left = tt;
  shorter = tt;
  setting = steps.setting;
}

-- one that is one too many
pub too_many : {X P Z : Type 0} {view : X → P} {any : Z → P} {old mid new : Course} {rest : Rest P} {x : X} {e : DocFail}
    → Steps view old mid (Ok x) rest → Fails e (count_node mid.cursor) → new.setting ≡ mid.setting → Steps any old new (Err e) (counted_rest rest)
too_many {view = view} {mid = mid} {x = x} {e = e} steps fails setting = record {
  gives = rw steps.gives (carried e (count_node mid.cursor) (count_node mid.cursor >>= with_cursor (view x)) (λ same. ap (λ d. d >>= with_cursor (view x)) same) fails);
  left = tt;
  shorter = tt;
  setting = setting ∙ steps.setting;
}
