-- References by names.
use Rattle.std.proofs.Common.{◌≡◌, ℕ, ◌+◌, ◌≤◌, true, false, eqb, cond, List, [], ◌∷◌, refl, ap, sym, ◌∙◌, arith, Result, Ok, Err}
use Rattle.markup_grammar.specs.Answers.{form}
use Rattle.markup_grammar.specs.Machine.{State, Ref, due, ref_on, ref_ends, ref_off, ref_step, on, off}
use Rattle.markup_scanner.specs.Left.{answers_at, StandsAt}
use Rattle.markup_scanner.specs.Scans.{Leads, EndsWithin, Await, Host, host_begin, host_state, host_reference}
use Rattle.markup_scanner.proofs.Steps.{left_on, refused, host_step, host_turn}
use Rattle.markup_scanner.proofs.Numbers.{reference_ends}

-- the state that waits for these bytes of a reference
abbrev pub due_state : List ℕ → Host → List ℕ → ℕ → State
due_state text h [] at = host_state text h at
due_state text h (c ∷ rest) at = host_reference text h (due c rest) at

due_turn : (text : List ℕ) (h : Host) (c : ℕ) (more : List ℕ) (at b : ℕ) → host_turn text h at (ref_step (due c more) b) ≡ cond (eqb b c) (on [] (due_state text h more at)) off
due_turn text h c [] at b = by_test (eqb b c)
  where
    by_test : (t : _) → host_turn text h at (cond t ref_ends ref_off) ≡ cond t (on [] (host_state text h at)) off
    by_test true = refl
    by_test false = refl
due_turn text h c (d ∷ rest) at b = by_test (eqb b c)
  where
    by_test : (t : _) → host_turn text h at (cond t (ref_on (due d rest)) ref_off) ≡ cond t (on [] (host_reference text h (due d rest) at)) off
    by_test true = refl
    by_test false = refl

pub await_due : (text : List ℕ) (h : Host) (least : ℕ) → host_begin h ≤ least → Await text (due_state text h) least
await_due text h least le = record {
  turns = λ c more at b above stand. host_step text h (due c more) at b (omega arith) stand ∙ due_turn text h c more (at + 1) b;
  ends = λ c more at. reference_ends text h (due c more) at;
}

-- a byte of a reference, and what it leads to
pub reference_on : (text : List ℕ) (h : Host) (r next : Ref) (at end byte : ℕ) → host_begin h ≤ at → ref_step r byte ≡ ref_on next → (end ≡ at + 1) × StandsAt text at byte → answers_at text (host_reference text h r at) at ≡ answers_at text (host_reference text h next end) end
reference_on text h r next at end byte le turn is =
    left_on text (host_reference text h r at) (host_reference text h next (at + 1)) at byte [] is.1
    (host_step text h r at byte le is.1 ∙ ap (λ t. host_turn text h (at + 1) t) turn)
    ∙ ap (λ n. answers_at text (host_reference text h next n) n) (sym is.0)

-- no byte that a reference may go on with
pub reference_off : (text : List ℕ) (h : Host) (r : Ref) (at place : ℕ) → host_begin h ≤ at → ((b : ℕ) → StandsAt text at b → ref_step r b ≡ ref_off) → place ≡ at → answers_at text (host_reference text h r at) at ≡ form place ∷ []
reference_off text h r at place le turn is =
    refused text (host_reference text h r at) at (λ _. reference_ends text h r at)
    (λ b stand. host_step text h r at b le stand ∙ ap (λ t. host_turn text h (at + 1) t) (turn b stand))
    ∙ ap (λ n. form n ∷ []) (sym is)

-- past what leads there
pub leads_after : (text : List ℕ) (s t : State) (at place : ℕ) (to : ℕ → State) (r : Result ℕ ℕ) → answers_at text s at ≡ answers_at text t place → Leads text t place to r → Leads text s at to r
leads_after text s t at place to (Ok end) e leads = e ∙ leads
leads_after text s t at place to (Err n) e leads = e ∙ leads

-- within the text from an earlier place on too
pub ends_after : (text : List ℕ) (at place : ℕ) (r : Result ℕ ℕ) → at ≤ place → EndsWithin text place r → EndsWithin text at r
ends_after text at place (Ok end) le within = (omega arith, within.1)
ends_after text at place (Err n) le within = tt
