-- Room that is used up by one thing after another.
use Rattle.std.proofs.Common.{◌≡◌, ◌<◌, ◌≤◌, ◌+◌, ◌-◌, ℕ, false, cond, inl, inr, None, Some, option_and_then, nat_le, sym, ap, ◌∙◌, arith}
use Rattle.std.proofs.lemmas.Bool.{leb-false, leb-true, le-leb}
use Rattle.vault_model.proofs.Tests.{decide, is_false}
use Rattle.tree_edits.specs.Rooms.{room_left}

pub has_room : (room n : ℕ) → n ≤ room → room_left room n ≡ Some (room - n)
has_room room n h = ap (λ b. cond b (Some (room - n)) None) (le-leb n room h)

no_room : (room n : ℕ) → room < n → room_left room n ≡ None
no_room room n h = ap (λ b. cond b (Some (room - n)) None) (is_false (nat_le n room) (λ e. let small = leb-true n room e in absurd (omega (arith, h, small))))

too_much : (room n : ℕ) → nat_le n room ≡ false → room < n
too_much room n e = leb-false n room e

-- room for one thing and then for another is room for both
pub left_both : (room a n : ℕ) → room_left room (a + n) ≡ option_and_then (λ r. room_left r n) (room_left room a)
left_both room a n =
    elim (decide (nat_le a room)) [
      | inl p ↦
          let first = leb-true a room p in
          elim (decide (nat_le n (room - a))) [
            | inl q ↦
                let second = leb-true n (room - a) q in
                let rest : room - (a + n) ≡ room - a - n = omega arith in
                has_room room (a + n) (omega arith)
                ∙ ap Some rest
                ∙ sym (ap (option_and_then (λ r. room_left r n)) (has_room room a first) ∙ has_room (room - a) n second)
            | inr q ↦
                let second = too_much (room - a) n q in
                no_room room (a + n) (omega arith)
                ∙ sym (ap (option_and_then (λ r. room_left r n)) (has_room room a first) ∙ no_room (room - a) n second)
          ]
      | inr p ↦
          let first = too_much room a p in
          no_room room (a + n) (omega arith)
          ∙ sym (ap (option_and_then (λ r. room_left r n)) (no_room room a first))
    ]

-- where there is no room for some things, there is none with more of them
pub left_none : (room a n : ℕ) → room_left room a ≡ None → room_left room (a + n) ≡ None
left_none room a n e = left_both room a n ∙ ap (option_and_then (λ r. room_left r n)) e

-- and where there is, the others take of the rest
pub left_some : (room a n rest : ℕ) → room_left room a ≡ Some rest → room_left room (a + n) ≡ room_left rest n
left_some room a n rest e = left_both room a n ∙ ap (option_and_then (λ r. room_left r n)) e
