use Rattle.std.proofs.Common.{◌≡◌, ◌+◌, ◌/◌, true, false, ap, sym, ◌∙◌, arith, ℕ}
use Rattle.argon_core.specs.Argon2.{address_block}
use Rattle.argon_core.specs.Memory.{segment_time}
use Rattle.argon_core.proofs.Holding.{holds_next}
use Rattle.argon_core.proofs.params.Instance.fill_segment.Goals as goal
use Rattle.argon_core.proofs.params.Instance.fill_segment.Goals.{then-is_independent+then-place-eq0, else-is_independent, else-is_independent-via-then-is_independent+else-place-eq0, else-is_independent-via-else-is_independent}

pub fill_place-requires-clause-addresses : goal.fill_place-requires-clause-addresses
fill_place-requires-clause-addresses c = λ independent. elim c.if-is_independent.branch [
  | then-is_independent+then-place-eq0 w ↦ w.addresses-is ∙ w.address_block-addresses.ensures
  | else-is_independent w ↦ elim w.else-is_independent.branch [
    | else-is_independent-via-then-is_independent+else-place-eq0 v ↦
        w.addresses-is ∙ c.places.invariant.addresses independent v.if-place-eq0.false
    | else-is_independent-via-else-is_independent v ↦
        let both : true ≡ false = sym independent ∙ sym c.is_independent-is_independent.ensures ∙ v.if-is_independent.false in
        cc
  ]
]

pub places-preserved : goal.places-preserved
places-preserved c =
    let i = c.args.self.now in
    let at = c.args.at in
    let place = c.places.place in
    let before = segment_time i.params at.pass at.slice at.lane in
    let inv = c.places.invariant in
    record {
      len = omega arith;
      filled = λ start.
          let next = holds_next i c.places.memory at.pass at.slice at.lane place (before + place) c.requires.limits (inv.filled start) c.requires.slice c.requires.lane (omega arith) (omega arith) in
          let one_on : before + place + 1 ≡ before + (place + 1) = omega arith in
          rw (c.fill_place.ensures, ← one_on) next;
      addresses = λ independent later.
          let group : place / 128 ≡ (place + 1) / 128 = omega arith in
          let known : c.if-is_independent.addresses ≡ address_block i at.pass at.lane at.slice (place / 128 + 1) = elim c.if-is_independent.branch [
            | then-is_independent+then-place-eq0 w ↦ w.addresses-is ∙ w.address_block-addresses.ensures
            | else-is_independent w ↦ elim w.else-is_independent.branch [
              | else-is_independent-via-then-is_independent+else-place-eq0 v ↦ w.addresses-is ∙ inv.addresses independent v.if-place-eq0.false
              | else-is_independent-via-else-is_independent v ↦
                  let both : true ≡ false = sym independent ∙ sym c.is_independent-is_independent.ensures ∙ v.if-is_independent.false in
                  cc
            ]
          ] in
          known ∙ ap (λ (k : ℕ). address_block i at.pass at.lane at.slice (k + 1)) group;
    }
