use Rattle.std.proofs.Common.{◌≡◌, ℕ, ◌+◌, ◌-◌, ◌*◌, ◌/◌, ◌%◌, ◌<◌, ◌≤◌, length, take, drop, slice_index, arith, ap, ap₂, ◌∙◌, length-take, rules}
use Rattle.stream_core.specs.Words.{byte_in}
use Rattle.stream_core.proofs.StreamLemmas.{xored_same, xored_front_piece}
use Rattle.stream_core.proofs.state.State.apply.Goals as goal

pub pieces-preserved : goal.pieces-preserved
pieces-preserved g c =
    let word = g.B.BlockFunction.word in
    let stream = byte_in (word c.args.self.now.key c.args.self.now.nonce) in
    let done = c.pieces.done in
    let count = c.min-count.result in
    let at = c.args.place + done in
    let inv = c.pieces.invariant in
    let least = c.min-count.ensures in
    let long = c.pieces.auto.text in
    let within : done + count ≤ length c.args.text.now = omega arith in
    let window : (i : ℕ) → i < 256 → slice_index c.prepare.new.self.window i ≡ stream (256 * (at / 256) + i) =
    (λ i below. c.prepare.ensures.window i below
    ∙ ap₂ (λ key nonce. byte_in (word key nonce) (256 * (at / 256) + i)) inv.key inv.nonce) in
    let part = take (done + count - done) (drop done c.pieces.text) in
    let count_is : done + count - done ≡ count = omega arith in
    let short : length part ≤ count = omega (arith, length-take (done + count - done) (drop done c.pieces.text)) in
    let piece = c.xor_window.ensures
    ∙ xored_same (slice_index c.prepare.new.self.window) stream (at % 256) at part
    (λ i below. let place : 256 * (at / 256) + (at % 256 + i) ≡ at + i = omega arith in
    window (at % 256 + i) (omega arith) ∙ ap stream place) in
    record {
      within = within;
      text = xored_front_piece stream c.args.place done (done + count - done) (done + count) c.pieces.text c.args.text.now c.xor_window.new.text
          inv.text (omega arith) within piece;
      key = c.prepare.ensures.key ∙ inv.key;
      nonce = c.prepare.ensures.nonce ∙ inv.nonce;
      window = λ some i below.
          (let same : 256 * (at / 256) + i ≡ 256 * ((c.args.place + (done + count)) / 256) + i = omega arith in
          window i below ∙ ap stream same);
    }

pub prepare-requires : goal.prepare-requires
prepare-requires g c = (
  search rules,
  (c.turns.ensures, (omega arith, rw (c.pieces.invariant.key, c.pieces.invariant.nonce) c.pieces.invariant.window)),
)

pub returns-clause-window : goal.returns-clause-window
returns-clause-window g c =
    let whole : c.pieces.done ≡ length c.args.text.now = omega arith in
    rw whole at c.pieces.invariant.window
