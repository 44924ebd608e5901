use Rattle.std.proofs.Common.{◌≡◌, ℕ, List, [], ◌++◌, ◌∙◌, refl, ap, arith, length}
use Rattle.markup_grammar.specs.Escapes.{unescaped}
use Rattle.std.proofs.lemmas.Result.{err_from_is_err_and}
use Rattle.doc_forms.specs.SeenTexts.{text_seen}
use Rattle.doc_walk.proofs.Goes.{at_start, text_from, text_words, text_child, text_refused, text_end, text_form, text_depth}
use Rattle.doc_walk.proofs.Memory.{memory_ran_out, ran_out}
use Rattle.doc_walk.proofs.walk.Walk.+element_text.Goals as goal

pub returns-in_err-element_text-in-Ok-Start : goal.returns-in_err-element_text-in-Ok-Start
returns-in_err-element_text-in-Ok-Start t c =
    let e = rw c.in-Ok-Start.field-0-is at c.in-Ok-Start.ensures.answers in
    let p = err_from_is_err_and c.from_residual-in_err-element_text-in-Ok-Start.result c.from_residual-in_err-element_text-in-Ok-Start.ensures.1 in
    rw (p.1, p.2)
    (text_refused c.args.tag.now.offset c.args.tag.now.attrs.raw.now c.pieces.text.bytes c.args.self.now c.pieces.self c.next_piece.new.self c.element_text.new.self (text_from c.args.tag.now.offset c.args.tag.now.attrs.raw.now [])
    c.in-Ok-Start.offset c.in-Ok-Start.name.now c.in-Ok-Start.attrs.raw.now text_seen c.in_err-element_text-in-Ok-Start.field-0.0
    c.pieces.invariant (record { answers = e; setting = c.next_piece.ensures.setting; cursor = c.next_piece.ensures.cursor }) c.in_err-element_text-in-Ok-Start.ensures)

pub pieces-preserved-in-Ok-Start : goal.pieces-preserved-in-Ok-Start
pieces-preserved-in-Ok-Start t c =
    let e = rw c.in-Ok-Start.field-0-is at c.in-Ok-Start.ensures.answers in
    text_child c.args.tag.now.offset c.args.tag.now.attrs.raw.now c.pieces.text.bytes c.args.self.now c.pieces.self c.next_piece.new.self c.element_text.new.self (text_from c.args.tag.now.offset c.args.tag.now.attrs.raw.now [])
    c.in-Ok-Start.offset c.in-Ok-Start.name.now c.in-Ok-Start.attrs.raw.now text_seen c.in_ok-element_text-in-Ok-Start.field-0
    c.pieces.invariant (record { answers = e; setting = c.next_piece.ensures.setting; cursor = c.next_piece.ensures.cursor }) c.in_ok-element_text-in-Ok-Start.ensures

pub pieces-preserved : goal.pieces-preserved
pieces-preserved t c =
    let e = rw c.in-Ok-Words.field-0-is at c.in-Ok-Words.ensures.answers in
    let bytes : c.in_ok-text-in-Ok-Words.text.bytes ≡ c.pieces.text.bytes ++ unescaped c.in-Ok-Words.raw.now = cc c.in_ok-text-in-Ok-Words.ensures in
    rw bytes
    (text_words c.args.tag.now.offset c.args.tag.now.attrs.raw.now c.pieces.text.bytes c.args.self.now c.pieces.self c.next_piece.new.self (text_from c.args.tag.now.offset c.args.tag.now.attrs.raw.now [])
    c.in-Ok-Words.field-0-1 c.in-Ok-Words.raw.now c.pieces.invariant (record { answers = e; setting = c.next_piece.ensures.setting; cursor = c.next_piece.ensures.cursor }))

pub returns-in-Ok-Stop : goal.returns-in-Ok-Stop
returns-in-Ok-Stop t c =
    let e = rw c.in-Ok-Stop.field-0-is at c.in-Ok-Stop.ensures.answers in
    text_end c.args.tag.now.offset c.args.tag.now.attrs.raw.now c.pieces.text.bytes c.args.self.now c.pieces.self c.next_piece.new.self c.own_text.new.self (text_from c.args.tag.now.offset c.args.tag.now.attrs.raw.now [])
    c.in-Ok-Stop.field-0-0 text_seen c.own_text.result
    c.pieces.invariant (record { answers = e; setting = c.next_piece.ensures.setting; cursor = c.next_piece.ensures.cursor }) c.own_text.ensures.gives c.own_text.ensures.answers c.own_text.ensures.setting

pub returns-in-Err-Form : goal.returns-in-Err-Form
returns-in-Err-Form t c =
    let e = rw c.in-Err-Form.field-0-is at c.in-Err-Form.ensures.answers in
    text_form c.args.tag.now.offset c.args.tag.now.attrs.raw.now c.pieces.text.bytes c.args.self.now c.pieces.self c.next_piece.new.self (text_from c.args.tag.now.offset c.args.tag.now.attrs.raw.now [])
    c.in-Err-Form.at text_seen c.pieces.invariant (record { answers = e.0; setting = c.next_piece.ensures.setting })

pub returns-in-Err-Depth : goal.returns-in-Err-Depth
returns-in-Err-Depth t c =
    let e = rw c.in-Err-Depth.field-0-is at c.in-Err-Depth.ensures.answers in
    text_depth c.args.tag.now.offset c.args.tag.now.attrs.raw.now c.pieces.text.bytes c.args.self.now c.pieces.self c.next_piece.new.self (text_from c.args.tag.now.offset c.args.tag.now.attrs.raw.now [])
    c.in-Err-Depth.at text_seen c.pieces.invariant (record { answers = e.0; setting = c.next_piece.ensures.setting })

pub element_text-requires : goal.element_text-requires
element_text-requires t c =
    let e = rw c.in-Ok-Start.field-0-is at c.in-Ok-Start.ensures.answers in
    (omega (arith, ap length e, c.pieces.invariant.shorter, c.decreases), tt)

pub pieces-smaller-in-Ok-Start : goal.pieces-smaller-in-Ok-Start
pieces-smaller-in-Ok-Start t c =
    let e = rw c.in-Ok-Start.field-0-is at c.in-Ok-Start.ensures.answers in
    omega (arith, ap length e, c.in_ok-element_text-in-Ok-Start.ensures.shorter)

pub pieces-smaller : goal.pieces-smaller
pieces-smaller t c =
    let e = rw c.in-Ok-Words.field-0-is at c.in-Ok-Words.ensures.answers in
    omega (arith, ap length e)

pub returns-in_err-text : goal.returns-in_err-text
returns-in_err-text t c =
    let p = err_from_is_err_and c.from_residual.result c.from_residual.ensures.1 in
    rw (p.1, p.2) (memory_ran_out (let none : List ℕ = [] in none) c.in_err-text.ensures refl)

pub pieces-init : goal.pieces-init
pieces-init t c =
    let none : c.in_ok-text.text.bytes ≡ [] = cc c.in_ok-text.ensures in
    rw none (at_start c.args.self.now (text_from c.args.tag.now.offset c.args.tag.now.attrs.raw.now []))

pub returns-in_err-text-in-Ok-Words : goal.returns-in_err-text-in-Ok-Words
returns-in_err-text-in-Ok-Words t c =
    let p = err_from_is_err_and c.from_residual-in_err-text-in-Ok-Words.result c.from_residual-in_err-text-in-Ok-Words.ensures.1 in
    rw (p.1, p.2)
    (memory_ran_out (c.pieces.text.bytes ++ unescaped c.in-Ok-Words.raw.now) c.in_err-text-in-Ok-Words.ensures (c.next_piece.ensures.setting ∙ c.pieces.invariant.setting))

pub returns-in-Ok-Finish : goal.returns-in-Ok-Finish
returns-in-Ok-Finish t c = ran_out (c.next_piece.ensures.setting ∙ c.pieces.invariant.setting)
