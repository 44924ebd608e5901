use Rattle.std.proofs.Common.{◌≡◌, ℕ, List, [], ◌++◌, ◌∙◌, refl, sym, ap, arith, length}
use Rattle.markup_grammar.specs.Escapes.{unescaped}
use Rattle.std.proofs.lemmas.Result.{err_from_is_err_and}
use Rattle.doc_forms.specs.SeenTexts.{text_seen}
use Rattle.doc_forms.specs.ElementTexts.{is_protected}
use Rattle.doc_walk.proofs.Goes.{all_from, at_start, all_words, all_shown, all_child, all_refused, all_end, all_unended, all_form, all_depth}
use Rattle.doc_walk.proofs.Memory.{memory_ran_out, ran_out}
use Rattle.doc_walk.proofs.containers.contents.Goals as goal

pub pieces-preserved-in-Continue-branch-3 : goal.pieces-preserved-in-Continue-branch-3
pieces-preserved-in-Continue-branch-3 g c =
    let e = rw c.in-Ok-Start.field-0-is at c.in-Ok-Start.ensures.answers in
    record {
      hides = c.pieces.invariant.hides;
      goes = all_child g.P.Parts.child c.args.tag.now.offset c.args.tag.now.attrs.raw.now c.pieces.text.bytes (g.P.Parts.seen c.pieces.parts) (g.P.Parts.seen c.read_child.new.self)
          c.args.walk.now c.pieces.walk c.next_piece.new.self c.read_child.new.walk (all_from g.P.Parts.child c.args.tag.now.offset c.args.tag.now.attrs.raw.now [] (g.P.Parts.seen c.args.parts.now)) c.in-Ok-Start.offset c.in-Ok-Start.name.now c.in-Ok-Start.attrs.raw.now c.in_ok-read_child-in-Ok-Start.field-0
          c.pieces.invariant.goes (record { answers = e; setting = c.next_piece.ensures.setting; cursor = c.next_piece.ensures.cursor }) c.in_ok-read_child-in-Ok-Start.ensures;
    }

pub returns-in_err-read_child-in-Ok-Start : goal.returns-in_err-read_child-in-Ok-Start
returns-in_err-read_child-in-Ok-Start g c =
    let e = rw c.in-Ok-Start.field-0-is at c.in-Ok-Start.ensures.answers in
    let p = err_from_is_err_and c.from_residual-in_err-read_child-in-Ok-Start.result c.from_residual-in_err-read_child-in-Ok-Start.ensures.1 in
    rw (p.1, p.2)
    (all_refused g.P.Parts.child c.args.tag.now.offset c.args.tag.now.attrs.raw.now c.pieces.text.bytes (g.P.Parts.seen c.pieces.parts) (g.P.Parts.seen c.read_child.new.self) _
    c.args.walk.now c.pieces.walk c.next_piece.new.self c.read_child.new.walk (all_from g.P.Parts.child c.args.tag.now.offset c.args.tag.now.attrs.raw.now [] (g.P.Parts.seen c.args.parts.now)) c.in-Ok-Start.offset c.in-Ok-Start.name.now c.in-Ok-Start.attrs.raw.now c.in_err-read_child-in-Ok-Start.field-0.0
    c.pieces.invariant.goes (record { answers = e; setting = c.next_piece.ensures.setting; cursor = c.next_piece.ensures.cursor }) c.in_err-read_child-in-Ok-Start.ensures)

pub pieces-preserved-then-hides : goal.pieces-preserved-then-hides
pieces-preserved-then-hides g c =
    let e = rw c.in-Ok-Words.field-0-is at c.in-Ok-Words.ensures.answers in
    let bytes : c.in_ok-text-in-Ok-Words.text.bytes ≡ c.pieces.text.bytes ++ unescaped c.in-Ok-Words.raw.now = cc c.in_ok-text-in-Ok-Words.ensures in
    rw bytes
    (record {
      hides = c.pieces.invariant.hides;
      goes = all_words g.P.Parts.child c.args.tag.now.offset c.args.tag.now.attrs.raw.now c.pieces.text.bytes (g.P.Parts.seen c.pieces.parts)
          c.args.walk.now c.pieces.walk c.next_piece.new.self (all_from g.P.Parts.child c.args.tag.now.offset c.args.tag.now.attrs.raw.now [] (g.P.Parts.seen c.args.parts.now)) c.in-Ok-Words.field-0-1 c.in-Ok-Words.raw.now
          c.pieces.invariant.goes (record { answers = e; setting = c.next_piece.ensures.setting; cursor = c.next_piece.ensures.cursor });
    })

pub pieces-preserved : goal.pieces-preserved
pieces-preserved g c =
    let e = rw c.in-Ok-Words.field-0-is at c.in-Ok-Words.ensures.answers in
    record {
      hides = c.pieces.invariant.hides;
      goes = all_shown g.P.Parts.child c.args.tag.now.offset c.args.tag.now.attrs.raw.now c.pieces.text.bytes (g.P.Parts.seen c.pieces.parts)
          c.args.walk.now c.pieces.walk c.next_piece.new.self (all_from g.P.Parts.child c.args.tag.now.offset c.args.tag.now.attrs.raw.now [] (g.P.Parts.seen c.args.parts.now)) c.in-Ok-Words.field-0-1 c.in-Ok-Words.raw.now
          c.pieces.invariant.goes (record { answers = e; setting = c.next_piece.ensures.setting; cursor = c.next_piece.ensures.cursor })
          (sym c.pieces.invariant.hides ∙ c.if-hides.false);
    }

pub returns-in_err-own_text-in-Ok-Stop : goal.returns-in_err-own_text-in-Ok-Stop
returns-in_err-own_text-in-Ok-Stop g c =
    let e = rw c.in-Ok-Stop.field-0-is at c.in-Ok-Stop.ensures.answers in
    let p = err_from_is_err_and c.from_residual-in_err-own_text-in-Ok-Stop.result c.from_residual-in_err-own_text-in-Ok-Stop.ensures.1 in
    rw (p.1, p.2)
    (all_unended g.P.Parts.child c.args.tag.now.offset c.args.tag.now.attrs.raw.now c.pieces.text.bytes (g.P.Parts.seen c.pieces.parts) _
    c.args.walk.now c.pieces.walk c.next_piece.new.self c.own_text.new.self (all_from g.P.Parts.child c.args.tag.now.offset c.args.tag.now.attrs.raw.now [] (g.P.Parts.seen c.args.parts.now)) c.in-Ok-Stop.field-0-0 c.in_err-own_text-in-Ok-Stop.field-0.0
    c.pieces.invariant.goes (record { answers = e; setting = c.next_piece.ensures.setting; cursor = c.next_piece.ensures.cursor }) c.in_err-own_text-in-Ok-Stop.ensures.gives c.own_text.ensures.setting)

pub returns-in-Ok-Stop : goal.returns-in-Ok-Stop
returns-in-Ok-Stop g c =
    let e = rw c.in-Ok-Stop.field-0-is at c.in-Ok-Stop.ensures.answers in
    all_end g.P.Parts.child c.args.tag.now.offset c.args.tag.now.attrs.raw.now c.pieces.text.bytes (g.P.Parts.seen c.pieces.parts)
    c.args.walk.now c.pieces.walk c.next_piece.new.self c.own_text.new.self (all_from g.P.Parts.child c.args.tag.now.offset c.args.tag.now.attrs.raw.now [] (g.P.Parts.seen c.args.parts.now)) c.in-Ok-Stop.field-0-0 text_seen c.in_ok-own_text-in-Ok-Stop.field-0 tt
    c.pieces.invariant.goes (record { answers = e; setting = c.next_piece.ensures.setting; cursor = c.next_piece.ensures.cursor }) c.in_ok-own_text-in-Ok-Stop.ensures.gives c.own_text.ensures.answers c.own_text.ensures.setting

pub returns-in-Err-Form : goal.returns-in-Err-Form
returns-in-Err-Form g c =
    let e = rw c.in-Err-Form.field-0-is at c.in-Err-Form.ensures.answers in
    all_form g.P.Parts.child c.args.tag.now.offset c.args.tag.now.attrs.raw.now c.pieces.text.bytes (g.P.Parts.seen c.pieces.parts) _
    c.args.walk.now c.pieces.walk c.next_piece.new.self (all_from g.P.Parts.child c.args.tag.now.offset c.args.tag.now.attrs.raw.now [] (g.P.Parts.seen c.args.parts.now)) c.in-Err-Form.at c.pieces.invariant.goes (record { answers = e.0; setting = c.next_piece.ensures.setting })

pub returns-in-Err-Depth : goal.returns-in-Err-Depth
returns-in-Err-Depth g c =
    let e = rw c.in-Err-Depth.field-0-is at c.in-Err-Depth.ensures.answers in
    all_depth g.P.Parts.child c.args.tag.now.offset c.args.tag.now.attrs.raw.now c.pieces.text.bytes (g.P.Parts.seen c.pieces.parts) _
    c.args.walk.now c.pieces.walk c.next_piece.new.self (all_from g.P.Parts.child c.args.tag.now.offset c.args.tag.now.attrs.raw.now [] (g.P.Parts.seen c.args.parts.now)) c.in-Err-Depth.at c.pieces.invariant.goes (record { answers = e.0; setting = c.next_piece.ensures.setting })

pub returns-in_err-hides : goal.returns-in_err-hides
returns-in_err-hides g c =
    let p = err_from_is_err_and c.from_residual.result c.from_residual.ensures.1 in
    rw (p.1, p.2) (memory_ran_out (is_protected c.args.tag.now.attrs.raw.now) c.in_err-hides.ensures refl)

pub returns-in_err-text : goal.returns-in_err-text
returns-in_err-text g c =
    let p = err_from_is_err_and c.from_residual-in_err-text.result c.from_residual-in_err-text.ensures.1 in
    rw (p.1, p.2) (memory_ran_out (let none : List ℕ = [] in none) c.in_err-text.ensures refl)

pub pieces-init : goal.pieces-init
pieces-init g c =
    let shown : is_protected c.args.tag.now.attrs.raw.now ≡ c.in_ok-hides.hides = cc c.in_ok-hides.ensures in
    let none : c.in_ok-text.text.bytes ≡ [] = cc c.in_ok-text.ensures in
    rw none
    (record { hides = sym shown; goes = at_start c.args.walk.now (all_from g.P.Parts.child c.args.tag.now.offset c.args.tag.now.attrs.raw.now [] (g.P.Parts.seen c.args.parts.now)) })

pub returns-in_err-text-in-Ok-Words : goal.returns-in_err-text-in-Ok-Words
returns-in_err-text-in-Ok-Words g c =
    let p = err_from_is_err_and c.from_residual-in_err-text-in-Ok-Words.result c.from_residual-in_err-text-in-Ok-Words.ensures.1 in
    rw (p.1, p.2)
    (memory_ran_out (c.pieces.text.bytes ++ unescaped c.in-Ok-Words.raw.now) c.in_err-text-in-Ok-Words.ensures (c.next_piece.ensures.setting ∙ c.pieces.invariant.goes.setting))

pub returns-in-Ok-Finish : goal.returns-in-Ok-Finish
returns-in-Ok-Finish g c = ran_out (c.next_piece.ensures.setting ∙ c.pieces.invariant.goes.setting)

pub pieces-smaller-in-Continue-branch-3 : goal.pieces-smaller-in-Continue-branch-3
pieces-smaller-in-Continue-branch-3 g c =
    let e = rw c.in-Ok-Start.field-0-is at c.in-Ok-Start.ensures.answers in
    omega (arith, ap length e, c.in_ok-read_child-in-Ok-Start.ensures.shorter)

pub pieces-smaller-then-hides : goal.pieces-smaller-then-hides
pieces-smaller-then-hides g c =
    let e = rw c.in-Ok-Words.field-0-is at c.in-Ok-Words.ensures.answers in
    omega (arith, ap length e)

pub pieces-smaller : goal.pieces-smaller
pieces-smaller g c =
    let e = rw c.in-Ok-Words.field-0-is at c.in-Ok-Words.ensures.answers in
    omega (arith, ap length e)
