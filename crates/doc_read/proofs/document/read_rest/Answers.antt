use Rattle.std.specs.Prelude.{option_map}
use Rattle.std.proofs.Common.{◌∙◌, sym, subst, ap, arith, length}
use Rattle.std.proofs.lemmas.Result.{err_from_is_err_and}
use Rattle.doc_forms.specs.Refusals.{Fails}
use Rattle.doc_forms.specs.SeenDrafts.{file_parts}
use Rattle.doc_read.proofs.TextPieces.{after_words, after_element, element_refused, at_finish, at_form, at_depth}
use Rattle.doc_read.proofs.document.read_rest.Goals as goal

pub pieces-preserved-in-Continue-1 : goal.pieces-preserved-in-Continue-1
pieces-preserved-in-Continue-1 c =
    let e = rw c.in-Ok-Start.field-0-is at c.in-Ok-Start.ensures.answers in
    let one = rw (c.next_piece.ensures.setting, c.pieces.invariant.setting, c.next_piece.ensures.cursor) at c.in_ok-document_child-in-Ok-Start.ensures.gives in
    record {
      gives = sym (after_element c.args.walk.now.setting c.pieces.walk.answers c.next_piece.new.self.answers c.document_child.new.walk.answers (option_map file_parts c.pieces.known) (option_map file_parts c.document_child.new.known) c.pieces.walk.cursor c.document_child.new.walk.cursor
          c.in-Ok-Start.offset c.in-Ok-Start.name.now c.in-Ok-Start.attrs.raw.now e one c.in_ok-document_child-in-Ok-Start.ensures.left) ∙ c.pieces.invariant.gives;
      setting = c.in_ok-document_child-in-Ok-Start.ensures.setting ∙ (c.next_piece.ensures.setting ∙ c.pieces.invariant.setting);
    }

pub returns-in_err-document_child-in-Ok-Start : goal.returns-in_err-document_child-in-Ok-Start
returns-in_err-document_child-in-Ok-Start c =
    let e = rw c.in-Ok-Start.field-0-is at c.in-Ok-Start.ensures.answers in
    let fails = rw (c.next_piece.ensures.setting, c.pieces.invariant.setting, c.next_piece.ensures.cursor) at c.in_err-document_child-in-Ok-Start.ensures.gives in
    let p = err_from_is_err_and c.from_residual.result c.from_residual.ensures.1 in
    rw (p.1, p.2)
    (subst (Fails c.in_err-document_child-in-Ok-Start.field-0.0) c.pieces.invariant.gives
    (element_refused c.args.walk.now.setting c.pieces.walk.answers c.next_piece.new.self.answers (option_map file_parts c.pieces.known) c.pieces.walk.cursor
    c.in-Ok-Start.offset c.in-Ok-Start.name.now c.in-Ok-Start.attrs.raw.now c.in_err-document_child-in-Ok-Start.field-0.0 e fails))

pub pieces-preserved : goal.pieces-preserved
pieces-preserved c =
    let e = rw c.in-Ok-Words.field-0-is at c.in-Ok-Words.ensures.answers in
    record {
      gives = rw c.next_piece.ensures.cursor
          (sym (after_words c.args.walk.now.setting c.pieces.walk.answers c.next_piece.new.self.answers (option_map file_parts c.pieces.known) c.pieces.walk.cursor c.in-Ok-Words.field-0-1 c.in-Ok-Words.field-0-0.now e) ∙ c.pieces.invariant.gives);
      setting = c.next_piece.ensures.setting ∙ c.pieces.invariant.setting;
    }

pub returns-in-Ok-Finish : goal.returns-in-Ok-Finish
returns-in-Ok-Finish c =
    let e = rw c.in-Ok-Finish.field-0-is at c.in-Ok-Finish.ensures.answers in
    sym c.pieces.invariant.gives ∙ at_finish c.args.walk.now.setting c.pieces.walk.answers (option_map file_parts c.pieces.known) c.pieces.walk.cursor e.0

pub returns-in-Err-Form : goal.returns-in-Err-Form
returns-in-Err-Form c =
    let e = rw c.in-Err-Form.field-0-is at c.in-Err-Form.ensures.answers in
    sym c.pieces.invariant.gives ∙ at_form c.args.walk.now.setting c.pieces.walk.answers (option_map file_parts c.pieces.known) c.pieces.walk.cursor c.in-Err-Form.at e.0

pub returns-in-Err-Depth : goal.returns-in-Err-Depth
returns-in-Err-Depth c =
    let e = rw c.in-Err-Depth.field-0-is at c.in-Err-Depth.ensures.answers in
    sym c.pieces.invariant.gives ∙ at_depth c.args.walk.now.setting c.pieces.walk.answers (option_map file_parts c.pieces.known) c.pieces.walk.cursor c.in-Err-Depth.at e.0

pub pieces-smaller-in-Continue-1 : goal.pieces-smaller-in-Continue-1
pieces-smaller-in-Continue-1 c =
    let e = rw c.in-Ok-Start.field-0-is at c.in-Ok-Start.ensures.answers in
    omega (arith, ap length e, c.in_ok-document_child-in-Ok-Start.ensures.shorter)

pub pieces-smaller : goal.pieces-smaller
pieces-smaller c =
    let e = rw c.in-Ok-Words.field-0-is at c.in-Ok-Words.ensures.answers in
    omega (arith, ap length e)
