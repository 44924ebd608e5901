use Rattle.std.proofs.Common.{◌≡◌, [], ◌++◌, refl, ◌∙◌, sym, ap, arith, length, Ok, Err}
use Rattle.markup_grammar.specs.Escapes.{unescaped}
use Rattle.std.proofs.lemmas.Result.{err_from_is_err_and}
use Rattle.doc_forms.specs.SeenTexts.{text_seen}
use Rattle.doc_forms.specs.Groups.{group_child}
use Rattle.doc_forms.specs.declared.fails.DocFail.TheVariants.{NoMemory}
use Rattle.doc_forms.specs.SeenDrafts.{group_parts_seen}
use Rattle.doc_entries.proofs.DocWalk.Goes.{all_from, at_start, refused, all_words, all_shown, all_child, all_refused, all_end, all_unended, all_form, all_depth}
use Rattle.doc_groups.proofs.GroupWalks.{begun, ended, children_refused, group_added, group_refused, no_memory, other_child, too_deep}
use Rattle.doc_groups.proofs.groups.+tree.Goals as goal

pub group_children-pieces-preserved-in-Continue-branch-3 : goal.group_children-pieces-preserved-in-Continue-branch-3
group_children-pieces-preserved-in-Continue-branch-3 t c =
    let e = rw c.in-Ok-Start.field-0-is at c.in-Ok-Start.ensures.answers in
    record {
      hides = c.pieces.invariant.hides;
      goes = all_child (λ s. group_child s c.args.levels) c.args.tag.now.offset c.args.tag.now.attrs.raw.now c.pieces.text.bytes (group_parts_seen c.pieces.known) (group_parts_seen c.group_child.new.known)
          c.args.walk.now c.pieces.walk c.next_piece.new.self c.group_child.new.walk _ c.in-Ok-Start.offset c.in-Ok-Start.name.now c.in-Ok-Start.attrs.raw.now c.in_ok-group_child-in-Ok-Start.field-0
          c.pieces.invariant.goes (record { answers = e; setting = c.next_piece.ensures.setting; cursor = c.next_piece.ensures.cursor }) c.in_ok-group_child-in-Ok-Start.ensures;
    }

pub group_children-returns-in_err-group_child-in-Ok-Start : goal.group_children-returns-in_err-group_child-in-Ok-Start
group_children-returns-in_err-group_child-in-Ok-Start t c =
    let e = rw c.in-Ok-Start.field-0-is at c.in-Ok-Start.ensures.answers in
    let p = err_from_is_err_and c.from_residual-in_err-group_child-in-Ok-Start.result c.from_residual-in_err-group_child-in-Ok-Start.ensures.1 in
    rw (p.1, p.2)
    (all_refused (λ s. group_child s c.args.levels) c.args.tag.now.offset c.args.tag.now.attrs.raw.now c.pieces.text.bytes (group_parts_seen c.pieces.known) (group_parts_seen c.group_child.new.known) _
    c.args.walk.now c.pieces.walk c.next_piece.new.self c.group_child.new.walk _ c.in-Ok-Start.offset c.in-Ok-Start.name.now c.in-Ok-Start.attrs.raw.now c.in_err-group_child-in-Ok-Start.field-0.0
    c.pieces.invariant.goes (record { answers = e; setting = c.next_piece.ensures.setting; cursor = c.next_piece.ensures.cursor }) c.in_err-group_child-in-Ok-Start.ensures)

pub group_children-pieces-preserved-then-hides : goal.group_children-pieces-preserved-then-hides
group_children-pieces-preserved-then-hides t c =
    let e = rw c.in-Ok-Words.field-0-is at c.in-Ok-Words.ensures.answers in
    let bytes : c.in_ok-text-in-Ok-Words.text.bytes ≡ c.pieces.text.bytes ++ unescaped c.in-Ok-Words.raw.now = cc c.in_ok-text-in-Ok-Words.ensures in
    rw bytes
    (record {
      hides = c.pieces.invariant.hides;
      goes = all_words (λ s. group_child s c.args.levels) c.args.tag.now.offset c.args.tag.now.attrs.raw.now c.pieces.text.bytes (group_parts_seen c.pieces.known)
          c.args.walk.now c.pieces.walk c.next_piece.new.self _ c.in-Ok-Words.field-0-1 c.in-Ok-Words.raw.now
          c.pieces.invariant.goes (record { answers = e; setting = c.next_piece.ensures.setting; cursor = c.next_piece.ensures.cursor });
    })

pub group_children-pieces-preserved : goal.group_children-pieces-preserved
group_children-pieces-preserved t c =
    let e = rw c.in-Ok-Words.field-0-is at c.in-Ok-Words.ensures.answers in
    record {
      hides = c.pieces.invariant.hides;
      goes = all_shown (λ s. group_child s c.args.levels) c.args.tag.now.offset c.args.tag.now.attrs.raw.now c.pieces.text.bytes (group_parts_seen c.pieces.known)
          c.args.walk.now c.pieces.walk c.next_piece.new.self _ c.in-Ok-Words.field-0-1 c.in-Ok-Words.raw.now
          c.pieces.invariant.goes (record { answers = e; setting = c.next_piece.ensures.setting; cursor = c.next_piece.ensures.cursor })
          (sym c.pieces.invariant.hides ∙ c.if-hides.false);
    }

pub group_children-returns-in_err-own_text-in-Ok-Stop : goal.group_children-returns-in_err-own_text-in-Ok-Stop
group_children-returns-in_err-own_text-in-Ok-Stop t c =
    let e = rw c.in-Ok-Stop.field-0-is at c.in-Ok-Stop.ensures.answers in
    let p = err_from_is_err_and c.from_residual-in_err-own_text-in-Ok-Stop.result c.from_residual-in_err-own_text-in-Ok-Stop.ensures.1 in
    rw (p.1, p.2)
    (all_unended (λ s. group_child s c.args.levels) c.args.tag.now.offset c.args.tag.now.attrs.raw.now c.pieces.text.bytes (group_parts_seen c.pieces.known) _
    c.args.walk.now c.pieces.walk c.next_piece.new.self c.own_text.new.self _ c.in-Ok-Stop.field-0-0 c.in_err-own_text-in-Ok-Stop.field-0.0
    c.pieces.invariant.goes (record { answers = e; setting = c.next_piece.ensures.setting; cursor = c.next_piece.ensures.cursor }) c.in_err-own_text-in-Ok-Stop.ensures.gives c.own_text.ensures.setting)

pub group_children-returns-in-Ok-Stop : goal.group_children-returns-in-Ok-Stop
group_children-returns-in-Ok-Stop t c =
    let e = rw c.in-Ok-Stop.field-0-is at c.in-Ok-Stop.ensures.answers in
    all_end (λ s. group_child s c.args.levels) c.args.tag.now.offset c.args.tag.now.attrs.raw.now c.pieces.text.bytes (group_parts_seen c.pieces.known)
    c.args.walk.now c.pieces.walk c.next_piece.new.self c.own_text.new.self _ c.in-Ok-Stop.field-0-0 text_seen c.in_ok-own_text-in-Ok-Stop.field-0 tt
    c.pieces.invariant.goes (record { answers = e; setting = c.next_piece.ensures.setting; cursor = c.next_piece.ensures.cursor }) c.in_ok-own_text-in-Ok-Stop.ensures.gives c.own_text.ensures.answers c.own_text.ensures.setting

pub group_children-returns-in-Err-Form : goal.group_children-returns-in-Err-Form
group_children-returns-in-Err-Form t c =
    let e = rw c.in-Err-Form.field-0-is at c.in-Err-Form.ensures.answers in
    all_form (λ s. group_child s c.args.levels) c.args.tag.now.offset c.args.tag.now.attrs.raw.now c.pieces.text.bytes (group_parts_seen c.pieces.known) _
    c.args.walk.now c.pieces.walk c.next_piece.new.self _ c.in-Err-Form.at c.pieces.invariant.goes (record { answers = e.0; setting = c.next_piece.ensures.setting })

pub group_children-returns-in-Err-Depth : goal.group_children-returns-in-Err-Depth
group_children-returns-in-Err-Depth t c =
    let e = rw c.in-Err-Depth.field-0-is at c.in-Err-Depth.ensures.answers in
    all_depth (λ s. group_child s c.args.levels) c.args.tag.now.offset c.args.tag.now.attrs.raw.now c.pieces.text.bytes (group_parts_seen c.pieces.known) _
    c.args.walk.now c.pieces.walk c.next_piece.new.self _ c.in-Err-Depth.at c.pieces.invariant.goes (record { answers = e.0; setting = c.next_piece.ensures.setting })

pub group-returns-in-Ok : goal.group-returns-in-Ok
group-returns-in-Ok t c =
    let steps = rw c.in-Ok.ensures.1 at c.group_children-read.ensures in
    let gives = rw c.in-Ok.ensures.0 at c.whole_group.ensures.gives in
    ended c.args.levels c.args.fits c.args.tag.now c.args.walk.now c.group_children-read.new.walk c.whole_group.new.walk c.in-Ok.both.1 (group_parts_seen c.group_children-read.new.known) c.whole_group.result
    (begun c.args.levels c.args.tag.now c.args.walk.now c.group_children-read.new.walk (Ok c.in-Ok.both.1) (group_parts_seen c.no_group-known.result) (group_parts_seen c.group_children-read.new.known) c.no_group-known.ensures steps)
    gives c.whole_group.ensures.answers c.whole_group.ensures.setting

pub group-returns-in-Err : goal.group-returns-in-Err
group-returns-in-Err t c =
    let steps = rw c.in-Err.ensures at c.group_children-read.ensures in
    children_refused c.args.levels c.args.fits c.args.tag.now c.args.walk.now c.group_children-read.new.walk (group_parts_seen c.group_children-read.new.known) c.in-Err.refusal
    (begun c.args.levels c.args.tag.now c.args.walk.now c.group_children-read.new.walk (Err c.in-Err.refusal) (group_parts_seen c.no_group-known.result) (group_parts_seen c.group_children-read.new.known) c.no_group-known.ensures steps)

pub group_child-returns-then-ne : goal.group_child-returns-then-ne
group_child-returns-then-ne t c =
    other_child (λ _. group_parts_seen c.read_child.new.known) c.args.walk.now c.read_child.new.walk c.read_child.result c.args.levels (group_parts_seen c.args.known.now) c.args.tag.now
    c.ne.result c.ne.ensures c.if-ne.true c.read_child.ensures

pub group_child-returns-then-levels-eq0 : goal.group_child-returns-then-levels-eq0
group_child-returns-then-levels-eq0 t c =
    too_deep (λ _. group_parts_seen c.args.known.now) c.args.walk.now c.args.levels (group_parts_seen c.args.known.now) c.args.tag.now
    c.ne.result c.ne.ensures c.if-ne.false c.if-levels-eq0.true

pub group_child-returns : goal.group_child-returns
group_child-returns t c =
    group_added c.args.walk.now c.group.new.walk c.in_ok-draft.draft (group_parts_seen c.add_group.new.known) c.add_group.result c.args.levels (group_parts_seen c.args.known.now) c.args.tag.now
    c.ne.result c.ne.ensures c.if-ne.false c.if-levels-eq0.false c.in_ok-draft.ensures c.add_group.ensures

pub group_child-returns-in_err-draft : goal.group_child-returns-in_err-draft
group_child-returns-in_err-draft t c =
    let p = err_from_is_err_and c.from_residual.result c.from_residual.ensures.1 in
    rw (p.1, p.2)
    (group_refused (λ _. group_parts_seen c.args.known.now) c.args.walk.now c.group.new.walk c.in_err-draft.field-0.0 c.args.levels (group_parts_seen c.args.known.now) c.args.tag.now
    c.ne.result c.ne.ensures c.if-ne.false c.if-levels-eq0.false c.in_err-draft.ensures)

pub group_children-returns-in_err-hides : goal.group_children-returns-in_err-hides
group_children-returns-in_err-hides t c =
    let p = err_from_is_err_and c.from_residual.result c.from_residual.ensures.1 in
    rw (p.1, p.2) (no_memory _ c.args.walk.now c.args.walk.now _ c.in_err-hides.field-0.0 _ c.in_err-hides.ensures refl)

pub group_children-returns-in_err-text : goal.group_children-returns-in_err-text
group_children-returns-in_err-text t c =
    let p = err_from_is_err_and c.from_residual-in_err-text.result c.from_residual-in_err-text.ensures.1 in
    rw (p.1, p.2) (no_memory _ c.args.walk.now c.args.walk.now _ c.in_err-text.field-0.0 _ c.in_err-text.ensures refl)

pub group_children-pieces-init : goal.group_children-pieces-init
group_children-pieces-init t c =
    let bytes : c.in_ok-text.text.bytes ≡ [] = cc c.in_ok-text.ensures in
    rw bytes
    (record {
      hides = cc c.in_ok-hides.ensures;
      goes = at_start c.args.walk.now (all_from (λ s. group_child s c.args.levels) c.args.tag.now.offset c.args.tag.now.attrs.raw.now [] (group_parts_seen c.args.known.now));
    })

pub group_children-returns-in_err-text-in-Ok-Words : goal.group_children-returns-in_err-text-in-Ok-Words
group_children-returns-in_err-text-in-Ok-Words t c =
    let p = err_from_is_err_and c.from_residual-in_err-text-in-Ok-Words.result c.from_residual-in_err-text-in-Ok-Words.ensures.1 in
    rw (p.1, p.2)
    (no_memory _ c.args.walk.now c.next_piece.new.self _ c.in_err-text-in-Ok-Words.field-0.0 _ c.in_err-text-in-Ok-Words.ensures (c.next_piece.ensures.setting ∙ c.pieces.invariant.goes.setting))

pub group_children-returns-in-Ok-Finish : goal.group_children-returns-in-Ok-Finish
group_children-returns-in-Ok-Finish t c =
    refused _ c.args.walk.now c.next_piece.new.self _ NoMemory tt (c.next_piece.ensures.setting ∙ c.pieces.invariant.goes.setting)

pub group_children-pieces-smaller-in-Continue-branch-3 : goal.group_children-pieces-smaller-in-Continue-branch-3
group_children-pieces-smaller-in-Continue-branch-3 t c =
    let e = rw c.in-Ok-Start.field-0-is at c.in-Ok-Start.ensures.answers in
    omega (arith, ap length e, c.in_ok-group_child-in-Ok-Start.ensures.shorter)

pub group_children-pieces-smaller-then-hides : goal.group_children-pieces-smaller-then-hides
group_children-pieces-smaller-then-hides t c =
    let e = rw c.in-Ok-Words.field-0-is at c.in-Ok-Words.ensures.answers in
    omega (arith, ap length e)

pub group_children-pieces-smaller : goal.group_children-pieces-smaller
group_children-pieces-smaller t c =
    let e = rw c.in-Ok-Words.field-0-is at c.in-Ok-Words.ensures.answers in
    omega (arith, ap length e)

pub group_children-group_child-requires : goal.group_children-group_child-requires
group_children-group_child-requires t c =
    let e = rw c.in-Ok-Start.field-0-is at c.in-Ok-Start.ensures.answers in
    (omega (arith, ap length e, c.pieces.invariant.goes.shorter, c.decreases), tt)
