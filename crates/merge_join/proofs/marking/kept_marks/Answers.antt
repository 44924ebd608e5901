-- The loop marks from the root on, one known id after another.
use Rattle.std.proofs.Common.{◌≡◌, ◌<◌, ◌+◌, ◌≤◌, true, length, drop, List, arith, sym, subst, ◌∙◌}
use Rattle.std.proofs.lemmas.Result.{err_from_is_err_and}
use Rattle.std.specs.FinMap.{empty, insert}
use Rattle.vault_model.specs.Db.{NodeId}
use Rattle.vault_model.specs.Join.{root_of}
use Rattle.merge_tables.specs.Databases.{databases}
use Rattle.merge_parts.proofs.Members.{root_first}
use Rattle.merge_tables.proofs.ListSteps.{drop_next, drop_end}
use Rattle.merge_core.proofs.Marked.{IsMarking, begin, next, stuck, done}
use Rattle.merge_join.proofs.KnownIds.{held_known, stray_least}
use Rattle.merge_join.proofs.NotEmpty.{not_empty, refused}
use Rattle.merge_join.proofs.marking.kept_marks.Goals as goal

pub loop-id-init : goal.loop-id-init
loop-id-init c =
    let ms = c.args.members.now in
    let S = databases ms in
    let known = c.args.known.now in
    let root = root_first ms c.index-members-0.result c.requires.some in
    let new : c.put.new.self ≡ insert empty (root_of S) true =
    c.in_ok-put.ensures.ok ∙ (λ i. insert (c.new-marked.ensures i) (root i) true) in
    subst (IsMarking S known known) (sym new) (begin S (not_empty ms c.requires.some) c.requires.root c.requires.sound known (held_known S known c.requires.known))

pub returns-in_err-mark_from : goal.returns-in_err-mark_from
returns-in_err-mark_from c =
    let ms = c.args.members.now in
    let S = databases ms in
    let known = c.args.known.now in
    let i = c.loop-id.id-index in
    let id = c.id-item.result in
    let t = c.loop-id.marked in
    let lt : i < length known = omega arith in
    let here = subst (λ (us : List NodeId). IsMarking S known us t) (drop_next known i id lt c.id-item.is) c.loop-id.invariant in
    let answer = refused S (length known) id t c.in_err-mark_from.field-0.0 c.in_err-mark_from.ensures.err (λ n.
    sym (stray_least S (not_empty ms c.requires.some) c.requires.root c.requires.sound known c.requires.rising c.requires.known)
    ∙ stuck S (not_empty ms c.requires.some) c.requires.root c.requires.sound known id (drop (i + 1) known) t (held_known S known c.requires.known) here n) in
    let p = err_from_is_err_and c.from_residual-in_err-mark_from.result c.from_residual-in_err-mark_from.ensures.1 in
    rw (p.1, p.2) answer

pub loop-id-preserved : goal.loop-id-preserved
loop-id-preserved c =
    let ms = c.args.members.now in
    let S = databases ms in
    let known = c.args.known.now in
    let i = c.loop-id.id-index in
    let id = c.id-item.result in
    let t = c.loop-id.marked in
    let lt : i < length known = omega arith in
    let here = subst (λ (us : List NodeId). IsMarking S known us t) (drop_next known i id lt c.id-item.is) c.loop-id.invariant in
    next S (not_empty ms c.requires.some) c.requires.root c.requires.sound known id (drop (i + 1) known) t c.mark_from.new.marked (length known) here
    c.in_ok-mark_from.ensures.ok

pub returns : goal.returns
returns c =
    let ms = c.args.members.now in
    let S = databases ms in
    let known = c.args.known.now in
    let end : length known ≤ c.loop-id.id-index = omega arith in
    let d =
    done S (not_empty ms c.requires.some) c.requires.root c.requires.sound known c.loop-id.marked
    (subst (λ (us : List NodeId). IsMarking S known us c.loop-id.marked) (drop_end known c.loop-id.id-index end) c.loop-id.invariant) in
    (d.0, sym (stray_least S (not_empty ms c.requires.some) c.requires.root c.requires.sound known c.requires.rising c.requires.known) ∙ d.1)
