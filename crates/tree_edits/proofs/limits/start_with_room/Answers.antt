use Rattle.std.proofs.Common.{◌≢◌, length, arith, refl, sym, ap, ◌∙◌}
use Rattle.vault_model.specs.Seen.{bare_content}
use Rattle.vault_model.specs.declared.nodes.Version.{Version}
use Rattle.tree_core.specs.Histories.{content_size}
use Rattle.tree_edits.specs.Rooms.{room_left}
use Rattle.tree_edits.proofs.Suffixes.{room_next, starts_first, starts_full, whole_room}
use Rattle.tree_edits.proofs.limits.start_with_room.Goals as goal

pub loop-start-init : goal.loop-start-init
loop-start-init c =
    let least = c.requires in
    record {
      low = omega (arith, least);
      within = omega arith;
      room = whole_room c.args.limit c.args.history.now (length c.args.history.now) refl;
    }

pub loop-start-preserved : goal.loop-start-preserved
loop-start-preserved c =
    let test = c.loop-start-test.true in
    let within = c.loop-start.invariant.within in
    let some : c.loop-start.start ≢ 0 = omega (arith, test) in
    record {
      low = omega (arith, test);
      within = omega (arith, within);
      room = room_next c.args.limit c.args.history.now c.loop-start.start c.loop-start.room c.in-Some.rest c.index-history-start.result some within c.index-history-start.is c.loop-start.invariant.room
          (sym c.in-Some.is ∙ c.room_after_content.ensures
          ∙ ap (λ (v : Version). room_left c.loop-start.room (content_size (bare_content v.content))) (sym c.index-history-start.is));
    }

pub returns-in_default : goal.returns-in_default
returns-in_default c =
    starts_full c.args.limit c.args.history.now c.args.least c.loop-start.start c.loop-start.room c.index-history-start.result c.loop-start-test.true c.loop-start.invariant.within c.index-history-start.is
    c.loop-start.invariant.room
    (sym c.in_default.is ∙ c.room_after_content.ensures ∙ ap (λ (v : Version). room_left c.loop-start.room (content_size (bare_content v.content))) (sym c.index-history-start.is))

pub returns : goal.returns
returns c =
    starts_first c.args.limit c.args.history.now c.args.least c.loop-start.start c.loop-start.room c.loop-start.invariant.low c.loop-start.invariant.within c.loop-start-test.false
    c.loop-start.invariant.room
