use Rattle.std.proofs.Common.{ap, map, refl, subst, sym, true, ◌≡◌, ◌∙◌}
use Rattle.std.proofs.lemmas.Result.{err_from_is_err_and}
use Rattle.std.specs.List.{list_all}
use Rattle.std.specs.Str.{is_utf8}
use Rattle.vault_model.specs.SeenDoc.{doc_seen}
use Rattle.cli_lines.specs.Lines.{IsTextLine}
use Rattle.cli_lines.specs.SeenLines.{values_seen}
use Rattle.cli_commands.specs.SeenChange.{change_seen, doc_if}
use Rattle.call_run.specs.SeenRequest.{task_by}
use Rattle.cli_commands.proofs.Changes.{loses_both}
use Rattle.cli_files.specs.SeenOpened.{opened_seen}
use Rattle.call_run.proofs.Carried.{change_refused, ends_by, file_refused, inputs_are, leaves_so, lent_seen, made_so, no_change, of_dice, order_after, stream_command, tells_after, tells_change, undrawn_unsealed, with_doc, write_command}
use Rattle.call_run.proofs.carrying.step.Goals as goal

pub perform-requires-clause-text : goal.perform-requires-clause-text
perform-requires-clause-text g c = record {
  more = subst IsTextLine (sym c.bytes_in.ensures) c.requires.text.more;
  otp = subst IsTextLine (sym c.bytes_in-2.ensures) c.requires.text.otp;
  fields = subst (λ (fields : _). list_all is_utf8 (values_seen fields) ≡ true) (sym c.as_slice.ensures) c.requires.text.fields;
}

pub returns-clause-told : goal.returns-clause-told
returns-clause-told g c = λ truthful d t.
    let is = inputs_are _ _ _ _ _ _ _ (task_by c.args.request.now c.args.opened.now) c.bytes_in.ensures c.bytes_in-2.ensures (ap values_seen c.as_slice.ensures)
    (lent_seen (λ bytes. bytes.value.bytes) c.as_ref.result _ c.as_ref.ensures.value) (ap (map doc_seen) c.as_slice-2.ensures) c.settings_of.ensures c.as_slice-3.ensures in
    let made = c.in_ok-change.ensures.told (c.in_ok-write_change.ensures.dice_truthful truthful) d (tells_change c.args.request.now.command _ d t) in
    ends_by c.args.now (task_by c.args.request.now c.args.opened.now) _ d is (change_seen c.in_ok-change.change (doc_seen c.perform.new.doc)) _ _ _ _ _ made.0 made.1
    (c.in_ok-write_change.ensures.told truthful _
    (tells_after _ _ _ _ d _ (λ e. undrawn_unsealed c.args.request.now.command _ c.in_ok-change.change.is_written c.in_ok-change.ensures.unwritten c.requires.sealed e) t made.1))

pub returns-clause-of_dice : goal.returns-clause-of_dice
returns-clause-of_dice g c = λ truthful d t.
    let is = inputs_are _ _ _ _ _ _ _ (task_by c.args.request.now c.args.opened.now) c.bytes_in.ensures c.bytes_in-2.ensures (ap values_seen c.as_slice.ensures)
    (lent_seen (λ bytes. bytes.value.bytes) c.as_ref.result _ c.as_ref.ensures.value) (ap (map doc_seen) c.as_slice-2.ensures) c.settings_of.ensures c.as_slice-3.ensures in
    let made = c.in_ok-change.ensures.told (c.in_ok-write_change.ensures.dice_truthful truthful) d (tells_change c.args.request.now.command _ d t) in
    of_dice c.args.now (task_by c.args.request.now c.args.opened.now) _ d is _ (change_seen c.in_ok-change.change (doc_seen c.perform.new.doc)) _ _ refl made.0
    c.in_ok-write_change.ensures.held

pub returns-clause-some_dice : goal.returns-clause-some_dice
returns-clause-some_dice g c =
    let is = inputs_are _ _ _ _ _ _ _ (task_by c.args.request.now c.args.opened.now) c.bytes_in.ensures c.bytes_in-2.ensures (ap values_seen c.as_slice.ensures)
    (lent_seen (λ bytes. bytes.value.bytes) c.as_ref.result _ c.as_ref.ensures.value) (ap (map doc_seen) c.as_slice-2.ensures) c.settings_of.ensures c.as_slice-3.ensures in
    let made = c.in_ok-change.ensures.some_dice in (
      made.0,
      of_dice c.args.now (task_by c.args.request.now c.args.opened.now) _ made.0 is _ (change_seen c.in_ok-change.change (doc_seen c.perform.new.doc)) _ _ refl made.1
          c.in_ok-write_change.ensures.held,
    )

pub returns-clause-unwritten : goal.returns-clause-unwritten
returns-clause-unwritten g c = c.in_ok-write_change.ensures.unwritten

pub returns-clause-undrawn : goal.returns-clause-undrawn
returns-clause-undrawn g c = λ e.
    c.in_ok-write_change.ensures.undrawn (undrawn_unsealed c.args.request.now.command _ c.in_ok-change.change.is_written c.in_ok-change.ensures.unwritten c.requires.sealed e) ∙ c.in_ok-change.ensures.undrawn (no_change c.args.request.now.command e)

pub returns-clause-stream : goal.returns-clause-stream
returns-clause-stream g c = loses_both _ _ _ c.in_ok-change.ensures.stream c.in_ok-write_change.ensures.stream

pub returns-in_err-change-clause-told : goal.returns-in_err-change-clause-told
returns-in_err-change-clause-told g c = λ truthful d t.
    let p = err_from_is_err_and c.from_residual.result c.from_residual.ensures.1 in
    let is = inputs_are _ _ _ _ _ _ _ (task_by c.args.request.now c.args.opened.now) c.bytes_in.ensures c.bytes_in-2.ensures (ap values_seen c.as_slice.ensures)
    (lent_seen (λ bytes. bytes.value.bytes) c.as_ref.result _ c.as_ref.ensures.value) (ap (map doc_seen) c.as_slice-2.ensures) c.settings_of.ensures c.as_slice-3.ensures in
    rw (p.1, p.2) (change_refused c.args.now (task_by c.args.request.now c.args.opened.now) _ d is c.in_err-change.field-0.0 _ _ _
    (c.in_err-change.ensures.told truthful d (tells_change c.args.request.now.command _ d t)))

pub returns-in_err-change-clause-undrawn : goal.returns-in_err-change-clause-undrawn
returns-in_err-change-clause-undrawn g c = λ e. c.in_err-change.ensures.undrawn (no_change c.args.request.now.command e)

pub returns-in_err-change-clause-cause : goal.returns-in_err-change-clause-cause
returns-in_err-change-clause-cause g c =
    let p = err_from_is_err_and c.from_residual.result c.from_residual.ensures.1 in
    rw (p.1, p.2) (stream_command c.in_err-change.field-0.0 _ _ _ _ c.in_err-change.ensures.cause)

pub returns-in_err-write_change-clause-told : goal.returns-in_err-write_change-clause-told
returns-in_err-write_change-clause-told g c = λ truthful d t.
    let is = inputs_are _ _ _ _ _ _ _ (task_by c.args.request.now c.args.opened.now) c.bytes_in.ensures c.bytes_in-2.ensures (ap values_seen c.as_slice.ensures)
    (lent_seen (λ bytes. bytes.value.bytes) c.as_ref.result _ c.as_ref.ensures.value) (ap (map doc_seen) c.as_slice-2.ensures) c.settings_of.ensures c.as_slice-3.ensures in
    let made = c.in_ok-change.ensures.told (c.in_err-write_change.ensures.dice_truthful truthful) d (tells_change c.args.request.now.command _ d t) in
    let p = err_from_is_err_and c.from_residual-in_err-write_change.result c.from_residual-in_err-write_change.ensures.1 in
    rw (p.1, p.2) (file_refused c.args.now (task_by c.args.request.now c.args.opened.now) _ d is c.in_err-write_change.field-0.0
    (change_seen c.in_ok-change.change (doc_seen c.perform.new.doc)) _ _ _ _ _ made.0 made.1
    (c.in_err-write_change.ensures.told truthful _
    (tells_after _ _ _ _ d _ (λ e. undrawn_unsealed c.args.request.now.command _ c.in_ok-change.change.is_written c.in_ok-change.ensures.unwritten c.requires.sealed e) t made.1)))

pub returns-in_err-write_change-clause-unwritten : goal.returns-in_err-write_change-clause-unwritten
returns-in_err-write_change-clause-unwritten g c = c.in_err-write_change.ensures.unwritten

pub returns-in_err-write_change-clause-undrawn : goal.returns-in_err-write_change-clause-undrawn
returns-in_err-write_change-clause-undrawn g c = λ e.
    c.in_err-write_change.ensures.undrawn (undrawn_unsealed c.args.request.now.command _ c.in_ok-change.change.is_written c.in_ok-change.ensures.unwritten c.requires.sealed e) ∙ c.in_ok-change.ensures.undrawn (no_change c.args.request.now.command e)

pub returns-in_err-write_change-clause-stream : goal.returns-in_err-write_change-clause-stream
returns-in_err-write_change-clause-stream g c = loses_both _ _ _ c.in_ok-change.ensures.stream c.in_err-write_change.ensures.stream

pub returns-in_err-write_change-clause-cause : goal.returns-in_err-write_change-clause-cause
returns-in_err-write_change-clause-cause g c =
    let p = err_from_is_err_and c.from_residual-in_err-write_change.result c.from_residual-in_err-write_change.ensures.1 in
    rw (p.1, p.2) (write_command c.in_err-write_change.field-0.0 _ _ _ _ _ _ c.in_ok-change.ensures.faults c.in_err-write_change.ensures.cause)

pub returns-clause-leaves : goal.returns-clause-leaves
returns-clause-leaves g c = λ truthful d t.
    let is = inputs_are _ _ _ _ _ _ _ (task_by c.args.request.now c.args.opened.now) c.bytes_in.ensures c.bytes_in-2.ensures (ap values_seen c.as_slice.ensures)
    (lent_seen (λ bytes. bytes.value.bytes) c.as_ref.result _ c.as_ref.ensures.value) (ap (map doc_seen) c.as_slice-2.ensures) c.settings_of.ensures c.as_slice-3.ensures in
    let made = c.in_ok-change.ensures.told (c.in_ok-write_change.ensures.dice_truthful truthful) d (tells_change c.args.request.now.command _ d t) in
    let change = change_seen c.in_ok-change.change (doc_seen c.perform.new.doc) in
    leaves_so _ c.in_ok-change.change.is_written _ change (opened_seen c.args.opened.now) _ (doc_seen c.perform.new.doc)
    (made_so c.args.now (task_by c.args.request.now c.args.opened.now) _ d is change made.0) refl c.in_ok-write_change.ensures.opened c.in_ok-change.ensures.kept

pub returns-clause-still_in_order : goal.returns-clause-still_in_order
returns-clause-still_in_order g c =
    order_after (with_doc (doc_seen c.perform.new.doc) (opened_seen c.args.opened.now)) (opened_seen c.write_change.new.opened) (doc_if c.in_ok-change.change.is_written (doc_seen c.perform.new.doc))
    c.in_ok-write_change.ensures.opened c.requires.in_order

pub returns-in_err-write_change-clause-still_in_order : goal.returns-in_err-write_change-clause-still_in_order
returns-in_err-write_change-clause-still_in_order g c =
    order_after (with_doc (doc_seen c.perform.new.doc) (opened_seen c.args.opened.now)) (opened_seen c.write_change.new.opened) (doc_if c.in_ok-change.change.is_written (doc_seen c.perform.new.doc))
    c.in_err-write_change.ensures.opened c.requires.in_order
