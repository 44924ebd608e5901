use Rattle.std.proofs.Common.{◌≡◌, List, ℕ, refl}
use Rattle.std.proofs.lemmas.Result.{err_from_is_err_and}
use Rattle.vault_model.specs.Bare.{BareField}
use Rattle.vault_model.specs.Seen.{bare_field}
use Rattle.doc_forms.specs.ElementTexts.{is_hidden}
use Rattle.doc_forms.specs.Entries.{field_rows}
use Rattle.doc_walk.proofs.Branches.{passed_over}
use Rattle.doc_walk.proofs.Memory.{memory_ran_out}
use Rattle.doc_walk.proofs.Rests.{kept_in}
use Rattle.doc_entries.proofs.fields.FieldDraftParts.read_child.Goals as goal

pub returns-in-Key : goal.returns-in-Key
returns-in-Key c = rw c.in-Key.is (kept_in (λ (v : List ℕ). let p : BareField = record (bare_field c.args.self.now.field) { key = v } in p) c.keep.ensures)

pub returns-in_ok-hidden-in-Value : goal.returns-in_ok-hidden-in-Value
returns-in_ok-hidden-in-Value c =
    let e : is_hidden c.args.tag.now.attrs.raw.now ≡ c.in_ok-hidden-in-Value.hidden = cc c.in_ok-hidden-in-Value.ensures in
    rw (c.in-Value.is, ← e)
    (kept_in (λ (v : List ℕ). let p : BareField = record (bare_field c.args.self.now.field) { value = v; hidden = is_hidden c.args.tag.now.attrs.raw.now } in p) c.keep-in-Value.ensures)

pub returns-in_err-hidden-in-Value : goal.returns-in_err-hidden-in-Value
returns-in_err-hidden-in-Value c =
    let p = err_from_is_err_and c.from_residual.result c.from_residual.ensures.1 in
    rw (p.1, p.2) (memory_ran_out (is_hidden c.args.tag.now.attrs.raw.now) c.in_err-hidden-in-Value.ensures refl)

pub returns-in_default : goal.returns-in_default
returns-in_default c =
    passed_over c.args.walk.now c.pass.new.self c.pass.result field_rows (bare_field c.args.self.now.field) c.args.tag.now
    (λ _. (c.in_default.not-Key, (c.in_default.not-Value, tt)))
    c.pass.ensures
