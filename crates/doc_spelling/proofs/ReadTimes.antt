-- The times of a node are read back.
use Rattle.std.proofs.Common.{◌≡◌, false, codes, ap, refl, ◌∙◌, arith}
use Rattle.vault_model.specs.declared.forms.DocForm.{DocForm}
use Rattle.doc_forms.specs.declared.times.Times.{Times}
use Rattle.doc_forms.specs.ElementTexts.{Setting}
use Rattle.doc_forms.specs.Tables.{no_times, times_rows, times}
use Rattle.doc_spelling.proofs.Goods.{GoodTimes}
use Rattle.doc_spelling.specs.Values.{times_piece}
use Rattle.doc_spelling.proofs.Frame.{identity, Reads, reads_none, ◌▸◌, by_row, container_reads, text_value}
use Rattle.doc_spelling.proofs.ValueTexts.{bool_says, number_says}
use Rattle.doc_spelling.proofs.TimeTexts.{stamp_says}

pub times_read : {P V : Type 0} {s : Setting} {view : P → V} (form : DocForm) (t : Times) → GoodTimes t
    → (keep : P → Times → P) (g : V → V) → ((p : P) → view (keep p t) ≡ g (view p))
    → Reads s view (times s keep) (times_piece form t) g 0
times_read {s = s} {view} form t h keep g kept =
    let rows = times_rows s in
    container_reads rows no_times keep (codes "Times") g (λ p q e. ap (λ q. view (keep p q)) e ∙ kept p)
    (by_row rows (text_value s identity _ _ _ _ t.modified (λ v. record v { modified = t.modified }) (stamp_says form t.modified h.modified) (λ p. refl))
    ▸ by_row rows (text_value s identity _ _ _ _ t.created (λ v. record v { created = t.created }) (stamp_says form t.created h.created) (λ p. refl))
    ▸ by_row rows (text_value s identity _ _ _ _ t.accessed (λ v. record v { accessed = t.accessed }) (stamp_says form t.accessed h.accessed) (λ p. refl))
    ▸ by_row rows (text_value s identity _ _ _ _ t.expiry (λ v. record v { expiry = t.expiry }) (stamp_says form t.expiry h.expiry) (λ p. refl))
    ▸ by_row rows (text_value s identity _ _ _ _ t.expires (λ v. record v { expires = t.expires }) (bool_says false t.expires) (λ p. refl))
    ▸ by_row rows (text_value s identity _ _ _ _ t.usage (λ v. record v { usage = t.usage }) (number_says 0 18446744073709551615 t.usage h.usage (omega arith)) (λ p. refl))
    ▸ by_row rows (text_value s identity _ _ _ _ t.placed (λ v. record v { placed = t.placed }) (stamp_says form t.placed h.placed) (λ p. refl))
    ▸ reads_none)
