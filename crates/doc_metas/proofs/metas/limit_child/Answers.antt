use Rattle.std.proofs.Common.{ℤ, List, drop, refl}
use Rattle.vault_model.specs.declared.contents.Item.{Item}
use Rattle.doc_forms.specs.Metas.{meta_rows, with_meta, with_settings}
use Rattle.doc_forms.specs.SeenDrafts.{meta_parts}
use Rattle.doc_walk.proofs.Rests.{by_later_rows, kept_in}
use Rattle.doc_metas.proofs.metas.limit_child.Goals as goal

pub returns-in-HistoryMaxItems : goal.returns-in-HistoryMaxItems
returns-in-HistoryMaxItems c = rw c.in-HistoryMaxItems.is (kept_in (λ (v : ℤ). with_settings (λ m. record m { history_items = v }) (meta_parts c.args.known.now)) c.keep.ensures)

pub returns-in-HistoryMaxSize : goal.returns-in-HistoryMaxSize
returns-in-HistoryMaxSize c = rw c.in-HistoryMaxSize.is (kept_in (λ (v : ℤ). with_settings (λ m. record m { history_size = v }) (meta_parts c.args.known.now)) c.keep-in-HistoryMaxSize.ensures)

pub returns-in-CustomData : goal.returns-in-CustomData
returns-in-CustomData c = rw c.in-CustomData.is (kept_in (λ (v : List Item). with_meta (λ m. record m { items = v }) (meta_parts c.args.known.now)) c.custom_data.ensures)

pub returns-in_default : goal.returns-in_default
returns-in_default c =
    by_later_rows (λ _. meta_parts c.last_child.new.known) c.args.walk.now c.last_child.new.walk c.last_child.result 3 (λ s. drop 24 (meta_rows s)) (meta_parts c.args.known.now) c.args.tag.now (λ _. refl)
    (λ _. (c.in_default.not-HistoryMaxItems, (c.in_default.not-HistoryMaxSize, (c.in_default.not-CustomData, tt))))
    c.last_child.ensures
