use Rattle.std.proofs.Common.{ℕ, Bool, drop, refl}
use Rattle.vault_model.specs.Db.{NodeId}
use Rattle.doc_forms.specs.Metas.{meta_rows, with_meta, with_view, with_bin}
use Rattle.doc_forms.specs.SeenDrafts.{meta_parts}
use Rattle.doc_walk.proofs.Rests.{by_later_rows, kept_in}
use Rattle.doc_metas.proofs.metas.bin_child.Goals as goal

pub returns-in-RecycleBinEnabled : goal.returns-in-RecycleBinEnabled
returns-in-RecycleBinEnabled c = rw c.in-RecycleBinEnabled.is (kept_in (λ (v : Bool). with_bin (λ m. record m { enabled = v }) (meta_parts c.args.known.now)) c.keep.ensures)

pub returns-in-RecycleBinUUID : goal.returns-in-RecycleBinUUID
returns-in-RecycleBinUUID c = rw c.in-RecycleBinUUID.is (kept_in (λ (v : NodeId). with_bin (λ m. record m { id = v }) (meta_parts c.args.known.now)) c.keep-in-RecycleBinUUID.ensures)

pub returns-in-RecycleBinChanged : goal.returns-in-RecycleBinChanged
returns-in-RecycleBinChanged c = rw c.in-RecycleBinChanged.is (kept_in (λ (v : ℕ). with_meta (λ m. record m { bin = record m.bin { changed = v } }) (meta_parts c.args.known.now)) c.keep-in-RecycleBinChanged.ensures)

pub returns-in-EntryTemplatesGroup : goal.returns-in-EntryTemplatesGroup
returns-in-EntryTemplatesGroup c = rw c.in-EntryTemplatesGroup.is (kept_in (λ (v : NodeId). with_meta (λ m. record m { templates = record m.templates { value = v } }) (meta_parts c.args.known.now)) c.keep-in-EntryTemplatesGroup.ensures)

pub returns-in-EntryTemplatesGroupChanged : goal.returns-in-EntryTemplatesGroupChanged
returns-in-EntryTemplatesGroupChanged c = rw c.in-EntryTemplatesGroupChanged.is (kept_in (λ (v : ℕ). with_meta (λ m. record m { templates = record m.templates { changed = v } }) (meta_parts c.args.known.now)) c.keep-in-EntryTemplatesGroupChanged.ensures)

pub returns-in-LastSelectedGroup : goal.returns-in-LastSelectedGroup
returns-in-LastSelectedGroup c = rw c.in-LastSelectedGroup.is (kept_in (λ (v : NodeId). with_view (λ m. record m { last_group = v }) (meta_parts c.args.known.now)) c.keep-in-LastSelectedGroup.ensures)

pub returns-in-LastTopVisibleGroup : goal.returns-in-LastTopVisibleGroup
returns-in-LastTopVisibleGroup c = rw c.in-LastTopVisibleGroup.is (kept_in (λ (v : NodeId). with_view (λ m. record m { last_top = v }) (meta_parts c.args.known.now)) c.keep-in-LastTopVisibleGroup.ensures)

pub returns-in_default : goal.returns-in_default
returns-in_default c =
    by_later_rows (λ _. meta_parts c.limit_child.new.known) c.args.walk.now c.limit_child.new.walk c.limit_child.result 7 (λ s. drop 17 (meta_rows s)) (meta_parts c.args.known.now) c.args.tag.now (λ _. refl)
    (λ _. (c.in_default.not-RecycleBinEnabled, (c.in_default.not-RecycleBinUUID, (c.in_default.not-RecycleBinChanged, (c.in_default.not-EntryTemplatesGroup, (c.in_default.not-EntryTemplatesGroupChanged, (c.in_default.not-LastSelectedGroup, (c.in_default.not-LastTopVisibleGroup, tt))))))))
    c.limit_child.ensures
