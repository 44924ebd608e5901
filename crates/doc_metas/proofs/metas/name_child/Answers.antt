use Rattle.std.proofs.Common.{ℕ, Option, List, refl}
use Rattle.doc_forms.specs.Metas.{MetaParts, meta_rows, with_meta}
use Rattle.doc_forms.specs.SeenDrafts.{meta_parts}
use Rattle.doc_walk.proofs.Branches.{checked_in}
use Rattle.doc_walk.proofs.Rests.{by_later_rows, kept_in}
use Rattle.doc_metas.proofs.metas.name_child.Goals as goal

pub returns-in-Generator : goal.returns-in-Generator
returns-in-Generator c = rw c.in-Generator.is (checked_in _ c.args.tag.now (meta_parts c.args.known.now) c.check.ensures)

pub returns-in-HeaderHash : goal.returns-in-HeaderHash
returns-in-HeaderHash c = rw c.in-HeaderHash.is (kept_in (λ (v : Option (List ℕ)). let p : MetaParts = record (meta_parts c.args.known.now) { hash = v } in p) c.keep.ensures)

pub returns-in-SettingsChanged : goal.returns-in-SettingsChanged
returns-in-SettingsChanged c = rw c.in-SettingsChanged.is (kept_in (λ (v : ℕ). with_meta (λ m. record m { settings = record m.settings { changed = v } }) (meta_parts c.args.known.now)) c.keep-in-SettingsChanged.ensures)

pub returns-in-DatabaseName : goal.returns-in-DatabaseName
returns-in-DatabaseName c = rw c.in-DatabaseName.is (kept_in (λ (v : List ℕ). with_meta (λ m. record m { name = record m.name { value = v } }) (meta_parts c.args.known.now)) c.keep-in-DatabaseName.ensures)

pub returns-in-DatabaseNameChanged : goal.returns-in-DatabaseNameChanged
returns-in-DatabaseNameChanged c = rw c.in-DatabaseNameChanged.is (kept_in (λ (v : ℕ). with_meta (λ m. record m { name = record m.name { changed = v } }) (meta_parts c.args.known.now)) c.keep-in-DatabaseNameChanged.ensures)

pub returns-in_default : goal.returns-in_default
returns-in_default c =
    by_later_rows (λ _. meta_parts c.description_child.new.known) c.args.walk.now c.description_child.new.walk c.description_child.result 5 meta_rows (meta_parts c.args.known.now) c.args.tag.now (λ _. refl)
    (λ _. (c.in_default.not-Generator, (c.in_default.not-HeaderHash, (c.in_default.not-SettingsChanged, (c.in_default.not-DatabaseName, (c.in_default.not-DatabaseNameChanged, tt))))))
    c.description_child.ensures
