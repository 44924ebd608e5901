use Rattle.std.proofs.Common.{ℕ, Bool, List, refl}
use Rattle.doc_forms.specs.Entries.{text_rows, with_content}
use Rattle.doc_entries.specs.SeenBuilders.{entry_known}
use Rattle.doc_walk.proofs.Rests.{by_later_rows, kept_in}
use Rattle.doc_entries.proofs.versions.text_child.Goals as goal

pub returns-in-QualityCheck : goal.returns-in-QualityCheck
returns-in-QualityCheck c = rw c.in-QualityCheck.is (kept_in (λ (v : Bool). with_content (λ m. record m { quality = v }) (entry_known c.args.known.now)) c.keep.ensures)

pub returns-in-ForegroundColor : goal.returns-in-ForegroundColor
returns-in-ForegroundColor c = rw c.in-ForegroundColor.is (kept_in (λ (v : List ℕ). with_content (λ m. record m { fore = v }) (entry_known c.args.known.now)) c.keep-in-ForegroundColor.ensures)

pub returns-in-BackgroundColor : goal.returns-in-BackgroundColor
returns-in-BackgroundColor c = rw c.in-BackgroundColor.is (kept_in (λ (v : List ℕ). with_content (λ m. record m { back = v }) (entry_known c.args.known.now)) c.keep-in-BackgroundColor.ensures)

pub returns-in-OverrideURL : goal.returns-in-OverrideURL
returns-in-OverrideURL c = rw c.in-OverrideURL.is (kept_in (λ (v : List ℕ). with_content (λ m. record m { url_override = v }) (entry_known c.args.known.now)) c.keep-in-OverrideURL.ensures)

pub returns-in-Tags : goal.returns-in-Tags
returns-in-Tags c = rw c.in-Tags.is (kept_in (λ (v : List ℕ). with_content (λ m. record m { tags = v }) (entry_known c.args.known.now)) c.keep-in-Tags.ensures)

pub returns-in_default : goal.returns-in_default
returns-in_default c =
    by_later_rows (λ _. entry_known c.part_child.new.known) c.args.walk.now c.part_child.new.walk c.part_child.result 5 text_rows (entry_known c.args.known.now) c.args.tag.now (λ _. refl)
    (λ _. (c.in_default.not-QualityCheck, (c.in_default.not-ForegroundColor, (c.in_default.not-BackgroundColor, (c.in_default.not-OverrideURL, (c.in_default.not-Tags, tt))))))
    c.part_child.ensures
