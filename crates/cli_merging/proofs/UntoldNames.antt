-- Lines in which no node is deleted do not have the names that nodes had.
use Rattle.std.proofs.Common.{◌≡◌, ◌++◌, ℕ, false, List, [], ◌∷◌, refl, ap, true≢false, ◌∙◌}
use Rattle.std.specs.List.{list_any}
use Rattle.vault_model.specs.Db.{NodeId}
use Rattle.vault_model.proofs.Tests.{or_false}
use Rattle.merge_changes.specs.declared.changes.Change.{Change}
use Rattle.merge_changes.specs.declared.changes.Change.TheVariants.{Created, Updated, Moved, Deleted, Metadata, Deletions, Order}
use Rattle.cli_merging.specs.Reports.{change_line, change_lines, is_deletion}

module _ (old older new : NodeId → List ℕ) where
  line_untold : (change : Change) → is_deletion change ≡ false → change_line old new change ≡ change_line older new change
  line_untold (Created kind id) e = refl
  line_untold (Updated kind id) e = refl
  line_untold (Moved kind id) e = refl
  line_untold (Deleted kind id) e = absurd (true≢false e)
  line_untold Metadata e = refl
  line_untold Deletions e = refl
  line_untold Order e = refl

  pub lines_untold : (changes : List Change) → list_any is_deletion changes ≡ false
      → change_lines old new changes ≡ change_lines older new changes
  lines_untold [] e = refl
  lines_untold (change ∷ changes) e =
      let apart = or_false (is_deletion change) (list_any is_deletion changes) e in
      ap (λ (line : List ℕ). line ++ change_lines old new changes) (line_untold change apart.0)
      ∙ ap (λ (lines : List ℕ). change_line older new change ++ lines) (lines_untold changes apart.1)
