use Rattle.std.proofs.Common.{List, ℕ, ap, map, ◌∙◌}
use Rattle.std.proofs.lemmas.Bool.Decides.{same_from_decides}
use Rattle.std.proofs.lemmas.Slice.Eq.{bytes_eq-Decides}
use Rattle.std.specs.Char.{to_ascii_lowercase}
use Rattle.std.specs.Str.{bytes_eq}
use Rattle.table_reading.proofs.columns.is_called.Goals as goal

pub returns : goal.returns
returns c =
    same_from_decides _ _ c.eq_ignore_ascii_case.ensures.test (bytes_eq-Decides (map to_ascii_lowercase c.trim.result.now) (map to_ascii_lowercase c.args.name.now))
    ∙ ap (λ (t : List ℕ). bytes_eq (map to_ascii_lowercase t) (map to_ascii_lowercase c.args.name.now)) c.trim.ensures.trim
