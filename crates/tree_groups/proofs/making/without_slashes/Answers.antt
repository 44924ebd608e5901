use Rattle.std.proofs.Common.{◌∙◌, ap}
use Rattle.std.specs.Borrow.{Bor}
use Rattle.std.proofs.Common.{List, ℕ}
use Rattle.std.specs.Io.BufRead.{strip_last}
use Rattle.tree_groups.proofs.Slashes.{end_stripped, front_stripped}
use Rattle.tree_groups.proofs.making.without_slashes.Goals as goal

pub returns : goal.returns
returns c =
    ap (λ (x : Bor (List ℕ)). x.now) c.unwrap_or.ensures
    ∙ end_stripped c.strip_suffix.result c.unwrap_or-rest.result c.strip_suffix.ensures.cases
    ∙ ap (strip_last 47) (ap (λ (x : Bor (List ℕ)). x.now) c.unwrap_or-rest.ensures ∙ front_stripped c.strip_prefix.result c.args.path c.strip_prefix.ensures.cases)
