use Rattle.std.proofs.lemmas.Bool.Decides.{Decides-eqb}
use Rattle.std.proofs.lemmas.Slice.Eq.{strip_prefix_is}
use Rattle.tree_core.proofs.Leading.{stripped}
use Rattle.tree_core.proofs.path.strip_prefix.Goals as goal

pub returns : goal.returns
returns c =
    let text = c.args.text.now in
    let front = c.args.front.now in
    stripped front text c.strip_prefix.result (strip_prefix_is Decides-eqb text front c.strip_prefix.result c.strip_prefix.ensures.cases)
