use Rattle.std.proofs.Common.{◌∙◌, sym, arith}
use Rattle.std.proofs.lemmas.Str.Pattern.{rfind_char}
use Rattle.tree_steps.proofs.Texts.{after_found, all_name, cut_found}
use Rattle.tree_steps.proofs.paths.name_after.Goals as goal

pub returns-in-Some : goal.returns-in-Some
returns-in-Some c =
    let h = rw c.in-Some.is at (rfind_char 47 c.args.path.now c.rfind.result c.rfind.ensures.cases (omega arith)) in
    c.range_from.ensures.value ∙ after_found c.args.path.now c.in-Some.at h.0 h.1 h.2

pub range_from-requires : goal.range_from-requires
range_from-requires c within = cut_found c.args.path.now c.in-Some.at c.rfind.result c.rfind.ensures.cases c.in-Some.is

pub returns-in-None : goal.returns-in-None
returns-in-None c =
    let h = rw c.in-None.is at (rfind_char 47 c.args.path.now c.rfind.result c.rfind.ensures.cases (omega arith)) in
    sym (all_name c.args.path.now h)
