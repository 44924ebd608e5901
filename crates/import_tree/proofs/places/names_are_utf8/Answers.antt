use Rattle.std.proofs.Common.{◌+◌, ◌&&◌, ◌<◌, ◌≡◌, true, suc, drop, length, sym, ap, ◌∙◌, arith}
use Rattle.std.proofs.Math.Seq.{drop-cons}
use Rattle.std.proofs.lemmas.Str.{is_utf8-from_IsUtf8}
use Rattle.std.specs.List.{list_all}
use Rattle.std.specs.Str.{is_utf8}
use Rattle.import_tree.proofs.places.names_are_utf8.Goals as goal

pub loop-name-preserved : goal.loop-name-preserved
loop-name-preserved c =
    let names = c.args.names.now in
    let at = c.loop-name.name-index in
    let name = c.name-item.result in
    let text : is_utf8 name ≡ true = ap is_utf8 (sym c.as_str.ensures) ∙ is_utf8-from_IsUtf8 c.as_str.result.now c.as_str.utf8 in
    let here : at < length names = omega (arith, c.loop-name-test.true) in
    let next : suc at ≡ at + 1 = omega arith in
    c.loop-name.invariant
    ∙ ap (list_all is_utf8) (drop-cons names at name here)
    ∙ ap (λ x. is_utf8 x && list_all is_utf8 (drop (suc at) names)) (sym c.name-item.is)
    ∙ ap (λ b. b && list_all is_utf8 (drop (suc at) names)) text
    ∙ ap (λ n. list_all is_utf8 (drop n names)) next
