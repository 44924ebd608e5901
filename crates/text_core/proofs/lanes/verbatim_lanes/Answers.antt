use Rattle.std.proofs.Common.{◌∙◌, w8, bit_or, bit_and}
use Rattle.std.proofs.lemmas.Simd.{length-chunk, chunk-fits, zip2_splat, zip2_of_maps}
use Rattle.std.specs.Simd.Lanes.{chunk}
use Rattle.text_core.proofs.LaneRuns.{hit, miss, below, counted}
use Rattle.text_core.proofs.lanes.verbatim_lanes.Goals as goal

pub returns : goal.returns
returns c =
    let v = chunk c.args.at 16 c.args.text.now in
    let long = length-chunk c.args.at 16 c.args.text.now c.requires in
    let fits = chunk-fits w8 c.args.at 16 c.args.text.now c.type_inv.text in
    let tabs = zip2_of_maps bit_and _ _ v (zip2_splat below v 16 32 long) (zip2_splat miss v 16 9 long) in
    let controls = zip2_of_maps bit_and _ _ v tabs (zip2_splat miss v 16 10 long) in
    let quotes = zip2_of_maps bit_or _ _ v (zip2_splat hit v 16 34 long) (zip2_splat hit v 16 38 long) in
    let brackets = zip2_of_maps bit_or _ _ v (zip2_splat hit v 16 60 long) (zip2_splat hit v 16 62 long) in
    c.first_set.ensures ∙ counted v _ long fits (zip2_of_maps bit_or _ _ v (zip2_of_maps bit_or _ _ v controls quotes) brackets)
