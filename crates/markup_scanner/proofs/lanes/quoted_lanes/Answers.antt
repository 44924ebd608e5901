use Rattle.std.proofs.Common.{◌∙◌, w8, bit_or, bit_and}
use Rattle.std.proofs.lemmas.Simd.{length-chunk, chunk-fits}
use Rattle.std.specs.Simd.Lanes.{chunk}
use Rattle.markup_grammar.specs.Bytes as bytes_of
use Rattle.markup_scanner.proofs.LaneRuns.{hit, miss, below, beside, joined, value_stops, counted}
use Rattle.markup_scanner.proofs.lanes.quoted_lanes.Goals as goal

pub returns : goal.returns
returns c =
    let v = chunk c.args.at 16 c.args.text.now in
    let long = length-chunk c.args.at 16 c.args.text.now c.requires in
    let fits = chunk-fits w8 c.args.at 16 c.args.text.now c.type_inv.text in
    let marks = joined bit_or _ _ v (beside hit v 38 long) (beside hit v 60 long) in
    let tabs = joined bit_and _ _ v (beside below v 32 long) (beside miss v 9 long) in
    let controls = joined bit_and _ _ v (joined bit_and _ _ v tabs (beside miss v 10 long)) (beside miss v 13 long) in
    let stops = joined bit_or _ _ v (joined bit_or _ _ v marks controls) (beside hit v c.args.quote long) in
    c.first_set.ensures ∙ counted (bytes_of.is_value c.args.quote) _ v _ long fits stops (value_stops c.args.quote)
