use Rattle.std.proofs.Common.{◌∙◌, w8, bit_or, bit_and}
use Rattle.std.proofs.lemmas.Simd.{length-chunk, chunk-fits}
use Rattle.std.specs.Simd.Lanes.{chunk}
use Rattle.markup_grammar.specs.Bytes as bytes_of
use Rattle.markup_scanner.proofs.LaneRuns.{hit, miss, below, beside, above, joined, name_stops, counted}
use Rattle.markup_scanner.proofs.lanes.name_lanes.Goals as goal

pub returns : goal.returns
returns c =
    let v = chunk c.args.at 16 c.args.text.now in
    let long = length-chunk c.args.at 16 c.args.text.now c.requires in
    let fits = chunk-fits w8 c.args.at 16 c.args.text.now c.type_inv.text in
    let before_digits = joined bit_or _ _ v (beside below v 45 long) (beside hit v 47 long) in
    let before_capitals = joined bit_and _ _ v (above v 58 long) (beside below v 65 long) in
    let before_letters = joined bit_and _ _ v (joined bit_and _ _ v (above v 90 long) (beside below v 97 long)) (beside miss v 95 long) in
    let after_letters = joined bit_and _ _ v (above v 122 long) (beside below v 128 long) in
    let stops = joined bit_or _ _ v (joined bit_or _ _ v (joined bit_or _ _ v before_digits before_capitals) before_letters) after_letters in
    c.first_set.ensures ∙ counted bytes_of.is_name_byte _ v _ long fits stops name_stops
