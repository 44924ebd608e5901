use Rattle.aes_slices.proofs.SliceLemmas.{cell_substituted}
use Rattle.aes_slices.proofs.gates.inv_sub_bytes.Goals as goal

pub returns : goal.returns
returns c j l block lane =
    cell_substituted c.args.s c.are_whole.ensures j l block lane _ _ _ _ _ c.input_sums-sums.ensures c.subfield_element.ensures
    c.subfield_inverse-inverse.ensures c.inverse_products.ensures c.output_sums.ensures
