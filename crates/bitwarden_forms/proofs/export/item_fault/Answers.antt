use Rattle.std.proofs.Common.{Bool, List, Some, cond, map, sym, ap, ◌∙◌}
use Rattle.serde_json.specs.Data.{Data}
use Rattle.serde_json.specs.View.{view}
use Rattle.bitwarden_forms.specs.Exports.{first_other, folders_in, items_in}
use Rattle.bitwarden_forms.specs.Kinds.{is_item}
use Rattle.bitwarden_forms.proofs.export.item_fault.Goals as goal

pub returns-then-fits_list : goal.returns-then-fits_list
returns-then-fits_list c =
    let export = view c.args.export.now in
    c.first_no_item.ensures
    ∙ ap (λ (ds : List Data). first_other (is_item ds) (map view c.items_of.result.now)) c.folders_of.ensures
    ∙ ap (λ (ds : List Data). first_other (is_item (folders_in export)) ds) c.items_of.ensures
    ∙ ap (λ (b : Bool). cond b (first_other (is_item (folders_in export)) (items_in export)) (Some 0)) (sym (sym c.fits_list.ensures ∙ c.if-fits_list.true))
