use Rattle.std.proofs.Common.{sym, ap, ◌∙◌}
use Rattle.vault_model.specs.Bare.{BareField}
use Rattle.vault_model.specs.Orders.{bytes_cmp}
use Rattle.vault_model.specs.Seen.{bare_field}
use Rattle.vault_model.specs.declared.contents.Field.{Field}
use Rattle.tree_core.specs.NewNodes.{field}
use Rattle.tree_contents.specs.Spots.{spot}
use Rattle.tree_contents.proofs.Places.{inserted_at_spot, joined_at_spot, spot_end, spot_seen}
use Rattle.std.proofs.Common.{List}
use Rattle.tree_contents.proofs.fields.set_value.Goals as goal

pub insert_at-requires : goal.insert_at-requires
insert_at-requires c =
    spot_end (λ (f : Field). bytes_cmp c.args.key.now f.key) c.args.fields.now c.in-Err.at c.field_spot.result
    (c.field_spot.ensures ∙ ap (λ (fs : List Field). spot (λ (f : Field). bytes_cmp c.args.key.now f.key) fs) c.as_slice.ensures) c.in-Err.is

pub returns-in-Ok : goal.returns-in-Ok
returns-in-Ok c =
    let place = c.field_spot.ensures ∙ ap (λ (fs : List Field). spot (λ (f : Field). bytes_cmp c.args.key.now f.key) fs) c.as_slice.ensures in
    joined_at_spot bare_field (λ (f : BareField). bytes_cmp c.args.key.now f.key) (field c.args.key.now c.args.value.now c.args.hidden) (λ (f : BareField). record f { value = c.args.value.now })
    c.args.fields.now c.replace_value.new.fields c.in-Ok.at c.replace_value.result
    (spot_seen bare_field (λ (f : BareField). bytes_cmp c.args.key.now f.key) c.args.fields.now ∙ sym place ∙ c.in-Ok.is) c.replace_value.ensures

pub returns-in_ok-field-in-Err : goal.returns-in_ok-field-in-Err
returns-in_ok-field-in-Err c =
    let place = c.field_spot.ensures ∙ ap (λ (fs : List Field). spot (λ (f : Field). bytes_cmp c.args.key.now f.key) fs) c.as_slice.ensures in
    inserted_at_spot bare_field (λ (f : BareField). bytes_cmp c.args.key.now f.key) (field c.args.key.now c.args.value.now c.args.hidden) (λ (f : BareField). record f { value = c.args.value.now })
    c.args.fields.now c.insert_at.new.list c.in-Err.at c.in_ok-field-in-Err.field c.insert_at.result c.in_ok-field-in-Err.ensures
    (spot_seen bare_field (λ (f : BareField). bytes_cmp c.args.key.now f.key) c.args.fields.now ∙ sym place ∙ c.in-Err.is)
    c.insert_at.ensures
