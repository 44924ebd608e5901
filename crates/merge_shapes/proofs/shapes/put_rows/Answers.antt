-- Part by part.
use Rattle.std.proofs.Common.{map, ap, ◌∙◌}
use Rattle.std.specs.FinMap.{from_entries}
use Rattle.vault_model.specs.declared.metas.Meta.{Meta}
use Rattle.merge_reading.specs.Rows.{tomb_row}
use Rattle.merge_nodes.specs.Shapes.{shape}
use Rattle.merge_shapes.proofs.shapes.put_rows.Goals as goal

pub push_icons-requires : goal.push_icons-requires
push_icons-requires c = ap (λ (m : Meta). m.icons) c.requires.meta

pub push_items-requires : goal.push_items-requires
push_items-requires c = ap (λ (m : Meta). m.items) c.requires.meta

pub returns : goal.returns
returns c =
    let tombs = c.in_ok-put_tombs.ensures ∙ ap (λ ts. from_entries (map tomb_row ts)) c.as_slice.ensures in
    λ i. record (shape c.args.lent.now) {
      tombs = tombs i;
      meta = record (c.requires.meta i) { icons = (c.in_ok-push_icons.ensures ∙ c.as_slice-2.ensures) i; items = (c.in_ok-push_items.ensures ∙ c.as_slice-3.ensures) i };
    }
