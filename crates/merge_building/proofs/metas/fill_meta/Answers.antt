-- Part by part.
use Rattle.std.proofs.Common.{ap, ◌∙◌}
use Rattle.vault_model.specs.declared.metas.Meta.{Meta}
use Rattle.merge_building.proofs.metas.fill_meta.Goals as goal

pub push_icons-requires : goal.push_icons-requires
push_icons-requires c = ap (λ (m : Meta). m.icons) c.requires

pub push_items-requires : goal.push_items-requires
push_items-requires c = ap (λ (m : Meta). m.items) c.requires

pub returns : goal.returns
returns c =
    λ i. let m = c.requires i in
    record m {
      name = record m.name { value = c.in_ok-set_text.ensures i };
      description = record m.description { value = c.in_ok-set_text-2.ensures i };
      user = record m.user { value = c.in_ok-set_text-3.ensures i };
      settings = record m.settings { value = record m.settings.value { color = c.in_ok-set_text-4.ensures i } };
      icons = (c.in_ok-push_icons.ensures ∙ c.as_slice.ensures.value) i;
      items = (c.in_ok-push_items.ensures ∙ c.as_slice-2.ensures.value) i;
    }
