-- Part by part.
use Rattle.std.proofs.Common.{ap}
use Rattle.vault_model.specs.declared.metas.Meta.{Meta}
use Rattle.vault_model.specs.Shape.{lay}
use Rattle.merge_arranging.proofs.laying.put_all.Goals as goal

pub push_icons-requires : goal.push_icons-requires
push_icons-requires c = ap (λ (m : Meta). m.icons) c.requires.meta

pub push_items-requires : goal.push_items-requires
push_items-requires c = ap (λ (m : Meta). m.items) c.requires.meta

pub returns : goal.returns
unfolding lay
returns c =
    λ i. record {
      root = c.requires.root i;
      entries = c.in_ok-put_entries.ensures i;
      groups = c.in_ok-fill_groups.ensures i;
      children = c.in_ok-put_children.ensures i;
      tombs = c.in_ok-put_tombs.ensures i;
      meta = record (c.requires.meta i) { icons = c.in_ok-push_icons.ensures i; items = c.in_ok-push_items.ensures i };
    }
