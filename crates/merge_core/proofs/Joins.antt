-- What two copies say of one thing is joined so that neither order nor grouping nor repeats matter.
use Rattle.std.proofs.Common.{refl}
use Rattle.std.specs.declared.cmp.Ordering.{Ordering}
use Rattle.vault_model.specs.Db.{mark_of, place_cmp, mark_cmp}
use Rattle.vault_model.specs.Join.{stats_join, state_join, timed_join, meta_join}
use Rattle.vault_model.specs.Unite.{greater, unite}
use Rattle.vault_model.proofs.Orders.{IsOrder, bytes_order, bin_order, settings_order, icon_order, later_item_order, timed_order, id_order, mark_order, group_mark_order, place_order}
use Rattle.merge_core.proofs.Semilattice.{IsJoin, max_join, by_key_join, greater_join}
use Rattle.merge_core.proofs.Unite.{unite_join}

pub stats_joins : IsJoin stats_join
stats_joins = record {
  assoc = λ x y z i. record { accessed = max_join.assoc x.accessed y.accessed z.accessed i; usage = max_join.assoc x.usage y.usage z.usage i };
  comm = λ x y i. record { accessed = max_join.comm x.accessed y.accessed i; usage = max_join.comm x.usage y.usage i };
  idem = λ x i. record { accessed = max_join.idem x.accessed i; usage = max_join.idem x.usage i };
}

pub state_joins : IsJoin state_join
state_joins =
    by_key_join group_mark_order.total group_mark_order.same mark_of (λ g h. record g { stats = stats_join g.stats h.stats })
    (λ x y. refl)
    (λ x y z i. record x { stats = stats_joins.assoc x.stats y.stats z.stats i })
    (λ x y e i. record { modified = (e i).modified; content = (e i).content; stats = stats_joins.comm x.stats y.stats i })
    (λ x i. record x { stats = stats_joins.idem x.stats i })

pub versions_joins : IsJoin (unite {R = mark_cmp} stats_join)
versions_joins = unite_join mark_order.total mark_order.same stats_joins

pub places_joins : IsJoin (greater place_cmp)
places_joins = greater_join place_order.total place_order.same

pub timed_joins : {A : Type 0} {R : A → A → Ordering} → IsOrder R → IsJoin (timed_join R)
timed_joins r = let o = timed_order r in greater_join o.total o.same

pub meta_joins : IsJoin meta_join
meta_joins =
    let texts = timed_joins bytes_order in
    let bins = timed_joins bin_order in
    let settings = timed_joins settings_order in
    let icons = unite_join id_order.total id_order.same (greater_join icon_order.total icon_order.same) in
    let items = unite_join bytes_order.total bytes_order.same (greater_join later_item_order.total later_item_order.same) in
    record {
      assoc = λ x y z i. record {
        name = texts.assoc x.name y.name z.name i;
        description = texts.assoc x.description y.description z.description i;
        user = texts.assoc x.user y.user z.user i;
        bin = bins.assoc x.bin y.bin z.bin i;
        templates = texts.assoc x.templates y.templates z.templates i;
        settings = settings.assoc x.settings y.settings z.settings i;
        icons = icons.assoc x.icons y.icons z.icons i;
        items = items.assoc x.items y.items z.items i;
      };
      comm = λ x y i. record {
        name = texts.comm x.name y.name i;
        description = texts.comm x.description y.description i;
        user = texts.comm x.user y.user i;
        bin = bins.comm x.bin y.bin i;
        templates = texts.comm x.templates y.templates i;
        settings = settings.comm x.settings y.settings i;
        icons = icons.comm x.icons y.icons i;
        items = items.comm x.items y.items i;
      };
      idem = λ x i. record {
        name = texts.idem x.name i;
        description = texts.idem x.description i;
        user = texts.idem x.user i;
        bin = bins.idem x.bin i;
        templates = texts.idem x.templates i;
        settings = settings.idem x.settings i;
        icons = icons.idem x.icons i;
        items = items.idem x.items i;
      };
    }
