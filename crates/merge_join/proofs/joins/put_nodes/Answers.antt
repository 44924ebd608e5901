-- Part by part.
use Rattle.merge_tables.specs.Databases.{shared_meta}
use Rattle.merge_join.proofs.joins.put_nodes.Goals as goal

pub returns : goal.returns
returns c =
    λ i. record {
      root = c.args.joined.now.root;
      entries = c.in_ok-put_entries.ensures i;
      groups = c.in_ok-put_groups.ensures i;
      places = c.in_ok-put_places.ensures i;
      tombs = c.in_ok-put_tombs.ensures i;
      meta = shared_meta c.args.joined.now.meta;
    }
