use Rattle.std.proofs.Common.{◌≡◌, drop}
use Rattle.vault_model.specs.Db.{place_cmp}
use Rattle.vault_model.specs.Join.{latest}
use Rattle.vault_model.specs.Unite.{greater, join_options}
use Rattle.merge_tables.specs.Databases.{databases}
use Rattle.merge_parts.proofs.nodes.latest.Given as goal

abbrev pub invariant-loop-member : goal.invariant-loop-member
invariant-loop-member l = latest (databases l.members) l.id ≡ join_options (greater place_cmp) l.best (latest (databases (drop l.member-index l.members)) l.id)
