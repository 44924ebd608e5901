-- A document whose root has another id is one whose parts are in order.
use Rattle.std.proofs.Common.{◌≡◌, Bool, true, false, ◌||◌, ◌&&◌, List, [], ◌∷◌, ◌++◌, map, refl, sym, subst, Ok}
use Rattle.std.specs.Prelude.{not}
use Rattle.std.specs.List.{list_all, list_any}
use Rattle.vault_model.specs.Db.{NodeId, nil_id}
use Rattle.vault_model.specs.Join.{is_id}
use Rattle.vault_model.specs.Tree.{BareDoc, IsDoc, Tree, are_distinct, node, node_ids_all}
use Rattle.vault_model.specs.Shape.{EntryRecord}
use Rattle.vault_model.specs.declared.metas.Meta.{Meta}
use Rattle.vault_model.specs.declared.nodes.Tombstone.{Tombstone}
use Rattle.tree_core.specs.Changes.{is_free}
use Rattle.outside_core.specs.Results.{Fails}
use Rattle.cli_messages.specs.Phases.{meaning_of}
use Rattle.cli_messages.specs.declared.answers.Stop.{Stop}
use Rattle.cli_messages.specs.declared.answers.Stop.TheVariants.{Refused, FileFault, InputFault, NoMemory}
use Rattle.cli_commands.specs.Commands.{Change, rooted_at, with_root_id}

both : (a b : Bool) → (a && b) ≡ true → (a ≡ true) × (b ≡ true)
both true true h = (refl, refl)
both true false h = cc
both false b h = cc

three : (a b c : Bool) → ((a && b) && c) ≡ true → (a ≡ true) × ((b ≡ true) × (c ≡ true))
three true true true h = (refl, (refl, refl))
three true true false h = cc
three true false c h = cc
three false b c h = cc

-- neither of two
neither_of : (a b : Bool) → not (a || b) ≡ true → (not a ≡ true) × (not b ≡ true)
neither_of false false h = (refl, refl)
neither_of false true h = cc
neither_of true b h = cc

none_of : (a b : Bool) → not a ≡ true → not b ≡ true → not (a || b) ≡ true
none_of false false h g = refl
none_of false true h g = cc
none_of true b h g = cc

-- the other nodes' ids are none of this id
others_apart : (ids : List NodeId) (u v : NodeId) (tombs : List Tombstone)
    → list_all (λ (t : Tombstone). not (is_id t.id v)) tombs ≡ true
    → list_all (λ (t : Tombstone). not (is_id t.id u || list_any (is_id t.id) ids)) tombs ≡ true
    → list_all (λ (t : Tombstone). not (is_id t.id v || list_any (is_id t.id) ids)) tombs ≡ true
others_apart ids u v [] free apart = refl
others_apart ids u v (t ∷ ts) free apart =
    let f = both (not (is_id t.id v)) (list_all (λ (t : Tombstone). not (is_id t.id v)) ts) free in
    let a = both (not (is_id t.id u || list_any (is_id t.id) ids)) (list_all (λ (t : Tombstone). not (is_id t.id u || list_any (is_id t.id) ids)) ts) apart in
    rw (none_of (is_id t.id v) (list_any (is_id t.id) ids) f.0 (neither_of (is_id t.id u) (list_any (is_id t.id) ids) a.0).1)
    (others_apart ids u v ts f.1 a.1)

root_by : (id : NodeId) (t : Tree) (tombs : List Tombstone) (meta : Meta) → IsDoc (record { tree = t; tombs = tombs; meta = meta })
    → is_free id (record { tree = t; tombs = tombs; meta = meta }) ≡ true → IsDoc (record { tree = rooted_at id t; tombs = tombs; meta = meta })
root_by id (node u r es ts) tombs meta isd free =
    let ids = map (λ (e : NodeId × EntryRecord). e.0) es ++ node_ids_all ts in
    let f = three (not (is_id nil_id id)) (not (is_id id u || list_any (is_id id) ids)) (list_all (λ (t : Tombstone). not (is_id t.id id)) tombs) free in
    let apart = neither_of (is_id id u) (list_any (is_id id) ids) f.1.0 in
    let distinct = both (not (list_any (is_id u) ids)) (are_distinct ids) isd.distinct in
    let nil = neither_of (is_id nil_id u) (list_any (is_id nil_id) ids) isd.no_nil in
    record {
      distinct = rw apart.1 distinct.1;
      no_nil = none_of (is_id nil_id id) (list_any (is_id nil_id) ids) f.0 nil.1;
      levels = isd.levels;
      tombs_rise = isd.tombs_rise;
      tombs_apart = others_apart ids u id tombs f.1.1 isd.tombs_apart;
      entries_proper = isd.entries_proper;
      groups_proper = isd.groups_proper;
      icons_rise = isd.icons_rise;
      items_rise = isd.items_rise;
      meta_texts = isd.meta_texts;
    }

pub root_is_doc : (id : NodeId) (d : BareDoc) → IsDoc d → is_free id d ≡ true → IsDoc (with_root_id id d)
root_is_doc id d isd free = root_by id d.tree d.tombs d.meta isd free

-- The same of a tree that is seen so.
pub root_seen : (id : NodeId) (d : BareDoc) (t : Tree) → IsDoc d → is_free id d ≡ true → t ≡ rooted_at id d.tree → IsDoc (record d { tree = t })
root_seen id d t isd free is = subst (λ (x : Tree). IsDoc (record d { tree = x })) (sym is) (root_is_doc id d isd free)

-- A stop says the same of all that is defined and no refusal.
pub stops_alike : (stop : Stop) (one other : Change) → Fails (meaning_of stop) (Ok one) → Fails (meaning_of stop) (Ok other)
stops_alike (Refused refusal) one other h = cc
stops_alike (FileFault name) one other h = tt
stops_alike InputFault one other h = tt
stops_alike NoMemory one other h = tt
