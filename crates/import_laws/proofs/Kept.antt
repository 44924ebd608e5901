-- What only one of two databases has stays as it is in their join.
use Rattle.std.proofs.Common.{◌≡◌, true, cond, inl, inr, List, [], ◌∷◌, map, Option, Some, None, refl, ap, ◌∙◌}
use Rattle.std.specs.FinMap.{contains_key, find, get}
use Rattle.merge_core.proofs.Facts.{held_by, join_entries, own_from_alive}
use Rattle.merge_core.proofs.Regroup.{part_kept}
use Rattle.merge_core.proofs.SoundDoc.{db_tomb}
use Rattle.vault_model.specs.Db.{Db, NodeId, Versions, holds, id_cmp}
use Rattle.vault_model.specs.Join.{Agreed, IsIn, IsPart, kept, stats_join}
use Rattle.vault_model.specs.Tree.{BareDoc, IsDoc, db_in}
use Rattle.vault_model.specs.Unite.{gather, unite}
use Rattle.vault_model.specs.declared.nodes.Tombstone.{Tombstone}
use Rattle.vault_model.proofs.Tests.{or_left}
use Rattle.import_laws.specs.Losses.{NothingIsLost}
use Rattle.import_laws.proofs.Alike.{each}

pub no_tomb : (d : BareDoc) (is : IsDoc d) → d.tombs ≡ [] → (u : NodeId) → get (db_in d).tombs u ≡ None
no_tomb d is none u = db_tomb d is u ∙ ap (λ (tombs : List Tombstone). find id_cmp u (map (λ (t : Tombstone). (t.id, t.deleted)) tombs)) none

pub held : (m : Db) (u : NodeId) (v : Versions) → get m.entries u ≡ Some v → holds m u ≡ true
held m u v e = or_left (contains_key m.entries u) (contains_key m.groups u) (there e)
  where
    there : get m.entries u ≡ Some v → contains_key m.entries u ≡ true
    there h = rw h refl

module _ (d e : BareDoc) (is : IsDoc d) (too : IsDoc e) (first : d.tombs ≡ []) (second : e.tombs ≡ []) (agreed : Agreed (db_in d ∷ db_in e ∷ [])) where
  abbrev S : List Db
  S = db_in d ∷ db_in e ∷ []

  whole : IsPart S S
  whole = (tt, λ m h. h)

  pub stays : (m : Db) (u : NodeId) → IsIn m S → holds m u ≡ true → kept S u ≡ true
  stays m u h holds_it =
      part_kept S S agreed whole u
      ∙ own_from_alive agreed.compatible S whole u (held_by S m u h holds_it) (each (λ n. get n.tombs u ≡ None) (db_in d) (db_in e) (no_tomb d is first u) (no_tomb e too second u))

pub nothing_is_lost : NothingIsLost
nothing_is_lost d e is too first second agreed = (
  λ u v here there.
      let k = stays d e is too first second agreed (db_in d) u (inl refl) (held (db_in d) u v here) in
      join_entries (db_in d ∷ db_in e ∷ []) u
      ∙ ap (λ b. cond b (gather (unite stats_join) (get (db_in d).entries u ∷ get (db_in e).entries u ∷ [])) None) k
      ∙ ap (λ (o : Option Versions). gather (unite stats_join) (o ∷ get (db_in e).entries u ∷ [])) here
      ∙ ap (λ (o : Option Versions). gather (unite stats_join) (Some v ∷ o ∷ [])) there,
  λ u v here there.
      let k = stays d e is too first second agreed (db_in e) u (inr (inl refl)) (held (db_in e) u v here) in
      join_entries (db_in d ∷ db_in e ∷ []) u
      ∙ ap (λ b. cond b (gather (unite stats_join) (get (db_in d).entries u ∷ get (db_in e).entries u ∷ [])) None) k
      ∙ ap (λ (o : Option Versions). gather (unite stats_join) (o ∷ get (db_in e).entries u ∷ [])) there
      ∙ ap (λ (o : Option Versions). gather (unite stats_join) (None ∷ o ∷ [])) here,
)
