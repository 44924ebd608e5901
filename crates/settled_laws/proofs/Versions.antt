-- The versions of an entry whose marks rise are listed in their order.
use Rattle.std.proofs.Common.{◌≡◌, true, List, [], ◌∷◌, ◌++◌, Option, Some, map, refl, sym, ap, ◌∙◌}
use Rattle.std.specs.FinMap.{empty, entries, from_entries, get, get-from_entries, insert, is_sorted, same_map}
use Rattle.std.specs.FinMap.Entries.{below_all}
use Rattle.std.specs.List.{list_all}
use Rattle.std.specs.Ordering.{is_lt}
use Rattle.vault_model.specs.declared.contents.Stats.{Stats}
use Rattle.vault_model.specs.Db.{Mark, Versions, mark_cmp}
use Rattle.vault_model.specs.Join.{stats_join}
use Rattle.vault_model.specs.Shape.{BareVersion, EntryRecord, Stay, but_last, last_of, record_of, version_of, versions_of}
use Rattle.vault_model.specs.Unite.{gather, join_options}
use Rattle.vault_model.proofs.Orders.{mark_order}
use Rattle.vault_model.proofs.Tests.{and_both, and_true, map_append, map_map}
use Rattle.merge_core.proofs.Joins.{stats_joins}
use Rattle.merge_core.proofs.Semilattice.{gather-append, merged_join, merged_none}
use Rattle.merge_core.proofs.SoundDoc.{as_map}
use Rattle.merge_core.proofs.Tables.{gathered_singles}
use Rattle.merge_core.proofs.Unite.{get-unite_all}
use Rattle.settled_laws.proofs.Sorted.{entries_back, holds, rows_below}
use Rattle.settled_laws.specs.Settled.{is_orderly_entry, versions_rise}

abbrev pair : BareVersion → Mark × Stats
pair v = (v.mark, v.stats)

-- the history, and then the current version
abbrev in_turn : EntryRecord → List BareVersion
in_turn e = e.history ++ e.current ∷ []

pairs_rise : (vs : List BareVersion) → versions_rise vs ≡ true → is_sorted mark_cmp (map pair vs) ≡ true
pairs_rise [] e = refl
pairs_rise (v ∷ vs) e =
    let both = and_true (list_all (λ (w : BareVersion). is_lt (mark_cmp v.mark w.mark)) vs) (versions_rise vs) e in
    and_both (below_all mark_cmp v.mark (map pair vs)) (is_sorted mark_cmp (map pair vs))
    (rows_below mark_cmp (λ (w : BareVersion). w.mark) (λ (w : BareVersion). w.stats) v.mark vs both.0) (pairs_rise vs both.1)

-- the first one last
turned : (f : BareVersion → Option Stats) (v : BareVersion) (vs : List BareVersion)
    → gather stats_join (map f (v ∷ vs)) ≡ gather stats_join (map f (vs ++ v ∷ []))
turned f v vs =
    (merged_join stats_joins).comm (f v) (gather stats_join (map f vs))
    ∙ ap (join_options stats_join (gather stats_join (map f vs))) (sym (merged_none stats_joins (f v)))
    ∙ sym (gather-append stats_joins (map f vs) (f v ∷ []))
    ∙ ap (gather stats_join) (sym (map_append f vs (v ∷ [])))

abbrev at_version : Mark → BareVersion → Option Stats
at_version k v = get (as_map v) k

made : (e : EntryRecord) → is_orderly_entry e ≡ true → versions_of e ≡ from_entries (map pair (in_turn e))
made e up = same_map mark_order.total mark_order.same _ _ (λ k.
    get-unite_all mark_order.total mark_order.same stats_join (map as_map (e.current ∷ e.history)) k
    ∙ ap (gather stats_join) (map_map as_map (λ (m : Versions). get m k) (e.current ∷ e.history))
    ∙ turned (at_version k) e.current e.history
    ∙ ap (gather stats_join) (sym (map_map pair (λ (x : Mark × Stats). get (insert (empty {R = mark_cmp}) x.0 x.1) k) (in_turn e)))
    ∙ gathered_singles mark_order.total mark_order.same stats_join (map pair (in_turn e)) (holds _ (pairs_rise (in_turn e) up)) k
    ∙ sym (get-from_entries mark_order.total (map pair (in_turn e)) k))

pub listed : (e : EntryRecord) → is_orderly_entry e ≡ true → entries (versions_of e) ≡ map pair (in_turn e)
listed e up = ap entries (made e up) ∙ entries_back mark_order.total mark_order.same (map pair (in_turn e)) (holds _ (pairs_rise (in_turn e) up))

last_back : (x : Mark × Stats) (vs : List BareVersion) (c : BareVersion) → last_of x (map pair (vs ++ c ∷ [])) ≡ pair c
last_back x [] c = refl
last_back x (v ∷ vs) c = last_back (pair v) vs c

first_back : (v : BareVersion) (vs : List BareVersion) (c : BareVersion) → map version_of (but_last (pair v) (map pair (vs ++ c ∷ []))) ≡ v ∷ vs
first_back v [] c = refl
first_back v (w ∷ vs) c = ap (λ ws. v ∷ ws) (first_back w vs c)

-- of versions in their order the record is made again
record_back : (stay : Stay) (vs : List BareVersion) (c : BareVersion)
    → record_of stay (map pair (vs ++ c ∷ [])) ≡ Some (record { placed = stay.placed; previous = stay.previous; current = c; history = vs })
record_back stay [] c = refl
record_back stay (v ∷ vs) c = λ i. Some (record {
  placed = stay.placed;
  previous = stay.previous;
  current = version_of (last_back (pair v) vs c i);
  history = first_back v vs c i;
})

pub entry_back : (e : EntryRecord) → is_orderly_entry e ≡ true → record_of (record { placed = e.placed; previous = e.previous }) (entries (versions_of e)) ≡ Some e
entry_back e up = ap (record_of (record { placed = e.placed; previous = e.previous })) (listed e up) ∙ record_back (record { placed = e.placed; previous = e.previous }) e.history e.current
