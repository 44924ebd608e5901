-- Conflicts as they are computed: with lists in the place of maps.
use Rattle.std.proofs.Common.{◌≡◌, ℕ, zero, suc, Bool, true, false, cond, not, ◌&&◌, ◌||◌, List, [], ◌∷◌, Option, Some, None, length, map, refl, sym, ap, ◌∙◌}
use Rattle.std.specs.FinMap.{FinMap, empty, entries, entries-insert, from_entries, insert, len-empty, len-entries, put}
use Rattle.std.specs.List.{filter, list_any}
use Rattle.vault_model.specs.Db.{Mark, NodeId}
use Rattle.vault_model.specs.Shape.{BareVersion, EntryRecord}
use Rattle.vault_model.specs.Tree.{BareDoc, entry_rows}
use Rattle.vault_model.proofs.Orders.{bytes_order, id_order, pairs_order}
use Rattle.vault_model.proofs.Tests.{any_same}
use Rattle.merge_details.specs.Conflicts.{Holding, conflict_row, conflicts, entry_in, has_version, is_conflict, is_overtaken_if, key_cmp, lacks_version, same_mark}
use Rattle.merge_details.specs.Paths.{path_in}
use Rattle.merge_details.specs.declared.conflict_tables.ConflictTimes.{ConflictTimes}
use Rattle.merge_details.proofs.EntryVersions.{version_among}

abbrev pub Row : Type 0
Row = (List ℕ × NodeId) × ConflictTimes

-- ---- which entries are in conflict

abbrev pub lacks : Mark → Option EntryRecord → Bool
lacks mark None = false
lacks mark (Some e) = not (same_mark mark e.current.mark || list_any (λ (v : BareVersion). same_mark mark v.mark) e.history)

abbrev pub overtaken_if : List Holding → NodeId → EntryRecord → Option EntryRecord → Bool
overtaken_if sources id new None = false
overtaken_if sources id new (Some old) =
    not (same_mark old.current.mark new.current.mark) && list_any (λ (held : Holding). lacks old.current.mark (held id)) sources

abbrev pub in_conflict : Holding → List Holding → NodeId × EntryRecord → Bool
in_conflict target sources e = overtaken_if sources e.0 e.1 (target e.0)

lacks_is : (mark : Mark) (o : Option EntryRecord) → lacks_version mark o ≡ lacks mark o
lacks_is mark None = refl
lacks_is mark (Some e) = ap not (version_among e mark)

overtaken_is : (sources : List Holding) (id : NodeId) (new : EntryRecord) (o : Option EntryRecord) → is_overtaken_if sources id new o ≡ overtaken_if sources id new o
overtaken_is sources id new None = refl
overtaken_is sources id new (Some old) =
    ap (λ b. not (same_mark old.current.mark new.current.mark) && b)
    (any_same (λ (held : Holding). lacks_version old.current.mark (held id)) (λ (held : Holding). lacks old.current.mark (held id)) sources
    (λ held _. lacks_is old.current.mark (held id)))

filter_same : {A : Type 0} (f g : A → Bool) → ((x : A) → f x ≡ g x) → (xs : List A) → filter f xs ≡ filter g xs
filter_same f g same [] = refl
filter_same f g same (x ∷ xs) = λ i. cond (same x i) (x ∷ filter_same f g same xs i) (filter_same f g same xs i)

-- ---- their order

none_left : {A : Type 0} (xs : List A) → length xs ≡ 0 → xs ≡ []
none_left [] e = refl
none_left (x ∷ xs) e = cc

abbrev pub sorted : List Row → List Row
sorted [] = []
sorted (e ∷ es) = put key_cmp e.0 e.1 (sorted es)

sorted_is : (es : List Row) → entries (from_entries {R = key_cmp} es) ≡ sorted es
sorted_is [] = none_left (entries (empty {X = ConflictTimes} {R = key_cmp})) (sym (len-entries (empty {X = ConflictTimes} {R = key_cmp})) ∙ len-empty key_cmp ConflictTimes)
sorted_is (e ∷ es) = entries-insert (pairs_order bytes_order id_order).total (from_entries es) e.0 e.1 ∙ ap (put key_cmp e.0 e.1) (sorted_is es)

-- ---- both

abbrev pub computed : BareDoc → List BareDoc → BareDoc → List Row
computed t ss new =
    sorted (map (conflict_row (path_in new) (entry_in t)) (filter (in_conflict (entry_in t) (map entry_in ss)) (entry_rows new.tree)))

pub conflicts_are : (t : BareDoc) (ss : List BareDoc) (new : BareDoc) → conflicts t ss new ≡ computed t ss new
conflicts_are t ss new =
    sorted_is (map (conflict_row (path_in new) (entry_in t)) (filter (is_conflict (entry_in t) (map entry_in ss)) (entry_rows new.tree)))
    ∙ ap (λ (rows : List (NodeId × EntryRecord)). sorted (map (conflict_row (path_in new) (entry_in t)) rows))
    (filter_same (is_conflict (entry_in t) (map entry_in ss)) (in_conflict (entry_in t) (map entry_in ss))
    (λ e. overtaken_is (map entry_in ss) e.0 e.1 (entry_in t e.0)) (entry_rows new.tree))
