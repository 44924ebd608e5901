-- Versions put into their places one by one are all versions in rising order.
use Rattle.std.proofs.Common.{◌≡◌, ◌&&◌, ℕ, Bool, true, false, cond, inl, inr, List, [], ◌∷◌, Option, None, Some, map, length, drop, get_or, suc, ◌<◌, ◌≤◌, ◌+◌, arith, refl, sym, ap, subst, ◌∙◌}
use Rattle.std.proofs.Math.Dec.{T}
use Rattle.std.specs.declared.cmp.Ordering.{Ordering}
use Rattle.std.specs.declared.cmp.Ordering.TheVariants.{Less, Equal, Greater}
use Rattle.std.specs.FinMap.{empty, len-empty, len-entries, entries, entries-insert, entries_sorted, find, get, get-empty, get-entries, get-insert, insert, is_sorted, put, same_map}
use Rattle.std.specs.FinMap.Entries.{below_all, by_order as entry_by_order}
use Rattle.std.specs.Ordering.{eq_by_cmp, is_eq, is_lt}
use Rattle.vault_model.specs.declared.contents.Stats.{Stats}
use Rattle.std.proofs.Math.Seq.{drop-cons}
use Rattle.std.proofs.lemmas.List.{drop_all}
use Rattle.vault_model.specs.SeenNodes.{bare_version}
use Rattle.vault_model.specs.declared.nodes.Version.{Version}
use Rattle.vault_model.specs.Db.{Mark, Versions, mark_cmp}
use Rattle.vault_model.specs.Join.{stats_join}
use Rattle.vault_model.specs.Shape.{BareVersion, EntryRecord, version_of}
use Rattle.vault_model.specs.Unite.{by_order, join_options, unite, unite_all}
use Rattle.vault_model.proofs.Orders.{mark_order}
use Rattle.vault_model.proofs.Tests.{decide}
use Rattle.merge_core.proofs.Joins.{versions_joins}
use Rattle.merge_core.proofs.Unite.{tie, get-unite}
use Rattle.tree_core.specs.Histories.{rising_versions}
use Rattle.tree_edits.specs.Versions.{AreRising, put_version}

-- a version as a map of its own
abbrev single : BareVersion → Versions
single v = insert empty v.mark v.stats

-- the value that is put where a value comes to what is there
abbrev joined_at : Stats → Option Stats → Stats
joined_at s None = s
joined_at s (Some t) = stats_join s t

merged_some : (s : Stats) (o : Option Stats) → Some (joined_at s o) ≡ join_options stats_join (Some s) o
merged_some s None = refl
merged_some s (Some t) = refl

add_one : (m : Versions) (v : BareVersion) → insert m v.mark (joined_at v.stats (get m v.mark)) ≡ unite stats_join (single v) m
add_one m v =
    same_map mark_order.total mark_order.same (insert m v.mark (joined_at v.stats (get m v.mark))) (unite stats_join (single v) m) (λ q.
    get-insert mark_order.total m v.mark (joined_at v.stats (get m v.mark)) q
    ∙ at_key q
    ∙ ap (λ w. join_options stats_join w (get m q)) (sym (get-insert mark_order.total empty v.mark v.stats q ∙ ap (cond (eq_by_cmp mark_cmp q v.mark) (Some v.stats)) (get-empty mark_cmp q)))
    ∙ sym (get-unite mark_order.total mark_order.same stats_join (single v) m q))
  where
    at_key : (q : Mark) → cond (eq_by_cmp mark_cmp q v.mark) (Some (joined_at v.stats (get m v.mark))) (get m q) ≡ join_options stats_join (cond (eq_by_cmp mark_cmp q v.mark) (Some v.stats) None) (get m q)
    at_key q =
        elim (decide (eq_by_cmp mark_cmp q v.mark)) [
          | inl t ↦
              ap (λ b. cond b (Some (joined_at v.stats (get m v.mark))) (get m q)) t
              ∙ ap (λ x. Some (joined_at v.stats (get m x))) (sym (tie mark_order.total mark_order.same q v.mark t))
              ∙ merged_some v.stats (get m q)
              ∙ sym (ap (λ b. join_options stats_join (cond b (Some v.stats) None) (get m q)) t)
          | inr t ↦
              ap (λ b. cond b (Some (joined_at v.stats (get m v.mark))) (get m q)) t
              ∙ sym (ap (λ b. join_options stats_join (cond b (Some v.stats) None) (get m q)) t)
        ]

-- ---- a version put among rows that rise

pub first : (a b : Bool) → T (a && b) → T a
first true b p = tt
first false b p = absurd p

pub second : (a b : Bool) → T (a && b) → T b
second true b p = p
second false b p = absurd p

pub less : (r : Ordering) → T (is_lt r) → r ≡ Less
less Less p = refl
less Equal p = absurd p
less Greater p = absurd p

-- below all of the rows there is none
none_below : (k x : Mark) (es : List (Mark × Stats)) → mark_cmp k x ≡ Less → T (below_all mark_cmp x es) → find mark_cmp k es ≡ None
none_below k x [] e h = refl
none_below k x (y ∷ ys) e h =
    let next = mark_order.total.trans k x y.0 e (less (mark_cmp x y.0) (first (is_lt (mark_cmp x y.0)) (below_all mark_cmp x ys) h)) in
    ap (λ r. cond (is_eq r) (Some y.1) (find mark_cmp k ys)) next
    ∙ none_below k x ys e (second (is_lt (mark_cmp x y.0)) (below_all mark_cmp x ys) h)

put_row : (v : BareVersion) (es : List (Mark × Stats)) → T (is_sorted mark_cmp es)
    → put_version v (map version_of es) ≡ map version_of (put mark_cmp v.mark (joined_at v.stats (find mark_cmp v.mark es)) es)
put_row v [] h = refl
put_row v (e ∷ es) h = of (put_row v es (second (below_all mark_cmp e.0 es) (is_sorted mark_cmp es) h)) (mark_cmp v.mark e.0) refl
  where
    of : put_version v (map version_of es) ≡ map version_of (put mark_cmp v.mark (joined_at v.stats (find mark_cmp v.mark es)) es)
        → (r : Ordering) → mark_cmp v.mark e.0 ≡ r
        → by_order (mark_cmp v.mark e.0) (v ∷ version_of e ∷ map version_of es) (record (version_of e) { stats = stats_join v.stats e.1 } ∷ map version_of es) (version_of e ∷ put_version v (map version_of es))
        ≡ map version_of (entry_by_order (mark_cmp v.mark e.0) ((v.mark, joined_at v.stats (find mark_cmp v.mark (e ∷ es))) ∷ e ∷ es) ((e.0, joined_at v.stats (find mark_cmp v.mark (e ∷ es))) ∷ es)
        (e ∷ put mark_cmp v.mark (joined_at v.stats (find mark_cmp v.mark (e ∷ es))) es))
    of rest Less p =
        let none = ap (λ r. cond (is_eq r) (Some e.1) (find mark_cmp v.mark es)) p ∙ none_below v.mark e.0 es p (first (below_all mark_cmp e.0 es) (is_sorted mark_cmp es) h) in
        ap (λ r. by_order r (v ∷ version_of e ∷ map version_of es) (record (version_of e) { stats = stats_join v.stats e.1 } ∷ map version_of es) (version_of e ∷ put_version v (map version_of es))) p
        ∙ ap (λ o. version_of (v.mark, joined_at v.stats o) ∷ version_of e ∷ map version_of es) (sym none)
        ∙ sym (ap (λ r. map version_of (entry_by_order r ((v.mark, joined_at v.stats (find mark_cmp v.mark (e ∷ es))) ∷ e ∷ es) ((e.0, joined_at v.stats (find mark_cmp v.mark (e ∷ es))) ∷ es)
        (e ∷ put mark_cmp v.mark (joined_at v.stats (find mark_cmp v.mark (e ∷ es))) es))) p)
    of rest Equal p =
        let some = ap (λ r. cond (is_eq r) (Some e.1) (find mark_cmp v.mark es)) p in
        ap (λ r. by_order r (v ∷ version_of e ∷ map version_of es) (record (version_of e) { stats = stats_join v.stats e.1 } ∷ map version_of es) (version_of e ∷ put_version v (map version_of es))) p
        ∙ ap (λ o. version_of (e.0, joined_at v.stats o) ∷ map version_of es) (sym some)
        ∙ sym (ap (λ r. map version_of (entry_by_order r ((v.mark, joined_at v.stats (find mark_cmp v.mark (e ∷ es))) ∷ e ∷ es) ((e.0, joined_at v.stats (find mark_cmp v.mark (e ∷ es))) ∷ es)
        (e ∷ put mark_cmp v.mark (joined_at v.stats (find mark_cmp v.mark (e ∷ es))) es))) p)
    of rest Greater p =
        let further = ap (λ r. cond (is_eq r) (Some e.1) (find mark_cmp v.mark es)) p in
        ap (λ r. by_order r (v ∷ version_of e ∷ map version_of es) (record (version_of e) { stats = stats_join v.stats e.1 } ∷ map version_of es) (version_of e ∷ put_version v (map version_of es))) p
        ∙ ap (λ vs. version_of e ∷ vs) rest
        ∙ ap (λ o. version_of e ∷ map version_of (put mark_cmp v.mark (joined_at v.stats o) es)) (sym further)
        ∙ sym (ap (λ r. map version_of (entry_by_order r ((v.mark, joined_at v.stats (find mark_cmp v.mark (e ∷ es))) ∷ e ∷ es) ((e.0, joined_at v.stats (find mark_cmp v.mark (e ∷ es))) ∷ es)
        (e ∷ put mark_cmp v.mark (joined_at v.stats (find mark_cmp v.mark (e ∷ es))) es))) p)

put_map : (v : BareVersion) (m : Versions) → put_version v (map version_of (entries m)) ≡ map version_of (entries (unite stats_join (single v) m))
put_map v m =
    put_row v (entries m) (entries_sorted m)
    ∙ ap (λ o. map version_of (put mark_cmp v.mark (joined_at v.stats o) (entries m))) (sym (get-entries m v.mark))
    ∙ ap (map version_of) (sym (entries-insert mark_order.total m v.mark (joined_at v.stats (get m v.mark))))
    ∙ ap (λ n. map version_of (entries n)) (add_one m v)

-- ---- versions taken one by one

-- the versions that were taken so far with further ones
abbrev taken : List BareVersion → Versions → Versions
taken [] m = m
taken (v ∷ vs) m = taken vs (unite stats_join (single v) m)

-- some versions in rising order, which with the rest come to all of them
pub record IsRising (all rest rising : List BareVersion) : Type 0 where
  pub so_far : Versions
  pub is : rising ≡ map version_of (entries so_far)
  pub whole : taken rest so_far ≡ taken all empty

empty_list : (es : List (Mark × Stats)) → length es ≡ 0 → es ≡ []
empty_list [] h = refl
empty_list (e ∷ es) h = absurd (omega (arith, h))

entries_none : entries (empty {X = Stats} {R = mark_cmp}) ≡ []
entries_none = empty_list (entries (empty {X = Stats} {R = mark_cmp})) (sym (len-entries (empty {X = Stats} {R = mark_cmp})) ∙ len-empty mark_cmp Stats)

pub rises_first : (all rising : List BareVersion) → rising ≡ [] → IsRising all all rising
rises_first all rising e = record { so_far = empty; is = e ∙ ap (map version_of) (sym entries_none); whole = refl }

pub rises_on : (all rest rest' rising rising' : List BareVersion) (v : BareVersion) → rest ≡ v ∷ rest' → rising' ≡ put_version v rising → IsRising all rest rising → IsRising all rest' rising'
rises_on all rest rest' rising rising' v next put h = record {
  so_far = unite stats_join (single v) h.so_far;
  is = put ∙ ap (put_version v) h.is ∙ put_map v h.so_far;
  whole = sym (ap (λ vs. taken vs h.so_far) next) ∙ h.whole;
}

unite_none : (m : Versions) → unite stats_join m empty ≡ m
unite_none m = same_map mark_order.total mark_order.same (unite stats_join m empty) m (λ q.
    get-unite mark_order.total mark_order.same stats_join m empty q ∙ ap (join_options stats_join (get m q)) (get-empty mark_cmp q) ∙ none_right (get m q))
  where
    none_right : (p : Option Stats) → join_options stats_join p None ≡ p
    none_right None = refl
    none_right (Some x) = refl

taken_all : (vs : List BareVersion) (m : Versions) → taken vs m ≡ unite stats_join (unite_all stats_join (map single vs)) m
taken_all [] m = sym (none_left m)
  where
    none_left : (m : Versions) → unite stats_join empty m ≡ m
    none_left m = versions_joins.comm empty m ∙ unite_none m
taken_all (v ∷ vs) m =
    taken_all vs (unite stats_join (single v) m)
    ∙ sym (versions_joins.assoc (unite_all stats_join (map single vs)) (single v) m)
    ∙ ap (λ n. unite stats_join n m) (versions_joins.comm (unite_all stats_join (map single vs)) (single v))

-- the history first and then the current version
pub all_rising : (e : EntryRecord) (rising last : List BareVersion) → IsRising e.history [] rising → last ≡ put_version e.current rising → last ≡ rising_versions e
all_rising e rising last h put =
    put ∙ ap (put_version e.current) h.is ∙ put_map e.current h.so_far
    ∙ ap (λ m. map version_of (entries (unite stats_join (single e.current) m))) (h.whole ∙ taken_all e.history empty ∙ unite_none (unite_all stats_join (map single e.history)))

-- ---- versions in memory

pub rises_next : (all : List BareVersion) (items : List Version) (at : ℕ) (v : Version) (rising rising' : List BareVersion) → at < length items → v ≡ get_or items at v
    → rising' ≡ put_version (bare_version v) rising → IsRising all (map bare_version (drop at items)) rising → IsRising all (map bare_version (drop (at + 1) items)) rising'
rises_next all items at v rising rising' less is put h =
    let next : suc at ≡ at + 1 = omega arith in
    let here = drop-cons items at v less ∙ (λ i. sym is i ∷ drop (next i) items) in
    rises_on all (map bare_version (drop at items)) (map bare_version (drop (at + 1) items)) rising rising' (bare_version v) (ap (map bare_version) here) put h

pub rises_last : (items own : List Version) (at : ℕ) (rising : List BareVersion) → length items ≤ at → items ≡ own
    → IsRising (map bare_version items) (map bare_version (drop at items)) rising → IsRising (map bare_version own) [] rising
rises_last items own at rising far same h =
    subst (λ (vs : List Version). IsRising (map bare_version vs) [] rising) same
    (subst (λ (vs : List Version). IsRising (map bare_version items) (map bare_version vs) rising) (drop_all at items far) h)

-- what was taken so far rises
pub are_rising : (all rest rising : List BareVersion) → IsRising all rest rising → AreRising rising
are_rising all rest rising h = (h.so_far, h.is)
