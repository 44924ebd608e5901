-- A version that is greater than the last of versions that rise is to be put after it.
use Rattle.std.proofs.Common.{◌≡◌, ◌-◌, ◌+◌, ℕ, zero, suc, true, true≢false, List, [], ◌∷◌, Ok, Err, get_or, length, map, refl, sym, ap, ◌∙◌, arith}
use Rattle.std.proofs.Math.Dec.{T}
use Rattle.std.proofs.lemmas.List.{length-map}
use Rattle.std.specs.declared.cmp.Ordering.{Ordering}
use Rattle.std.specs.declared.cmp.Ordering.TheVariants.{Less, Equal, Greater}
use Rattle.std.specs.FinMap.{entries, entries_sorted, is_sorted}
use Rattle.std.specs.FinMap.Entries.{below_all}
use Rattle.std.specs.Ordering.{is_gt, is_lt, ordering_reverse}
use Rattle.vault_model.specs.declared.contents.Stats.{Stats}
use Rattle.vault_model.specs.declared.nodes.Version.{Version}
use Rattle.vault_model.specs.Db.{Mark, mark_cmp}
use Rattle.vault_model.specs.SeenNodes.{bare_version}
use Rattle.vault_model.specs.Shape.{BareVersion, version_of}
use Rattle.vault_model.specs.Unite.{by_order}
use Rattle.vault_model.proofs.Orders.{mark_order}
use Rattle.tree_contents.specs.Spots.{further, spot}
use Rattle.tree_edits.specs.Versions.{AreRising, is_above}
use Rattle.tree_edits.proofs.RisingVersions.{first, less, second}

greater : (r : Ordering) → is_gt r ≡ true → r ≡ Greater
greater Less e = absurd (true≢false (sym e))
greater Equal e = absurd (true≢false (sym e))
greater Greater e = refl

-- what is greater than the last is greater than the first
above_first : (v : BareVersion) (e : Mark × Stats) (es : List (Mark × Stats)) → T (is_sorted mark_cmp (e ∷ es)) → is_above v (map version_of (e ∷ es)) ≡ true → mark_cmp v.mark e.0 ≡ Greater
above_first v e [] h above = greater (mark_cmp v.mark e.0) above
above_first v e (f ∷ es) h above =
    let rest = above_first v f es (second (below_all mark_cmp e.0 (f ∷ es)) (is_sorted mark_cmp (f ∷ es)) h) above in
    let next = less (mark_cmp e.0 f.0) (first (is_lt (mark_cmp e.0 f.0)) (below_all mark_cmp e.0 es) (first (below_all mark_cmp e.0 (f ∷ es)) (is_sorted mark_cmp (f ∷ es)) h)) in
    let last = mark_order.total.antisymm f.0 v.mark ∙ ap ordering_reverse rest in
    mark_order.total.antisymm v.mark e.0 ∙ ap ordering_reverse (mark_order.total.trans e.0 f.0 v.mark next last)

spot_after : (v : BareVersion) (es : List (Mark × Stats)) → T (is_sorted mark_cmp es) → is_above v (map version_of es) ≡ true
    → spot (λ (w : BareVersion). mark_cmp v.mark w.mark) (map version_of es) ≡ Err (length es)
spot_after v [] h above = refl
spot_after v (e ∷ []) h above = ap (λ r. by_order r (Err 0) (Ok 0) (further 1 (Err 0))) (greater (mark_cmp v.mark e.0) above)
spot_after v (e ∷ f ∷ es) h above =
    let rest = spot (λ (w : BareVersion). mark_cmp v.mark w.mark) (map version_of (f ∷ es)) in
    let one : 1 + length (f ∷ es) ≡ suc (length (f ∷ es)) = omega arith in
    ap (λ r. by_order r (Err 0) (Ok 0) (further 1 rest)) (above_first v e (f ∷ es) h above)
    ∙ ap (further 1) (spot_after v (f ∷ es) (second (below_all mark_cmp e.0 (f ∷ es)) (is_sorted mark_cmp (f ∷ es)) h) above)
    ∙ ap (λ n. Err n) one

-- ---- versions in memory

above_last : (v : BareVersion) (vs : List Version) (n : ℕ) (last : Version) → length vs ≡ suc n → last ≡ get_or vs n last → is_above v (map bare_version vs) ≡ is_gt (mark_cmp v.mark (bare_version last).mark)
above_last v [] n last len is = absurd (omega (arith, len))
above_last v (x ∷ []) zero last len is = ap (λ (y : Version). is_gt (mark_cmp v.mark (bare_version y).mark)) (sym is)
above_last v (x ∷ []) (suc n) last len is = absurd (omega (arith, len))
above_last v (x ∷ y ∷ ys) zero last len is = absurd (omega (arith, len))
above_last v (x ∷ y ∷ ys) (suc n) last len is = above_last v (y ∷ ys) n last (omega (arith, len)) is

pub above_end : (v : BareVersion) (vs : List Version) (count : ℕ) (last : Version) (order : Ordering) → count ≡ length vs → (count ≡ 0 → ⊥) → last ≡ get_or vs (count - 1) last
    → order ≡ mark_cmp v.mark (bare_version last).mark → is_gt order ≡ is_above v (map bare_version vs)
above_end v vs count last order len some is e =
    let next : length vs ≡ suc (count - 1) = omega (arith, len, some) in
    ap is_gt e ∙ sym (above_last v vs (count - 1) last next is)

pub above_none : (v : BareVersion) (vs : List Version) (count : ℕ) → count ≡ length vs → count ≡ 0 → true ≡ is_above v (map bare_version vs)
above_none v [] count len none = refl
above_none v (x ∷ xs) count len none = absurd (omega (arith, len, none))

-- what is greater than the last is to be put behind it
pub above_spot : (v : BareVersion) (vs : List Version) → AreRising (map bare_version vs) → is_above v (map bare_version vs) ≡ true
    → spot (λ (w : BareVersion). mark_cmp v.mark w.mark) (map bare_version vs) ≡ Err (length vs)
above_spot v vs rising above =
    ap (spot (λ (w : BareVersion). mark_cmp v.mark w.mark)) rising.1
    ∙ spot_after v (entries rising.0) (entries_sorted rising.0) (ap (is_above v) (sym rising.1) ∙ above)
    ∙ ap (λ n. Err n) (sym (length-map (entries rising.0) version_of) ∙ ap length (sym rising.1) ∙ length-map vs bare_version)
