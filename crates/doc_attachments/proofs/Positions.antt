-- Binaries found by the positions that are kept of their numbers, once one binary more is kept.
use Rattle.std.proofs.Common.{◌≡◌, ℕ, zero, suc, ◌+◌, ◌==◌, ◌<◌, Bool, true, false, cond, Option, None, Some, List, [], ◌∷◌, ◌++◌, map, length, take, get_or, refl, sym, ap, subst, ◌∙◌, arith}
use Rattle.std.proofs.Math.Seq.{take-suc}
use Rattle.std.proofs.lemmas.List.{length-take-le, map-append}
use Rattle.std.specs.BTreeMap.{BTreeMap, Updates, get, is_at}
use Rattle.std.specs.Cmp.{unsigned_tied}
use Rattle.std.specs.List.{slice_get}
use Rattle.std.specs.Option.{IfSome, option_and_then}
use Rattle.std.specs.Ordering.{nat_cmp}
use Rattle.doc_forms.specs.declared.drafts.Binary.{Binary}
use Rattle.doc_forms.specs.Attachments.{binary_of, last_of_number}
use Rattle.doc_forms.specs.Metas.{ReadBinary}
use Rattle.doc_forms.specs.SeenDrafts.{binary_seen}
use Rattle.doc_attachments.specs.Pools.{Finds}

-- each position that is kept is below this one
abbrev pub AreBelow : BTreeMap ℕ ℕ → ℕ → Type 0
AreBelow positions end = (n : ℕ) → IfSome (get nat_cmp positions n) (λ i. i < end)

last_appended : (n : ℕ) (known : Option ReadBinary) (bs : List ReadBinary) (b : ReadBinary)
    → last_of_number n known (bs ++ b ∷ []) ≡ cond (b.number == n) (Some b) (last_of_number n known bs)
last_appended n known [] b = refl
last_appended n known (a ∷ bs) b = last_appended n (cond (a.number == n) (Some a) known) bs b

at_end : (bs : List ReadBinary) (b : ReadBinary) → slice_get (bs ++ b ∷ []) (length bs) ≡ Some b
at_end [] b = refl
at_end (a ∷ bs) b = at_end bs b

before_end : (bs : List ReadBinary) (b : ReadBinary) (i : ℕ) → i < length bs → slice_get (bs ++ b ∷ []) i ≡ slice_get bs i
before_end [] b i h = absurd (omega arith)
before_end (a ∷ bs) b zero h = refl
before_end (a ∷ bs) b (suc i) h = before_end bs b i (omega arith)

kept_before : (bs : List ReadBinary) (b : ReadBinary) (o : Option ℕ) → IfSome o (λ i. i < length bs)
    → option_and_then (slice_get (bs ++ b ∷ [])) o ≡ option_and_then (slice_get bs) o
kept_before bs b None h = refl
kept_before bs b (Some i) h = before_end bs b i h

one_found : (bs : List ReadBinary) (b : ReadBinary) (o : Option ℕ) (t : Bool) (known : Option ReadBinary) → IfSome o (λ i. i < length bs)
    → option_and_then (slice_get bs) o ≡ known
    → option_and_then (slice_get (bs ++ b ∷ [])) (cond t (Some (length bs)) o) ≡ cond t (Some b) known
one_found bs b o true known h e = at_end bs b
one_found bs b o false known h e = kept_before bs b o h ∙ e

below_by : (o : Option ℕ) (t : Bool) (end : ℕ) → IfSome o (λ i. i < end) → IfSome (cond t (Some end) o) (λ i. i < end + 1)
below_by o true end h = omega arith
below_by None false end h = h
below_by (Some i) false end h = omega arith

seen_more : (binaries : List Binary) (end : ℕ) (b : Binary) → end < length binaries → b ≡ get_or binaries end b
    → map binary_seen (take (end + 1) binaries) ≡ map binary_seen (take end binaries) ++ binary_seen b ∷ []
seen_more binaries end b within is =
    let next : end + 1 ≡ suc end = omega arith in
    ap (λ n. map binary_seen (take n binaries)) next
    ∙ (ap (map binary_seen) (take-suc binaries end b within ∙ ap (λ x. take end binaries ++ x ∷ []) (sym is))
    ∙ map-append binary_seen (take end binaries) (b ∷ []))

length_seen : (bs : List Binary) → length (map binary_seen bs) ≡ length bs
length_seen [] = refl
length_seen (b ∷ bs) = ap (λ n. suc n) (length_seen bs)

module _ (binaries : List Binary) (end : ℕ) (b : Binary) (before after : BTreeMap ℕ ℕ)
    (within : end < length binaries) (is : b ≡ get_or binaries end b) (updates : Updates nat_cmp before after (get_or binaries end b).number (Some end)) where
  is_update : Updates nat_cmp before after b.number (Some end)
  is_update = subst (λ (x : Binary). Updates nat_cmp before after x.number (Some end)) (sym is) updates

  -- the binaries with one more are found
  pub finds_more : Finds before (take end binaries) → AreBelow before end → Finds after (take (end + 1) binaries)
  finds_more known low n =
      let bs = map binary_seen (take end binaries) in
      let size : length bs ≡ end = length_seen (take end binaries) ∙ length-take-le end binaries (omega arith) in
      let small : IfSome (get nat_cmp before n) (λ i. i < length bs) = rw size (low n) in
      ap (λ l. option_and_then (slice_get l) (get nat_cmp after n)) (seen_more binaries end b within is)
      ∙ (ap (option_and_then (slice_get (bs ++ binary_seen b ∷ []))) (is_update.0 n)
      ∙ (ap (λ k. option_and_then (slice_get (bs ++ binary_seen b ∷ [])) (cond (is_at (nat_cmp b.number) n) (Some k) (get nat_cmp before n))) (sym size)
      ∙ (one_found bs (binary_seen b) (get nat_cmp before n) (is_at (nat_cmp b.number) n) (binary_of bs n) small (known n)
      ∙ (ap (λ t. cond t (Some (binary_seen b)) (binary_of bs n)) (unsigned_tied b.number n)
      ∙ (sym (last_appended n None bs (binary_seen b))
      ∙ ap (λ l. binary_of l n) (sym (seen_more binaries end b within is)))))))

  -- and the positions stay below
  pub below_more : AreBelow before end → AreBelow after (end + 1)
  below_more low n =
      let is_kept : get nat_cmp after n ≡ cond (is_at (nat_cmp b.number) n) (Some end) (get nat_cmp before n) = is_update.0 n in
      rw is_kept (below_by (get nat_cmp before n) (is_at (nat_cmp b.number) n) end (low n))
