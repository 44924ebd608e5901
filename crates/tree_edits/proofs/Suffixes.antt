-- The longest suffix of a history within its limits, found from its end.
use Rattle.std.proofs.Common.{◌≡◌, ◌≢◌, ◌<◌, ◌≤◌, ◌+◌, ◌-◌, ◌&&◌, ◌⊎◌, ℕ, ℤ, suc, zero, Bool, true, false, cond, inl, inr, List, [], ◌∷◌, Option, None, Some, is_some, length, length-drop, drop, get_or, map, nat_le, negsuc, pos, refl, sym, ap, ◌∙◌, arith}
use Rattle.std.proofs.Math.Seq.{drop-cons}
use Rattle.std.proofs.lemmas.Bool.{le-leb, leb-true}
use Rattle.std.proofs.lemmas.List.{drop-map, drop_all, length-map}
use Rattle.std.proofs.lemmas.List.Sums.{sum_by-cons}
use Rattle.vault_model.proofs.Tests.{and_both, and_true, apart, decide, is_false}
use Rattle.vault_model.specs.Seen.{bare_content}
use Rattle.vault_model.specs.SeenNodes.{bare_version}
use Rattle.vault_model.specs.Shape.{BareVersion}
use Rattle.vault_model.specs.declared.nodes.Version.{Version}
use Rattle.tree_core.specs.Histories.{content_size, is_within, versions_size, within_limits}
use Rattle.tree_edits.specs.Rooms.{IsStart, is_under, limit_of, room_left, surplus_over}
use Rattle.tree_edits.proofs.Rooms.{has_room, left_some}

-- ---- limits

under_is : (n : ℕ) (z : ℤ) → is_within n z ≡ is_under n (limit_of z)
under_is n (pos limit) = refl
under_is n (negsuc k) = refl

less_within : (m n : ℕ) (z : ℤ) → m ≤ n → is_within n z ≡ true → is_within m z ≡ true
less_within m n (pos limit) less h = let most = leb-true n limit h in le-leb m limit (omega (arith, less, most))
less_within m n (negsuc k) less h = refl

few_left : (limit : Option ℕ) (n start : ℕ) → surplus_over limit n ≤ start → is_under (n - start) limit ≡ true
few_left None n start h = refl
few_left (Some limit) n start h = le-leb (n - start) limit (omega (arith, h))

one_too_many : (limit : Option ℕ) (n start : ℕ) → start ≡ surplus_over limit n → start ≢ 0 → is_under (n - (start - 1)) limit ≡ false
one_too_many None n start is some = absurd (some is)
one_too_many (Some limit) n start is some = is_false (nat_le (n - (start - 1)) limit) (λ e. let most = leb-true (n - (start - 1)) limit e in absurd (omega (arith, is, some, most)))

room_is : (limit n : ℕ) → is_some (room_left limit n) ≡ nat_le n limit
room_is limit n =
    elim (decide (nat_le n limit)) [
      | inl p ↦ ap (λ b. is_some (cond b (Some (limit - n)) None)) p ∙ sym p
      | inr p ↦ ap (λ b. is_some (cond b (Some (limit - n)) None)) p ∙ sym p
    ]

-- ---- the longest suffix

size_more : (v : BareVersion) (vs : List BareVersion) → versions_size (v ∷ vs) ≡ content_size v.mark.content + versions_size vs
size_more v vs = sum_by-cons (λ n. n) (content_size v.mark.content) (map (λ (w : BareVersion). content_size w.mark.content) vs)

size_left : (vs : List BareVersion) (n : ℕ) → versions_size (drop n vs) ≤ versions_size vs
size_left vs zero = omega arith
size_left [] (suc n) = omega arith
size_left (v ∷ vs) (suc n) = let rest = size_left vs n in let all = size_more v vs in omega (arith, rest, all)

off_right : (a b : Bool) → b ≡ false → (a && b) ≡ false
off_right true b e = e
off_right false b e = refl

module _ (items size : ℤ) where
  abbrev fits : List BareVersion → Bool
  fits vs = is_within (length vs) items && is_within (versions_size vs) size

  within : (vs : List BareVersion) → fits vs ≡ true → within_limits items size vs ≡ vs
  within [] h = refl
  within (v ∷ vs) h = ap (λ b. cond b (v ∷ vs) (within_limits items size vs)) h

  beyond : (v : BareVersion) (vs : List BareVersion) → fits (v ∷ vs) ≡ false → within_limits items size (v ∷ vs) ≡ within_limits items size vs
  beyond v vs h = ap (λ b. cond b (v ∷ vs) (within_limits items size vs)) h

  fits_left : (vs : List BareVersion) (n : ℕ) → fits vs ≡ true → fits (drop n vs) ≡ true
  fits_left vs n h =
      let both = and_true (is_within (length vs) items) (is_within (versions_size vs) size) h in
      let len = length-drop n vs in
      and_both (is_within (length (drop n vs)) items) (is_within (versions_size (drop n vs)) size)
      (less_within (length (drop n vs)) (length vs) items (omega (arith, len)) both.0)
      (less_within (versions_size (drop n vs)) (versions_size vs) size (size_left vs n) both.1)

  -- what fits is the longest that does where one more does not
  longest : (vs : List BareVersion) (start : ℕ) → start ≤ length vs → fits (drop start vs) ≡ true → (start ≢ 0 → fits (drop (start - 1) vs) ≡ false) → drop start vs ≡ within_limits items size vs
  longest vs zero low h off = sym (within vs h)
  longest [] (suc start) low h off = absurd (omega (arith, low))
  longest (v ∷ vs) (suc start) low h off =
      let one : suc start - 1 ≡ start = omega arith in
      let before : fits (drop start (v ∷ vs)) ≡ false = ap (λ n. fits (drop n (v ∷ vs))) (sym one) ∙ off (λ e. absurd (omega (arith, e))) in
      let all : fits (v ∷ vs) ≡ false = is_false (fits (v ∷ vs)) (λ e. apart (fits (drop start (v ∷ vs))) (fits_left (v ∷ vs) start e) before) in
      longest vs start (omega (arith, low)) h (λ some.
      let next : suc (start - 1) ≡ start = omega (arith, some) in
      ap (λ n. fits (drop n (v ∷ vs))) next ∙ before)
      ∙ sym (beyond v vs all)

-- ---- what the code finds

module _ (items size : ℤ) (vs : List Version) where
  abbrev seen : List BareVersion
  seen = map bare_version vs

  count_left : (start : ℕ) → length (drop start seen) ≡ length vs - start
  count_left start = length-drop start seen ∙ ap (λ n. n - start) (length-map vs bare_version)

  few : (start : ℕ) → surplus_over (limit_of items) (length vs) ≤ start → is_within (length (drop start seen)) items ≡ true
  few start low = ap (λ n. is_within n items) (count_left start) ∙ under_is (length vs - start) items ∙ few_left (limit_of items) (length vs) start low

  one_more : (start : ℕ) → start ≡ surplus_over (limit_of items) (length vs) → start ≢ 0 → fits items size (drop (start - 1) seen) ≡ false
  one_more start is some =
      ap (λ b. b && is_within (versions_size (drop (start - 1) seen)) size)
      (ap (λ n. is_within n items) (count_left (start - 1)) ∙ under_is (length vs - (start - 1)) items ∙ one_too_many (limit_of items) (length vs) start is some)

  -- where the size has no limit
  pub without_limit : (start : ℕ) → start ≡ surplus_over (limit_of items) (length vs) → start ≤ length vs → limit_of size ≡ None → drop start seen ≡ within_limits items size seen
  without_limit start is low none =
      let len = length-map vs bare_version in
      let same : surplus_over (limit_of items) (length vs) ≤ start = omega (arith, is) in
      longest items size seen start (omega (arith, low, len))
      (and_both (is_within (length (drop start seen)) items) (is_within (versions_size (drop start seen)) size) (few start same)
      (under_is (versions_size (drop start seen)) size ∙ ap (is_under (versions_size (drop start seen))) none))
      (one_more start is)

  -- and where it has one
  pub with_limit : (least limit start : ℕ) → least ≡ surplus_over (limit_of items) (length vs) → limit_of size ≡ Some limit → IsStart least limit seen start → drop start seen ≡ within_limits items size seen
  with_limit least limit start is some h =
      let low = h.low in
      let same : surplus_over (limit_of items) (length vs) ≤ start = omega (arith, is, low) in
      longest items size seen start h.within
      (and_both (is_within (length (drop start seen)) items) (is_within (versions_size (drop start seen)) size) (few start same)
      (under_is (versions_size (drop start seen)) size ∙ ap (is_under (versions_size (drop start seen))) some ∙ sym (room_is limit (versions_size (drop start seen))) ∙ h.room))
      (λ later. elim h.most [
        | inl first ↦ one_more start (first ∙ is) later
        | inr full ↦
            off_right (is_within (length (drop (start - 1) seen)) items) (is_within (versions_size (drop (start - 1) seen)) size)
            (under_is (versions_size (drop (start - 1) seen)) size ∙ ap (is_under (versions_size (drop (start - 1) seen))) some
            ∙ sym (room_is limit (versions_size (drop (start - 1) seen))) ∙ ap is_some full)
      ])

  -- a surplus is within the history
  pub surplus_within : (start : ℕ) → start ≡ surplus_over (limit_of items) (length vs) → start ≤ length vs
  surplus_within start is = of (limit_of items) is
    where
      of : (limit : Option ℕ) → start ≡ surplus_over limit (length vs) → start ≤ length vs
      of None e = omega (arith, e)
      of (Some n) e = omega (arith, e)

-- ---- from the end on

module _ (limit : ℕ) (vs : List Version) where
  -- the room that is left after the versions from here on
  abbrev pub RoomFrom : ℕ → ℕ → Type 0
  RoomFrom start room = room_left limit (versions_size (map bare_version (drop start vs))) ≡ Some room

  pub whole_room : (start : ℕ) → start ≡ length vs → RoomFrom start limit
  whole_room start end =
      let far : length vs ≤ start = omega (arith, end) in
      let all : limit - 0 ≡ limit = omega arith in
      ap (λ (ws : List Version). room_left limit (versions_size (map bare_version ws))) (drop_all start vs far) ∙ has_room limit 0 (omega arith) ∙ ap Some all

  -- one version more
  room_before : (start room : ℕ) (v : Version) → start ≢ 0 → start ≤ length vs → v ≡ get_or vs (start - 1) v → RoomFrom start room
      → room_left limit (versions_size (map bare_version (drop (start - 1) vs))) ≡ room_left room (content_size (bare_content v.content))
  room_before start room v some low is h =
      let less : start - 1 < length vs = omega (arith, some, low) in
      let next : suc (start - 1) ≡ start = omega (arith, some) in
      let rest = drop-cons vs (start - 1) v less ∙ (λ i. sym is i ∷ drop (next i) vs) in
      let turned : content_size (bare_content v.content) + versions_size (map bare_version (drop start vs)) ≡ versions_size (map bare_version (drop start vs)) + content_size (bare_content v.content) = omega arith in
      ap (λ (ws : List Version). room_left limit (versions_size (map bare_version ws))) rest
      ∙ ap (room_left limit) (size_more (bare_version v) (map bare_version (drop start vs)) ∙ turned)
      ∙ left_some limit (versions_size (map bare_version (drop start vs))) (content_size (bare_content v.content)) room h

  pub room_next : (start room left : ℕ) (v : Version) → start ≢ 0 → start ≤ length vs → v ≡ get_or vs (start - 1) v → RoomFrom start room
      → Some left ≡ room_left room (content_size (bare_content v.content)) → RoomFrom (start - 1) left
  room_next start room left v some low is h e = room_before start room v some low is h ∙ sym e

  is_start : (least start room : ℕ) → least ≤ start → start ≤ length vs → RoomFrom start room
      → (start ≡ least) ⊎ (room_left limit (versions_size (drop (start - 1) (map bare_version vs))) ≡ None) → IsStart least limit (map bare_version vs) start
  is_start least start room low high h most =
      let len = length-map vs bare_version in
      record {
        low = low;
        within = omega (arith, high, len);
        room = ap (λ (ws : List BareVersion). is_some (room_left limit (versions_size ws))) (drop-map bare_version start vs) ∙ ap is_some h;
        most = most;
      }

  pub starts_first : (least start room : ℕ) → least ≤ start → start ≤ length vs → start ≤ least → RoomFrom start room → IsStart least limit (map bare_version vs) start
  starts_first least start room low high end h = let same : start ≡ least = omega (arith, low, end) in is_start least start room low high h (inl same)

  pub starts_full : (least start room : ℕ) (v : Version) → least < start → start ≤ length vs → v ≡ get_or vs (start - 1) v → RoomFrom start room
      → None ≡ room_left room (content_size (bare_content v.content)) → IsStart least limit (map bare_version vs) start
  starts_full least start room v low high is h e =
      let some : start ≢ 0 = omega (arith, low) in
      is_start least start room (omega (arith, low)) high h
      (inr (ap (λ (ws : List BareVersion). room_left limit (versions_size ws)) (drop-map bare_version (start - 1) vs) ∙ room_before start room v some high is h ∙ sym e))
