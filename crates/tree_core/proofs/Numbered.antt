-- The versions of a history from its end.
use Rattle.std.proofs.Common.{Bor, ◌≡◌, ◌≢◌, ◌+◌, ◌-◌, ◌<◌, ◌≤◌, inl, inr, ℕ, zero, suc, arith, List, Option, Some, None, get_or, length, reverse, refl, sym, ap, ◌∙◌}
use Rattle.std.specs.Prelude.{slice_get}
use Rattle.std.specs.Option.{option_copied, option_map}
use Rattle.std.proofs.lemmas.List.{get_or-reverse, length-map, length-reverse}
use Rattle.std.proofs.lemmas.Option.{slice_get_cases, slice_get-get_or, slice_get-map}
use Rattle.vault_model.specs.declared.nodes.Entry.{Entry}
use Rattle.vault_model.specs.declared.nodes.Version.{Version}
use Rattle.vault_model.specs.SeenNodes.{bare_version, entry_record}
use Rattle.vault_model.specs.Shape.{EntryRecord}
use Rattle.tree_core.specs.Histories.{version_numbered}

pub from_end : {A : Type 0} (xs : List A) (n at : ℕ) → suc n + at ≡ length xs → slice_get xs at ≡ slice_get (reverse xs) n
from_end xs n at h =
    elim ((slice_get_cases xs at).1) [
      | inl p ↦
          let short : n < length (reverse xs) = omega (arith, h, length-reverse xs) in
          let within : n < length xs = omega (arith, h) in
          let there : length xs - 1 - n ≡ at = omega (arith, h) in
          p.2 ∙ sym (slice_get-get_or (reverse xs) n p.0 short ∙ ap Some (get_or-reverse xs n p.0 within ∙ ap (λ i. get_or xs i p.0) there ∙ p.3))
      | inr p ↦ absurd (omega (arith, h, p.0))
    ]

pub numbered : (e : EntryRecord) (number at : ℕ) → number ≢ 0 → number + at ≡ length e.history → slice_get e.history at ≡ version_numbered number e
numbered e zero at some h = absurd (some refl)
numbered e (suc n) at some h = from_end e.history n at h

-- the same of versions in memory
pub numbered_seen : (e : Entry) (number at : ℕ) (found : Option (Bor Version)) → number ≢ 0 → number ≤ length e.history → at ≡ length e.history - number
    → option_copied found ≡ slice_get e.history at → option_map (λ v. bare_version v.now) found ≡ version_numbered number (entry_record e)
numbered_seen e number at found some le is there =
    seen found
    ∙ ap (option_map bare_version) there
    ∙ sym (slice_get-map bare_version e.history at)
    ∙ numbered (entry_record e) number at some (omega (arith, le, is, length-map e.history bare_version))
  where
    seen : (o : Option (Bor Version)) → option_map (λ v. bare_version v.now) o ≡ option_map bare_version (option_copied o)
    seen None = refl
    seen (Some v) = refl
