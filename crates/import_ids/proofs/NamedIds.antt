-- Ids that are made of names are not nil.
use Rattle.std.proofs.Common.{◌∙◌, Option, Some, None, ◌≡◌, ◌≢◌, ◌<◌, ◌≤◌, ◌+◌, ◌*◌, ◌%◌, ℕ, suc, zero, false, List, ◌++◌, length, take, refl, sym, ap, arith}
use Rattle.std.proofs.lemmas.List.{get_or-set_same, length-append, length-set, length-take}
use Rattle.std.specs.Int.{to_be_bytes, w32}
use Rattle.std.specs.Option.{ForSome, unwrap_or}
use Rattle.std.specs.Prelude.{slice_index}
use Rattle.sha1.specs.Sha1.{digest_bytes, hash_after, padded_message, sha1}
use Rattle.uuid.specs.Parts.{with_variant, with_version, variant_byte}
use Rattle.uuid.specs.declared.Variant.TheVariants.{RFC4122}
use Rattle.uuid.specs.declared.Version.TheVariants.{Sha1}
use Rattle.vault_model.specs.Db.{NodeId, nil_id}
use Rattle.vault_model.specs.Join.{is_id}
use Rattle.vault_model.proofs.Ids.{same_id}
use Rattle.vault_model.proofs.Tests.{is_false}
use Rattle.import_ids.specs.Ids.{named_id}

digest_length : (h : List ℕ) (n : ℕ) → length (digest_bytes h n) ≡ 4 * n
unfolding digest_bytes
digest_length h zero = refl
digest_length h (suc n) =
    let last : length (to_be_bytes w32 (slice_index h n)) ≡ 4 = refl in
    let both = length-append (digest_bytes h n) (to_be_bytes w32 (slice_index h n)) in
    let rest = digest_length h n in
    omega (arith, last, both, rest)

sha1_length : (m : List ℕ) → length (sha1 m) ≡ 20
unfolding sha1
sha1_length m = digest_length (hash_after (padded_message m) _) 5

-- byte 6 has the version in its high half
version_byte : (xs : List ℕ) → 8 < length xs → 80 ≤ slice_index (with_version (with_variant xs RFC4122) Sha1) 6
version_byte xs long =
    let ys = with_variant xs RFC4122 in
    let as_long : length ys ≡ length xs = length-set xs 8 (variant_byte (slice_index xs 8) RFC4122) in
    let is : slice_index (with_version ys Sha1) 6 ≡ slice_index ys 6 % 16 + 80 = get_or-set_same ys 6 (slice_index ys 6 % 16 + 80) 0 (omega (arith, as_long, long)) in
    omega (arith, is)

pub named_not_nil : (space : NodeId) (name : List ℕ) → named_id space name ≢ nil_id
named_not_nil space name e =
    let bytes = take 16 (sha1 (space ++ name)) in
    let whole = sha1_length (space ++ name) in
    let cut = length-take 16 (sha1 (space ++ name)) in
    let high = version_byte bytes (omega (arith, whole, cut)) in
    let low : slice_index (named_id space name) 6 ≡ 0 = ap (λ u. slice_index u 6) e in
    absurd (omega (arith, high, low))

-- an id that is not nil is another id
pub other_than_nil : (u : NodeId) → u ≢ nil_id → is_id nil_id u ≡ false
other_than_nil u n = is_false (is_id nil_id u) (λ e. n (sym (same_id nil_id u e)))

-- an id of its own or one that is made of a name is not nil
pub own_or_named : (own : Option NodeId) (made space : NodeId) (name : List ℕ) → made ≡ unwrap_or own (named_id space name) → ForSome own (λ id. id ≢ nil_id) → made ≢ nil_id
own_or_named None made space name is some e = named_not_nil space name (sym is ∙ e)
own_or_named (Some own) made space name is some e = some own refl (sym is ∙ e)
