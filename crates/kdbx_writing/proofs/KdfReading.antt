-- A KDF dictionary that is spelled is read.
use Rattle.std.proofs.Common.{◌≡◌, ℕ, ◌<◌, ◌≤◌, ◌^◌, true, false, List, [], ◌∷◌, ◌++◌, length, Some, Result, Ok, refl, sym, ◌∙◌, ap, arith, append_assoc, length-append}
use Rattle.std.specs.Prelude.{◌==◌}
use Rattle.std.specs.List.{flat_map, AllByRecursion}
use Rattle.std.specs.Int.{w32, w64, to_le_bytes, from_le_bytes}
use Rattle.std.proofs.lemmas.Bool.{eq-eqb}
use Rattle.std.proofs.lemmas.Nat.{from_le_bytes-to_le_bytes_4, from_le_bytes-to_le_bytes_8}
use Rattle.argon_core.specs.declared.params.ArgonKind.{ArgonKind}
use Rattle.argon_core.specs.declared.params.ArgonKind.TheVariants.{D, Id}
use Rattle.key_core.specs.declared.kdf.Kdf.{Kdf}
use Rattle.key_core.specs.declared.kdf.Kdf.TheVariants.{Aes, Argon}
use Rattle.outside_core.specs.Results.{◌>>=◌, repeat_steps}
use Rattle.kdbx_parts.specs.declared.fail.FrameFail.{FrameFail}
use Rattle.kdbx_parts.specs.declared.fail.FrameFail.TheVariants.{Dictionary}
use Rattle.kdbx_parts.specs.Dictionary.{ItemsRead, KdfDescription, Keys, aes, aes_kdf, argon, counted_bytes, description_of, dictionary_of, item_at, item_refusal, item_step, length_fits, no_keys, with_item}
use Rattle.kdbx_writing.specs.Kdf.{argon_id, kdf_items, length_prefixed, spelled_item, spelled_kdf}
use Rattle.kdbx_writing.proofs.Readings.{folded, spelled_steps, split_again, then_ok}

-- Bytes after their length are read.
counted_again : (fail : FrameFail) (bytes rest : List ℕ) → length bytes < 2 ^ 32
    → counted_bytes fail (length_prefixed bytes ++ rest) ≡ Ok (bytes, rest)
counted_again fail bytes rest small =
    then_ok _ _ _ (split_again fail 4 (to_le_bytes w32 (length bytes)) (bytes ++ rest) refl)
    ∙ split_again fail (from_le_bytes w32 (to_le_bytes w32 (length bytes))) bytes rest (sym (from_le_bytes-to_le_bytes_4 (length bytes) small))

-- Items that can be written: a byte 0 ends them.
record IsItem (item : ℕ × List ℕ × List ℕ) : Type 0 where
  pub kind : (item.0 == 0) ≡ false
  pub fit : length_fits item.0 (length item.2) ≡ true
  pub key : length item.1 < 2 ^ 32
  pub value : length item.2 < 2 ^ 32

-- A written item is read.
item_again : (fail : FrameFail) (item : ℕ × List ℕ × List ℕ) (rest : List ℕ) → IsItem item
    → item_at fail (spelled_item item ++ rest) ≡ Ok (record { kind = item.0; key = item.1; value = item.2; rest = rest })
unfolding item_at
item_again fail item rest is =
    let key : List ℕ = length_prefixed item.1 in
    let value : List ℕ = length_prefixed item.2 in
    ap (λ (t : List ℕ). item_at fail (item.0 ∷ t)) (append_assoc key value rest)
    ∙ then_ok _ _ _ (split_again fail 1 (item.0 ∷ []) (key ++ (value ++ rest)) refl)
    ∙ then_ok _ _ _ (counted_again fail item.1 (value ++ rest) is.key)
    ∙ then_ok _ _ _ (counted_again fail item.2 rest is.value)
    ∙ rw is.fit refl

-- How far the reading has come.
abbrev at : Keys → List ℕ → ItemsRead
at keys rest = record { keys = keys; rest = rest }

-- What an item adds.
abbrev add_item : Keys → ℕ × List ℕ × List ℕ → Result Keys FrameFail
add_item keys item = Ok (with_item keys (record { kind = item.0; key = item.1; value = item.2; rest = [] }))

item_step_again : (whole : ℕ) (keys : Keys) (item : ℕ × List ℕ × List ℕ) (rest : List ℕ) → IsItem item
    → item_step whole (at keys (spelled_item item ++ rest)) ≡ (add_item keys item >>= λ q. Ok (false, at q rest))
unfolding item_step with_item
item_step_again whole keys item rest is =
    let read = at keys (spelled_item item ++ rest) in
    then_ok _ _ _ (split_again (item_refusal whole read) 1 (item.0 ∷ []) (length_prefixed item.1 ++ length_prefixed item.2 ++ rest) refl)
    ∙ rw is.kind (then_ok _ _ _ (item_again (item_refusal whole read) item rest is))

end_step_again : (whole : ℕ) (keys : Keys) (rest : List ℕ) → item_step whole (at keys (0 ∷ [] ++ rest)) ≡ Ok (true, at keys rest)
unfolding item_step
end_step_again whole keys rest = then_ok _ _ _ (split_again (item_refusal whole (at keys (0 ∷ [] ++ rest))) 1 (0 ∷ []) rest refl)

fewer_items : (items : List (ℕ × List ℕ × List ℕ)) → length items ≤ length (flat_map spelled_item items)
fewer_items [] = omega arith
fewer_items (i ∷ items) =
    omega (arith, fewer_items items, length-append (spelled_item i) (flat_map spelled_item items))

-- What a written dictionary describes.
abbrev pub described : Kdf → KdfDescription
described (Aes rounds seed) = aes rounds seed
described (Argon kind passes memory lanes salt) = argon kind passes memory lanes salt 0x13 false

-- The numbers of a key derivation fit their items.
abbrev pub Fits : Kdf → Type 0
Fits (Aes rounds seed) = (rounds < 2 ^ 64) × (length seed ≡ 32)
Fits (Argon kind passes memory lanes salt) = (passes < 2 ^ 64) × (memory < 2 ^ 64) × (lanes < 2 ^ 32) × (length salt < 2 ^ 32)

id_len : (kind : ArgonKind) → length (argon_id kind) ≡ 16
id_len D = refl
id_len Id = refl

items_fit : (kdf : Kdf) → Fits kdf → AllByRecursion IsItem (kdf_items kdf)
items_fit (Aes rounds seed) h = (
  record { kind = refl; fit = refl; key = omega arith; value = omega arith },
  (
    record { kind = refl; fit = refl; key = omega arith; value = omega arith },
    (record { kind = refl; fit = refl; key = omega arith; value = omega (arith, h.1) }, tt),
  ),
)
items_fit (Argon kind passes memory lanes salt) h = (
  record { kind = refl; fit = refl; key = omega arith; value = omega (arith, id_len kind) },
  (
    record { kind = refl; fit = refl; key = omega arith; value = omega (arith, h.3) },
    (
      record { kind = refl; fit = refl; key = omega arith; value = omega arith },
      (
        record { kind = refl; fit = refl; key = omega arith; value = omega arith },
        (
          record { kind = refl; fit = refl; key = omega arith; value = omega arith },
          (record { kind = refl; fit = refl; key = omega arith; value = omega arith }, tt),
        ),
      ),
    ),
  ),
)

-- The values of all items.
keys_of : Kdf → Keys
keys_of (Aes rounds seed) = record no_keys { uuid = Some aes_kdf; rounds = Some rounds; salt = Some seed }
keys_of (Argon kind passes memory lanes salt) =
    record no_keys { uuid = Some (argon_id kind); salt = Some salt; lanes = Some lanes; memory = Some memory; passes = Some passes; version = Some 0x13 }

all_added : (kdf : Kdf) → Fits kdf → folded add_item no_keys (kdf_items kdf) ≡ Ok (keys_of kdf)
unfolding folded with_item keys_of
all_added (Aes rounds seed) h =
    ap (λ (r : ℕ). Ok (record no_keys { uuid = Some aes_kdf; rounds = Some r; salt = Some seed })) (from_le_bytes-to_le_bytes_8 rounds h.0)
all_added (Argon kind passes memory lanes salt) h =
    let keys : ℕ → ℕ → ℕ → Result Keys FrameFail =
    λ l m p. Ok (record no_keys { uuid = Some (argon_id kind); salt = Some salt; lanes = Some l; memory = Some m; passes = Some p; version = Some 0x13 }) in
    let passes_as = from_le_bytes w64 (to_le_bytes w64 passes) in
    let memory_as = from_le_bytes w64 (to_le_bytes w64 memory) in
    ap (λ (l : ℕ). keys l memory_as passes_as) (from_le_bytes-to_le_bytes_4 lanes h.2)
    ∙ ap (λ (m : ℕ). keys lanes m passes_as) (from_le_bytes-to_le_bytes_8 memory h.1)
    ∙ ap (λ (p : ℕ). keys lanes memory p) (from_le_bytes-to_le_bytes_8 passes h.0)

all_complete : (fail : FrameFail) (kdf : Kdf) → Fits kdf → description_of fail (keys_of kdf) ≡ Ok (described kdf)
unfolding description_of keys_of
all_complete fail (Aes rounds seed) h = rw (eq-eqb (length seed) 32 h.1) refl
all_complete fail (Argon D passes memory lanes salt) h = refl
all_complete fail (Argon Id passes memory lanes salt) h = refl

-- A written dictionary is read.
pub dictionary_again : (kdf : Kdf) → Fits kdf → dictionary_of (spelled_kdf kdf) ≡ Ok (described kdf)
unfolding dictionary_of spelled_kdf
dictionary_again kdf h =
    let items = flat_map spelled_item (kdf_items kdf) ++ 0 ∷ [] in
    let whole = length (spelled_kdf kdf) in
    let enough : length (kdf_items kdf) < whole = omega (arith, fewer_items (kdf_items kdf), length-append (flat_map spelled_item (kdf_items kdf)) (0 ∷ [])) in
    let read : repeat_steps (item_step whole) (item_refusal whole) whole (at no_keys items) ≡ Ok (at (keys_of kdf) []) =
    spelled_steps (item_step whole) (item_refusal whole) at spelled_item add_item (0 ∷ []) IsItem (item_step_again whole) (end_step_again whole)
    whole (kdf_items kdf) no_keys [] (items_fit kdf h) enough
    ∙ then_ok _ _ _ (all_added kdf h) in
    then_ok _ _ _ (split_again (Dictionary 0) 2 (0 ∷ 1 ∷ []) items refl)
    ∙ then_ok _ _ _ read
    ∙ all_complete (Dictionary whole) kdf h
