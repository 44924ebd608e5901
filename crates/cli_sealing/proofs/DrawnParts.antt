-- What is drawn for a file, as the next bytes of the dice.
use Rattle.std.proofs.Common.{◌≡◌, ◌≤◌, ◌-◌, ℕ, List, ◌++◌, Option, None, Some, option_map, length, take, drop, replicate, sym, ap, ◌∙◌, arith, append_assoc, take-append-drop}
use Rattle.std.proofs.lemmas.List.{drop-append-le, drop_all, length-append, length-take-le, take-append-le, take_all}
use Rattle.vault_model.specs.declared.forms.FileVersion.{FileVersion}
use Rattle.vault_model.specs.declared.forms.FileVersion.TheVariants.{V31, V40, V41}
use Rattle.kdbx_frame.specs.declared.settings.Cipher.{Cipher}
use Rattle.kdbx_frame.specs.declared.settings.Cipher.TheVariants.{Aes, ChaCha, Twofish}
use Rattle.kdbx_frame.specs.declared.settings.Settings.{Settings}
use Rattle.kdbx_frame.specs.Settings.{iv_len}
use Rattle.kdbx_seal.specs.KdbxWriting.declared.draws.Draws.{Draws}
use Rattle.kdbx_seal.specs.KdbxWriting.Draws.{AreDrawn, AreFront, drawn_bytes, start_len, stream_len}
use Rattle.cli_writing.specs.Drawing.{next_bytes}
use Rattle.cli_sealing.specs.Draws.{after_draws, after_iv, after_keys, after_stream, draws_of, front_of}

-- The first bytes of a part are the next ones.
front_is : (n size : ℕ) (bytes dice rest : List ℕ) → n ≤ size → AreFront n size bytes → dice ≡ take n bytes ++ rest
    → (bytes ≡ front_of n size dice) × (drop n dice ≡ rest)
unfolding next_bytes
front_is n size bytes dice rest le f e =
    let len = f.len in
    let m : length (take n bytes) ≡ n = length-take-le n bytes (omega (arith, len, le)) in
    let next : next_bytes n dice ≡ take n bytes =
    ap (λ (xs : List ℕ). take n (xs ++ replicate n 0)) e
    ∙ take-append-le n (take n bytes ++ rest) (replicate n 0) (omega (arith, m, length-append (take n bytes) rest))
    ∙ take-append-le n (take n bytes) rest (omega (arith, m)) ∙ take_all n (take n bytes) (omega (arith, m)) in (
      sym (ap (λ (xs : List ℕ). xs ++ replicate (size - n) 0) next ∙ ap (λ (xs : List ℕ). take n bytes ++ xs) (sym f.rest) ∙ take-append-drop n bytes),
      ap (λ (xs : List ℕ). drop n xs) e ∙ drop-append-le n (take n bytes) rest (omega (arith, m))
          ∙ ap (λ (xs : List ℕ). xs ++ rest) (drop_all n (take n bytes) (omega (arith, m))),
    )

-- A key of 32 bytes is drawn whole.
key_is : (bytes dice rest : List ℕ) → AreFront 32 32 bytes → dice ≡ bytes ++ rest → (bytes ≡ front_of 32 32 dice) × (drop 32 dice ≡ rest)
key_is bytes dice rest f e =
    let len = f.len in
    front_is 32 32 bytes dice rest (omega arith) f (e ∙ ap (λ (xs : List ℕ). xs ++ rest) (sym (take_all 32 bytes (omega (arith, len)))))

iv_fits : (c : Cipher) → iv_len c ≤ 16
iv_fits Aes = omega arith
iv_fits Twofish = omega arith
iv_fits ChaCha = omega arith

stream_fits : (v : FileVersion) → stream_len v ≤ 64
stream_fits V31 = omega arith
stream_fits V40 = omega arith
stream_fits V41 = omega arith

start_fits : (v : FileVersion) → start_len v ≤ 32
start_fits V31 = omega arith
start_fits V40 = omega arith
start_fits V41 = omega arith

abbrev parts : (kdf seed iv stream start : List ℕ) → Draws
parts kdf seed iv stream start = record { kdf = kdf; seed = seed; iv = iv; stream = stream; start = start }

same_parts : (d : Draws) (kdf seed iv stream start : List ℕ) → d.kdf ≡ kdf → d.seed ≡ seed → d.iv ≡ iv → d.stream ≡ stream → d.start ≡ start
    → d ≡ parts kdf seed iv stream start
same_parts d kdf seed iv stream start a b c e f =
    ap (λ (x : List ℕ). parts x d.seed d.iv d.stream d.start) a ∙ ap (λ (x : List ℕ). parts kdf x d.iv d.stream d.start) b
    ∙ ap (λ (x : List ℕ). parts kdf seed x d.stream d.start) c ∙ ap (λ (x : List ℕ). parts kdf seed iv x d.start) e
    ∙ ap (λ (x : List ℕ). parts kdf seed iv stream x) f

draws_are : (s : Settings) (d : Draws) (dice rest : List ℕ) → AreDrawn s d → dice ≡ drawn_bytes s d ++ rest
    → (d ≡ draws_of s dice) × (rest ≡ after_draws s dice)
draws_are s d dice rest a e =
    let i : List ℕ = take (iv_len s.cipher) d.iv in
    let t : List ℕ = take (stream_len s.version) d.stream in
    let b : List ℕ = take (start_len s.version) d.start in
    let whole : dice ≡ d.kdf ++ (d.seed ++ (i ++ (t ++ (b ++ rest)))) =
    e ∙ append_assoc (d.kdf ++ d.seed ++ i ++ t) b rest ∙ append_assoc (d.kdf ++ d.seed ++ i) t (b ++ rest)
    ∙ append_assoc (d.kdf ++ d.seed) i (t ++ (b ++ rest)) ∙ append_assoc d.kdf d.seed (i ++ (t ++ (b ++ rest))) in
    let kdf = key_is d.kdf dice (d.seed ++ (i ++ (t ++ (b ++ rest)))) a.kdf whole in
    let seed = key_is d.seed (drop 32 dice) (i ++ (t ++ (b ++ rest))) a.seed kdf.1 in
    let iv = front_is (iv_len s.cipher) 16 d.iv (after_keys dice) (t ++ (b ++ rest)) (iv_fits s.cipher) a.iv seed.1 in
    let stream = front_is (stream_len s.version) 64 d.stream (after_iv s dice) (b ++ rest) (stream_fits s.version) a.stream iv.1 in
    let start = front_is (start_len s.version) 32 d.start (after_stream s dice) rest (start_fits s.version) a.start stream.1 in
    (same_parts d _ _ _ _ _ kdf.0 seed.0 iv.0 stream.0 start.0, sym start.1)

-- What was drawn and what is left of dice that report it.
pub draws_left : (s : Settings) (d : Draws) (dice : List ℕ) (now : Option (List ℕ)) → AreDrawn s d
    → Some dice ≡ option_map (λ rest. drawn_bytes s d ++ rest) now → (d ≡ draws_of s dice) × (now ≡ Some (after_draws s dice))
draws_left s d dice None a e = cc
draws_left s d dice (Some rest) a e =
    let is : dice ≡ drawn_bytes s d ++ rest = cc in
    let r = draws_are s d dice rest a is in
    (r.0, ap Some r.1)
