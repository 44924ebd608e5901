-- Dice that are cut into pieces of given lengths.
use Rattle.std.proofs.Common.{◌≡◌, ◌≤◌, ◌+◌, ◌-◌, ℕ, List, [], ◌∷◌, ◌++◌, length, drop, take, replicate, refl, sym, ap, ◌∙◌, arith, append_assoc, append-nil, length-append, length-drop, length-take-le, take-append-drop, take_all}
use Rattle.std.proofs.lemmas.List.{length-replicate, take-append-le}
use Rattle.std.specs.List.{concat}
use Rattle.kdbx_frame.specs.declared.settings.Settings.{Settings}
use Rattle.kdbx_frame.specs.declared.settings.Cipher.{Cipher}
use Rattle.kdbx_frame.specs.declared.settings.Cipher.TheVariants.{Aes, ChaCha, Twofish}
use Rattle.kdbx_frame.specs.Settings.{iv_len}
use Rattle.vault_model.specs.declared.forms.FileVersion.{FileVersion}
use Rattle.vault_model.specs.declared.forms.FileVersion.TheVariants.{V31, V40, V41}
use Rattle.kdbx_writing.specs.Draws.{start_len, stream_len}
use Rattle.cli_writing.specs.Drawing.{next_bytes}
use Rattle.cli_sealing.specs.Draws.{after_draws, front_of}
use Rattle.randomness_laws.specs.Pieces.{sealing_pieces}

pub concat_append : (xs ys : List (List ℕ)) → concat (xs ++ ys) ≡ concat xs ++ concat ys
concat_append [] ys = refl
concat_append (x ∷ xs) ys = ap (λ zs. x ++ zs) (concat_append xs ys) ∙ sym (append_assoc x (concat xs) (concat ys))

pub next_len : (n : ℕ) (dice : List ℕ) → length (next_bytes n dice) ≡ n
unfolding next_bytes
next_len n dice =
    let all = length-append dice (replicate n 0) in
    let more = length-replicate {A = ℕ} n 0 in
    length-take-le n (dice ++ replicate n 0) (omega (arith, all, more))

pub next_is : (n : ℕ) (dice : List ℕ) → n ≤ length dice → dice ≡ next_bytes n dice ++ drop n dice
unfolding next_bytes
next_is n dice most = sym (take-append-drop n dice) ∙ ap (λ xs. xs ++ drop n dice) (sym (take-append-le n dice (replicate n 0) most))

-- ---- pieces of these lengths

abbrev pub cut : List ℕ → List ℕ → List (List ℕ)
cut [] dice = []
cut (n ∷ ns) dice = next_bytes n dice ∷ cut ns (drop n dice)

abbrev pub after_cut : List ℕ → List ℕ → List ℕ
after_cut [] dice = dice
after_cut (n ∷ ns) dice = after_cut ns (drop n dice)

abbrev pub total : List ℕ → ℕ
total [] = 0
total (n ∷ ns) = n + total ns

pub cut_len : (ns dice : List ℕ) → length (concat (cut ns dice)) ≡ total ns
cut_len [] dice = refl
cut_len (n ∷ ns) dice =
    let here = next_len n dice in
    let rest = cut_len ns (drop n dice) in
    let both = length-append (next_bytes n dice) (concat (cut ns (drop n dice))) in
    omega (arith, here, rest, both)

pub cut_is : (ns dice : List ℕ) → total ns ≤ length dice → dice ≡ concat (cut ns dice) ++ after_cut ns dice
cut_is [] dice most = refl
cut_is (n ∷ ns) dice most =
    let less = length-drop n dice in
    next_is n dice (omega (arith, most)) ∙ ap (λ xs. next_bytes n dice ++ xs) (cut_is ns (drop n dice) (omega (arith, most, less)))
    ∙ sym (append_assoc (next_bytes n dice) (concat (cut ns (drop n dice))) (after_cut ns (drop n dice)))

-- ---- what a file draws

abbrev pub lens : Settings → List ℕ
lens s = 32 ∷ 32 ∷ iv_len s.cipher ∷ stream_len s.version ∷ start_len s.version ∷ []

whole : (dice : List ℕ) → front_of 32 32 dice ≡ next_bytes 32 dice
whole dice = append-nil (next_bytes 32 dice)

front : (n size : ℕ) (dice : List ℕ) → take n (front_of n size dice) ≡ next_bytes n dice
front n size dice =
    let len = next_len n dice in
    take-append-le n (next_bytes n dice) (replicate (size - n) 0) (omega (arith, len)) ∙ take_all n (next_bytes n dice) (omega (arith, len))

pub pieces_cut : (s : Settings) (dice : List ℕ) → sealing_pieces s dice ≡ cut (lens s) dice
pieces_cut s dice =
    let d2 = drop 32 (drop 32 dice) in
    let d3 = drop (iv_len s.cipher) d2 in
    let d4 = drop (stream_len s.version) d3 in
    λ i. whole dice i ∷ whole (drop 32 dice) i ∷ front (iv_len s.cipher) 16 d2 i ∷ front (stream_len s.version) 64 d3 i ∷ front (start_len s.version) 32 d4 i ∷ []

pub pieces_left : (s : Settings) (dice : List ℕ) → after_draws s dice ≡ after_cut (lens s) dice
pieces_left s dice = refl

iv_most : (c : Cipher) → iv_len c ≤ 16
iv_most Aes = omega arith
iv_most Twofish = omega arith
iv_most ChaCha = omega arith

stream_most : (v : FileVersion) → stream_len v + start_len v ≤ 64
stream_most V31 = omega arith
stream_most V40 = omega arith
stream_most V41 = omega arith

pub lens_most : (s : Settings) → total (lens s) ≤ 176
lens_most s = let iv = iv_most s.cipher in let stream = stream_most s.version in omega (arith, iv, stream)
