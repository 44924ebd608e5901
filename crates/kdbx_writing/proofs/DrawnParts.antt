-- Draws one after another.
use Rattle.std.proofs.Common.{◌≡◌, ℕ, ◌+◌, List, ◌++◌, Option, None, Some, option_map, length, take, drop, sym, ap, ◌∙◌, append_assoc, subst, arith}
use Rattle.std.proofs.lemmas.List.{take_all, drop-drop}
use Rattle.outside_core.specs.Streams.{LosesPrefix}
use Rattle.kdbx_frame.specs.declared.settings.Settings.{Settings}
use Rattle.kdbx_frame.specs.Settings.{iv_len}
use Rattle.kdbx_writing.specs.declared.draws.Draws.{Draws}
use Rattle.kdbx_writing.specs.Draws.{drawn_bytes, start_len, stream_len}

-- What is drawn of a stream.
abbrev pub Drawn : Option (List ℕ) → List ℕ → Option (List ℕ) → Type 0
Drawn before bytes now = before ≡ option_map (λ (rest : List ℕ). bytes ++ rest) now

pub draws_more : (old mid new : Option (List ℕ)) (a b : List ℕ) → Drawn old a mid → Drawn mid b new → Drawn old (a ++ b) new
draws_more old mid None a b h g = h ∙ ap (option_map (λ (rest : List ℕ). a ++ rest)) g
draws_more old mid (Some n) a b h g = h ∙ ap (option_map (λ (rest : List ℕ). a ++ rest)) g ∙ ap Some (sym (append_assoc a b n))

-- What is lost by one draw after another.
pub loses_both : (old mid new : Option (List ℕ)) → LosesPrefix old mid → LosesPrefix mid new → LosesPrefix old new
loses_both None mid new first second = (first.0 + second.0, second.1 ∙ ap (option_map (drop second.0)) first.1)
loses_both (Some stream) mid new first second =
    (first.0 + second.0, second.1 ∙ ap (option_map (drop second.0)) first.1 ∙ ap Some (drop-drop second.0 first.0 stream))

pub draws_all : (s : Settings) (d : Draws) (o0 o1 o2 o3 o4 o5 : Option (List ℕ)) (n3 n4 n5 : ℕ)
    → length d.kdf ≡ 32 → length d.seed ≡ 32 → n3 ≡ iv_len s.cipher → n4 ≡ stream_len s.version → n5 ≡ start_len s.version
    → Drawn o0 (take 32 d.kdf) o1 → Drawn o1 (take 32 d.seed) o2 → Drawn o2 (take n3 d.iv) o3 → Drawn o3 (take n4 d.stream) o4 → Drawn o4 (take n5 d.start) o5
    → Drawn o0 (drawn_bytes s d) o5
draws_all s d o0 o1 o2 o3 o4 o5 n3 n4 n5 kdf_len seed_len l3 l4 l5 d1 d2 d3 d4 d5 =
    let e1 : take 32 d.kdf ≡ d.kdf = take_all 32 d.kdf (omega (arith, kdf_len)) in
    let e2 : take 32 d.seed ≡ d.seed = take_all 32 d.seed (omega (arith, seed_len)) in
    let f1 = subst (λ (b : List ℕ). Drawn o0 b o1) e1 d1 in
    let f2 = subst (λ (b : List ℕ). Drawn o1 b o2) e2 d2 in
    let f3 = subst (λ (n : ℕ). Drawn o2 (take n d.iv) o3) l3 d3 in
    let f4 = subst (λ (n : ℕ). Drawn o3 (take n d.stream) o4) l4 d4 in
    let f5 = subst (λ (n : ℕ). Drawn o4 (take n d.start) o5) l5 d5 in
    draws_more o0 o4 o5 _ _ (draws_more o0 o3 o4 _ _ (draws_more o0 o2 o3 _ _ (draws_more o0 o1 o2 _ _ f1 f2) f3) f4) f5
