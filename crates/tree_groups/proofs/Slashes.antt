-- Paths without slashes around them.
use Rattle.std.proofs.Common.{◌≡◌, ◌≢◌, ◌<◌, ◌+◌, ◌-◌, ◌==◌, ℕ, true, cond, List, [], ◌∷◌, ◌++◌, length, length-append, take, get_or, nat_lt, MatchOption, Option, None, Some, refl, sym, ap, ◌∙◌, arith}
use Rattle.std.proofs.Math.Seq.{get_or-append_seam}
use Rattle.std.proofs.lemmas.Bool.{eq-eqb, eqb-true, lt-ltb, ltb-true}
use Rattle.std.specs.Borrow.{Bor}
use Rattle.std.specs.Io.BufRead.{ends_with_byte, strip_last}
use Rattle.std.specs.Option.{unwrap_or}
use Rattle.std.specs.Str.Pattern.{FindsTextPrefix, FindsTextSuffix, StripsPrefix, StripsSuffix}
use Rattle.vault_model.proofs.Tests.{and_both, and_true, is_false}
use Rattle.tree_core.specs.Finding.{without_front}
use Rattle.tree_steps.proofs.Texts.{last_cut}

abbrev slash : List ℕ
slash = 47 ∷ []

-- ---- at the start

no_front : (s : List ℕ) → ((rest : List ℕ) → s ≢ 47 ∷ rest) → s ≡ without_front s
no_front [] off = refl
no_front (b ∷ bs) off = sym (ap (λ c. cond c bs (b ∷ bs)) (is_false (b == 47) (λ e. off bs (ap (λ x. x ∷ bs) (eqb-true b 47 e)))))

pub front_stripped : (o : Option (Bor (List ℕ))) (p : Bor (List ℕ)) → MatchOption o (FindsTextPrefix slash p.now None) (λ x. StripsPrefix (FindsTextPrefix slash) p.now x.now)
    → (unwrap_or o p).now ≡ without_front p.now
front_stripped None p h = no_front p.now h
front_stripped (Some x) p h = h.2 ∙ sym (ap without_front h.1.1)

-- ---- at the end

ends : (ys : List ℕ) → ends_with_byte 47 (ys ++ slash) ≡ true
ends ys = last (ys ++ slash) (length ys) (length-append ys slash ∙ refl) (get_or-append_seam ys 47 [] 0)
  where
    last : (s : List ℕ) (n : ℕ) → length s ≡ n + 1 → get_or s n 0 ≡ 47 → ends_with_byte 47 s ≡ true
    last s n long is =
        let at : n ≡ length s - 1 = omega (arith, long) in
        let some : 0 < length s = omega (arith, long) in
        and_both (nat_lt 0 (length s)) (get_or s (length s - 1) 0 == 47) (lt-ltb 0 (length s) some) (eq-eqb (get_or s (length s - 1) 0) 47 (ap (λ k. get_or s k 0) (sym at) ∙ is))

no_end : (s : List ℕ) → ((front : List ℕ) → s ≢ front ++ slash) → s ≡ strip_last 47 s
no_end s off =
    sym (ap (λ c. cond c (take (length s - 1) s) s) (is_false (ends_with_byte 47 s) (λ e.
    let both = and_true (nat_lt 0 (length s)) (get_or s (length s - 1) 0 == 47) e in
    off (take (length s - 1) s) (last_cut s (ltb-true 0 (length s) both.0) ∙ ap (λ b. take (length s - 1) s ++ b ∷ []) (eqb-true (get_or s (length s - 1) 0) 47 both.1)))))

pub end_stripped : (o : Option (Bor (List ℕ))) (p : Bor (List ℕ)) → MatchOption o (FindsTextSuffix slash p.now None) (λ x. StripsSuffix (FindsTextSuffix slash) p.now x.now)
    → (unwrap_or o p).now ≡ strip_last 47 p.now
end_stripped None p h = no_end p.now h
end_stripped (Some x) p h =
    h.2
    ∙ ap (λ n. take (length p.now - n) p.now) h.1.0
    ∙ sym (ap (λ c. cond c (take (length p.now - 1) p.now) p.now) (ap (ends_with_byte 47) h.1.1 ∙ ends (take (length p.now - h.0) p.now)))
