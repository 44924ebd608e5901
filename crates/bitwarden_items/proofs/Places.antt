-- A password put among rising ones.
use Rattle.std.proofs.Common.{◌≡◌, ℕ, ◌+◌, ◌<◌, ◌≤◌, List, [], ◌∷◌, ◌++◌, take, drop, length, get_or, sym, ap, subst, ◌∙◌, append_assoc, arith}
use Rattle.std.proofs.Math.ListN.{get_or-map}
use Rattle.std.proofs.lemmas.List.{drop-map, drop_all, drop_more, length-map, map-append, take-map, take-append-drop, take_all, take_more}
use Rattle.std.specs.List.{insert}
use Rattle.std.specs.declared.cmp.Ordering.{Ordering}
use Rattle.std.specs.declared.cmp.Ordering.TheVariants.{Equal, Greater, Less}
use Rattle.bitwarden_items.specs.Passwords.{EarlierPassword, earlier_cmp, put_beside, put_password}
use Rattle.bitwarden_items.specs.Seen.{password_seen, passwords_seen}
use Rattle.bitwarden_items.specs.declared.passwords.EarlierPassword as memory

-- what is put among the passwords is put among those from this place on
abbrev pub IsPutFrom : EarlierPassword → List memory.EarlierPassword → ℕ → Type 0
IsPutFrom p rising at = put_password p (passwords_seen rising) ≡ take at (passwords_seen rising) ++ put_password p (drop at (passwords_seen rising))

module _ (p : EarlierPassword) (rising : List memory.EarlierPassword) (at : ℕ) (so_far : IsPutFrom p rising at) where
  abbrev seen : List EarlierPassword
  seen = passwords_seen rising

  module _ (r : memory.EarlierPassword) (within : at < length rising) (is : r ≡ get_or rising at r) where
    abbrev after : List EarlierPassword
    after = drop (at + 1) seen

    inside : at < length seen
    inside = subst (λ n. at < n) (sym (length-map rising password_seen)) within

    here : get_or seen at (password_seen r) ≡ password_seen r
    here = get_or-map password_seen rising at r ∙ ap password_seen (sym is)

    rest : drop at seen ≡ password_seen r ∷ after
    rest = drop_more seen at (password_seen r) inside ∙ ap (λ q. q ∷ after) here

    opened : (o : Ordering) → earlier_cmp p (password_seen r) ≡ o → put_password p seen ≡ take at seen ++ put_beside o p (password_seen r) after (put_password p after)
    opened o e = so_far ∙ ap (λ l. take at seen ++ put_password p l) rest ∙ ap (λ c. take at seen ++ put_beside c p (password_seen r) after (put_password p after)) e

    pub comes_later : earlier_cmp p (password_seen r) ≡ Greater → IsPutFrom p rising (at + 1)
    comes_later e =
        opened Greater e
        ∙ sym (ap (λ l. l ++ put_password p after) (take_more seen at (password_seen r) inside ∙ ap (λ q. take at seen ++ q ∷ []) here)
        ∙ append_assoc (take at seen) (password_seen r ∷ []) (put_password p after))

    pub is_there : earlier_cmp p (password_seen r) ≡ Equal → put_password p seen ≡ seen
    is_there e = opened Equal e ∙ ap (λ l. take at seen ++ l) (sym rest) ∙ take-append-drop at seen

    pub comes_here : earlier_cmp p (password_seen r) ≡ Less → put_password p seen ≡ insert seen at p
    comes_here e = opened Less e ∙ ap (λ l. take at seen ++ p ∷ l) (sym rest)

  pub comes_last : length rising ≤ at → put_password p seen ≡ insert seen (length rising) p
  comes_last past =
      let many : length seen ≤ at = subst (λ n. n ≤ at) (sym (length-map rising password_seen)) past in
      let all : length seen ≤ length rising = subst (λ n. length seen ≤ n) (length-map rising password_seen) (let same : length seen ≤ length seen = omega arith in same) in
      so_far ∙ ap (λ l. take at seen ++ put_password p l) (drop_all at seen many) ∙ ap (λ l. l ++ p ∷ []) (take_all at seen many)
      ∙ sym (ap (λ l. l ++ p ∷ drop (length rising) seen) (take_all (length rising) seen all) ∙ ap (λ l. seen ++ p ∷ l) (drop_all (length rising) seen all))

-- passwords with one inserted
pub seen_inserted : (xs : List memory.EarlierPassword) (at : ℕ) (x : memory.EarlierPassword) → passwords_seen (insert xs at x) ≡ insert (passwords_seen xs) at (password_seen x)
seen_inserted xs at x =
    map-append password_seen (take at xs) (x ∷ drop at xs)
    ∙ ap (λ ps. ps ++ password_seen x ∷ passwords_seen (drop at xs)) (sym (take-map password_seen at xs))
    ∙ ap (λ ps. take at (passwords_seen xs) ++ password_seen x ∷ ps) (sym (drop-map password_seen at xs))
