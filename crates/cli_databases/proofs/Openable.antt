-- What opens databases: a line that was asked for, or a key file.
use Rattle.std.proofs.Common.{◌≡◌, ℕ, List, [], ◌∷◌, refl, inl, inr, sym, subst, Bool, true, false, map, Option}
use Rattle.std.specs.Prelude.{◌⊎◌, ◌&&◌, ◌||◌, not, IsSome, is_some}
use Rattle.cli_needs.specs.declared.command.Access.{Access}
use Rattle.cli_needs.specs.Needs.{HasKey, HasKeys, Needs, asks_password}
use Rattle.cli_lines.specs.Lines.{CanOpen, HasLines, Lines}
use Rattle.cli_databases.specs.Databases.{CanOpenAll}

can_open_by : (plain no_password : Bool) (key password : Option (List ℕ)) → (plain ≡ false → no_password ≡ true → IsSome key)
    → is_some password ≡ not (plain || no_password) → plain ≡ false → IsSome password ⊎ IsSome key
can_open_by true no_password key password h k e = cc
can_open_by false true key password h k e = inr (h refl refl)
can_open_by false false key password h k e = inl k

pub can_open : (access : Access) (password : Option (List ℕ)) → HasKey access → is_some password ≡ asks_password access → CanOpen access password
can_open access password h k = can_open_by access.plain access.no_password access.key_file password h k

-- The line that was asked for, or the key file, opens the database.
pub can_open_target : (needs : Needs) (lines : Lines) → HasKeys needs → HasLines needs lines → CanOpen needs.access lines.password
can_open_target needs lines h has = can_open needs.access lines.password h.target has.has_password

-- A source that has the password of the target is opened as that is.
can_open_same : (from access : Access) (target : Option (List ℕ)) (names : List (List ℕ)) (lines : List (Option (List ℕ)))
    → CanOpen from target → map is_some lines ≡ map (λ name. false) names → CanOpenAll from true target names lines
can_open_same from access target [] lines h m = tt
can_open_same from access target (name ∷ names) [] h m = cc
can_open_same from access target (name ∷ names) (line ∷ lines) h m = (h, can_open_same from access target names lines h (let rest : map is_some lines ≡ map (λ n. false) names = cc m in rest))

-- A source of its own line, or without one, has a key.
can_open_own : (from : Access) (target : Option (List ℕ)) (names : List (List ℕ)) (lines : List (Option (List ℕ))) → HasKey from
    → map is_some lines ≡ map (λ name. asks_password from) names → CanOpenAll from false target names lines
can_open_own from target [] lines h m = tt
can_open_own from target (name ∷ names) [] h m = cc
can_open_own from target (name ∷ names) (line ∷ lines) h m =
    let first : is_some line ≡ asks_password from = cc m in
    let rest : map is_some lines ≡ map (λ n. asks_password from) names = cc m in
    (can_open from line h first, can_open_own from target names lines h rest)

can_open_by_same : (same : Bool) (from access : Access) (target : Option (List ℕ)) (names : List (List ℕ)) (lines : List (Option (List ℕ)))
    → CanOpen access target → HasKey from → (same ≡ true → from ≡ access) → map is_some lines ≡ map (λ name. not same && asks_password from) names
    → CanOpenAll from same target names lines
can_open_by_same true from access target names lines h k s m =
    can_open_same from access target names lines (subst (λ (a : Access). CanOpen a target) (sym (s refl)) h) m
can_open_by_same false from access target names lines h k s m = can_open_own from target names lines k m

-- All sources can be opened.
pub can_open_sources : (needs : Needs) (lines : Lines) → HasKeys needs → HasLines needs lines
    → CanOpenAll needs.from needs.same lines.password needs.sources lines.sources
can_open_sources needs lines h has =
    can_open_by_same needs.same needs.from needs.access lines.password needs.sources lines.sources (can_open_target needs lines h has) h.sources h.same has.have_passwords
