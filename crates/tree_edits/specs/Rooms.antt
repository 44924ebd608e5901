-- Limits, and room that is used up piece by piece.
use Rattle.std.specs.Prelude.{◌≡◌, ◌⊎◌, ◌≤◌, ℕ, ℤ, Bool, true, ◌-◌, cond, List, length, drop, Option, None, Some, is_some, nat_le, negsuc, pos}
use Rattle.vault_model.specs.Shape.{BareVersion}
use Rattle.tree_core.specs.Histories.{versions_size}

-- the room that is left, where so much was there
abbrev pub room_left : ℕ → ℕ → Option ℕ
room_left room n = cond (nat_le n room) (Some (room - n)) None

-- the limit that a number is; a negative one is none
abbrev pub limit_of : ℤ → Option ℕ
limit_of (pos limit) = Some limit
limit_of (negsuc k) = None

-- a number is not above a limit, where there is one
abbrev pub is_under : ℕ → Option ℕ → Bool
is_under n None = true
is_under n (Some limit) = nat_le n limit

-- how much of a number is above a limit, where there is one
abbrev pub surplus_over : Option ℕ → ℕ → ℕ
surplus_over None n = 0
surplus_over (Some limit) n = n - limit

-- There is room for the versions from here on, and not for one more before them, unless that would
-- be too early.
pub record IsStart (least limit : ℕ) (versions : List BareVersion) (start : ℕ) : Type 0 where
  pub low : least ≤ start
  pub within : start ≤ length versions
  pub room : is_some (room_left limit (versions_size (drop start versions))) ≡ true
  pub most : (start ≡ least)
      ⊎ (room_left limit (versions_size (drop (start - 1) versions)) ≡ None)
