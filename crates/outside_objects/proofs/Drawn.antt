-- What is left of a stream from which bytes were drawn.
use Rattle.std.proofs.Common.{◌≡◌, ℕ, List, ◌++◌, Option, None, Some, option_map, drop, length, refl, sym, ap, ◌∙◌}
use Rattle.std.proofs.lemmas.List.{drop_at}
use Rattle.outside_core.specs.Streams.{LosesPrefix}

-- The bytes that were drawn are the prefix that is gone.
pub loses_drawn : (before now : Option (List ℕ)) (bytes : List ℕ) → before ≡ option_map (λ (rest : List ℕ). bytes ++ rest) now → LosesPrefix before now
loses_drawn before None bytes drawn = (length bytes, sym (ap (option_map (drop (length bytes))) drawn))
loses_drawn before (Some rest) bytes drawn =
    (length bytes, ap Some (sym (drop_at bytes rest (length bytes) refl)) ∙ sym (ap (option_map (drop (length bytes))) drawn))
