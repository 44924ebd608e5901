-- Dice that choose a password, so that the law speaks of something.
use Rattle.std.specs.Prelude.{codes, replicate}
use Rattle.generation_laws.specs.Conditions.{CanChoose}

-- 256 bytes of 0, for two letters.
abbrev pub ExampleDice : Type 0
ExampleDice = CanChoose (codes "abcdefghijklmnopqrstuvwxyz") 2 (replicate 256 0)
