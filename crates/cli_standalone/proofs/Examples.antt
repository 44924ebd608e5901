-- Words of commands that need no database.
use Rattle.std.proofs.Common.{◌≡◌, refl, [], ◌∷◌, codes, Some, None}
use Rattle.cli_standalone.specs.declared.standalone.Standalone.TheVariants.{Password, SelfTest}
use Rattle.cli_standalone.specs.Standalone.{standalone_of}

-- A password of digits without the first two.
digits_left : standalone_of (codes "generate" ∷ codes "-n" ∷ codes "-L" ∷ codes "0012" ∷ codes "--exclude=10x" ∷ [])
    ≡ Some (Password (record { length = 12; alphabet = codes "23456789" }))
digits_left = refl

letters_and_digits : standalone_of (codes "generate" ∷ [])
    ≡ Some (Password (record { length = 32; alphabet = codes "abcdefghijklmnopqrstuvwxyzABCDEFGHIJKLMNOPQRSTUVWXYZ0123456789" }))
letters_and_digits = refl

nothing_left : standalone_of (codes "generate" ∷ codes "-n" ∷ codes "-x" ∷ codes "9876543210" ∷ []) ≡ None
nothing_left = refl

too_long : standalone_of (codes "generate" ∷ codes "-L" ∷ codes "4097" ∷ []) ≡ None
too_long = refl

-- A test by the number of its entries, with noughts before it or none.
tested : standalone_of (codes "selftest" ∷ codes "42" ∷ []) ≡ Some (SelfTest 42)
tested = refl

noughts : standalone_of (codes "selftest" ∷ codes "000007" ∷ []) ≡ Some (SelfTest 7)
noughts = refl

-- The largest of them, with `--` before it.
largest : standalone_of (codes "selftest" ∷ codes "--" ∷ codes "50000" ∷ []) ≡ Some (SelfTest 50000)
largest = refl

no_entry : standalone_of (codes "selftest" ∷ codes "0" ∷ []) ≡ None
no_entry = refl

too_many : standalone_of (codes "selftest" ∷ codes "50001" ∷ []) ≡ None
too_many = refl

seven_digits : standalone_of (codes "selftest" ∷ codes "0000042" ∷ []) ≡ None
seven_digits = refl

two_numbers : standalone_of (codes "selftest" ∷ codes "4" ∷ codes "2" ∷ []) ≡ None
two_numbers = refl

no_option : standalone_of (codes "selftest" ∷ codes "-q" ∷ codes "42" ∷ []) ≡ None
no_option = refl
