-- Required fields whose bytes are lent, as the definitions see them.
use Rattle.std.proofs.Common.{◌≡◌, ℕ, Option, Some, None, Ok, option_map}
use Rattle.outside_core.specs.Results.{Fails, Meaning, exact, free, never}
use Rattle.kdbx_parts.specs.declared.fail.FrameFail.{FrameFail}
use Rattle.kdbx_parts.specs.Parts.{required}

-- A field that is there is there as it is seen.
pub required_seen : {A B : Type 0} (id : ℕ) (see : A → B) (field : Option A) (a : A)
    → required id field ≡ Ok a → required id (option_map see field) ≡ Ok (see a)
required_seen id see (Some x) a is = cc
required_seen id see None a is = cc

-- A field that is missing is missing as it is seen.
pub required_unseen : {A B : Type 0} (e : Meaning FrameFail) (id : ℕ) (see : A → B) (field : Option A)
    → Fails e (required id field) → Fails e (required id (option_map see field))
required_unseen (exact e) id see (Some x) h = cc
required_unseen (exact e) id see None h = cc
required_unseen free id see field h = tt
required_unseen never id see field h = h
