-- Options.
use Rattle.std.proofs.Common.{◌≡◌, None, Some, true≢false, is_some, sym, ap}

-- nothing is never something
pub never : {A B : Type 0} (x : A) → None ≡ Some x → B
never x e = absurd (true≢false (sym (ap is_some e)))
