-- Files of which one is put under its name.
use Rattle.std.proofs.Common.{◌≡◌, ℕ, Bool, true, false, cond, List, Option, Some, None, refl, sym, ap, ◌∙◌}
use Rattle.std.specs.Prelude.{◌≢◌, IfSome}
use Rattle.std.specs.Cmp.{eq_by_cmp_equiv}
use Rattle.std.specs.FinMap.{get, get-insert, insert, same_map}
use Rattle.std.specs.Ordering.{eq_by_cmp, is_eq}
use Rattle.std.specs.declared.cmp.Ordering.{Ordering}
use Rattle.std.specs.declared.cmp.Ordering.TheVariants.{Less, Equal, Greater}
use Rattle.outside_core.specs.Files.{FileMap}
use Rattle.vault_model.specs.Orders.{bytes_cmp}
use Rattle.vault_model.proofs.Orders.{bytes_order}
use Rattle.cli_writing.specs.Writing.{NewFile}
use Rattle.session_core.specs.Sessions.{last_file}
use Rattle.session_laws.specs.Calls.{files_after}

-- The file that was put under a name.
pub put_here : (files : FileMap) (name bytes : List ℕ) → get (insert files name bytes) name ≡ Some bytes
put_here files name bytes =
    get-insert bytes_order.total files name bytes name
    ∙ ap (λ (b : Bool). cond b (Some bytes) (get files name)) ((eq_by_cmp_equiv bytes_order.total).refl name)

unequal : (r : Ordering) → (r ≡ Equal → ⊥) → is_eq r ≡ false
unequal Less h = refl
unequal Equal h = absurd (h refl)
unequal Greater h = refl

-- Another file is as it was.
pub put_elsewhere : (files : FileMap) (name bytes other : List ℕ) → other ≢ name → get (insert files name bytes) other ≡ get files other
put_elsewhere files name bytes other apart =
    get-insert bytes_order.total files name bytes other
    ∙ ap (λ (b : Bool). cond b (Some bytes) (get files other)) (unequal (bytes_cmp other name) (λ e. apart (bytes_order.same other name e)))

once : {A : Type 0} (b : Bool) (x y z : A) → cond b x (cond b y z) ≡ cond b x z
once true x y z = refl
once false x y z = refl

-- What is put under a name takes the place of what was there.
pub put_again : (files : FileMap) (name one other : List ℕ) → insert (insert files name one) name other ≡ insert files name other
put_again files name one other = same_map bytes_order.total bytes_order.same (insert (insert files name one) name other) (insert files name other) (λ q.
    get-insert bytes_order.total (insert files name one) name other q
    ∙ ap (cond (eq_by_cmp bytes_cmp q name) (Some other)) (get-insert bytes_order.total files name one q)
    ∙ once (eq_by_cmp bytes_cmp q name) (Some other) (Some one) (get files q)
    ∙ sym (get-insert bytes_order.total files name other q))

-- A file of this name, if there is one.
abbrev IsNamed : List ℕ → Option NewFile → Type 0
IsNamed name file = IfSome file (λ written. written.name ≡ name)

-- Of two files of one name the later one is left.
pub later_left : (files : FileMap) (name : List ℕ) (file next : Option NewFile) → IsNamed name file → IsNamed name next
    → files_after files (last_file file next) ≡ files_after (files_after files file) next
later_left files name file None a b = refl
later_left files name None (Some next) a b = refl
later_left files name (Some file) (Some next) a b =
    sym (ap (λ (n : List ℕ). insert (insert files n file.bytes) next.name next.bytes) (a ∙ sym b) ∙ put_again files next.name file.bytes next.bytes)

pub later_named : (name : List ℕ) (file next : Option NewFile) → IsNamed name file → IsNamed name next → IsNamed name (last_file file next)
later_named name file None a b = a
later_named name file (Some next) a b = b
