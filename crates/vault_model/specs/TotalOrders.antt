-- The orders of fields and attachments are total, as their comparisons owe.
use Rattle.std.specs.Prelude.{ℕ, Bool, List}
use Rattle.std.specs.Cmp.{IsTotalOrder, on_total, then_total, bool_cmp_total}
use Rattle.std.specs.Cmp.Lexicographic.{nat_list_cmp_total}
use Rattle.vault_model.specs.Orders.{attachment_cmp, field_cmp}

-- fields
pub field_cmp_total : IsTotalOrder field_cmp
unfolding field_cmp
field_cmp_total =
    on_total {J = List ℕ × (List ℕ × Bool)} (λ f. (f.key, (f.value, f.hidden)))
    (then_total (on_total (λ p. p.0) nat_list_cmp_total)
    (on_total (λ p. p.1) (then_total (on_total (λ p. p.0) nat_list_cmp_total)
    (on_total (λ p. p.1) bool_cmp_total))))

-- attachments
pub attachment_cmp_total : IsTotalOrder attachment_cmp
unfolding attachment_cmp
attachment_cmp_total =
    on_total {J = List ℕ × (List ℕ × Bool)} (λ a. (a.name, (a.bytes, a.hidden)))
    (then_total (on_total (λ p. p.0) nat_list_cmp_total)
    (on_total (λ p. p.1) (then_total (on_total (λ p. p.0) nat_list_cmp_total)
    (on_total (λ p. p.1) bool_cmp_total))))
