use Rattle.std.proofs.Common.{◌≡◌, List, ℕ, Bool, ◌++◌, subst, ap, sym, ◌∙◌}
use Rattle.std.specs.Prelude.{codes}
use Rattle.std.specs.Ordering.{is_ne}
use Rattle.std.specs.Result.{IfOk}
use Rattle.cli_showing.specs.History.{name_if}
use Rattle.cli_showing.specs.inside.Names.{put_names}
use Rattle.cli_showing.proofs.PutNames.{put_more}
use Rattle.cli_showing.proofs.changes.append_parts.Goals as goal

-- six pieces, one after another
six : (a b d e f g : List (List ℕ)) (s₀ s₁ s₂ s₃ s₄ s₅ : List ℕ × Bool)
    → s₁ ≡ put_names a s₀
    → s₂ ≡ put_names b s₁
    → s₃ ≡ put_names d s₂
    → s₄ ≡ put_names e s₃
    → s₅ ≡ put_names f s₄
    → put_names g s₅ ≡ put_names (((((a ++ b) ++ d) ++ e) ++ f) ++ g) s₀
six a b d e f g s₀ s₁ s₂ s₃ s₄ s₅ e₁ e₂ e₃ e₄ e₅ =
    let two : s₂ ≡ put_names (a ++ b) s₀ = e₂ ∙ ap (put_names b) e₁ ∙ sym (put_more a b s₀) in
    let three : s₃ ≡ put_names ((a ++ b) ++ d) s₀ = e₃ ∙ ap (put_names d) two ∙ sym (put_more (a ++ b) d s₀) in
    let four : s₄ ≡ put_names (((a ++ b) ++ d) ++ e) s₀ = e₄ ∙ ap (put_names e) three ∙ sym (put_more ((a ++ b) ++ d) e s₀) in
    let five : s₅ ≡ put_names ((((a ++ b) ++ d) ++ e) ++ f) s₀ = e₅ ∙ ap (put_names f) four ∙ sym (put_more (((a ++ b) ++ d) ++ e) f s₀) in
    ap (put_names g) five ∙ sym (put_more ((((a ++ b) ++ d) ++ e) ++ f) g s₀)

pub returns : goal.returns
returns c =
    let start : List ℕ × Bool = (c.args.text.now.bytes, c.args.some) in
    let tags = c.is_ne-tags.ensures ∙ ap is_ne c.cmp.ensures in
    let told =
    six (name_if c.is_icon_changed.result (codes "icon")) (name_if c.is_ne-tags.result (codes "tags"))
    (name_if c.is_expiry_changed.result (codes "expiry")) (name_if c.are_attachments_changed-attachments.result (codes "attachments"))
    (name_if c.are_colours_changed.result (codes "colours")) (name_if c.is_other_changed.result (codes "other"))
    start (c.append_if.new.text.bytes, c.in_ok-icon.icon) (c.append_if-2.new.text.bytes, c.in_ok-tagged.tagged)
    (c.append_if-3.new.text.bytes, c.in_ok-expiry.expiry) (c.append_if-4.new.text.bytes, c.in_ok-attached.attached)
    (c.append_if-5.new.text.bytes, c.in_ok-colours.colours) c.in_ok-icon.ensures c.in_ok-tagged.ensures c.in_ok-expiry.ensures
    c.in_ok-attached.ensures c.in_ok-colours.ensures
    ∙ (λ i.
    put_names
    (((((name_if (c.is_icon_changed.ensures i) (codes "icon") ++ name_if (tags i) (codes "tags"))
    ++ name_if (c.is_expiry_changed.ensures i) (codes "expiry"))
    ++ name_if (c.are_attachments_changed-attachments.ensures i) (codes "attachments"))
    ++ name_if (c.are_colours_changed.ensures i) (codes "colours"))
    ++ name_if (c.is_other_changed.ensures i) (codes "other"))
    start) in
    subst (λ (s : List ℕ × Bool). IfOk c.append_if-6.result (λ more. ◌≡◌ {A = List ℕ × Bool} (c.append_if-6.new.text.bytes, more) s)) told
    c.append_if-6.ensures
