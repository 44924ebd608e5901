use Rattle.std.proofs.Common.{◌≡◌, List, [], ◌∷◌, map, refl, ap, ◌∙◌}
use Rattle.std.specs.declared.cmp.Ordering.{Ordering}
use Rattle.std.specs.Cmp.Lexicographic.{slice_cmp}
use Rattle.std.specs.Ordering.{is_ne, on, ordering_then}
use Rattle.vault_model.specs.Orders.{attachment_cmp}
use Rattle.vault_model.specs.Seen.{bare_attachment}
use Rattle.cli_showing.proofs.changes.are_attachments_changed.Goals as goal

slice_cmp_map : {A B : Type 0} (f : A → B) (R : B → B → Ordering) (xs ys : List A) → slice_cmp (on f R) xs ys ≡ slice_cmp R (map f xs) (map f ys)
slice_cmp_map f R [] [] = refl
slice_cmp_map f R [] (y ∷ ys) = refl
slice_cmp_map f R (x ∷ xs) [] = refl
slice_cmp_map f R (x ∷ xs) (y ∷ ys) = ap (ordering_then (R (f x) (f y))) (slice_cmp_map f R xs ys)

pub returns : goal.returns
returns c =
    c.is_ne.ensures
    ∙ ap is_ne (c.cmp.ensures ∙ slice_cmp_map bare_attachment attachment_cmp c.args.newer.now.attachments c.args.older.now.attachments)
