-- A version is among those of an entry where one of them is the same.
use Rattle.std.proofs.Common.{◌≡◌, Bool, true, false, cond, ◌||◌, List, [], ◌∷◌, Option, Some, None, is_some, map, refl, sym, ap, ◌∙◌}
use Rattle.std.specs.FinMap.{contains_key, empty, get, get-empty, get-insert, insert}
use Rattle.std.specs.List.{list_any}
use Rattle.vault_model.specs.declared.contents.Stats.{Stats}
use Rattle.vault_model.specs.Db.{Mark, mark_cmp}
use Rattle.vault_model.specs.Join.{stats_join}
use Rattle.vault_model.specs.Shape.{BareVersion, EntryRecord}
use Rattle.vault_model.specs.Unite.{join_options, unite_all}
use Rattle.vault_model.proofs.Orders.{mark_order}
use Rattle.merge_core.proofs.Unite.{get-unite}
use Rattle.merge_details.specs.Conflicts.{has_version, same_mark}

some_of_two : (a b : Option Stats) → is_some (join_options stats_join a b) ≡ (is_some a || is_some b)
some_of_two None b = refl
some_of_two (Some x) None = refl
some_of_two (Some x) (Some y) = refl

some_if : (b : Bool) (x : Stats) → is_some (cond b (Some x) None) ≡ b
some_if true x = refl
some_if false x = refl

at_one : (v : BareVersion) (mark : Mark) → is_some (get (insert (empty {X = Stats} {R = mark_cmp}) v.mark v.stats) mark) ≡ same_mark mark v.mark
at_one v mark =
    ap is_some (get-insert mark_order.total empty v.mark v.stats mark ∙ ap (cond (same_mark mark v.mark) (Some v.stats)) (get-empty mark_cmp mark))
    ∙ some_if (same_mark mark v.mark) v.stats

among : (vs : List BareVersion) (mark : Mark)
    → contains_key (unite_all stats_join (map (λ (v : BareVersion). insert (empty {X = Stats} {R = mark_cmp}) v.mark v.stats) vs)) mark
    ≡ list_any (λ v. same_mark mark v.mark) vs
among [] mark = ap is_some (get-empty mark_cmp mark)
among (v ∷ vs) mark =
    let rest = unite_all stats_join (map (λ (w : BareVersion). insert (empty {X = Stats} {R = mark_cmp}) w.mark w.stats) vs) in
    ap is_some (get-unite mark_order.total mark_order.same stats_join (insert empty v.mark v.stats) rest mark)
    ∙ some_of_two (get (insert empty v.mark v.stats) mark) (get rest mark)
    ∙ (λ i. at_one v mark i || among vs mark i)

pub version_among : (e : EntryRecord) (mark : Mark) → has_version e mark ≡ (same_mark mark e.current.mark || list_any (λ (v : BareVersion). same_mark mark v.mark) e.history)
version_among e mark = among (e.current ∷ e.history) mark

-- it is the current one
pub version_current : (e : EntryRecord) (mark : Mark) (found : Bool) → found ≡ same_mark mark e.current.mark → found ≡ true → found ≡ has_version e mark
version_current e mark found is so =
    so ∙ sym (version_among e mark ∙ ap (λ b. b || list_any (λ (v : BareVersion). same_mark mark v.mark) e.history) (sym is ∙ so))

-- it is not the current one
pub version_older : (e : EntryRecord) (mark : Mark) (found any : Bool) → found ≡ same_mark mark e.current.mark → found ≡ false
    → any ≡ list_any (λ (v : BareVersion). same_mark mark v.mark) e.history → any ≡ has_version e mark
version_older e mark found any is so rest =
    rest ∙ sym (version_among e mark ∙ ap (λ b. b || list_any (λ (v : BareVersion). same_mark mark v.mark) e.history) (sym is ∙ so))
