-- The attachments of an entry by their names, after one is put to them or taken away.
use Rattle.std.proofs.Common.{◌≡◌, Bool, true, false, cond, inl, inr, List, [], ◌∷◌, Option, None, Some, is_some, find, Result, Ok, Err, ℕ, refl, sym, ap, ◌∙◌}
use Rattle.std.proofs.lemmas.Option.{same_Some}
use Rattle.std.specs.Str.{bytes_eq}
use Rattle.vault_model.specs.Bare.{BareAttachment, BareContent}
use Rattle.vault_model.specs.Proper.{rises}
use Rattle.vault_model.proofs.Tests.{decide, none_of}
use Rattle.tree_core.specs.declared.fails.TreeFail.{TreeFail}
use Rattle.tree_core.specs.declared.fails.TreeFail.TheVariants.{NameTaken, NoAttachment}
use Rattle.tree_core.specs.Attachments.{attachment_of, but_attachment, has_attachment, is_attachable, with_attachment, without_attachment}
use Rattle.tree_core.proofs.Options.{never}
use Rattle.frame_laws.specs.Entries.{is_hidden_after, is_key}
use Rattle.frame_laws.proofs.Ordered.{but_item, but_others, but_own, item_of, made, one_test, other_key, put_others, put_own, same_key, skip, hit}

abbrev name_of : BareAttachment → List ℕ
name_of a = a.name

-- both ways to find one are the same
found_so : (name : List ℕ) (c : BareContent) → attachment_of name c ≡ item_of name_of name c.attachments
found_so name c = λ i. find (λ (a : BareAttachment). one_test name a.name i) c.attachments

-- what is found has the name
name_found : (name : List ℕ) (xs : List BareAttachment) (a : BareAttachment) → item_of name_of name xs ≡ Some a → a.name ≡ name
name_found name [] a is = never a is
name_found name (x ∷ xs) a is =
    elim (decide (is_key name x.name)) [
      | inl on ↦ ap name_of (same_Some a x (sym is ∙ hit name_of name x xs on)) ∙ sym (same_key name x.name on)
      | inr off ↦ name_found name xs a (sym (skip name_of name x xs off) ∙ is)
    ]

-- ---- one that is put to an entry

module _ (name bytes : List ℕ) where
  abbrev new : BareAttachment
  new = record { name = name; bytes = bytes; hidden = true }

  abbrev replaced : BareAttachment → BareAttachment
  replaced a = record a { bytes = bytes }

  made_is : (o : Option BareAttachment) → ((a : BareAttachment) → o ≡ Some a → a.name ≡ name)
      → made name_of new replaced (λ a. refl) o ≡ record { name = name; bytes = bytes; hidden = is_hidden_after o }
  made_is None h = refl
  made_is (Some a) h = ap (λ n. record { name = n; bytes = bytes; hidden = a.hidden }) (h a refl)

  pub attachment_now : (c : BareContent) → rises name_of c.attachments ≡ true
      → attachment_of name (with_attachment name bytes c) ≡ Some (record { name = name; bytes = bytes; hidden = is_hidden_after (attachment_of name c) })
  attachment_now c r =
      found_so name (with_attachment name bytes c) ∙ put_own name_of new replaced (λ a. refl) c.attachments r
      ∙ ap Some (made_is (item_of name_of name c.attachments) (name_found name c.attachments))
      ∙ ap (λ o. Some (record { name = name; bytes = bytes; hidden = is_hidden_after o })) (sym (found_so name c))

  pub attachment_others : (other : List ℕ) (c : BareContent) → bytes_eq other name ≡ false → attachment_of other (with_attachment name bytes c) ≡ attachment_of other c
  attachment_others other c off =
      found_so other (with_attachment name bytes c) ∙ put_others name_of new replaced (λ a. refl) other (other_key other name off) c.attachments ∙ sym (found_so other c)

-- an entry that may get one has none, but where that is to be replaced
pub attachable : (name : List ℕ) (replaces : Bool) (c : BareContent) (u : Unit {0}) → is_attachable name replaces c ≡ Ok u → replaces ≡ false → attachment_of name c ≡ None
attachable name true c u allowed e = cc e
attachable name false c u allowed e = none_of (attachment_of name c) (free (is_some (attachment_of name c)) allowed)
  where
    free : (b : Bool) → cond {A = Result (Unit {0}) TreeFail} b (Err NameTaken) (Ok tt) ≡ Ok u → b ≡ false
    free true e = cc e
    free false e = refl

-- ---- one that is taken away

module _ (name : List ℕ) where
  but_is : (xs : List BareAttachment) → but_attachment name xs ≡ but_item name_of name xs
  but_is [] = refl
  but_is (a ∷ xs) = ap (λ ys. cond (bytes_eq name a.name) xs (a ∷ ys)) (but_is xs)

  pub attachment_gone : (c : BareContent) → rises name_of c.attachments ≡ true → attachment_of name (without_attachment name c) ≡ None
  attachment_gone c r = found_so name (without_attachment name c) ∙ ap (item_of name_of name) (but_is c.attachments) ∙ but_own name_of name c.attachments r

  pub attachment_kept : (other : List ℕ) (c : BareContent) → bytes_eq other name ≡ false → attachment_of other (without_attachment name c) ≡ attachment_of other c
  attachment_kept other c off =
      found_so other (without_attachment name c) ∙ ap (item_of name_of other) (but_is c.attachments) ∙ but_others name_of other name c.attachments (other_key other name off) ∙ sym (found_so other c)

  pub detachable : (c : BareContent) (u : Unit {0}) → has_attachment name c ≡ Ok u → is_some (attachment_of name c) ≡ true
  detachable c u allowed = there (is_some (attachment_of name c)) allowed
    where
      there : (b : Bool) → cond {A = Result (Unit {0}) TreeFail} b (Ok tt) (Err NoAttachment) ≡ Ok u → b ≡ true
      there true e = refl
      there false e = cc e
