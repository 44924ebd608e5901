-- A thing put into a list that rises by keys, and what is seen of it.
use Rattle.std.proofs.Common.{◌≡◌, ℕ, List, [], ◌∷◌, ◌++◌, map, refl, ap, sym, ◌∙◌, Result, Ok, Err}
use Rattle.std.specs.declared.cmp.Ordering.{Ordering}
use Rattle.std.specs.declared.cmp.Ordering.TheVariants.{Less, Equal, Greater}
use Rattle.vault_model.specs.Orders.{bytes_cmp}
use Rattle.vault_model.specs.Bare.{BareField}
use Rattle.vault_model.specs.Seen.{bare_content, bare_field}
use Rattle.vault_model.specs.declared.contents.Field.{Field}
use Rattle.doc_forms.specs.declared.drafts.AttachmentDraft.{AttachmentDraft}
use Rattle.doc_forms.specs.declared.fails.DocFail.{DocFail}
use Rattle.doc_forms.specs.Entries.{ReadAttachment, with_field, with_attachment}
use Rattle.doc_forms.specs.Refusals.{Returns}
use Rattle.doc_forms.specs.SeenDrafts.{attachment_seen}
use Rattle.doc_forms.specs.Tables.{put_beside, put}
use Rattle.doc_walk.proofs.Pieces.{carried}
use Rattle.doc_entries.specs.declared.builders.EntryBuilder.{EntryBuilder}
use Rattle.doc_entries.specs.SeenBuilders.{entry_known}

-- what a call gives of which a value is defined, seen in another way
pub seen_after : {X A B : Type 0} (r : Result X DocFail) (defined given : A) (other seen : B) → (defined ≡ given → other ≡ seen)
    → Returns (λ _. given) r (Ok defined) → Returns (λ _. seen) r (Ok other)
seen_after (Ok x) defined given other seen same gives = ap Ok (same (cc gives))
seen_after {A = A} (Err e) defined given other seen same fails =
    carried e (let r : Result A DocFail = Ok defined in r) _ (λ (never : Ok defined ≡ Err e). cc) fails

placed_seen : {A B : Type 0} (seen : A → B) (o : Ordering) (x y : A) (ys after : List A) → map seen (put_beside o x y ys after) ≡ put_beside o (seen x) (seen y) (map seen ys) (map seen after)
placed_seen seen Less x y ys after = refl
placed_seen seen Equal x y ys after = refl
placed_seen seen Greater x y ys after = refl

-- what is seen of the list is what is seen of the thing, put into what is seen of the others
pub put_seen : {A B : Type 0} (seen : A → B) (key : B → List ℕ) (x : A) (xs : List A) → map seen (put (λ a. key (seen a)) x xs) ≡ put key (seen x) (map seen xs)
put_seen seen key x [] = refl
put_seen seen key x (y ∷ ys) =
    placed_seen seen (bytes_cmp (key (seen x)) (key (seen y))) x y ys (put (λ a. key (seen a)) x ys)
    ∙ ap (λ after. put_beside (bytes_cmp (key (seen x)) (key (seen y))) (seen x) (seen y) (map seen ys) after) (put_seen seen key x ys)

-- as many are seen where one more is put after them
pub one_more_seen : {A B : Type 0} (seen : A → B) (xs : List A) (x : A) → map seen (xs ++ x ∷ []) ≡ map seen xs ++ seen x ∷ []
one_more_seen seen [] x = refl
one_more_seen seen (y ∷ xs) x = ap (λ more. seen y ∷ more) (one_more_seen seen xs x)

-- an entry with one field more, seen
pub field_put : (p : EntryBuilder) (f : Field) (fields : List Field) → put (λ (g : Field). g.key) f p.fields ≡ fields
    → with_field (entry_known p) (bare_field f) ≡ entry_known (record p { fields = fields })
field_put p f fields e =
    ap (λ (l : List BareField). record (entry_known p) { content = record (bare_content p.content) { fields = l } })
    (sym (put_seen bare_field (λ (g : BareField). g.key) f p.fields) ∙ ap (map bare_field) e)

-- an entry with one attachment more, seen
pub attachment_put : (p : EntryBuilder) (a : AttachmentDraft) (attachments : List AttachmentDraft) → put (λ (g : AttachmentDraft). g.name) a p.attachments ≡ attachments
    → with_attachment (entry_known p) (attachment_seen a) ≡ entry_known (record p { attachments = attachments })
attachment_put p a attachments e =
    ap (λ (l : List ReadAttachment). record (entry_known p) { attachments = l })
    (sym (put_seen attachment_seen (λ (g : ReadAttachment). g.name) a p.attachments) ∙ ap (map attachment_seen) e)
