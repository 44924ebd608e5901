-- The last of what fields say, gathered from the first field on.
use Rattle.std.proofs.Common.{◌≡◌, ℕ, ◌+◌, ◌<◌, List, [], ◌∷◌, Option, Some, None, refl, ap, ◌∙◌, subst, length, drop, get_or}
use Rattle.std.specs.Borrow.{Bor}
use Rattle.std.proofs.lemmas.List.{drop_more}
use Rattle.std.specs.Option.{option_map, option_or}
use Rattle.psafe_core.specs.Records.{last_of, text_in}
use Rattle.psafe_file.specs.Fields.{SafeField}
use Rattle.psafe_file.specs.SeenFields.{field_seen, fields_seen}
use Rattle.psafe_file.specs.declared.fields.SafeField as memory

-- What the last of fields says, or else this.
abbrev pub last_after : {A : Type 0} → (SafeField → Option A) → List SafeField → Option A → Option A
last_after saying [] last = last
last_after saying (field ∷ fields) last = last_after saying fields (option_or (saying field) last)

or_none : {A : Type 0} (a : Option A) → option_or a None ≡ a
or_none None = refl
or_none (Some x) = refl

or_assoc : {A : Type 0} (a b c : Option A) → option_or a (option_or b c) ≡ option_or (option_or a b) c
or_assoc None b c = refl
or_assoc (Some x) b c = refl

last_or : {A : Type 0} (saying : SafeField → Option A) (fields : List SafeField) (last : Option A)
    → last_after saying fields last ≡ option_or (last_of saying fields) last
last_or saying [] last = refl
last_or saying (field ∷ fields) last =
    last_or saying fields (option_or (saying field) last) ∙ or_assoc (last_of saying fields) (saying field) last

pub last_is : {A : Type 0} (saying : SafeField → Option A) (fields : List SafeField) → last_after saying fields None ≡ last_of saying fields
last_is saying fields = last_or saying fields None ∙ or_none (last_of saying fields)

pub or_seen : {A B : Type 0} (f : A → B) (a b : Option A) → option_map f (option_or a b) ≡ option_or (option_map f a) (option_map f b)
or_seen f None b = refl
or_seen f (Some x) b = refl

-- A text more.
pub text_more : (kind : ℕ) (fields : List memory.SafeField) (i : ℕ) (d : memory.SafeField) (last said next : Option (Bor (List ℕ))) (total : Option (List ℕ))
    → i < length fields → next ≡ option_or said last → option_map (λ (t : Bor (List ℕ)). t.now) said ≡ text_in kind (field_seen (get_or fields i d))
    → last_after (text_in kind) (fields_seen (drop i fields)) (option_map (λ (t : Bor (List ℕ)). t.now) last) ≡ total
    → last_after (text_in kind) (fields_seen (drop (i + 1) fields)) (option_map (λ (t : Bor (List ℕ)). t.now) next) ≡ total
text_more kind fields i d last said next total within is says so_far =
    let seen : Option (Bor (List ℕ)) → Option (List ℕ) = option_map (λ (t : Bor (List ℕ)). t.now) in
    let here : last_after (text_in kind) (fields_seen (get_or fields i d ∷ drop (i + 1) fields)) (seen last) ≡ total =
    subst (λ (l : List memory.SafeField). last_after (text_in kind) (fields_seen l) (seen last) ≡ total) (drop_more fields i d within) so_far in
    ap (last_after (text_in kind) (fields_seen (drop (i + 1) fields)))
    (ap seen is ∙ or_seen (λ (t : Bor (List ℕ)). t.now) said last ∙ ap (λ (o : Option (List ℕ)). option_or o (seen last)) says) ∙ here
