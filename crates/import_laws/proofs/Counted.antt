-- A text after its length is found again in what begins with it.
use Rattle.std.proofs.Common.{◌≡◌, ◌<◌, ◌+◌, ◌^◌, ℕ, List, [], ◌∷◌, ◌++◌, length, append_assoc, refl, sym, ap, subst, ◌∙◌, arith}
use Rattle.std.specs.Prelude.{codes}
use Rattle.std.specs.Fmt.{decimal}
use Rattle.std.specs.Char.{digit_value}
use Rattle.std.specs.Str.Parse.{AllDigits, digits_value}
use Rattle.std.proofs.lemmas.Fmt.{decimal_is_IsNumeral}
use Rattle.import_ids.specs.Names.{EntryTexts, count_of, counted, name_after}
use Rattle.import_laws.specs.Names.{NamesTellApart}

no_colon : (c : ℕ) → digit_value c < 10 → 58 ≡ c → ⊥
no_colon c digit same =
    let moved : digit_value 58 < 10 = subst (λ x. digit_value x < 10) (sym same) digit in
    absurd (omega (arith, moved))

-- digits before a colon are all up to the colon
up_to_colon : (xs ys u v : List ℕ) → AllDigits 10 xs → AllDigits 10 ys → xs ++ 58 ∷ u ≡ ys ++ 58 ∷ v → (xs ≡ ys) × (u ≡ v)
up_to_colon [] [] u v dx dy e = (refl, cc e)
up_to_colon [] (y ∷ ys) u v dx dy e = absurd (no_colon y dy.0 (cc e))
up_to_colon (x ∷ xs) [] u v dx dy e = absurd (no_colon x dx.0 (cc e))
up_to_colon (x ∷ xs) (y ∷ ys) u v dx dy e =
    let first : x ≡ y = cc e in
    let rest = up_to_colon xs ys u v dx.1 dy.1 (cc e) in
    (λ i. first i ∷ rest.0 i, rest.1)

-- parts of one length are the same
same_parts : (xs ys u v : List ℕ) → length xs ≡ length ys → xs ++ u ≡ ys ++ v → (xs ≡ ys) × (u ≡ v)
same_parts [] [] u v many e = (refl, e)
same_parts [] (y ∷ ys) u v many e = absurd (omega (arith, many))
same_parts (x ∷ xs) [] u v many e = absurd (omega (arith, many))
same_parts (x ∷ xs) (y ∷ ys) u v many e =
    let first : x ≡ y = cc e in
    let rest = same_parts xs ys u v (omega (arith, many)) (cc e) in
    (λ i. first i ∷ rest.0 i, rest.1)

colon_apart : (digits text more : List ℕ) → ((digits ++ codes ":") ++ text) ++ more ≡ digits ++ 58 ∷ (text ++ more)
colon_apart digits text more =
    ap (λ l. l ++ more) (append_assoc digits (codes ":") text) ∙ append_assoc digits (58 ∷ text) more

counted_apart : (a b u v : List ℕ) → length a < 2 ^ 64 → length b < 2 ^ 64 → counted a ++ u ≡ counted b ++ v → (a ≡ b) × (u ≡ v)
counted_apart a b u v short too e =
    let da = decimal_is_IsNumeral (length a) short in
    let db = decimal_is_IsNumeral (length b) too in
    let split = up_to_colon (decimal (length a)) (decimal (length b)) (a ++ u) (b ++ v) da.0.1 db.0.1
    (sym (colon_apart (decimal (length a)) a u) ∙ e ∙ colon_apart (decimal (length b)) b v) in
    same_parts a b u v (sym da.1 ∙ ap (digits_value 10) split.0 ∙ db.1) split.1

abbrev number_of : List EntryTexts → EntryTexts → List ℕ
number_of before t = decimal (count_of t before + 1)

parts : (before : List EntryTexts) (t : EntryTexts) → name_after before t ≡ counted t.path ++ (counted t.title ++ (counted t.user ++ (counted t.url ++ number_of before t)))
parts before t =
    append_assoc (counted t.path ++ counted t.title ++ counted t.user) (counted t.url) (number_of before t)
    ∙ append_assoc (counted t.path ++ counted t.title) (counted t.user) (counted t.url ++ number_of before t)
    ∙ append_assoc (counted t.path) (counted t.title) (counted t.user ++ (counted t.url ++ number_of before t))

pub names_tell_apart : NamesTellApart
names_tell_apart before after one other short too e =
    let whole = sym (parts before one) ∙ e ∙ parts after other in
    let path = counted_apart one.path other.path _ _ short.path too.path whole in
    let title = counted_apart one.title other.title _ _ short.title too.title path.1 in
    let user = counted_apart one.user other.user _ _ short.user too.user title.1 in
    let url = counted_apart one.url other.url _ _ short.url too.url user.1 in
    λ i. record { path = path.0 i; title = title.0 i; user = user.0 i; url = url.0 i }
