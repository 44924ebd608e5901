-- A history names nothing of two versions exactly where they say the same.
use Rattle.std.proofs.Common.{◌≡◌, ℕ, Bool, true, false, not, ◌||◌, ◌==◌, List, [], ◌∷◌, ◌++◌, codes, refl, ap, ap₂, ◌∙◌, eq-eqb, eqb-true}
use Rattle.std.specs.Cmp.{tied_itself}
use Rattle.std.specs.Cmp.Lexicographic.{slice_cmp}
use Rattle.std.specs.Option.{option_cmp}
use Rattle.std.specs.Ordering.{bool_cmp, is_ne, match_ordering}
use Rattle.std.specs.declared.cmp.Ordering.{Ordering}
use Rattle.std.specs.declared.cmp.Ordering.TheVariants.{Less, Equal, Greater}
use Rattle.vault_model.specs.Bare.{BareContent, BareField}
use Rattle.vault_model.specs.Orders.{auto_type_cmp, bytes_cmp, field_cmp, item_cmp}
use Rattle.vault_model.proofs.Orders.{IsOrder, attachment_order, auto_type_order, bool_order, bytes_order, field_order, item_order, lists_order, options_order}
use Rattle.cli_showing.specs.History.{all_changed, are_attachments_changed, are_colours_changed, is_expiry_changed, is_icon_changed, is_other_changed, name_if, names_changed, parts_changed}

-- ---- nothing of two lists, of a test, and of an order

front_none : (xs ys : List (List ℕ)) → xs ++ ys ≡ [] → xs ≡ []
front_none [] ys h = refl
front_none (x ∷ xs) ys h = cc h

back_none : (xs ys : List (List ℕ)) → xs ++ ys ≡ [] → ys ≡ []
back_none [] ys h = h
back_none (x ∷ xs) ys h = cc h

unnamed : (b : Bool) (name : List ℕ) → name_if b name ≡ [] → b ≡ false
unnamed true name h = cc h
unnamed false name h = refl

or_front : (a b : Bool) → (a || b) ≡ false → a ≡ false
or_front true b h = h
or_front false b h = refl

or_back : (a b : Bool) → (a || b) ≡ false → b ≡ false
or_back true b h = cc h
or_back false b h = h

unequal : (b : Bool) → not b ≡ false → b ≡ true
unequal true h = refl
unequal false h = cc h

same_number : (a b : ℕ) → not (a == b) ≡ false → a ≡ b
same_number a b h = eqb-true a b (unequal (a == b) h)

tied : (o : Ordering) → is_ne o ≡ false → o ≡ Equal
tied Less h = cc h
tied Equal h = refl
tied Greater h = cc h

same_value : {A : Type 0} {R : A → A → Ordering} (order : IsOrder R) (a b : A) → is_ne (R a b) ≡ false → a ≡ b
same_value {R = R} order a b h = order.same a b (tied (R a b) h)

-- ---- versions of which nothing is named

first_same : (f g : BareField) (a b c : List (List ℕ)) (x y : List ℕ) (o : Ordering)
    → match_ordering o (x ∷ a) (name_if (is_ne (field_cmp f g)) f.key ++ b) (y ∷ c) ≡ [] → (f ≡ g) × (b ≡ [])
first_same f g a b c x y Less h = cc h
first_same f g a b c x y Equal h = (
  same_value field_order f g (unnamed (is_ne (field_cmp f g)) f.key (front_none (name_if (is_ne (field_cmp f g)) f.key) b h)),
  back_none (name_if (is_ne (field_cmp f g)) f.key) b h,
)
first_same f g a b c x y Greater h = cc h

same_fields : (newer older : List BareField) → names_changed newer older ≡ [] → newer ≡ older
same_fields [] [] h = refl
same_fields [] (g ∷ gs) h = cc h
same_fields (f ∷ fs) [] h = cc h
same_fields (f ∷ fs) (g ∷ gs) h =
    let both =
    first_same f g (names_changed fs (g ∷ gs)) (names_changed fs gs) (names_changed (f ∷ fs) gs) f.key g.key (bytes_cmp f.key g.key) h in
    ap₂ (λ (x : BareField) (xs : List BareField). x ∷ xs) both.0 (same_fields fs gs both.1)

-- What is not named of the parts.
record Unchanged (newer older : BareContent) : Type 0 where
  icon : is_icon_changed newer older ≡ false
  tags : is_ne (bytes_cmp newer.tags older.tags) ≡ false
  expiry : is_expiry_changed newer older ≡ false
  attachments : are_attachments_changed newer older ≡ false
  colours : are_colours_changed newer older ≡ false
  other : is_other_changed newer older ≡ false

six_unnamed : (a b c d e f : Bool) (u v w x y z : List ℕ)
    → ((((name_if a u ++ name_if b v) ++ name_if c w) ++ name_if d x) ++ name_if e y) ++ name_if f z ≡ []
    → (a ≡ false) × (b ≡ false) × (c ≡ false) × (d ≡ false) × (e ≡ false) × (f ≡ false)
six_unnamed a b c d e f u v w x y z h =
    let two = name_if a u ++ name_if b v in
    let three = two ++ name_if c w in
    let four = three ++ name_if d x in
    let five = four ++ name_if e y in
    let h₅ = front_none five (name_if f z) h in
    let h₄ = front_none four (name_if e y) h₅ in
    let h₃ = front_none three (name_if d x) h₄ in
    let h₂ = front_none two (name_if c w) h₃ in (
      unnamed a u (front_none (name_if a u) (name_if b v) h₂),
      unnamed b v (back_none (name_if a u) (name_if b v) h₂),
      unnamed c w (back_none two (name_if c w) h₃),
      unnamed d x (back_none three (name_if d x) h₄),
      unnamed e y (back_none four (name_if e y) h₅),
      unnamed f z (back_none five (name_if f z) h),
    )

unchanged : (newer older : BareContent) → parts_changed newer older ≡ [] → Unchanged newer older
unchanged newer older h =
    let parts =
    six_unnamed (is_icon_changed newer older) (is_ne (bytes_cmp newer.tags older.tags)) (is_expiry_changed newer older)
    (are_attachments_changed newer older) (are_colours_changed newer older) (is_other_changed newer older) (codes "icon") (codes "tags")
    (codes "expiry") (codes "attachments") (codes "colours") (codes "other") h in
    record {
      icon = parts.0;
      tags = parts.1;
      expiry = parts.2;
      attachments = parts.3;
      colours = parts.4;
      other = parts.5;
    }

-- Five tests of which none holds.
none_of_five : (a b c d e : Bool) → ((((a || b) || c) || d) || e) ≡ false
    → (a ≡ false) × (b ≡ false) × (c ≡ false) × (d ≡ false) × (e ≡ false)
none_of_five a b c d e h =
    let h₄ = or_front (((a || b) || c) || d) e h in
    let h₃ = or_front ((a || b) || c) d h₄ in
    let h₂ = or_front (a || b) c h₃ in (
      or_front a b h₂,
      or_back a b h₂,
      or_back (a || b) c h₃,
      or_back ((a || b) || c) d h₄,
      or_back (((a || b) || c) || d) e h,
    )

pub same_contents : (newer older : BareContent) → all_changed newer older ≡ [] → newer ≡ older
same_contents newer older h =
    let names = names_changed newer.fields older.fields in
    let fields = same_fields newer.fields older.fields (front_none names (parts_changed newer older) h) in
    let parts = unchanged newer older (back_none names (parts_changed newer older) h) in
    let icons = options_order bytes_order in
    let items = lists_order item_order in
    let files = lists_order attachment_order in
    let others =
    none_of_five (not (newer.created == older.created)) (is_ne (bytes_cmp newer.url_override older.url_override))
    (is_ne (auto_type_cmp newer.auto_type older.auto_type)) (is_ne (slice_cmp item_cmp newer.items older.items))
    (is_ne (bool_cmp newer.quality older.quality)) parts.other in
    let not_icon = not (newer.icon == older.icon) in
    let not_custom = is_ne (option_cmp bytes_cmp newer.custom_icon older.custom_icon) in
    let not_expires = is_ne (bool_cmp newer.expires older.expires) in
    let not_expiry = not (newer.expiry == older.expiry) in
    let not_fore = is_ne (bytes_cmp newer.fore older.fore) in
    let not_back = is_ne (bytes_cmp newer.back older.back) in
    let created = same_number newer.created older.created others.0 in
    let url = same_value bytes_order newer.url_override older.url_override others.1 in
    let typed = same_value auto_type_order newer.auto_type older.auto_type others.2 in
    let custom = same_value items newer.items older.items others.3 in
    let quality = same_value bool_order newer.quality older.quality others.4 in
    let icon = same_number newer.icon older.icon (or_front not_icon not_custom parts.icon) in
    let custom_icon = same_value icons newer.custom_icon older.custom_icon (or_back not_icon not_custom parts.icon) in
    let expires = same_value bool_order newer.expires older.expires (or_front not_expires not_expiry parts.expiry) in
    let expiry = same_number newer.expiry older.expiry (or_back not_expires not_expiry parts.expiry) in
    let fore = same_value bytes_order newer.fore older.fore (or_front not_fore not_back parts.colours) in
    let back = same_value bytes_order newer.back older.back (or_back not_fore not_back parts.colours) in
    let tags = same_value bytes_order newer.tags older.tags parts.tags in
    let attachments = same_value files newer.attachments older.attachments parts.attachments in
    λ i. record {
      created = created i;
      expiry = expiry i;
      expires = expires i;
      icon = icon i;
      custom_icon = custom_icon i;
      fields = fields i;
      attachments = attachments i;
      tags = tags i;
      fore = fore i;
      back = back i;
      url_override = url i;
      auto_type = typed i;
      items = custom i;
      quality = quality i;
    }

-- ---- a version beside itself

not_itself : {A : Type 0} {R : A → A → Ordering} (order : IsOrder R) (a : A) → is_ne (R a a) ≡ false
not_itself order a = ap is_ne (tied_itself order.total a)

number_itself : (n : ℕ) → not (n == n) ≡ false
number_itself n = ap not (eq-eqb n n refl)

no_names : (fields : List BareField) → names_changed fields fields ≡ []
no_names [] = refl
no_names (f ∷ fs) =
    (λ i.
    match_ordering (tied_itself bytes_order.total f.key i) (f.key ∷ names_changed fs (f ∷ fs))
    (name_if (not_itself field_order f i) f.key ++ names_changed fs fs) (f.key ∷ names_changed (f ∷ fs) fs))
    ∙ no_names fs

no_parts : (content : BareContent) → parts_changed content content ≡ []
no_parts c = λ i.
    ((((name_if (number_itself c.icon i || not_itself (options_order bytes_order) c.custom_icon i) (codes "icon")
    ++ name_if (not_itself bytes_order c.tags i) (codes "tags"))
    ++ name_if (not_itself bool_order c.expires i || number_itself c.expiry i) (codes "expiry"))
    ++ name_if (not_itself (lists_order attachment_order) c.attachments i) (codes "attachments"))
    ++ name_if (not_itself bytes_order c.fore i || not_itself bytes_order c.back i) (codes "colours"))
    ++ name_if
    ((((number_itself c.created i || not_itself bytes_order c.url_override i) || not_itself auto_type_order c.auto_type i)
    || not_itself (lists_order item_order) c.items i)
    || not_itself bool_order c.quality i)
    (codes "other")

pub none_of_itself : (content : BareContent) → all_changed content content ≡ []
none_of_itself c = ap₂ ◌++◌ (no_names c.fields) (no_parts c)
