-- An index that grows, text by text and entry by entry.
use Rattle.std.proofs.Common.{◌≡◌, ◌<◌, ◌≤◌, ℕ, zero, suc, ◌+◌, ◌-◌, Result, Ok, Err, IfOk, arith, slice_range, Bool, true, false, cond, ◌||◌, ◌&&◌, Option, Some, None, is_some, List, [], ◌∷◌, ◌++◌, map, length, take, get_or, refl, sym, ap, ◌∙◌, subst, add-one, append-nil, append_assoc}
use Rattle.std.proofs.Math.Seq.{take-suc}
use Rattle.std.proofs.lemmas.List.{map-append, take_all}
use Rattle.std.proofs.lemmas.List.Folds.{list_any-append}
use Rattle.std.proofs.lemmas.Map.Text.{is_eq-slice_cmp}
use Rattle.std.proofs.lemmas.Slice.Eq.{bytes_eq-Decides}
use Rattle.std.specs.Borrow.{Bor}
use Rattle.std.specs.BTreeMap.{BTreeMap, get, get_by}
use Rattle.std.specs.Cmp.Lexicographic.{slice_cmp}
use Rattle.std.specs.Cow.{cow_slice_items}
use Rattle.std.specs.Global.{Global}
use Rattle.std.specs.List.{find, list_any}
use Rattle.std.specs.Option.{option_map}
use Rattle.std.specs.Ordering.{is_eq, nat_cmp}
use Rattle.std.specs.Str.{bytes_eq, str_to_ascii_lowercase}
use Rattle.std.specs.declared.cmp.Ordering.{Ordering}
use Rattle.std.specs.declared.cmp.Ordering.TheVariants.{Less, Equal, Greater}
use Rattle.std.proofs.lemmas.Map.Lookups.{exact_unsigned}
use Rattle.std.specs.declared.borrow.CowSlice.{CowSlice}
use Rattle.std.specs.declared.borrow.CowSlice.TheVariants.{Borrowed}
use Rattle.find_references.proofs.SoughtEntries.{find_in_both}
use Rattle.find_references.specs.declared.parts.Part.TheVariants.{Title, UserName, Password, Url, Notes, Id}
use Rattle.find_references.specs.declared.parts.Place.{Place}
use Rattle.find_references.specs.declared.parts.Place.TheVariants.{In, OtherField}
use Rattle.find_references.specs.Fields.{has_at, is_other, named_keys}
use Rattle.find_references.specs.inside.Indexed.{Adds, Index, IsIndex, Row, are_digits, compared, has_compared, row_at, where_it_has}
use Rattle.find_references.specs.inside.SeenEntries.{AreIndexes, number_of}
use Rattle.tree_core.specs.Finding.{or_else}
use Rattle.vault_model.specs.Bare.{BareField}
use Rattle.vault_model.proofs.SeenGroups.{seen_group}
use Rattle.vault_model.specs.SeenNodes.{entry_row, tree_seen}
use Rattle.vault_model.specs.Tree.{all_trees, entry_rows, entry_rows_all}
use Rattle.vault_model.specs.declared.nodes.Entry.{Entry}
use Rattle.vault_model.specs.declared.nodes.Group.{Group, out-Group}

abbrev Found : Type 0
Found = List ℕ → Option Row

or_else_none : (o : Option Row) → or_else o None ≡ o
or_else_none None = refl
or_else_none (Some x) = refl

or_else_twice : (a b c : Option Row) → or_else (or_else a b) c ≡ or_else a (or_else b c)
or_else_twice None b c = refl
or_else_twice (Some x) b c = refl

pub adds_none : (m : Index) (f : Found) → ((bytes : List ℕ) → f bytes ≡ None) → Adds f m m
unfolding Adds
adds_none m f none bytes = sym (ap (or_else (row_at m bytes)) (none bytes) ∙ or_else_none (row_at m bytes))

pub adds_both : (a b c : Index) (f g whole : Found) → ((bytes : List ℕ) → whole bytes ≡ or_else (f bytes) (g bytes))
    → Adds f a b → Adds g b c → Adds whole a c
unfolding Adds
adds_both a b c f g whole joined one more bytes =
    more bytes ∙ ap (λ o. or_else o (g bytes)) (one bytes) ∙ or_else_twice (row_at a bytes) (f bytes) (g bytes)
    ∙ ap (or_else (row_at a bytes)) (sym (joined bytes))

pub adds_same : (a b : Index) (f g : Found) → ((bytes : List ℕ) → f bytes ≡ g bytes) → Adds f a b → Adds g a b
unfolding Adds
adds_same a b f g same one bytes = one bytes ∙ ap (or_else (row_at a bytes)) (same bytes)

-- ---- one text

-- a key that is these bytes
key : List ℕ → CowSlice ℕ Global
key bytes = Borrowed (record { ref_ptr = (0, 0); now = bytes })

some_row : (o : Option (Bor Entry)) (other : Option Row) → is_some o ≡ true
    → option_map (λ (e : Bor Entry). entry_row e.now) o ≡ or_else (option_map (λ (e : Bor Entry). entry_row e.now) o) other
some_row None other h = let f : ⊥ = cc in absurd f
some_row (Some e) other h = refl

none_row : (o : Option (Bor Entry)) → is_some o ≡ false → option_map (λ (e : Bor Entry). entry_row e.now) o ≡ None
none_row None h = refl
none_row (Some e) h = let f : ⊥ = cc in absurd f

-- what an index has at the text of a key
at_key : Index → List ℕ → Option (Bor Entry)
at_key m bytes = get_by (λ (text : CowSlice ℕ Global). slice_cmp nat_cmp bytes (cow_slice_items text)) m

-- a text at which there is an entry
pub adds_known : (m : Index) (text : List ℕ) (row : Row)
    → is_some (get_by (λ (k : CowSlice ℕ Global). slice_cmp nat_cmp text (cow_slice_items k)) m) ≡ true
    → Adds (λ bytes. where_it_has (bytes_eq text bytes) row) m m
unfolding Adds
adds_known m text row there bytes = by_test (bytes_eq text bytes) refl
  where
    by_test : (b : Bool) → bytes_eq text bytes ≡ b → row_at m bytes ≡ or_else (row_at m bytes) (where_it_has (bytes_eq text bytes) row)
    by_test true here =
        let same : text ≡ bytes = (bytes_eq-Decides text bytes).0 here in
        some_row _ _ (subst (λ bs. is_some (get_by (λ (k : CowSlice ℕ Global). slice_cmp nat_cmp bs (cow_slice_items k)) m) ≡ true) same there)
    by_test false other = rw other (sym (or_else_none (row_at m bytes)))

-- a text at which there was none
pub adds_new : (before after : Index) (text : CowSlice ℕ Global) (entry : Bor Entry)
    → is_some (get_by (λ (k : CowSlice ℕ Global). slice_cmp nat_cmp (cow_slice_items text) (cow_slice_items k)) before) ≡ false
    → ((q : CowSlice ℕ Global) → get_by (λ (k : CowSlice ℕ Global). slice_cmp nat_cmp (cow_slice_items q) (cow_slice_items k)) after
    ≡ cond (is_eq (slice_cmp nat_cmp (cow_slice_items text) (cow_slice_items q))) (Some entry)
    (get_by (λ (k : CowSlice ℕ Global). slice_cmp nat_cmp (cow_slice_items q) (cow_slice_items k)) before))
    → Adds (λ bytes. where_it_has (bytes_eq (cow_slice_items text) bytes) (entry_row entry.now)) before after
unfolding Adds
adds_new before after text entry nowhere updates bytes = by_test (bytes_eq (cow_slice_items text) bytes) refl
  where
    whole : row_at after bytes
        ≡ option_map (λ (e : Bor Entry). entry_row e.now) (cond (bytes_eq (cow_slice_items text) bytes) (Some entry)
        (get_by (λ (k : CowSlice ℕ Global). slice_cmp nat_cmp bytes (cow_slice_items k)) before))
    whole =
        ap (option_map (λ (e : Bor Entry). entry_row e.now)) (updates (Borrowed (record { ref_ptr = (0, 0); now = bytes })))
        ∙ ap (λ b. option_map (λ (e : Bor Entry). entry_row e.now) (cond b (Some entry)
        (get_by (λ (k : CowSlice ℕ Global). slice_cmp nat_cmp bytes (cow_slice_items k)) before))) (is_eq-slice_cmp (cow_slice_items text) bytes)

    by_test : (b : Bool) → bytes_eq (cow_slice_items text) bytes ≡ b
        → row_at after bytes ≡ or_else (row_at before bytes) (where_it_has (bytes_eq (cow_slice_items text) bytes) (entry_row entry.now))
    by_test true here =
        let same : cow_slice_items text ≡ bytes = (bytes_eq-Decides (cow_slice_items text) bytes).0 here in
        let none : row_at before bytes ≡ None =
        none_row _ (subst (λ bs. is_some (get_by (λ (k : CowSlice ℕ Global). slice_cmp nat_cmp bs (cow_slice_items k)) before) ≡ false) same nowhere) in
        whole ∙ rw (here, none) refl
    by_test false other = whole ∙ rw other (sym (or_else_none (row_at before bytes)))

-- ---- a loop over a list

taken : {A : Type 0} (xs : List A) (i : ℕ) (item : A) → i < length xs → item ≡ get_or xs i item → take (i + 1) xs ≡ take i xs ++ item ∷ []
taken xs i item below here = ap (λ (n : ℕ). take n xs) (add-one i) ∙ take-suc xs i item below ∙ ap (λ y. take i xs ++ y ∷ []) (sym here)

either_has : (a b : Bool) (row : Row) → where_it_has (a || b) row ≡ or_else (where_it_has a row) (where_it_has b row)
either_has true b row = refl
either_has false b row = refl

or_false : (b : Bool) → (b || false) ≡ b
or_false true = refl
or_false false = refl

module _ {A B : Type 0} (a b c : Index) (g : A → B) (xs : List A) (i : ℕ) (item : A) (below : i < length xs) (here : item ≡ get_or xs i item) where
  -- one more item that may have a text
  pub adds_other : (test : List ℕ → B → Bool) (row : Row)
      → Adds (λ bytes. where_it_has (list_any (test bytes) (map g (take i xs))) row) a b
      → Adds (λ bytes. where_it_has (test bytes (g item)) row) b c
      → Adds (λ bytes. where_it_has (list_any (test bytes) (map g (take (i + 1) xs))) row) a c
  adds_other test row before now =
      adds_both a b c _ _ _
      (λ bytes.
      ap (λ ys. where_it_has (list_any (test bytes) (map g ys)) row) (taken xs i item below here)
      ∙ ap (λ ys. where_it_has (list_any (test bytes) ys) row) (map-append g (take i xs) (item ∷ []))
      ∙ ap (λ b. where_it_has b row) (list_any-append (test bytes) (map g (take i xs)) (g item ∷ []))
      ∙ ap (λ b. where_it_has (list_any (test bytes) (map g (take i xs)) || b) row) (or_false (test bytes (g item)))
      ∙ either_has (list_any (test bytes) (map g (take i xs))) (test bytes (g item)) row) before now

  -- one more item that may be found
  pub adds_entry : (row_of : A → Row) (test : List ℕ → Row → Bool)
      → Adds (λ bytes. find (test bytes) (map row_of (take i xs))) a b
      → Adds (λ bytes. where_it_has (test bytes (row_of item)) (row_of item)) b c
      → Adds (λ bytes. find (test bytes) (map row_of (take (i + 1) xs))) a c
  adds_entry row_of test before now =
      adds_both a b c _ _ _
      (λ bytes.
      ap (λ ys. find (test bytes) (map row_of ys)) (taken xs i item below here)
      ∙ ap (find (test bytes)) (map-append row_of (take i xs) (item ∷ []))
      ∙ find_in_both (test bytes) (map row_of (take i xs)) (row_of item ∷ [])) before now

-- no item is left
pub adds_end : {A : Type 0} (a b : Index) (f : List A → Found) (xs whole : List A) (i : ℕ)
    → length xs ≤ i → xs ≡ whole → Adds (f (take i xs)) a b → Adds (f whole) a b
adds_end a b f xs whole i past same h = subst (λ ys. Adds (f ys) a b) (take_all i xs past ∙ same) h

-- ---- a group

-- the entries of groups side by side
abbrev pub rows_among : List Group → List Row
rows_among gs = entry_rows_all (all_trees (map tree_seen gs))

rows_more : (gs : List Group) (g : Group) → rows_among (gs ++ g ∷ []) ≡ rows_among gs ++ entry_rows (tree_seen g)
rows_more [] g = append-nil (entry_rows (tree_seen g))
rows_more (x ∷ gs) g =
    ap (λ rows. entry_rows (tree_seen x) ++ rows) (rows_more gs g)
    ∙ sym (append_assoc (entry_rows (tree_seen x)) (rows_among gs) (entry_rows (tree_seen g)))

pub adds_child : (a b c : Index) (test : List ℕ → Row → Bool) (gs : List Group) (i : ℕ) (child : Group)
    → i < length gs → child ≡ get_or gs i child
    → Adds (λ bytes. find (test bytes) (rows_among (take i gs))) a b
    → Adds (λ bytes. find (test bytes) (entry_rows (tree_seen child))) b c
    → Adds (λ bytes. find (test bytes) (rows_among (take (i + 1) gs))) a c
adds_child a b c test gs i child below here before now =
    adds_both a b c _ _ _
    (λ bytes.
    ap (λ ys. find (test bytes) (rows_among ys)) (taken gs i child below here)
    ∙ ap (find (test bytes)) (rows_more (take i gs) child)
    ∙ find_in_both (test bytes) (rows_among (take i gs)) (entry_rows (tree_seen child))) before now

pub adds_group : (a b c : Index) (test : List ℕ → Row → Bool) (g : Group) (es : List Entry)
    → es ≡ (out-Group g).entries
    → Adds (λ bytes. find (test bytes) (map entry_row es)) a b
    → Adds (λ bytes. find (test bytes) (rows_among (out-Group g).groups)) b c
    → Adds (λ bytes. find (test bytes) (entry_rows (tree_seen g))) a c
adds_group a b c test g es own before now =
    adds_both a b c _ _ _
    (λ bytes.
    ap (λ t. find (test bytes) (entry_rows t)) (seen_group g)
    ∙ find_in_both (test bytes) (map entry_row (out-Group g).entries) (rows_among (out-Group g).groups)
    ∙ ap (λ l. or_else (find (test bytes) (map entry_row l)) (find (test bytes) (rows_among (out-Group g).groups))) (sym own)) before now

-- ---- from none on

pub indexes_all : (before after : Index) (place : Place) (rows : List Row) → before.entries ≡ []
    → Adds (λ bytes. find (has_compared place bytes) rows) before after → IsIndex place rows after
unfolding Adds IsIndex
indexes_all before after place rows empty added bytes =
    let none : row_at before bytes ≡ None = rw empty refl in
    added bytes ∙ ap (λ o. or_else o (find (has_compared place bytes) rows)) none

-- ---- what is looked up

same_test : (place : Place) (text : List ℕ) (row : Row) → has_compared place (compared place text) row ≡ has_at place text row
same_test (In Title) text row = refl
same_test (In UserName) text row = refl
same_test (In Password) text row = refl
same_test (In Url) text row = refl
same_test (In Notes) text row = refl
same_test (In Id) text row = refl
same_test OtherField text row = refl

find_same : (p q : Row → Bool) → ((row : Row) → p row ≡ q row) → (rows : List Row) → find p rows ≡ find q rows
find_same p q same [] = refl
find_same p q same (row ∷ rows) =
    ap (λ b. cond b (Some row) (find p rows)) (same row) ∙ ap (λ o. cond (q row) (Some row) o) (find_same p q same rows)

pub found_by_index : (place : Place) (text : List ℕ) (rows : List Row) (index : Index) → IsIndex place rows index
    → row_at index (compared place text) ≡ find (has_at place text) rows
unfolding IsIndex
found_by_index place text rows index right =
    right (compared place text)
    ∙ find_same (has_compared place (compared place text)) (has_at place text) (same_test place text) rows

pub as_it_is : (place : Place) (text : List ℕ) → are_digits place ≡ false → compared place text ≡ text
as_it_is place text h = rw h refl

pub in_lower_case : (place : Place) (text : List ℕ) → are_digits place ≡ true → compared place text ≡ str_to_ascii_lowercase text
in_lower_case place text h = rw h refl

pub looked_up : (text bytes : List ℕ) (index : Index) (found : Option (Bor Entry)) → text ≡ bytes
    → found ≡ get_by (λ (k : CowSlice ℕ Global). slice_cmp nat_cmp bytes (cow_slice_items k)) index
    → option_map (λ (e : Bor Entry). entry_row e.now) found ≡ row_at index text
looked_up text bytes index found same is = ap (option_map (λ (e : Bor Entry). entry_row e.now)) is ∙ ap (row_at index) (sym same)

pub all_lent : (bytes lent : List ℕ) (n : ℕ) → lent ≡ slice_range bytes 0 n → n ≡ length bytes → lent ≡ bytes
all_lent bytes lent n is len = is ∙ ap (slice_range bytes 0) len ∙ take_all (length bytes - 0) bytes (omega arith)

-- ---- the fields that no part names

pub adds_named : (m : Index) (f : BareField) (row : Row) → list_any (bytes_eq f.key) named_keys ≡ true
    → Adds (λ bytes. where_it_has (is_other f && bytes_eq f.value bytes) row) m m
adds_named m f row named = adds_none m _ (λ bytes. rw named refl)

pub adds_unnamed : (a b : Index) (f : BareField) (text : List ℕ) (row : Row) → list_any (bytes_eq f.key) named_keys ≡ false → text ≡ f.value
    → Adds (λ bytes. where_it_has (bytes_eq text bytes) row) a b
    → Adds (λ bytes. where_it_has (is_other f && bytes_eq f.value bytes) row) a b
adds_unnamed a b f text row unnamed same h =
    adds_same a b _ _ (λ bytes. rw unnamed (ap (λ bs. where_it_has (bytes_eq bs bytes) row) same)) h

-- ---- indexes under the numbers of their places

abbrev place_at : ℕ → Place
place_at zero = In Title
place_at (suc zero) = In UserName
place_at (suc (suc zero)) = In Password
place_at (suc (suc (suc zero))) = In Url
place_at (suc (suc (suc (suc zero)))) = In Notes
place_at (suc (suc (suc (suc (suc zero))))) = In Id
place_at (suc (suc (suc (suc (suc (suc n)))))) = OtherField

place_back : (place : Place) → place_at (number_of place) ≡ place
place_back (In Title) = refl
place_back (In UserName) = refl
place_back (In Password) = refl
place_back (In Url) = refl
place_back (In Notes) = refl
place_back (In Id) = refl
place_back OtherField = refl

pub no_indexes : (rows : List Row) (indexes : BTreeMap ℕ Index) → indexes.entries ≡ [] → AreIndexes rows indexes
unfolding AreIndexes
no_indexes rows indexes empty place index there =
    let none : None ≡ Some index = rw empty at there in
    let f : ⊥ = cc in absurd f

some_same : {A : Type 0} (x y : A) → Some x ≡ Some y → x ≡ y
some_same x y h = cc

equal_tie : (o : Ordering) → is_eq o ≡ true → o ≡ Equal
equal_tie Less e = cc e
equal_tie Equal e = refl
equal_tie Greater e = cc e

equal_number : (a b : ℕ) → is_eq (nat_cmp a b) ≡ true → a ≡ b
equal_number a b h = exact_unsigned a b (equal_tie (nat_cmp a b) h)

pub one_more_index : (rows : List Row) (before after : BTreeMap ℕ Index) (place : Place) (index : Index) (n : ℕ) → n ≡ number_of place
    → AreIndexes rows before → IsIndex place rows index
    → ((q : ℕ) → get nat_cmp after q ≡ cond (is_eq (nat_cmp n q)) (Some index) (get nat_cmp before q))
    → AreIndexes rows after
unfolding AreIndexes
one_more_index rows before after place index n same right new updates other found there = by_test (is_eq (nat_cmp n (number_of other))) refl
  where
    by_test : (b : Bool) → is_eq (nat_cmp n (number_of other)) ≡ b → IsIndex other rows found
    by_test true here =
        let number : n ≡ number_of other = equal_number n (number_of other) here in
        let places : place ≡ other = sym (place_back place) ∙ ap place_at (sym same ∙ number) ∙ place_back other in
        let indexes : index ≡ found =
        some_same index found (sym (ap (λ b. cond b (Some index) (get nat_cmp before (number_of other))) here) ∙ sym (updates (number_of other)) ∙ there) in
        subst (λ m. IsIndex other rows m) indexes (subst (λ p. IsIndex p rows index) places new)
    by_test false elsewhere =
        right other found
        (sym (ap (λ b. cond b (Some index) (get nat_cmp before (number_of other))) elsewhere) ∙ sym (updates (number_of other)) ∙ there)

-- ---- what is found

pub found_at_once : (rows whole : List Row) (indexes : BTreeMap ℕ Index) (place : Place) (text : List ℕ) (index : Index) (found : Option Row)
    → rows ≡ whole → AreIndexes rows indexes → get nat_cmp indexes (number_of place) ≡ Some index
    → found ≡ row_at index (compared place text) → found ≡ find (has_at place text) whole
unfolding AreIndexes
found_at_once rows whole indexes place text index found same right there is =
    is ∙ found_by_index place text rows index (right place index there) ∙ ap (find (has_at place text)) same

pub ok_also : {A E : Type 0} (P Q : A → Type 0) (r : Result A E) → ((x : A) → P x → Q x) → IfOk r P → IfOk r Q
ok_also P Q (Ok x) also h = also x h
ok_also P Q (Err e) also h = h

-- what is looked for among the entries of one group and found there is found among those of the same group
pub sought_row : (place : Place) (text : List ℕ) (found other : Option (Bor Entry)) (a b : Bor Group)
    → option_map (λ (e : Bor Entry). entry_row e.now) found ≡ find (has_at place text) (entry_rows (tree_seen a.now)) → a ≡ b → found ≡ other
    → find (has_at place text) (entry_rows (tree_seen b.now)) ≡ option_map (λ (e : Bor Entry). entry_row e.now) other
sought_row place text found other a b is same there =
    sym (is ∙ ap (λ (g : Bor Group). find (has_at place text) (entry_rows (tree_seen g.now))) same)
    ∙ ap (option_map (λ (e : Bor Entry). entry_row e.now)) there
