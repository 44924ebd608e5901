-- What is found in a document does not look at what is hidden, where no term does.
use Rattle.std.proofs.Common.{◌≡◌, ◌||◌, ◌&&◌, ℕ, Bool, true, false, not, cond, List, [], ◌∷◌, ◌++◌, Option, Some, Result, Ok, Err, codes, map, refl, sym, ap, ◌∙◌}
use Rattle.std.specs.List.{filter, find, flat_map, list_any}
use Rattle.std.specs.Option.{option_map, unwrap_or}
use Rattle.std.specs.Prelude.{if◌then◌else◌}
use Rattle.std.specs.Str.{bytes_eq}
use Rattle.outside_core.specs.Results.{◌>>=◌}
use Rattle.vault_model.specs.Bare.{BareField}
use Rattle.vault_model.specs.Db.{NodeId}
use Rattle.vault_model.specs.Shape.{EntryRecord}
use Rattle.vault_model.specs.Tree.{BareDoc, Tree, Trees, beside, node, none}
use Rattle.vault_model.specs.Walk.{Node, Walked, a_group, an_entry, value_of, walk}
use Rattle.vault_model.proofs.Tests.{and_true, apart, is_false, or_false, or_left, or_right}
use Rattle.find_references.specs.Fields.{fields_of, is_other, named_keys}
use Rattle.find_references.specs.Terms.{terms_of}
use Rattle.find_references.specs.declared.fail.FindFail.{FindFail}
use Rattle.find_references.specs.declared.terms.SearchField.{SearchField}
use Rattle.find_references.specs.declared.terms.SearchField.TheVariants.{Any, Title, UserName, Password, Url, Notes, Tags, Group, Attr}
use Rattle.find_references.specs.declared.terms.Term.{Term}
use Rattle.find_core.specs.Search.{all_match, entries_found, found_among, found_in, has_text, is_searched, passing, values_of}
use Rattle.cli_messages.specs.declared.answers.Refusal.{Refusal}
use Rattle.cli_showing.specs.Paths.{is_among, path_line, paths_found}
use Rattle.cli_showing.specs.Refusals.{found_or_refusal}
use Rattle.cli_showing.specs.Showing.{entries_shown, paths_or_refusal}
use Rattle.noninterference_laws.specs.Masks.{LooksAtNoSecret, SearchIsBlind, is_secret, looks_at, looks_at_secret, mask, mask_entry, mask_field, mask_row, mask_tree, mask_trees}
use Rattle.noninterference_laws.proofs.Screens.{mask_node, mask_walked, secret_titles, walk_same}

-- ---- fields

abbrev hide : BareField → BareField
hide = mask_field is_secret

hide_key : (f : BareField) → (hide f).key ≡ f.key
hide_key f = at (is_secret f)
  where
    at : (b : Bool) → (cond b (record f { value = [] }) f).key ≡ f.key
    at true = refl
    at false = refl

hide_secret : (f : BareField) → is_secret (hide f) ≡ is_secret f
hide_secret f = at (is_secret f)
  where
    at : (b : Bool) → is_secret (cond b (record f { value = [] }) f) ≡ is_secret f
    at true = refl
    at false = refl

-- a field that is not hidden is as it was
hide_shown : (f : BareField) → is_secret f ≡ false → hide f ≡ f
hide_shown f e = ap (λ b. cond b (record f { value = [] }) f) e

-- ---- values

-- no field that passes a test is hidden
abbrev Shows : (BareField → Bool) → List BareField → Type 0
Shows test fs = list_any (λ f. test f && is_secret f) fs ≡ false

shows_fewer : (test other : BareField → Bool) → ((f : BareField) → test f ≡ true → other f ≡ true) → (fs : List BareField) → Shows other fs → Shows test fs
shows_fewer test other more [] h = refl
shows_fewer test other more (f ∷ fs) h =
    let parts = or_false (other f && is_secret f) (list_any (λ g. other g && is_secret g) fs) h in
    λ i. one parts.0 i || shows_fewer test other more fs parts.1 i
  where
    one : (other f && is_secret f) ≡ false → (test f && is_secret f) ≡ false
    one off = is_false (test f && is_secret f) (λ on.
        let both = and_true (test f) (is_secret f) on in
        apart (other f && is_secret f) (ap (λ b. b && is_secret f) (more f both.0) ∙ both.1) off)

abbrev value_in : Option BareField → List ℕ
value_in o = unwrap_or (option_map (λ (f : BareField). f.value) o) []

value_stays : (key : List ℕ) (fs : List BareField) → Shows (λ (f : BareField). bytes_eq key f.key) fs → value_of key (map hide fs) ≡ value_of key fs
value_stays key [] h = refl
value_stays key (f ∷ fs) h =
    let parts = or_false (bytes_eq key f.key && is_secret f) (list_any (λ (g : BareField). bytes_eq key g.key && is_secret g) fs) h in
    ap (λ k. value_in (cond (bytes_eq key k) (Some (hide f)) (find (λ (g : BareField). bytes_eq key g.key) (map hide fs)))) (hide_key f)
    ∙ at (bytes_eq key f.key) parts.0 (value_stays key fs parts.1)
  where
    at : (b : Bool) → (b && is_secret f) ≡ false → value_of key (map hide fs) ≡ value_of key fs
        → value_in (cond b (Some (hide f)) (find (λ (g : BareField). bytes_eq key g.key) (map hide fs))) ≡ value_in (cond b (Some f) (find (λ (g : BareField). bytes_eq key g.key) fs))
    at true off rest = ap (λ (g : BareField). g.value) (hide_shown f off)
    at false off rest = rest

others_stay : (fs : List BareField) → Shows is_other fs → filter is_other (map hide fs) ≡ filter is_other fs
others_stay [] h = refl
others_stay (f ∷ fs) h =
    let parts = or_false (is_other f && is_secret f) (list_any (λ g. is_other g && is_secret g) fs) h in
    ap (λ k. cond (not (list_any (bytes_eq k) named_keys)) (hide f ∷ filter is_other (map hide fs)) (filter is_other (map hide fs))) (hide_key f)
    ∙ at (is_other f) parts.0 (others_stay fs parts.1)
  where
    at : (b : Bool) → (b && is_secret f) ≡ false → filter is_other (map hide fs) ≡ filter is_other fs → cond b (hide f ∷ filter is_other (map hide fs)) (filter is_other (map hide fs)) ≡ cond b (f ∷ filter is_other fs) (filter is_other fs)
    at true off rest = λ i. hide_shown f off i ∷ rest i
    at false off rest = rest

abbrev with_key : List ℕ → BareField → Bool
with_key key f = bytes_eq key f.key

-- a term without a field's name looks at each of its keys
plain_title : (f : BareField) → with_key (codes "Title") f ≡ true → looks_at Any f ≡ true
plain_title f e = or_left (with_key (codes "Title") f) _ e

plain_user : (f : BareField) → with_key (codes "UserName") f ≡ true → looks_at Any f ≡ true
plain_user f e = or_right (with_key (codes "Title") f) _ (or_left (with_key (codes "UserName") f) _ e)

plain_url : (f : BareField) → with_key (codes "URL") f ≡ true → looks_at Any f ≡ true
plain_url f e = or_right (with_key (codes "Title") f) _ (or_right (with_key (codes "UserName") f) _ (or_left (with_key (codes "URL") f) _ e))

plain_notes : (f : BareField) → with_key (codes "Notes") f ≡ true → looks_at Any f ≡ true
plain_notes f e =
    or_right (with_key (codes "Title") f) _ (or_right (with_key (codes "UserName") f) _ (or_right (with_key (codes "URL") f) _ (or_left (with_key (codes "Notes") f) _ e)))

values_stay : (kind : SearchField) (group : List ℕ) (e : EntryRecord) → Shows (looks_at kind) (fields_of e) → values_of kind group (mask_entry is_secret e) ≡ values_of kind group e
values_stay Any group e h = λ i.
    value_stays (codes "Title") (fields_of e) (shows_fewer (with_key (codes "Title")) (looks_at Any) plain_title (fields_of e) h) i
    ∷ value_stays (codes "UserName") (fields_of e) (shows_fewer (with_key (codes "UserName")) (looks_at Any) plain_user (fields_of e) h) i
    ∷ value_stays (codes "URL") (fields_of e) (shows_fewer (with_key (codes "URL")) (looks_at Any) plain_url (fields_of e) h) i
    ∷ value_stays (codes "Notes") (fields_of e) (shows_fewer (with_key (codes "Notes")) (looks_at Any) plain_notes (fields_of e) h) i
    ∷ e.current.mark.content.tags ∷ []
values_stay Title group e h = λ i. value_stays (codes "Title") (fields_of e) h i ∷ []
values_stay UserName group e h = λ i. value_stays (codes "UserName") (fields_of e) h i ∷ []
values_stay Password group e h = λ i. value_stays (codes "Password") (fields_of e) h i ∷ []
values_stay Url group e h = λ i. value_stays (codes "URL") (fields_of e) h i ∷ []
values_stay Notes group e h = λ i. value_stays (codes "Notes") (fields_of e) h i ∷ []
values_stay Tags group e h = refl
values_stay Group group e h = refl
values_stay Attr group e h = ap (map (λ (f : BareField). f.value)) (others_stay (fields_of e) h)

-- ---- entries

abbrev matched_by : Term → List (List ℕ) → Bool
matched_by term values = if term.not then not (list_any (has_text term) values) else list_any (has_text term) values

terms_stay : (terms : List Term) (group : List ℕ) (e : EntryRecord) → looks_at_secret terms e ≡ false → all_match terms group (mask_entry is_secret e) ≡ all_match terms group e
terms_stay [] group e h = refl
terms_stay (term ∷ terms) group e h =
    let parts = or_false (list_any (λ f. looks_at term.field f && is_secret f) (fields_of e)) (looks_at_secret terms e) h in
    λ i. matched_by term (values_stay term.field group e parts.0 i) && terms_stay terms group e parts.1 i

-- which hidden values terms look at is the same
secrets_stay : (terms : List Term) (e : EntryRecord) → looks_at_secret terms (mask_entry is_secret e) ≡ looks_at_secret terms e
secrets_stay [] e = refl
secrets_stay (term ∷ terms) e = λ i. fields_stay (fields_of e) i || secrets_stay terms e i
  where
    look_stays : (kind : SearchField) (f : BareField) → looks_at kind (hide f) ≡ looks_at kind f
    look_stays Any f = ap (λ k. bytes_eq (codes "Title") k || (bytes_eq (codes "UserName") k || (bytes_eq (codes "URL") k || (bytes_eq (codes "Notes") k || false)))) (hide_key f)
    look_stays Title f = ap (bytes_eq (codes "Title")) (hide_key f)
    look_stays UserName f = ap (bytes_eq (codes "UserName")) (hide_key f)
    look_stays Password f = ap (bytes_eq (codes "Password")) (hide_key f)
    look_stays Url f = ap (bytes_eq (codes "URL")) (hide_key f)
    look_stays Notes f = ap (bytes_eq (codes "Notes")) (hide_key f)
    look_stays Tags f = refl
    look_stays Group f = refl
    look_stays Attr f = ap (λ k. not (list_any (bytes_eq k) named_keys)) (hide_key f)

    fields_stay : (fs : List BareField) → list_any (λ f. looks_at term.field f && is_secret f) (map hide fs) ≡ list_any (λ f. looks_at term.field f && is_secret f) fs
    fields_stay [] = refl
    fields_stay (f ∷ fs) = λ i. (look_stays term.field f i && hide_secret f i) || fields_stay fs i

-- ---- trees

abbrev Test : Type 0
Test = List ℕ → EntryRecord → Bool

-- Two tests have the same answer on an entry and on it with what is hidden, where a third one fails.
abbrev AgreeUnless : Test → Test → Type 0
AgreeUnless look test = (name : List ℕ) (e : EntryRecord) → look name e ≡ false → test name (mask_entry is_secret e) ≡ test name e

module _ (look test : Test) (agree : AgreeUnless look test) where
  no_more : {A B : Type 0} (x : A) (xs : List A) → (x ∷ xs) ≡ [] → B
  no_more x xs h = cc h

  first_empty : {A : Type 0} (xs ys : List A) → (xs ++ ys) ≡ [] → (xs ≡ []) × (ys ≡ [])
  first_empty [] ys h = (refl, h)
  first_empty (x ∷ xs) ys h = no_more x (xs ++ ys) h

  rows_stay : (name : List ℕ) (es : List (NodeId × EntryRecord)) → passing look name es ≡ [] → passing test name (map (mask_row is_secret) es) ≡ passing test name es
  rows_stay name [] h = refl
  rows_stay name (e ∷ es) h = at (rows_stay name es) (look name e.1) refl h
    where
      by : (b : Bool) → passing test name (map (mask_row is_secret) es) ≡ passing test name es
          → map (λ (r : NodeId × EntryRecord). r.0) (cond b (mask_row is_secret e ∷ filter (λ (r : NodeId × EntryRecord). test name r.1) (map (mask_row is_secret) es)) (filter (λ (r : NodeId × EntryRecord). test name r.1) (map (mask_row is_secret) es)))
          ≡ map (λ (r : NodeId × EntryRecord). r.0) (cond b (e ∷ filter (λ (r : NodeId × EntryRecord). test name r.1) es) (filter (λ (r : NodeId × EntryRecord). test name r.1) es))
      by true rest = ap (λ ids. e.0 ∷ ids) rest
      by false rest = rest

      at : (passing look name es ≡ [] → passing test name (map (mask_row is_secret) es) ≡ passing test name es) → (b : Bool) → look name e.1 ≡ b
          → map (λ (r : NodeId × EntryRecord). r.0) (cond b (e ∷ filter (λ (r : NodeId × EntryRecord). look name r.1) es) (filter (λ (r : NodeId × EntryRecord). look name r.1) es)) ≡ []
          → passing test name (map (mask_row is_secret) (e ∷ es)) ≡ passing test name (e ∷ es)
      at rest true is k = no_more e.0 (passing look name es) k
      at rest false is k =
          ap (λ b. map (λ (r : NodeId × EntryRecord). r.0) (cond b (mask_row is_secret e ∷ filter (λ (r : NodeId × EntryRecord). test name r.1) (map (mask_row is_secret) es)) (filter (λ (r : NodeId × EntryRecord). test name r.1) (map (mask_row is_secret) es))))
          (agree name e.1 is)
          ∙ by (test name e.1) (rest k)

  own_stay : (searched : Bool) (name : List ℕ) (es : List (NodeId × EntryRecord)) → (if searched then passing look name es else []) ≡ [] → (if searched then passing test name (map (mask_row is_secret) es) else []) ≡ (if searched then passing test name es else [])
  own_stay true name es h = rows_stay name es h
  own_stay false name es h = refl

  mutual
    pub tree_stays : (above : Bool) (t : Tree) → found_in look above t ≡ [] → found_in test above (mask_tree is_secret t) ≡ found_in test above t
    tree_stays above (node u g es ts) h =
        let searched = is_searched above g.state.content.searching in
        let parts = first_empty (if searched then passing look g.state.content.name es else []) (found_among look searched ts) h in
        λ i. own_stay searched g.state.content.name es parts.0 i ++ trees_stay searched ts parts.1 i

    trees_stay : (above : Bool) (ts : Trees) → found_among look above ts ≡ [] → found_among test above (mask_trees is_secret ts) ≡ found_among test above ts
    trees_stay above none h = refl
    trees_stay above (beside t ts) h =
        let parts = first_empty (found_in look above t) (found_among look above ts) h in
        λ i. tree_stays above t parts.0 i ++ trees_stay above ts parts.1 i

-- ---- paths

node_stays : (ids : List NodeId) (w : Walked) → path_line (is_among ids) (mask_walked is_secret secret_titles w) ≡ path_line (is_among ids) w
unfolding mask_walked mask_node
node_stays ids w = at w.found
  where
    at : (n : Node) → path_line (is_among ids) (record { path = w.path; found = mask_node is_secret secret_titles n }) ≡ path_line (is_among ids) (record { path = w.path; found = n })
    at (an_entry u e) = refl
    at (a_group u r) = refl

paths_stay : (ids : List NodeId) (d : BareDoc) → paths_found ids (mask is_secret d) ≡ paths_found ids d
paths_stay ids d = ap (flat_map (path_line (is_among ids))) (walk_same is_secret secret_titles [] d.tree) ∙ over (walk d)
  where
    over : (ws : List Walked) → flat_map (path_line (is_among ids)) (map (mask_walked is_secret secret_titles) ws) ≡ flat_map (path_line (is_among ids)) ws
    over [] = refl
    over (w ∷ ws) = λ i. node_stays ids w i ++ over ws i

refusals_stay : (file : List ℕ) (ids : List NodeId) (d : BareDoc) → paths_or_refusal file ids (mask is_secret d) ≡ paths_or_refusal file ids d
refusals_stay file [] d = refl
refusals_stay file (id ∷ ids) d = ap Ok (paths_stay (id ∷ ids) d)

-- ---- searches

found_stays : (terms : List Term) (d : BareDoc) → found_in (λ name. looks_at_secret terms) true d.tree ≡ [] → entries_found terms (mask is_secret d) ≡ entries_found terms d
unfolding entries_found
found_stays terms d h = tree_stays (λ name. looks_at_secret terms) (all_match terms) (λ name e off. terms_stay terms name e off) true d.tree h

abbrev shown_with : List ℕ → BareDoc → Result (List Term) FindFail → Result (List ℕ) Refusal
shown_with file d terms = found_or_refusal file terms >>= λ ts. paths_or_refusal file (entries_found ts d) d

shown_stays : (file words : List ℕ) (d : BareDoc) → LooksAtNoSecret words d → entries_shown file words (mask is_secret d) ≡ entries_shown file words d
unfolding entries_shown
shown_stays file words d openly = of (terms_of words) refl
  where
    of : (r : Result (List Term) FindFail) → terms_of words ≡ r → shown_with file (mask is_secret d) r ≡ shown_with file d r
    of (Ok terms) is = ap (λ ids. paths_or_refusal file ids (mask is_secret d)) (found_stays terms d (openly terms is)) ∙ refusals_stay file (entries_found terms d) d
    of (Err why) is = refl

-- ---- the other document

-- Entries in which terms look at what is hidden are the same.
mutual
  looks_stay : (terms : List Term) (above : Bool) (t : Tree) → found_in (λ name. looks_at_secret terms) above (mask_tree is_secret t) ≡ found_in (λ name. looks_at_secret terms) above t
  looks_stay terms above (node u g es ts) =
      let searched = is_searched above g.state.content.searching in
      λ i. own searched (look_rows es) i ++ looks_stay_all terms searched ts i
    where
      look_rows : (rows : List (NodeId × EntryRecord)) → passing (λ name. looks_at_secret terms) g.state.content.name (map (mask_row is_secret) rows) ≡ passing (λ name. looks_at_secret terms) g.state.content.name rows
      look_rows [] = refl
      look_rows (r ∷ rows) =
          ap (λ b. map (λ (r : NodeId × EntryRecord). r.0) (cond b (mask_row is_secret r ∷ filter (λ (r : NodeId × EntryRecord). looks_at_secret terms r.1) (map (mask_row is_secret) rows)) (filter (λ (r : NodeId × EntryRecord). looks_at_secret terms r.1) (map (mask_row is_secret) rows))))
          (secrets_stay terms r.1)
          ∙ put (looks_at_secret terms r.1) (look_rows rows)
        where
          put : (b : Bool) → passing (λ name. looks_at_secret terms) g.state.content.name (map (mask_row is_secret) rows) ≡ passing (λ name. looks_at_secret terms) g.state.content.name rows
              → map (λ (r : NodeId × EntryRecord). r.0) (cond b (mask_row is_secret r ∷ filter (λ (r : NodeId × EntryRecord). looks_at_secret terms r.1) (map (mask_row is_secret) rows)) (filter (λ (r : NodeId × EntryRecord). looks_at_secret terms r.1) (map (mask_row is_secret) rows)))
              ≡ map (λ (r : NodeId × EntryRecord). r.0) (cond b (r ∷ filter (λ (r : NodeId × EntryRecord). looks_at_secret terms r.1) rows) (filter (λ (r : NodeId × EntryRecord). looks_at_secret terms r.1) rows))
          put true rest = ap (λ ids. r.0 ∷ ids) rest
          put false rest = rest

      own : (searched : Bool) → passing (λ name. looks_at_secret terms) g.state.content.name (map (mask_row is_secret) es) ≡ passing (λ name. looks_at_secret terms) g.state.content.name es
          → (if searched then passing (λ name. looks_at_secret terms) g.state.content.name (map (mask_row is_secret) es) else []) ≡ (if searched then passing (λ name. looks_at_secret terms) g.state.content.name es else [])
      own true rest = rest
      own false rest = refl

  looks_stay_all : (terms : List Term) (above : Bool) (ts : Trees) → found_among (λ name. looks_at_secret terms) above (mask_trees is_secret ts) ≡ found_among (λ name. looks_at_secret terms) above ts
  looks_stay_all terms above none = refl
  looks_stay_all terms above (beside t ts) = λ i. looks_stay terms above t i ++ looks_stay_all terms above ts i

pub search_is_blind : SearchIsBlind
search_is_blind d e alike words openly file =
    sym (shown_stays file words d openly) ∙ ap (entries_shown file words) alike ∙ shown_stays file words e other
  where
    other : LooksAtNoSecret words e
    other terms is =
        sym (looks_stay terms true e.tree) ∙ sym (ap (λ (x : BareDoc). found_in (λ name. looks_at_secret terms) true x.tree) alike) ∙ looks_stay terms true d.tree ∙ openly terms is
