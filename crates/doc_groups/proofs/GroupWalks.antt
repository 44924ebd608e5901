-- Groups: what one is when its children and its end have been read.
use Rattle.std.specs.Prelude.{◌-◌, ◌==◌, if◌then◌else◌, bytes_eq, codes, not}
use Rattle.std.proofs.Common.{◌≡◌, ℕ, Bool, true, false, Option, List, [], ◌∷◌, ◌++◌, length, map, refl, ap, sym, ◌∙◌, subst, arith, Result, Ok, Err}
use Rattle.std.proofs.lemmas.Bool.{ne_eqb}
use Rattle.markup_grammar.specs.Elements.{Element, Content, last, also, cut, element, own_text, innermost, open_contents}
use Rattle.vault_model.specs.Db.{NodeId}
use Rattle.doc_forms.specs.declared.cursor.Cursor.{Cursor}
use Rattle.doc_forms.specs.declared.drafts.GroupDraft.{GroupDraft}
use Rattle.doc_forms.specs.declared.fails.DocFail.{DocFail}
use Rattle.doc_forms.specs.declared.fails.DocFail.TheVariants.{BadValue, TooDeep}
use Rattle.doc_forms.specs.Groups.{ReadTree, node, GroupParts, no_group, group, group_parts, group_child, group_rows, append_tree, beside, record_of}
use Rattle.doc_forms.specs.ElementTexts.{ElementText, Setting, text_at_end}
use Rattle.doc_forms.specs.Children.{all_children, by_name, children_and_end, count_node, offset_of}
use Rattle.doc_forms.specs.Entries.{node_id}
use Rattle.doc_forms.specs.Refusals.{Fails, Returns}
use Rattle.outside_core.specs.Results.{◌>>=◌}
use Rattle.doc_forms.specs.SeenDrafts.{side_by_side, draft_seen}
use Rattle.doc_entries.proofs.DocWalk.Branches.{put_in, refused_in}
use Rattle.doc_entries.proofs.DocWalk.Goes.{refused}
use Rattle.doc_entries.proofs.DocWalk.Pieces.{carried, given_same, on_ok}
use Rattle.doc_entries.proofs.DocWalk.Rests.{same_rest}
use Rattle.doc_entries.specs.DocWalk.declared.walk.Tag.{Tag}
use Rattle.doc_entries.specs.DocWalk.Steps.{Course, Rest, Steps}
use Rattle.doc_entries.specs.DocWalk.Tags.{child_step, contents_step}
use Rattle.doc_groups.proofs.Places.{one_more_seen}
use Rattle.doc_groups.specs.GroupSteps.{group_step, id_at_end, whole_group}

-- ---- one step after another

bound_same : {A B : Type 0} (r : Result A DocFail) (f g : A → Result B DocFail) → ((x : A) → f x ≡ g x) → (r >>= f) ≡ (r >>= g)
bound_same (Ok x) f g same = same x
bound_same (Err e) f g same = refl

regrouped : {A B C : Type 0} (r : Result A DocFail) (f : A → Result B DocFail) (g : B → Result C DocFail) → ((r >>= f) >>= g) ≡ (r >>= λ x. f x >>= g)
regrouped (Ok x) f g = refl
regrouped (Err e) f g = refl

-- ---- a group

-- the tree of an id that the parts make
abbrev tree_of : GroupParts → NodeId × Cursor → Result (ReadTree × Cursor) DocFail
tree_of p y = Ok (node y.0 (record_of p) p.entries p.groups, y.1)

-- a group whose children and end have been read
abbrev closed : Bool → ℕ → GroupParts × Cursor → Result (ReadTree × Cursor) DocFail
closed fits offset x = id_at_end fits offset x.0.id x.1 >>= tree_of x.0

with_id : (p : GroupParts) (after : Result Cursor DocFail) (id : Result NodeId DocFail)
    → ((after >>= λ a. id >>= λ u. Ok (u, a)) >>= tree_of p) ≡ (after >>= λ a. id >>= λ u. Ok (node u (record_of p) p.entries p.groups, a))
with_id p (Ok a) (Ok u) = refl
with_id p (Ok a) (Err e) = refl
with_id p (Err e) id = refl

-- a group whose id is known
pub group_made : (fits : Bool) (offset : ℕ) (parts kept : GroupParts) (at after : Cursor) (found : Option NodeId) (id : NodeId) (made : ReadTree)
    → found ≡ parts.id → id_at_end fits offset found at ≡ Ok (id, after) → kept ≡ parts → made ≡ node id (record_of kept) kept.entries kept.groups
    → whole_group fits offset parts at ≡ Ok (made, after)
group_made fits offset parts kept at after found id made is_id known same is =
    ap (λ o. id_at_end fits offset o at >>= tree_of parts) (sym is_id)
    ∙ (ap (λ d. d >>= tree_of parts) known
    ∙ (ap (λ (p : GroupParts). let r : Result (ReadTree × Cursor) DocFail = Ok (node id (record_of p) p.entries p.groups, after) in r) (sym same)
    ∙ ap (λ (t : ReadTree). let r : Result (ReadTree × Cursor) DocFail = Ok (t, after) in r) (sym is)))

-- or refused
pub id_refused : (fits : Bool) (offset : ℕ) (parts : GroupParts) (at : Cursor) (found : Option NodeId) (e : DocFail)
    → found ≡ parts.id → Fails e (id_at_end fits offset found at) → Fails {Y = ReadTree × Cursor} e (whole_group fits offset parts at)
id_refused fits offset parts at found e is_id fails =
    carried e (id_at_end fits offset found at) (whole_group fits offset parts at)
    (λ same. ap (λ o. id_at_end fits offset o at >>= tree_of parts) (sym is_id) ∙ ap (λ d. d >>= tree_of parts) same) fails

at_end : (fits : Bool) (offset : ℕ) (p : GroupParts) (text : Result (ElementText × Cursor) DocFail)
    → ((text >>= λ y. Ok (p, y.1)) >>= closed fits offset)
    ≡ (text >>= λ y. (if fits then count_node y.1 else Err (BadValue offset)) >>= λ a. node_id offset p.id >>= λ u. Ok (node u (record_of p) p.entries p.groups, a))
at_end fits offset p (Ok y) = with_id p (if fits then count_node y.1 else Err (BadValue offset)) (node_id offset p.id)
at_end fits offset p (Err e) = refl

parts_all : (s : Setting) (levels : ℕ) (content : Content) (p : GroupParts) (at : Cursor) → group_parts s levels content p at ≡ all_children (group_child s levels) content p at
parts_all s levels (last text) p at = refl
parts_all s levels (also text e more) p at =
    bound_same (group_child s levels p e at) (λ x. group_parts s levels more x.0 x.1) (λ x. all_children (group_child s levels) more x.0 x.1) (λ x. parts_all s levels more x.0 x.1)
parts_all s levels (cut text answer) p at = refl

-- a group is read as its children and its end, and then its id
group_as : (s : Setting) (levels : ℕ) (fits : Bool) (offset : ℕ) (name raw : List ℕ) (content : Content) (at : Cursor)
    → (children_and_end s (group_child s levels) offset raw [] content no_group at >>= closed fits offset) ≡ group s levels fits (element offset name raw content) at
group_as s levels fits offset name raw content at =
    let all = all_children (group_child s levels) content no_group at in
    regrouped all (λ x. text_at_end s offset raw (own_text content) x.1 >>= λ y. Ok (x.0, y.1)) (closed fits offset)
    ∙ (bound_same all _ _ (λ x. at_end fits offset x.0 (text_at_end s offset raw (own_text content) x.1))
    ∙ ap (λ r. r >>= λ x. text_at_end s offset raw (own_text content) x.1 >>= λ y. (if fits then count_node y.1 else Err (BadValue offset)) >>= λ a. node_id offset x.0.id >>= λ u. Ok (node u (record_of x.0) x.0.entries x.0.groups, a))
    (sym (parts_all s levels content no_group at)))

-- the children and the end of a group
abbrev pub children_step : ℕ → Tag → Rest GroupParts
children_step levels tag = contents_step (λ s. group_child s levels) no_group tag

abbrev as_group : (levels : ℕ) (fits : Bool) (tag : Tag) (old : Course)
    → (children_step levels tag old.setting (innermost (open_contents old.answers)) old.cursor >>= closed fits tag.offset)
    ≡ group_step levels fits tag old.setting (innermost (open_contents old.answers)) old.cursor
as_group levels fits tag old = group_as old.setting levels fits tag.offset tag.name.now tag.attrs.raw.now (innermost (open_contents old.answers)) old.cursor

-- they are read where nothing is known of the group
pub begun : {X : Type 0} (levels : ℕ) (tag : Tag) (old mid : Course) (r : Result X DocFail) (first p : GroupParts) → first ≡ no_group
    → Steps (λ _. p) old mid r (contents_step (λ s. group_child s levels) first tag) → Steps (λ _. p) old mid r (children_step levels tag)
begun levels tag old mid r first p new steps = subst (λ q. Steps (λ _. p) old mid r (contents_step (λ s. group_child s levels) q tag)) new steps

-- of a group whose children and end have been read
pub ended : {X : Type 0} (levels : ℕ) (fits : Bool) (tag : Tag) (old mid new : Course) (x : X) (p : GroupParts) (r : Result GroupDraft DocFail)
    → Steps (λ _. p) old mid (Ok x) (children_step levels tag)
    → Returns {Y = ReadTree × Cursor} (λ d. (draft_seen d, new.cursor)) r (whole_group fits tag.offset p mid.cursor)
    → new.answers ≡ mid.answers → new.setting ≡ mid.setting
    → Steps draft_seen old new r (group_step levels fits tag)
ended levels fits tag old mid new x p r steps gives answers setting = record {
  gives = given_same (λ d. (draft_seen d, new.cursor)) r _ _
      (sym (ap (λ d. d >>= closed fits tag.offset) steps.gives) ∙ as_group levels fits tag old) gives;
  left = on_ok r (ap open_contents answers ∙ steps.left);
  shorter = on_ok r (omega (arith, ap length answers, steps.shorter));
  setting = setting ∙ steps.setting;
}

-- of one whose children or end are refused
pub children_refused : {X : Type 0} (levels : ℕ) (fits : Bool) (tag : Tag) (old mid : Course) (p : GroupParts) (e : DocFail)
    → Steps {X = X} (λ _. p) old mid (Err e) (children_step levels tag)
    → Steps draft_seen old mid (Err e) (group_step levels fits tag)
children_refused levels fits tag old mid p e steps = record {
  gives = subst (Fails e) (as_group levels fits tag old) (carried e (children_step levels tag old.setting (innermost (open_contents old.answers)) old.cursor) _ (λ same. ap (λ d. d >>= closed fits tag.offset) same) steps.gives);
  left = tt;
  shorter = tt;
  setting = steps.setting;
}

-- ---- the groups in a group

-- one group more, after the others
one_more : (trees : List ReadTree) (tree : ReadTree) → side_by_side (trees ++ tree ∷ []) ≡ append_tree (side_by_side trees) tree
one_more [] tree = refl
one_more (t ∷ ts) tree = ap (beside t) (one_more ts tree)

pub one_more_draft : (drafts : List GroupDraft) (draft : GroupDraft)
    → side_by_side (map draft_seen (drafts ++ draft ∷ [])) ≡ append_tree (side_by_side (map draft_seen drafts)) (draft_seen draft)
one_more_draft drafts draft = ap side_by_side (one_more_seen draft_seen drafts draft) ∙ one_more (map draft_seen drafts) (draft_seen draft)

-- ---- a child of a group

-- by whether it is a group, and whether no level is left
abbrev child_if : Bool → Bool → Setting → ℕ → GroupParts → Element → Cursor → Result (GroupParts × Cursor) DocFail
child_if is_group too_deep s levels p e cursor =
    if is_group
    then (if too_deep then Err (TooDeep (offset_of e))
    else (group s (levels - 1) true e cursor >>= λ x. Ok (record p { groups = append_tree p.groups x.0 }, x.1)))
    else by_name s (group_rows s) p e cursor

abbrev step_if : Bool → Bool → ℕ → GroupParts → Tag → Rest GroupParts
step_if is_group too_deep levels p tag s content cursor =
    child_if is_group too_deep s levels p (element tag.offset tag.name.now tag.attrs.raw.now content) cursor

child_as : {X : Type 0} (view : X → GroupParts) (old new : Course) (r : Result X DocFail) (is_group too_deep : Bool) (levels : ℕ) (p : GroupParts) (tag : Tag)
    → bytes_eq tag.name.now (codes "Group") ≡ is_group → (levels == 0) ≡ too_deep
    → Steps view old new r (step_if is_group too_deep levels p tag)
    → Steps view old new r (child_step (λ s. group_child s levels) p tag)
child_as view old new r is_group too_deep levels p tag named deep steps =
    same_rest view old new r (step_if is_group too_deep levels p tag) (child_step (λ s. group_child s levels) p tag)
    (λ s content cursor.
    ap (λ b. step_if is_group b levels p tag s content cursor) (sym deep)
    ∙ ap (λ b. step_if b (levels == 0) levels p tag s content cursor) (sym named))
    steps

not_true : (b d : Bool) → b ≡ not d → b ≡ true → d ≡ false
not_true b true is e = cc
not_true b false is e = refl

not_false : (b d : Bool) → b ≡ not d → b ≡ false → d ≡ true
not_false b true is e = refl
not_false b false is e = cc

-- one that is no group
pub other_child : {X : Type 0} (view : X → GroupParts) (old new : Course) (r : Result X DocFail) (levels : ℕ) (p : GroupParts) (tag : Tag) (differs : Bool)
    → differs ≡ not (bytes_eq tag.name.now (codes "Group")) → differs ≡ true
    → Steps view old new r (child_step (λ s. by_name s (group_rows s)) p tag)
    → Steps view old new r (child_step (λ s. group_child s levels) p tag)
other_child view old new r levels p tag differs is e steps = child_as view old new r false (levels == 0) levels p tag (not_true differs _ is e) refl steps

-- a group where no level is left
pub too_deep : {X : Type 0} (view : X → GroupParts) (old : Course) (levels : ℕ) (p : GroupParts) (tag : Tag) (differs : Bool)
    → differs ≡ not (bytes_eq tag.name.now (codes "Group")) → differs ≡ false → levels ≡ 0
    → Steps view old old (Err (TooDeep tag.offset)) (child_step (λ s. group_child s levels) p tag)
too_deep view old levels p tag differs is e none =
    child_as view old old (Err (TooDeep tag.offset)) true true levels p tag (not_false differs _ is e) (ap (λ n. n == 0) none)
    (refused view old old (step_if true true levels p tag) (TooDeep tag.offset) refl refl)

-- a group that is read, and put with those before it
pub group_added : {Z : Type 0} (old new : Course) (draft : GroupDraft) (q : GroupParts) (r : Result Z DocFail) (levels : ℕ) (p : GroupParts) (tag : Tag) (differs : Bool)
    → differs ≡ not (bytes_eq tag.name.now (codes "Group")) → differs ≡ false → (levels ≡ 0 → ⊥)
    → Steps draft_seen old new (Ok draft) (group_step (levels - 1) true tag)
    → Returns (λ _. q) r (Ok (record p { groups = append_tree p.groups (draft_seen draft) }))
    → Steps (λ _. q) old new r (child_step (λ s. group_child s levels) p tag)
group_added old new draft q r levels p tag differs is e some steps puts =
    child_as (λ _. q) old new r true false levels p tag (not_false differs _ is e) (ne_eqb levels 0 some)
    (put_in (λ (t : ReadTree). let p' : GroupParts = record p { groups = append_tree p.groups t } in p') steps puts)

-- or refused
pub group_refused : {Z : Type 0} (view : Z → GroupParts) (old new : Course) (fail : DocFail) (levels : ℕ) (p : GroupParts) (tag : Tag) (differs : Bool)
    → differs ≡ not (bytes_eq tag.name.now (codes "Group")) → differs ≡ false → (levels ≡ 0 → ⊥)
    → Steps draft_seen old new (Err fail) (group_step (levels - 1) true tag)
    → Steps view old new (Err fail) (child_step (λ s. group_child s levels) p tag)
group_refused view old new fail levels p tag differs is e some steps =
    child_as view old new (Err fail) true false levels p tag (not_false differs _ is e) (ne_eqb levels 0 some)
    (refused_in (λ (t : ReadTree). let p' : GroupParts = record p { groups = append_tree p.groups t } in p') steps)

-- ---- where memory runs out

-- what says nothing of a value refuses nothing of an element
pub no_memory : {A X Y : Type 0} (view : X → Y) (old new : Course) (rest : Rest Y) (e : DocFail) (w : A) → Fails e (Ok w) → new.setting ≡ old.setting → Steps view old new (Err e) rest
no_memory view old new rest e w fails same =
    refused view old new rest e (carried e (Ok w) (rest old.setting (innermost (open_contents old.answers)) old.cursor) (λ (never : Ok w ≡ Err e). cc) fails) same
