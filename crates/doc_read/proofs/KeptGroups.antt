-- What is read of a group is kept: its texts are UTF-8, items rise, no id is nil, and it is no higher than it may be.
use Rattle.std.proofs.Common.{◌≡◌, ℕ, ◌-◌, Bool, true, false, not, cond, ◌&&◌, List, codes, Result, Ok, Err, IfOk, refl, bytes_eq, nat_lt, ◌==◌, arith}
use Rattle.std.proofs.lemmas.Bool.Decides.{nat_tests}
use lib.Utf8.{encode}
use Rattle.std.specs.List.{list_all}
use Rattle.std.specs.Str.{is_utf8, chars}
use Rattle.markup_grammar.specs.Elements.{Element, Content, element, last, also, cut, own_text}
use Rattle.vault_model.specs.Db.{NodeId, nil_id}
use Rattle.vault_model.specs.Proper.{is_proper_group_content}
use Rattle.vault_model.specs.declared.contents.GroupContent.{GroupContent}
use Rattle.vault_model.proofs.Tests.{and_true, and_both}
use Rattle.doc_forms.specs.declared.cursor.Cursor.{Cursor}
use Rattle.doc_forms.specs.declared.fails.DocFail.{DocFail}
use Rattle.doc_forms.specs.declared.fails.DocFail.TheVariants.{BadValue, TooDeep}
use Rattle.doc_forms.specs.Entries.{id_or_none, node_id}
use Rattle.doc_forms.specs.Groups.{GroupParts, ReadTree, ReadTrees, append_tree, beside, group, group_end, group_parts, group_rows, no_group, node, none, record_of}
use Rattle.doc_forms.specs.KeptParts.{are_kept_trees, is_kept_entry, is_kept_tree}
use Rattle.doc_forms.specs.Children.{by_name, count_node, name_of, offset_of}
use Rattle.doc_forms.specs.ElementTexts.{Setting, text_at_end}
use Rattle.outside_core.specs.Results.{◌>>=◌}
use Rattle.doc_read.proofs.Keeping.{◌&◌, step_and_next, any_and_next, either_step, refusal_keeps, Rows, by_name_keeps, text_row, any_row}
use Rattle.doc_read.proofs.KeptEntries.{KeptItems, times_row, custom_data_row, id_row, node_kept, entry_row}
use Rattle.doc_read.proofs.Rising.{all_later}

-- what is known of a group is in order, with at most so many levels below it
abbrev KeptGroup : ℕ → GroupParts → Type 0
KeptGroup levels p =
    (is_utf8 p.content.name ≡ true) × (is_utf8 p.content.notes ≡ true) × (is_utf8 p.content.sequence ≡ true) × (is_utf8 p.content.tags ≡ true)
    × KeptItems p.content.items × (list_all is_kept_entry p.entries ≡ true) × (are_kept_trees levels p.groups ≡ true)

no_group_kept : (levels : ℕ) → KeptGroup levels no_group
unfolding is_utf8 chars encode
no_group_kept levels = (refl, refl, refl, refl, (refl, refl), refl, refl)

proper : (c : GroupContent) → is_utf8 c.name ≡ true → is_utf8 c.notes ≡ true → is_utf8 c.sequence ≡ true → is_utf8 c.tags ≡ true → KeptItems c.items → is_proper_group_content c ≡ true
unfolding is_proper_group_content
proper c n o q t i = rw (i.0, i.1, n, o, q, t) refl

rows_kept : (levels : ℕ) (s : Setting) → Rows (KeptGroup levels) (group_rows s)
rows_kept levels s =
    id_row (KeptGroup levels) s _ (λ p v g. g)
    & text_row (KeptGroup levels) s _ (λ p v g u. (u, g.1, g.2, g.3, g.4, g.5, g.6))
    & text_row (KeptGroup levels) s _ (λ p v g u. (g.0, u, g.2, g.3, g.4, g.5, g.6))
    & text_row (KeptGroup levels) s _ (λ p v g u. (g.0, g.1, g.2, u, g.4, g.5, g.6))
    & any_row (KeptGroup levels) s _ _ (λ p v g. g)
    & any_row (KeptGroup levels) s id_or_none _ (λ p v g. g)
    & times_row (KeptGroup levels) s _ (λ p v g. g)
    & any_row (KeptGroup levels) s _ _ (λ p v g. g)
    & text_row (KeptGroup levels) s _ (λ p v g u. (g.0, g.1, u, g.3, g.4, g.5, g.6))
    & any_row (KeptGroup levels) s _ _ (λ p v g. g)
    & any_row (KeptGroup levels) s _ _ (λ p v g. g)
    & any_row (KeptGroup levels) s _ _ (λ p v g. g)
    & any_row (KeptGroup levels) s _ _ (λ p v g. g)
    & custom_data_row (KeptGroup levels) s _ (λ p v g u. (g.0, g.1, g.2, g.3, u, g.5, g.6))
    & entry_row (KeptGroup levels) s _ (λ p v g u. (g.0, g.1, g.2, g.3, g.4, all_later is_kept_entry p.entries v g.5 u, g.6))
    & tt

-- ---- levels

one_more_tree : (levels : ℕ) (ts : ReadTrees) (t : ReadTree) → nat_lt 0 levels ≡ true → is_kept_tree (levels - 1) t ≡ true
    → are_kept_trees levels ts ≡ true → are_kept_trees levels (append_tree ts t) ≡ true
one_more_tree levels none t some kept all = rw (some, kept) refl
one_more_tree levels (beside u us) t some kept all =
    let both = and_true (nat_lt 0 levels && is_kept_tree (levels - 1) u) (are_kept_trees levels us) all in
    and_both (nat_lt 0 levels && is_kept_tree (levels - 1) u) (are_kept_trees levels (append_tree us t)) both.0
    (one_more_tree levels us t some kept both.1)

some_level : (levels : ℕ) → (levels == 0) ≡ false → nat_lt 0 levels ≡ true
some_level levels e = grind (arith, nat_tests)

-- a group in a group
abbrev with_tree : GroupParts → ReadTree × Cursor → Result (GroupParts × Cursor) DocFail
with_tree p x = Ok (record p { groups = append_tree p.groups x.0 }, x.1)

deeper : (b : Bool) (levels offset : ℕ) (p : GroupParts) (r : Result (ReadTree × Cursor) DocFail) → (levels == 0) ≡ b → KeptGroup levels p
    → IfOk r (λ x. is_kept_tree (levels - 1) x.0 ≡ true)
    → IfOk (cond b (Err (TooDeep offset)) (r >>= with_tree p)) (λ x. KeptGroup levels x.0)
deeper true levels offset p r e g k = tt
deeper false levels offset p r e g k =
    step_and_next (λ x. is_kept_tree (levels - 1) x.0 ≡ true) (λ x. KeptGroup levels x.0) r (with_tree p) k
    (λ x t. (g.0, g.1, g.2, g.3, g.4, g.5, one_more_tree levels p.groups x.0 (some_level levels e) t g.6))

whole_group : (levels : ℕ) (u : NodeId) (p : GroupParts) → not (bytes_eq u nil_id) ≡ true → KeptGroup levels p
    → is_kept_tree levels (node u (record_of p) p.entries p.groups) ≡ true
whole_group levels u p n g = rw (n, proper (record_of p).state.content g.0 g.1 g.2 g.3 g.4, g.5, g.6) refl

end_kept : (s : Setting) (levels : ℕ) (fits : Bool) (offset : ℕ) (raw text : List ℕ) (p : GroupParts) (cursor : Cursor) → KeptGroup levels p
    → IfOk (group_end s fits offset raw text p cursor) (λ x. is_kept_tree levels x.0 ≡ true)
end_kept s levels fits offset raw text p cursor g =
    any_and_next (λ x. is_kept_tree levels x.0 ≡ true) (text_at_end s offset raw text cursor) _ (λ y.
    any_and_next (λ x. is_kept_tree levels x.0 ≡ true) (cond fits (count_node y.1) (Err (BadValue offset))) _ (λ later.
    step_and_next (λ u. not (bytes_eq u nil_id) ≡ true) (λ x. is_kept_tree levels x.0 ≡ true) (node_id offset p.id)
    (λ u. Ok (node u (record_of p) p.entries p.groups, later)) (node_kept offset p.id) (λ u n. whole_group levels u p n g)))

-- ---- groups

mutual
  pub group_kept : (s : Setting) (levels : ℕ) (fits : Bool) (e : Element) (cursor : Cursor) → IfOk (group s levels fits e cursor) (λ x. is_kept_tree levels x.0 ≡ true)
  group_kept s levels fits (element offset name raw content) cursor =
      step_and_next (λ x. KeptGroup levels x.0) (λ x. is_kept_tree levels x.0 ≡ true) (group_parts s levels content no_group cursor) _
      (parts_kept s levels content no_group cursor (no_group_kept levels))
      (λ x g. end_kept s levels fits offset raw (own_text content) x.0 x.1 g)

  parts_kept : (s : Setting) (levels : ℕ) (content : Content) (p : GroupParts) (cursor : Cursor) → KeptGroup levels p
      → IfOk (group_parts s levels content p cursor) (λ x. KeptGroup levels x.0)
  parts_kept s levels (last text) p cursor g = g
  parts_kept s levels (also text e more) p cursor g =
      step_and_next (λ x. KeptGroup levels x.0) (λ x. KeptGroup levels x.0) _ (λ x. group_parts s levels more x.0 x.1)
      (either_step (λ x. KeptGroup levels x.0) (bytes_eq (name_of e) (codes "Group")) _ (by_name s (group_rows s) p e cursor)
      (deeper (levels == 0) levels (offset_of e) p (group s (levels - 1) true e cursor) refl g (group_kept s (levels - 1) true e cursor))
      (by_name_keeps (KeptGroup levels) s (group_rows s) (rows_kept levels s) p e cursor g))
      (λ x better. parts_kept s levels more x.0 x.1 better)
  parts_kept s levels (cut text answer) p cursor g = refusal_keeps (λ x. KeptGroup levels x.0) answer
