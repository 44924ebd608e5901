-- The tombstones of a document rise by their ids, and none names a node.
use Rattle.std.proofs.Common.{◌≡◌, ℕ, Bool, true, false, cond, List, [], ◌∷◌, refl, sym, ap, subst, ◌∙◌}
use Rattle.std.specs.declared.cmp.Ordering.{Ordering}
use Rattle.std.specs.declared.cmp.Ordering.TheVariants.{Less, Equal, Greater}
use Rattle.std.specs.List.{filter, list_all}
use Rattle.std.specs.Ordering.{is_lt, ordering_reverse}
use Rattle.vault_model.specs.Db.{NodeId}
use Rattle.vault_model.specs.Orders.{bytes_cmp}
use Rattle.vault_model.specs.Proper.{rises}
use Rattle.vault_model.specs.SeenNodes.{are_tombs_apart, tombs_rise}
use Rattle.vault_model.specs.Tree.{Tree, is_elsewhere}
use Rattle.vault_model.specs.declared.nodes.Tombstone.{Tombstone}
use Rattle.vault_model.proofs.Orders.{id_order}
use Rattle.vault_model.proofs.Tests.{and_true, and_both}
use Rattle.doc_forms.specs.Ids.{bury, bury_all, bury_beside, tombs_of}

-- ---- what is kept of a list

module _ {A : Type 0} (p : A → Bool) where
  all_or : (test : A → Bool) (b : Bool) (x : A) (ys : List A) → test x ≡ true → list_all test ys ≡ true → list_all test (cond b (x ∷ ys) ys) ≡ true
  all_or test true x ys t e = and_both (test x) (list_all test ys) t e
  all_or test false x ys t e = e

  all_kept : (test : A → Bool) (xs : List A) → list_all test xs ≡ true → list_all test (filter p xs) ≡ true
  all_kept test [] e = refl
  all_kept test (x ∷ xs) e =
      let both = and_true (test x) (list_all test xs) e in
      all_or test (p x) x (filter p xs) both.0 (all_kept test xs both.1)

  passed_or : (b : Bool) (x : A) (ys : List A) → p x ≡ b → list_all p ys ≡ true → list_all p (cond b (x ∷ ys) ys) ≡ true
  passed_or true x ys t e = and_both (p x) (list_all p ys) t e
  passed_or false x ys t e = e

  -- what is kept passes the test
  pub all_pass : (xs : List A) → list_all p (filter p xs) ≡ true
  all_pass [] = refl
  all_pass (x ∷ xs) = passed_or (p x) x (filter p xs) refl (all_pass xs)

  rises_or : (key : A → List ℕ) (b : Bool) (x : A) (ys : List A) → list_all (λ (y : A). is_lt (bytes_cmp (key x) (key y))) ys ≡ true → rises key ys ≡ true → rises key (cond b (x ∷ ys) ys) ≡ true
  rises_or key true x ys first rest = and_both (list_all (λ (y : A). is_lt (bytes_cmp (key x) (key y))) ys) (rises key ys) first rest
  rises_or key false x ys first rest = rest

  -- it rises still
  pub rises_kept : (key : A → List ℕ) (xs : List A) → rises key xs ≡ true → rises key (filter p xs) ≡ true
  rises_kept key [] e = refl
  rises_kept key (x ∷ xs) e =
      let both = and_true (list_all (λ (y : A). is_lt (bytes_cmp (key x) (key y))) xs) (rises key xs) e in
      rises_or key (p x) x (filter p xs) (all_kept (λ (y : A). is_lt (bytes_cmp (key x) (key y))) xs both.0) (rises_kept key xs both.1)

-- ---- one more tombstone

-- ids above another
abbrev are_above : NodeId → List Tombstone → Bool
are_above u ts = list_all (λ (t : Tombstone). is_lt (bytes_cmp u t.id)) ts

less : (o : Ordering) → is_lt o ≡ true → o ≡ Less
less Less e = refl
less Equal e = cc e
less Greater e = cc e

above_still : (a b : NodeId) (ts : List Tombstone) → bytes_cmp a b ≡ Less → are_above b ts ≡ true → are_above a ts ≡ true
above_still a b [] e above = refl
above_still a b (t ∷ ts) e above =
    let both = and_true (is_lt (bytes_cmp b t.id)) (are_above b ts) above in
    and_both (is_lt (bytes_cmp a t.id)) (are_above a ts) (ap is_lt (id_order.total.trans a b t.id e (less (bytes_cmp b t.id) both.0))) (above_still a b ts e both.1)

above_buried : (u : NodeId) (o : Ordering) (t s : Tombstone) (ss after : List Tombstone)
    → is_lt (bytes_cmp u t.id) ≡ true
    → is_lt (bytes_cmp u s.id) ≡ true
    → are_above u ss ≡ true
    → are_above u after ≡ true
    → are_above u (bury_beside o t s ss after) ≡ true
above_buried u Less t s ss after a b c d = and_both (is_lt (bytes_cmp u t.id)) (are_above u (s ∷ ss)) a (and_both (is_lt (bytes_cmp u s.id)) (are_above u ss) b c)
above_buried u Equal t s ss after a b c d = and_both (is_lt (bytes_cmp u t.id)) (are_above u ss) a c
above_buried u Greater t s ss after a b c d = and_both (is_lt (bytes_cmp u s.id)) (are_above u after) b d

above_bury : (u : NodeId) (t : Tombstone) (ts : List Tombstone) → is_lt (bytes_cmp u t.id) ≡ true → are_above u ts ≡ true → are_above u (bury t ts) ≡ true
above_bury u t [] a e = and_both (is_lt (bytes_cmp u t.id)) true a refl
above_bury u t (s ∷ ss) a e =
    let both = and_true (is_lt (bytes_cmp u s.id)) (are_above u ss) e in
    above_buried u (bytes_cmp t.id s.id) t s ss (bury t ss) a both.0 both.1 (above_bury u t ss a both.1)

reversed_order : (a b : NodeId) → bytes_cmp a b ≡ Greater → bytes_cmp b a ≡ Less
reversed_order a b e = id_order.total.antisymm b a ∙ ap ordering_reverse e

rises_buried : (o : Ordering) (t s : Tombstone) (ss : List Tombstone)
    → bytes_cmp t.id s.id ≡ o
    → are_above s.id ss ≡ true
    → tombs_rise ss ≡ true
    → tombs_rise (bury t ss) ≡ true
    → tombs_rise (bury_beside o t s ss (bury t ss)) ≡ true
rises_buried Less t s ss e above up rest =
    and_both (are_above t.id (s ∷ ss)) (tombs_rise (s ∷ ss))
    (and_both (is_lt (bytes_cmp t.id s.id)) (are_above t.id ss) (ap is_lt e) (above_still t.id s.id ss e above))
    (and_both (are_above s.id ss) (tombs_rise ss) above up)
rises_buried Equal t s ss e above up rest =
    and_both (are_above t.id ss) (tombs_rise ss) (subst (λ (u : NodeId). are_above u ss ≡ true) (sym (id_order.same t.id s.id e)) above) up
rises_buried Greater t s ss e above up rest =
    and_both (are_above s.id (bury t ss)) (tombs_rise (bury t ss)) (above_bury s.id t ss (ap is_lt (reversed_order t.id s.id e)) above) rest

rises_bury : (t : Tombstone) (ts : List Tombstone) → tombs_rise ts ≡ true → tombs_rise (bury t ts) ≡ true
rises_bury t [] up = refl
rises_bury t (s ∷ ss) up =
    let both = and_true (are_above s.id ss) (tombs_rise ss) up in
    rises_buried (bytes_cmp t.id s.id) t s ss refl both.0 both.1 (rises_bury t ss both.1)

rises_all : (ts : List Tombstone) → tombs_rise (bury_all ts) ≡ true
rises_all [] = refl
rises_all (t ∷ ts) = rises_bury t (bury_all ts) (rises_all ts)

-- ---- those of a document

pub rising_tombs : (tree : Tree) (ts : List Tombstone) → tombs_rise (tombs_of tree ts) ≡ true
rising_tombs tree ts = rises_kept (λ (t : Tombstone). is_elsewhere tree t.id) (λ t. t.id) (bury_all ts) (rises_all ts)

pub apart_tombs : (tree : Tree) (ts : List Tombstone) → are_tombs_apart tree (tombs_of tree ts) ≡ true
apart_tombs tree ts = all_pass (λ (t : Tombstone). is_elsewhere tree t.id) (bury_all ts)
