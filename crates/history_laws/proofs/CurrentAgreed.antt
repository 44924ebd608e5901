-- Whether sound databases agree is seen in what is current of them.
use Rattle.std.proofs.Common.{◌≡◌, ◌≤◌, inl, inr, List, [], ◌∷◌, map, refl, sym, ap, subst, ◌∙◌}
use Rattle.std.specs.FinMap.{contains_key, get}
use Rattle.vault_model.specs.Db.{Db, stamp_in, steps}
use Rattle.vault_model.specs.Join.{IsAcyclic, IsIn, IsNotEmpty, IsWithin, KeepsParents, above, latest, own, root_of}
use Rattle.vault_model.proofs.Tests.{from_map, in_map}
use Rattle.history_laws.specs.Current.{current_view}
use Rattle.history_laws.specs.CurrentLaws.{AgreementIsCurrent}
use Rattle.history_laws.proofs.CurrentJoin.{above_now, view_has, view_stamp, now_latest, now_own, now_root}

-- a member of one list has a twin in another that is alike
twin : (S T : List Db) → map current_view S ≡ map current_view T → (m : Db) → IsIn m S → (n : Db) × (IsIn n T × (current_view n ≡ current_view m))
twin S T same m h = from_map current_view T (current_view m) (subst (λ (xs : List Db). IsIn (current_view m) xs) same (in_map current_view S m h))

-- and so has a part
twins : (S T : List Db) → map current_view S ≡ map current_view T → (R : List Db) → IsWithin R S → (Q : List Db) × ((map current_view Q ≡ map current_view R) × IsWithin Q T)
twins S T same [] f = ([], (refl, λ m h. absurd h))
twins S T same (m ∷ ms) f =
    let n = twin S T same m (f m (inl refl)) in
    let rest = twins S T same ms (λ x h. f x (inr h)) in
    (n.0 ∷ rest.0, ((λ i. n.1.1 i ∷ rest.1.0 i), λ x h. elim h [ inl p ↦ subst (λ (y : Db). IsIn y T) p n.1.0 | inr k ↦ rest.1.1 x k ]))

some_twins : (Q R : List Db) → map current_view Q ≡ map current_view R → IsNotEmpty R → IsNotEmpty Q
some_twins [] [] e some = some
some_twins [] (m ∷ ms) e some = subst IsNotEmpty (sym e) tt
some_twins (n ∷ ns) R e some = tt

module _ (Q R : List Db) (same : map current_view Q ≡ map current_view R) where
  roots : root_of Q ≡ root_of R
  roots = sym (now_root Q) ∙ ap root_of same ∙ now_root R

  aboves : above Q ≡ above R
  aboves = sym (above_now Q) ∙ ap above same ∙ above_now R

  filled_alike : KeepsParents Q → KeepsParents R
  filled_alike keeps u p m e l h =
      let n = twin R Q (sym same) m h in
      ap (λ (x : Db). get x.tombs p.parent) (sym n.1.1)
      ∙ keeps u p n.0 (sym (now_own Q u) ∙ ap (λ X. own X u) same ∙ now_own R u ∙ e) (sym (now_latest Q u) ∙ ap (λ X. latest X u) same ∙ now_latest R u ∙ l) n.1.0

  acyclic_alike : IsAcyclic Q → IsAcyclic R
  acyclic_alike arrives u e =
      let r = arrives u (sym (now_own Q u) ∙ ap (λ X. own X u) same ∙ now_own R u ∙ e) in
      (r.0, ap (λ up. steps up r.0 u) (sym aboves) ∙ r.1 ∙ roots)

pub agreed_alike : AgreementIsCurrent
agreed_alike S T same sound a =
    let back = sym same in
    record {
      compatible = record {
        sound = sound;
        root = λ m h. let n = twin S T same m h in ap (λ (x : Db). x.root) (sym n.1.1) ∙ a.compatible.root n.0 n.1.0 ∙ sym (roots S T same);
        kinds = λ m k u h i e.
            let x = twin S T same m h in
            let y = twin S T same k i in
            ap (λ (z : Db). contains_key z.groups u) (sym y.1.1)
            ∙ a.compatible.kinds x.0 y.0 u x.1.0 y.1.0 (sym (view_has x.0 u) ∙ ap (λ (z : Db). contains_key z.entries u) x.1.1 ∙ view_has m u ∙ e);
        tombs = λ m k u d h i e.
            let x = twin S T same m h in
            let y = twin S T same k i in
            subst (λ n. n ≤ d) (sym (view_stamp y.0 u) ∙ ap (λ (z : Db). stamp_in z u) y.1.1 ∙ view_stamp k u)
            (a.compatible.tombs x.0 y.0 u d x.1.0 y.1.0 (ap (λ (z : Db). get z.tombs u) x.1.1 ∙ e));
      };
      filled = λ R part.
          let q = twins S T same R part.1 in
          filled_alike q.0 R q.1.0 (a.filled q.0 (some_twins q.0 R q.1.0 part.0, q.1.1));
      acyclic = λ R part.
          let q = twins S T same R part.1 in
          acyclic_alike q.0 R q.1.0 (a.acyclic q.0 (some_twins q.0 R q.1.0 part.0, q.1.1));
    }
