use Rattle.std.proofs.Common.{◌≡◌, ◌-◌, ◌⊎◌, inl, inr, List, ℕ, Bool, [], false, drop, length, map, subst, ap, ◌∙◌, arith, take_all, length-drop}
use Rattle.std.specs.Prelude.{slice_range}
use Rattle.std.specs.Result.{IfOk}
use Rattle.std.proofs.lemmas.List.{drop_all}
use Rattle.vault_model.specs.Bare.{BareField}
use Rattle.vault_model.specs.Seen.{bare_field}
use Rattle.vault_model.specs.declared.contents.Field.{Field}
use Rattle.cli_showing.specs.History.{names_changed}
use Rattle.cli_showing.specs.inside.Names.{put_names}
use Rattle.cli_showing.proofs.PutNames.{one_left}
use Rattle.cli_showing.proofs.changes.append_fields.Goals as goal
use Rattle.cli_showing.proofs.changes.append_fields.Goals.{then-loop-at-test+else-passed-older, else-loop-at-test}

-- what is left of a list
left : (xs : List Field) (at : ℕ) → slice_range xs at (length xs) ≡ drop at xs
left xs at = take_all (length xs - at) (drop at xs) (omega (arith, length-drop at xs))

pub returns : goal.returns
returns c =
    let at = c.loop-at.at in
    let passed = c.loop-at.passed in
    let newer : List BareField = map bare_field (drop at c.args.newer.now) in
    let older : List BareField = map bare_field (drop passed c.args.older.now) in
    let keys = λ (fields : List BareField). map (λ (f : BareField). f.key) fields in
    let none : (newer ≡ []) ⊎ (older ≡ []) =
    elim c.loop-at-test.branch [
      | then-loop-at-test+else-passed-older w ↦
          inr (ap (λ (l : List Field). map bare_field l) (drop_all passed c.args.older.now w.if-passed-older.false))
      | else-loop-at-test w ↦ inl (ap (λ (l : List Field). map bare_field l) (drop_all at c.args.newer.now w.loop-at-test.false))
    ] in
    let newer_told : ◌≡◌ {A = List ℕ × Bool} (c.append_all.new.text.bytes, c.in_ok-some-2.some)
    (put_names (keys newer) (c.loop-at.text.bytes, c.loop-at.some)) =
    c.in_ok-some-2.ensures
    ∙ ap (λ (l : List Field). put_names (keys (map bare_field l)) (c.loop-at.text.bytes, c.loop-at.some)) (left c.args.newer.now at) in
    let told : ◌≡◌ {A = List ℕ × Bool} (put_names (keys older) (c.append_all.new.text.bytes, c.in_ok-some-2.some))
    (put_names (names_changed (map bare_field c.args.newer.now) (map bare_field c.args.older.now)) (c.args.text.now.bytes, false)) =
    ap (put_names (keys older)) newer_told ∙ one_left newer older (c.loop-at.text.bytes, c.loop-at.some) none ∙ c.loop-at.invariant.same in
    let last : ◌≡◌ {A = List ℕ × Bool}
    (put_names (keys (map bare_field (slice_range c.args.older.now passed (length c.args.older.now)))) (c.append_all.new.text.bytes, c.in_ok-some-2.some))
    (put_names (keys older) (c.append_all.new.text.bytes, c.in_ok-some-2.some)) =
    ap (λ (l : List Field). put_names (keys (map bare_field l)) (c.append_all.new.text.bytes, c.in_ok-some-2.some)) (left c.args.older.now passed) in
    subst (λ (s : List ℕ × Bool). IfOk c.append_all-2.result (λ more. ◌≡◌ {A = List ℕ × Bool} (c.append_all-2.new.text.bytes, more) s)) (last ∙ told)
    c.append_all-2.ensures
