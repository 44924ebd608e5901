use Rattle.std.proofs.Common.{◌≡◌, ◌+◌, ◌-◌, ◌<◌, ◌≤◌, ◌++◌, ◌∷◌, [], List, ℕ, drop, length, get_or, append_assoc, append-nil, ap, sym, ◌∙◌, arith, subst}
use Rattle.std.proofs.lemmas.List.{drop_more, drop_all, get_or-map, get_or-reverse, length-map, length-reverse}
use Rattle.std.specs.Prelude.{OnOk, map, reverse}
use Rattle.vault_model.specs.SeenNodes.{bare_version, entry_record}
use Rattle.vault_model.specs.Shape.{BareVersion}
use Rattle.vault_model.specs.declared.nodes.Version.{Version}
use Rattle.cli_showing.specs.History.{history_text, version_line, version_lines}
use Rattle.cli_showing.proofs.history.append_versions.Goals as goal

-- the versions from the newest on
abbrev rising_back : List Version → List BareVersion
rising_back vs = reverse (map bare_version vs)

as_many : (vs : List Version) → length (rising_back vs) ≡ length vs
as_many vs = length-reverse (map bare_version vs) ∙ length-map vs bare_version

-- the next of them
one_older : (vs : List Version) (n : ℕ) (older : Version) → n < length vs → older ≡ get_or vs (length vs - 1 - n) older
    → drop n (rising_back vs) ≡ bare_version older ∷ drop (n + 1) (rising_back vs)
one_older vs n older below here =
    let count = length-map vs bare_version in
    let at : length vs - 1 - n < length vs = omega arith in
    drop_more (rising_back vs) n (bare_version older) (omega (arith, as_many vs))
    ∙ ap (λ (v : BareVersion). v ∷ drop (n + 1) (rising_back vs))
    (get_or-reverse (map bare_version vs) n (bare_version older) (omega (arith, count))
    ∙ ap (λ (k : ℕ). get_or (map bare_version vs) (k - 1 - n) (bare_version older)) count
    ∙ get_or-map bare_version vs (length vs - 1 - n) older (bare_version older) at
    ∙ ap bare_version (sym here))

-- none is left
none_older : (vs : List Version) (n : ℕ) → length vs ≤ n → drop n (rising_back vs) ≡ []
none_older vs n past = drop_all n (rising_back vs) (omega (arith, as_many vs))

pub loop-number-preserved : goal.loop-number-preserved
loop-number-preserved c =
    let vs = c.as_slice-history.result.now in
    let n = c.loop-number.number in
    let version = bare_version c.loop-number.version.now in
    let older = bare_version c.index-history-count.result in
    let so_far = c.loop-number.text.bytes in
    let rest = drop (n + 1) (rising_back vs) in
    ap (λ (t : List ℕ). t ++ version_lines (n + 1) (older ∷ rest)) c.in_ok-append_version.ensures
    ∙ append_assoc so_far (version_line n version (older ∷ [])) (version_lines (n + 1) (older ∷ rest))
    ∙ ap (λ (l : List BareVersion). so_far ++ version_lines n (version ∷ l))
    (sym (one_older vs n c.index-history-count.result c.loop-number-test.true c.index-history-count.is))
    ∙ c.loop-number.invariant

pub returns : goal.returns
returns c =
    let vs = c.as_slice-history.result.now in
    let n = c.loop-number.number in
    let version = bare_version c.loop-number.version.now in
    let so_far = c.loop-number.text.bytes in
    let all : length vs ≡ n = omega arith in
    let told : so_far ++ version_line (length vs) version [] ≡ c.args.text.now.bytes ++ history_text (entry_record c.args.entry.now) =
    ap (λ (l : List ℕ). so_far ++ l) (sym (append-nil (version_line (length vs) version [])))
    ∙ ap (λ (k : ℕ). so_far ++ version_lines k (version ∷ [])) all
    ∙ ap (λ (l : List BareVersion). so_far ++ version_lines n (version ∷ l)) (sym (none_older vs n c.loop-number-test.false))
    ∙ c.loop-number.invariant in
    subst (λ (l : List ℕ). OnOk c.append_oldest.result (c.append_oldest.new.text.bytes ≡ l)) told c.append_oldest.ensures
