use Rattle.std.proofs.Common.{◌≡◌, ◌<◌, ◌+◌, ◌-◌, true, length, rules, sym, ap, ◌∙◌, arith}
use Rattle.bitwarden_fields.specs.Keys.{first_free, has_key, numbered_key}
use Rattle.bitwarden_fields.specs.Seen.{fields_seen}
use Rattle.bitwarden_fields.proofs.Gathered.{is_taken}
use Rattle.bitwarden_fields.proofs.keys.first_free.Goals as goal

pub loop-number-preserved : goal.loop-number-preserved
loop-number-preserved c =
    let fields = fields_seen c.args.fields.now in
    let key = c.args.key.now in
    let number = c.loop-number.number in
    let left = length c.args.fields.now + 2 - number in
    let some : 0 < left = omega (arith, c.loop-number-test.true) in
    let held : c.has_key.result ≡ true = search rules in
    let taken : has_key fields (numbered_key key number) ≡ true = sym (c.has_key.ensures ∙ ap (has_key fields) (c.as_str.ensures ∙ c.in_ok-text.ensures)) ∙ held in
    let next : left - 1 ≡ length c.args.fields.now + 2 - (number + 1) = omega arith in
    c.loop-number.invariant ∙ is_taken left number fields key some taken ∙ ap (λ n. first_free n (number + 1) fields key) next
