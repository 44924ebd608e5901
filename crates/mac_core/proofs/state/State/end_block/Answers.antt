use Rattle.std.proofs.Common.{◌≡◌, ◌+◌, [], length, sym, ◌∙◌, refl, subst, arith}
use Rattle.std.proofs.lemmas.List.{nil_from_length}
use Rattle.mac_core.specs.Blocks.{length_prefixed}
use Rattle.mac_core.specs.RunningMac.{Hears}
use Rattle.mac_core.proofs.BlockLists.{same_size}
use Rattle.mac_core.proofs.StateSteps.{damaged, ended, hears_whole, right}
use Rattle.mac_core.proofs.state.State.end_block.Goals as goal

pub returns-then-not-is_same-clause-stands : goal.returns-then-not-is_same-clause-stands
returns-then-not-is_same-clause-stands c = λ start out bytes same_base h.
    let s = c.args.self.now in
    let none : s.left ≡ 0 = omega arith in
    let hears = subst (λ r. Hears r start.base s.index (length_prefixed h.content)) (sym c.replace.ensures.value) (hears_whole start s out bytes h none) in
    let found = c.finish-found.ensures start.base s.index h.content hears in
    damaged start s out bytes h none c.requires.head
    (λ e. let t = c.is_same.ensures.1 (found ∙ sym e) in cc)

pub returns-then-size_of-eq0-clause-stands : goal.returns-then-size_of-eq0-clause-stands
returns-then-size_of-eq0-clause-stands c = λ start out bytes same_base h.
    let s = c.args.self.now in
    let none : s.left ≡ 0 = omega arith in
    let hears = subst (λ r. Hears r start.base s.index (length_prefixed h.content)) (sym c.replace.ensures.value) (hears_whole start s out bytes h none) in
    let found = c.finish-found.ensures start.base s.index h.content hears in
    let size = same_size c.size_of.result (length h.content + s.left) c.size_of.type_inv h.small (c.size_of.ensures ∙ h.size) in
    ended start s out bytes h none (sym (c.is_same.ensures.0 c.if-not-is_same.false) ∙ found) (nil_from_length h.content (omega arith))

pub returns-else-size_of-eq0-clause-stands : goal.returns-else-size_of-eq0-clause-stands
returns-else-size_of-eq0-clause-stands c = λ start out bytes same_base h.
    let s = c.args.self.now in
    let none : s.left ≡ 0 = omega arith in
    let hears = subst (λ r. Hears r start.base s.index (length_prefixed h.content)) (sym c.replace.ensures.value) (hears_whole start s out bytes h none) in
    let found = c.finish-found.ensures start.base s.index h.content hears in
    let size = same_size c.size_of.result (length h.content + s.left) c.size_of.type_inv h.small (c.size_of.ensures ∙ h.size) in
    let first = subst (λ base. Hears c.new-next.result base (s.index + 1) []) same_base c.new-next.ensures in
    right start s _ out bytes h none (sym (c.is_same.ensures.0 c.if-not-is_same.false) ∙ found) (omega arith) refl refl (subst (λ r. Hears r start.base (s.index + 1) []) (sym c.replace.ensures.after) first)
