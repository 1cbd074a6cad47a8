use Rattle.std.proofs.Common.{◌≡◌, ◌-◌, [], rules, ap, arith, sym, ◌∙◌}
use Rattle.std.proofs.lemmas.Nat.{and_le_l}
use Rattle.cn_outcomes.specs.Bits.{members}
use Rattle.cn_outcomes.proofs.MemberLemmas.{members_first, members_none}
use Rattle.cn_outcomes.proofs.bits.MembersIterator.next.Goals as goal

pub returns-then-left-eq0-clause-steps : goal.returns-then-left-eq0-clause-steps
returns-then-left-eq0-clause-steps c =
    let none : c.args.self.now ≡ [] = sym c.self.view_is ∙ (ap members c.if-left-eq0.true ∙ members_none) in
    (none, none)

pub invariant_of-self : goal.invariant_of-self
invariant_of-self c = omega (arith, c.self.invariant, and_le_l c.self.inside.left (c.self.inside.left - 1))

pub returns-clause-steps : goal.returns-clause-steps
returns-clause-steps c =
    sym c.self.view_is ∙ members_first c.self.inside.left (omega (arith, c.if-left-eq0.false)) c.self.invariant

pub returns-clause-goes : goal.returns-clause-goes
returns-clause-goes c =
    let first = sym c.self.view_is ∙ members_first c.self.inside.left (omega (arith, c.if-left-eq0.false)) c.self.invariant in
    search (first, rules)
