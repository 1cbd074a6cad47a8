use Rattle.std.proofs.Common.{ℕ, ◌≡◌, arith, length, refl, subst}
use Rattle.cn_divisions.specs.Joins.{AreComponentsSoFar}
use Rattle.cn_meetings.specs.Sights.{sight_of}
use Rattle.cn_divisions.proofs.Merging.{components_are, first_far}
use Rattle.cn_divisions.proofs.components.components.Goals as goal

pub loop-g-init : goal.loop-g-init
loop-g-init c = let s = c.args.setting.now in first_far s.table.now (sight_of c.args.look.now.sight) c.args.start s.stock.now.operations.items _ refl

pub returns-clause-are : goal.returns-clause-are
returns-clause-are c =
    let s = c.args.setting.now in
    let t = s.table.now in
    let end : c.loop-g.g ≡ length t.operations = omega (arith, c.loop-g-test.false, c.loop-g.auto.g-end, c.operations-g-end.ensures.number) in
    components_are t (sight_of c.args.look.now.sight) c.args.start s.stock.now.operations.items (length t.operations) c.requires.setting.stock_is.known c.loop-g.teams
    (subst (λ (k : ℕ). AreComponentsSoFar t (sight_of c.args.look.now.sight) c.args.start s.stock.now.operations.items k c.loop-g.teams) end c.loop-g.invariant)

pub returns-clause-small : goal.returns-clause-small
returns-clause-small c = c.loop-g.invariant.small
