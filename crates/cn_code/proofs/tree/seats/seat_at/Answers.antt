use Rattle.std.proofs.Common.{ℕ, ap, subst, sym}
use Rattle.cn_trees.specs.Tree.{Place}
use Rattle.cn_code.specs.TreeJudgements.{IsSeat}
use Rattle.cn_code.specs.declared.tree.seats.Seat.{Seat}
use Rattle.cn_code.proofs.Seats.{at_place}
use Rattle.cn_code.proofs.tree.seats.seat_at.Goals as goal

pub returns-clause-seat : goal.returns-clause-seat
returns-clause-seat c =
    let at : ℕ → Seat = λ v. record { node = v; process = c.args.process } in
    ap at (ap (λ (x : Place). x.node) c.place_at.ensures)

pub returns-clause-known : goal.returns-clause-known
returns-clause-known c =
    let at : ℕ → Seat = λ v. record { node = v; process = c.args.process } in
    subst (IsSeat c.args.plan.now) (sym (ap at (ap (λ (x : Place). x.node) c.place_at.ensures)))
    (at_place c.args.plan.now c.args.process c.args.place c.requires)
