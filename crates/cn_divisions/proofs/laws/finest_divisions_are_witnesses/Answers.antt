use Rattle.std.proofs.Common.{refl}
use Rattle.cn_meetings.specs.Division.AreConnected.{ByWayOf, Itself}
use Rattle.cn_meetings.proofs.Finest.{kept_along}
use Rattle.cn_meetings.proofs.Witnesses.{joined_decide}
use Rattle.cn_divisions.specs.Divisions.{first}
use Rattle.cn_divisions.proofs.Links.{from_first}
use Rattle.cn_divisions.proofs.laws.finest_divisions_are_witnesses.Goals as goal

pub returns-clause-witness : goal.returns-clause-witness
returns-clause-witness c t M n team finest = (joined_decide t M (first n) team).1 (λ p q j.
    (finest p q (from_first n p (j.shown_p.is_order.members 0 p refl)) (from_first n q (j.shown_q.is_order.members 0 q refl))).1 (ByWayOf p q q j (Itself q)))

pub returns-clause-coarser : goal.returns-clause-coarser
returns-clause-coarser c t M n finest team is = (
  λ witness p q l u e. kept_along t M (first n) team ((joined_decide t M (first n) team).0 witness) p q ((is p q l u).0 e),
  λ coarse. (joined_decide t M (first n) team).1 (λ p q j.
      let l = from_first n p (j.shown_p.is_order.members 0 p refl) in
      let u = from_first n q (j.shown_q.is_order.members 0 q refl) in
      coarse p q l u ((is p q l u).1 (ByWayOf p q q j (Itself q)))),
)
