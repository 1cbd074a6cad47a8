use Rattle.std.proofs.Common.{ℕ, List, subst, sym, true≢false, ◌∙◌, Contains, ◌↔◌}
use Rattle.std.proofs.lemmas.List.{take_all}
use Rattle.cn_choice.specs.declared.team.Team.{Team}
use Rattle.cn_further.specs.declared.sight.FurtherSight.{FurtherSight}
use Rattle.cn_unread_reasons.specs.FurtherViews.{IsToldOf}
use Rattle.cn_unread_reasons.specs.Known.{IsKnownUnreadSight}
use Rattle.cn_unread_reasons.specs.declared.sight.UnreadSight.{UnreadSight}
use Rattle.cn_unread_reasons.proofs.EachOnce.{all_more}
use Rattle.cn_unread_reasons.proofs.FurtherTold.{told_more, told_same}
use Rattle.cn_unread_reasons.proofs.further_views.sights_of.Goals as goal
use Rattle.cn_unread_reasons.proofs.further_views.sights_of.Goals.{then-is_of+in_ok-push_new, else-is_of}

pub loop-sight-preserved : goal.loop-sight-preserved
loop-sight-preserved c =
    let i = c.loop-sight.invariant in
    let xs : List FurtherSight = c.args.sights.now in
    let k : ℕ = c.loop-sight.sight-index in
    let team : Team = c.args.team in
    let j : ℕ = c.args.process in
    let old : List UnreadSight = c.loop-sight.list.items in
    elim c.if-is_of.branch [
      | then-is_of+in_ok-push_new w ↦
          (let new : List UnreadSight = w.push_new.new.list.items in
          let at = c.is_of.ensures.0 w.if-is_of.true in
          rw w.list-is (record {
            same = told_more xs k _ c.loop-sight-test.true team j old new w.told.result w.in_ok-push_new.ensures.same at.0 at.1 w.told.ensures.told i.same;
            once = w.in_ok-push_new.ensures.once i.once;
            known = λ t known. all_more old old new w.told.result w.in_ok-push_new.ensures.same (IsKnownUnreadSight t) (i.known t known) (w.told.ensures.known t (known k _ c.loop-sight-test.true));
          }))
      | else-is_of w ↦ rw w.list-is (record {
        same = told_same xs k _ c.loop-sight-test.true team j old (λ at. true≢false (sym (c.is_of.ensures.1 at) ∙ w.if-is_of.false)) i.same;
        once = i.once;
        known = i.known;
      })
    ]

pub returns-clause-same : goal.returns-clause-same
returns-clause-same c =
    subst (λ (xs : List FurtherSight). (s : UnreadSight) → Contains c.loop-sight.list.items s ↔ IsToldOf xs c.args.team c.args.process s) (take_all c.loop-sight.sight-index c.args.sights.now c.loop-sight-test.false) c.loop-sight.invariant.same
