use Rattle.std.proofs.Common.{◌∙◌, ◌<◌, length, ap, sym, arith, true≢false}
use Rattle.cn_choice.specs.Canonical.{Choice}
use Rattle.cn_choice.specs.declared.team.Team.TheVariants.{A, B}
use Rattle.cn_outcomes.specs.LeftStates.{LeavesIn}
use Rattle.cn_reasons.proofs.ReasonLemmas.{back_of_a, back_of_b, no_way_back}
use Rattle.cn_reasons.proofs.search.way_back.Goals as goal
use Rattle.cn_reasons.proofs.search.way_back.Goals.{else-len-gt1-via-then-len-gt1+else-contains, else-len-gt1-via-else-len-gt1}
use Rattle.cn_reasons.proofs.search.way_back.Goals.{else-len-gt1-2-via-then-len-gt1-2+else-contains-2, else-len-gt1-2-via-else-len-gt1-2}

pub returns-then-contains-clause-back : goal.returns-then-contains-clause-back
returns-then-contains-clause-back c =
    let s = c.args.subject.now in
    let start = ap (λ (d : Choice). d.state) c.choice.view_is in
    let size = ap (λ (d : Choice). length d.b) c.choice.view_is in
    back_of_a s.table.now s.choice.now s.raw.now c.requires.subject.same c.requires.apart c.choice.inside.state.0 start _ _
    (omega (arith, size, c.len.ensures.value, c.if-len-gt1.true)) c.order_to.ensures c.new.ensures

pub returns-then-contains-2-clause-back : goal.returns-then-contains-2-clause-back
returns-then-contains-2-clause-back c =
    let s = c.args.subject.now in
    let start = ap (λ (d : Choice). d.state) c.choice.view_is in
    let size_a = ap (λ (d : Choice). length d.a) c.choice.view_is in
    let size_b = ap (λ (d : Choice). length d.b) c.choice.view_is in
    let not_a : 1 < length s.choice.now.b → ¬ LeavesIn s.table.now s.raw.now A c.choice.inside.state.0 =
    elim c.else-len-gt1.branch [
      | else-len-gt1-via-then-len-gt1+else-contains w ↦ λ l h. true≢false (sym (w.contains.ensures.found.1 ((c.requires.from_a c.choice.inside.state.0).1 h)) ∙ w.if-contains.false)
      | else-len-gt1-via-else-len-gt1 w ↦ λ l h. absurd (omega (arith, size_b, c.len.ensures.value, w.if-len-gt1.false, l))
    ] in
    back_of_b s.table.now s.choice.now s.raw.now c.requires.subject.same c.requires.apart c.choice.inside.state.0 start _ _
    (omega (arith, size_a, c.len-2.ensures.value, c.if-len-gt1-2.true)) not_a c.order_to-then-contains-2.ensures c.new-then-contains-2.ensures

pub returns-clause-none : goal.returns-clause-none
returns-clause-none c =
    let s = c.args.subject.now in
    let start = ap (λ (d : Choice). d.state) c.choice.view_is in
    let size_a = ap (λ (d : Choice). length d.a) c.choice.view_is in
    let size_b = ap (λ (d : Choice). length d.b) c.choice.view_is in
    let not_a : 1 < length s.choice.now.b → ¬ LeavesIn s.table.now s.raw.now A c.choice.inside.state.0 =
    elim c.else-len-gt1.branch [
      | else-len-gt1-via-then-len-gt1+else-contains w ↦ λ l h. true≢false (sym (w.contains.ensures.found.1 ((c.requires.from_a c.choice.inside.state.0).1 h)) ∙ w.if-contains.false)
      | else-len-gt1-via-else-len-gt1 w ↦ λ l h. absurd (omega (arith, size_b, c.len.ensures.value, w.if-len-gt1.false, l))
    ] in
    let not_b : 1 < length s.choice.now.a → ¬ LeavesIn s.table.now s.raw.now B c.choice.inside.state.0 =
    elim c.else-len-gt1-2.branch [
      | else-len-gt1-2-via-then-len-gt1-2+else-contains-2 w ↦
          λ l h. true≢false (sym (w.contains-then-len-gt1-2.ensures.found.1 ((c.requires.from_b c.choice.inside.state.0).1 h)) ∙ w.if-contains-2.false)
      | else-len-gt1-2-via-else-len-gt1-2 w ↦ λ l h. absurd (omega (arith, size_a, c.len-2.ensures.value, w.if-len-gt1-2.false, l))
    ] in
    no_way_back s.table.now s.choice.now s.raw.now c.requires.subject.same c.requires.apart c.choice.inside.state.0 start not_a not_b
