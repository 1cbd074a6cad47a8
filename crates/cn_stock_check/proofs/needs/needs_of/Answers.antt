use Rattle.std.proofs.Common.{◌≡◌, ◌+◌, ◌++◌, ◌∷◌, [], List, take, subst, sym, ap, ◌∙◌, arith}
use Rattle.std.proofs.lemmas.List.{take_all, take_more}
use Rattle.cn_joins.specs.Joins.{Join}
use Rattle.cn_stock_check.specs.Needs.{AreNeedsOf}
use Rattle.cn_stock_check.proofs.NeedLemmas.{from_elsewhere, from_here, known_needs}
use Rattle.cn_stock_check.proofs.needs.needs_of.Goals as goal
use Rattle.cn_stock_check.proofs.needs.needs_of.Goals.{then-join-start+in_ok-push, else-join-start}

pub loop-join-preserved : goal.loop-join-preserved
loop-join-preserved c =
    let joins : List Join = c.args.joins.now in
    let i = c.loop-join.join-index in
    let join : Join = c.join-item.result in
    let more : take (i + 1) joins ≡ take i joins ++ join ∷ [] = take_more joins i join c.loop-join-test.true ∙ ap (λ (j : Join). take i joins ++ j ∷ []) (sym c.join-item.is) in
    subst (λ (xs : List Join). AreNeedsOf xs c.args.start 0 [] c.if-join-start.needs.items) (sym more) (elim c.if-join-start.branch [
      | then-join-start+in_ok-push w ↦ rw (w.needs-is, w.in_ok-push.ensures.items)
          (from_here (take i joins) join c.args.start 0 [] c.loop-join.needs.items c.loop-join.invariant w.need_of.result (omega (arith, ap (λ (j : Join). j.start) c.join.view_is, w.if-join-start.true)) w.need_of.ensures)
      | else-join-start w ↦ rw w.needs-is
          (from_elsewhere (take i joins) join c.args.start 0 [] c.loop-join.needs.items c.loop-join.invariant (λ e. absurd (omega (arith, ap (λ (j : Join). j.start) c.join.view_is, w.if-join-start.false, e))))
    ])

pub returns-clause-known : goal.returns-clause-known
returns-clause-known c =
    known_needs c.requires.0 c.args.joins.now c.args.start 0 [] c.loop-join.needs.items (omega (arith, c.requires.1)) c.requires.2
    (subst (λ (xs : List Join). AreNeedsOf xs c.args.start 0 [] c.loop-join.needs.items) (take_all c.loop-join.join-index c.args.joins.now c.loop-join-test.false) c.loop-join.invariant)
