use Rattle.std.proofs.Common.{◌≡◌, inl, inr, sym, ◌∙◌, subst, arith, true≢false}
use Rattle.std.proofs.lemmas.Bool.{cases_lt}
use Rattle.cn_unread.specs.Collects.{LookAlike}
use Rattle.cn_unread_number.proofs.telling.is_seen.Goals as goal
use Rattle.cn_unread_number.proofs.telling.is_seen.Goals.{else-q-p-via-then-q-p+else-are_alike, else-q-p-via-else-q-p}

pub loop-q-preserved : goal.loop-q-preserved
loop-q-preserved c = λ q l alike. elim (cases_lt q c.loop-q.q) [
  | inl low ↦ c.loop-q.invariant q low alike
  | inr high ↦ (let here : q ≡ c.loop-q.q = omega (arith, l, high) in
      elim c.else-q-p.branch [
        | else-q-p-via-then-q-p+else-are_alike w ↦ absurd (true≢false (sym (w.are_alike.ensures.1
            (subst (LookAlike c.args.table.now c.args.looks.now.operations.items c.args.p.0) here
            alike)) ∙ w.if-are_alike.false))
        | else-q-p-via-else-q-p w ↦ sym (here ∙ w.if-q-p.false)
      ])
]
