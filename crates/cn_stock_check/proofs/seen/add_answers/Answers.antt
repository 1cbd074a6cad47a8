use Rattle.std.proofs.Common.{◌≡◌, inl, inr, ◌+◌, ◌<◌, ◌∙◌, ℕ, List, get_or, length, length-set, slice_set, sym, arith, true≢false}
use Rattle.cn_table.specs.TypeTable.{transition}
use Rattle.cn_stock_check.specs.Sets.{IsIn}
use Rattle.cn_stock_check.proofs.SetLemmas.{added_at, as_flat_with, from_flat_with, none_with, one_with, pair_parts}
use Rattle.cn_stock_check.proofs.seen.add_answers.Goals as goal
use Rattle.cn_stock_check.proofs.seen.add_answers.Goals.{then-has, else-has}

pub loop-state-preserved : goal.loop-state-preserved
loop-state-preserved c =
    let t = c.args.table.now in
    let o = c.args.operation.0 in
    let k = c.loop-state.state in
    let old : List ℕ = c.loop-state.pairs in
    let first : List ℕ = c.args.pairs.now in
    let i = c.loop-state.invariant in
    elim c.if-has.branch [
      | then-has w ↦ (
          let place = w.apply.result.0.0 in
          let next = w.apply.result.1.0 in
          let long : place < length old = omega (arith, i.long, w.apply.ensures.response, c.responses-responses.ensures.range.1) in
          rw w.pairs-is (record {
            long = length-set old place w.union.result ∙ i.long;
            pairs = λ r q.
                let F : ℕ → Type 0 = λ p. IsIn c.args.states p in
                let G : ℕ → Type 0 = λ p. ◌≡◌ {A = ℕ × ℕ} (transition t o p) (r, q) in
                let P : ℕ → Type 0 = λ p. F p × G p in
                let parts = pair_parts place next r q (transition t o k) w.apply.ensures.value in
                as_flat_with F G (k + 1) (IsIn (get_or first r 0) q) (IsIn (get_or (slice_set old place w.union.result) r 0) q)
                (one_with P k (IsIn (get_or first r 0) q) (IsIn (get_or old r 0) q) ((r ≡ place) × (q ≡ next)) (IsIn (get_or (slice_set old place w.union.result) r 0) q) (from_flat_with F G k (IsIn (get_or first r 0) q) (IsIn (get_or old r 0) q) (i.pairs r q))
                ((λ h. (c.has.ensures.0 w.if-has.true, parts.0 h)), (λ h. parts.1 h.1))
                (added_at old place w.union.result (λ (x : ℕ). x ≡ next) long (λ x. (
                  (λ h. elim ((w.union.ensures x).0 h) [ inl a ↦ inl a | inr b ↦ inr ((w.only.ensures x).0 b) ]),
                  (λ h. (w.union.ensures x).1 (elim h [ inl a ↦ inl a | inr b ↦ inr ((w.only.ensures x).1 b) ])),
                )) r q));
          })
          )
      | else-has w ↦ rw w.pairs-is (record {
        long = i.long;
        pairs = λ r q.
            let F : ℕ → Type 0 = λ p. IsIn c.args.states p in
            let G : ℕ → Type 0 = λ p. ◌≡◌ {A = ℕ × ℕ} (transition t o p) (r, q) in
            let P : ℕ → Type 0 = λ p. F p × G p in
            as_flat_with F G (k + 1) (IsIn (get_or first r 0) q) (IsIn (get_or old r 0) q)
            (none_with P k (IsIn (get_or first r 0) q) (IsIn (get_or old r 0) q) (from_flat_with F G k (IsIn (get_or first r 0) q) (IsIn (get_or old r 0) q) (i.pairs r q))
            (λ h. true≢false (sym (c.has.ensures.1 h.0) ∙ w.if-has.false)));
      })
    ]
