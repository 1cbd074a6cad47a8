use Rattle.std.proofs.Common.{◌≡◌, ◌≢◌, ◌≤◌, ℕ, List, ◌∙◌, arith, length, subst, sym}
use Rattle.std.specs.Cmp.Lexicographic.{other_text, same_text}
use Rattle.cn_merging.specs.Rounds.{IsRound}
use Rattle.cn_merging.proofs.Refining.{last_are_firsts, round_falls, round_is_partition}
use Rattle.cn_merging.proofs.firsts.first_states.Goals as goal

pub returns-then-eq : goal.returns-then-eq
returns-then-eq c =
    let t = c.args.table.now in
    let i = c.loop-finer.invariant in
    let f = c.loop-finer.firsts.items in
    let round = subst (λ (xs : List ℕ). IsRound t xs c.refined-finer.result.items) c.as_slice.ensures.value c.refined-finer.ensures in
    let same : c.refined-finer.result.items ≡ f = sym c.as_slice-in-loop-finer.ensures.value
    ∙ (same_text _ _ (sym c.if-eq.true ∙ c.eq.ensures) ∙ c.as_slice-in-loop-finer-2.ensures.value) in
    record { firsts = last_are_firsts t i.table f i.parts (subst (λ (xs : List ℕ). IsRound t f xs) same round); table = i.table }

pub loop-finer-smaller : goal.loop-finer-smaller
loop-finer-smaller c =
    let t = c.args.table.now in
    let i = c.loop-finer.invariant in
    let f = c.loop-finer.firsts.items in
    let g = c.refined-finer.result.items in
    let round = subst (λ (xs : List ℕ). IsRound t xs g) c.as_slice.ensures.value c.refined-finer.ensures in
    let few : length t.states ≤ 16 = omega (arith, c.states.ensures.range, c.states.ensures.number) in
    let different : g ≢ f = λ e. other_text _ _ (sym c.if-eq.false ∙ c.eq.ensures)
    (c.as_slice-in-loop-finer.ensures.value ∙ (e ∙ sym c.as_slice-in-loop-finer-2.ensures.value)) in
    round_falls t f g few i.parts round different i.table

pub loop-finer-preserved : goal.loop-finer-preserved
loop-finer-preserved c =
    let t = c.args.table.now in
    let i = c.loop-finer.invariant in
    let f = c.loop-finer.firsts.items in
    let g = c.refined-finer.result.items in
    let round = subst (λ (xs : List ℕ). IsRound t xs g) c.as_slice.ensures.value c.refined-finer.ensures in
    record { table = i.table; parts = round_is_partition t i.table f g i.parts round }
