use Rattle.std.proofs.Common.{◌≡◌, ◌^◌, ◌*◌, ◌%◌, ℕ, ◌∙◌, ap, arith, length, sym, subst, Some, None, Option}
use Rattle.std.specs.Prelude.{IfNone}
use Rattle.std.specs.Int.Bits.{bit_or}
use Rattle.std.proofs.lemmas.Nat.{one_shl}
use Rattle.cn_table.specs.TypeTable.{transition}
use Rattle.cn_choice.specs.Moves.{answer_of, next_of}
use Rattle.cn_choice.specs.RawChoices.{RawChoice}
use Rattle.cn_collisions.specs.Steps.{NoEnding, seen_behind}
use Rattle.cn_collisions.proofs.EndingLemmas.{none_seen, own_seen}
use Rattle.cn_collisions.proofs.endings.ending_after.Goals as goal

pub returns-then-process-view-clause-none : goal.returns-then-process-view-clause-none
returns-then-process-view-clause-none c =
    let a = c.args in
    let v = a.view.now in
    let t = v.sets.now.table.now in
    let raw = v.raw.now in
    let p = a.process in
    let is = c.requires.view in
    let every : c.len-n.result ≡ length raw.operations = omega (arith, ap (λ (r : RawChoice). length r.operations) c.raw.view_is, c.len-n.ensures.value) in
    let used : bit_or a.start.used (1 * 2 ^ p % 2 ^ 16) ≡ bit_or a.start.used (2 ^ p) = ap (bit_or a.start.used) (one_shl p 16 (omega (arith, c.requires.process, is.number, is.sets_are.few))) in
    let next : c.apply.result.1.0 ≡ next_of t raw p a.start.state.0 =
    ap (λ (x : ℕ × ℕ). x.1) c.apply.ensures.value ∙ ap (λ (o : ℕ). (transition t o a.start.state.0).1) c.operation.ensures.operation in
    let answer : c.apply.result.0.0 ≡ answer_of t raw p a.start.state.0 =
    ap (λ (x : ℕ × ℕ). x.0) c.apply.ensures.value ∙ ap (λ (o : ℕ). (transition t o a.start.state.0).0) c.operation.ensures.operation in
    let seen : Some c.apply.result.0.0 ≡ seen_behind v a.start p = ap Some answer ∙ sym (own_seen v.process p (answer_of t raw p a.start.state.0) c.if-process-view.true) in
    let End : ℕ → ℕ → ℕ → Option ℕ → Type 0 = λ n u q s. IfNone c.other_ending.result (NoEnding v a.target.now 0 n u q s) in
    subst (λ (n : ℕ). End n (bit_or a.start.used (2 ^ p)) (next_of t raw p a.start.state.0) (seen_behind v a.start p)) every
    (subst (λ (u : ℕ). End c.len-n.result u (next_of t raw p a.start.state.0) (seen_behind v a.start p)) used
    (subst (λ (q : ℕ). End c.len-n.result (bit_or a.start.used (1 * 2 ^ p % 2 ^ 16)) q (seen_behind v a.start p)) next
    (subst (λ (s : Option ℕ). End c.len-n.result (bit_or a.start.used (1 * 2 ^ p % 2 ^ 16)) c.apply.result.1.0 s) seen c.other_ending.ensures.none)))

pub returns-else-process-view-clause-none : goal.returns-else-process-view-clause-none
returns-else-process-view-clause-none c =
    let a = c.args in
    let v = a.view.now in
    let t = v.sets.now.table.now in
    let raw = v.raw.now in
    let p = a.process in
    let is = c.requires.view in
    let every : c.len-n.result ≡ length raw.operations = omega (arith, ap (λ (r : RawChoice). length r.operations) c.raw.view_is, c.len-n.ensures.value) in
    let used : bit_or a.start.used (1 * 2 ^ p % 2 ^ 16) ≡ bit_or a.start.used (2 ^ p) = ap (bit_or a.start.used) (one_shl p 16 (omega (arith, c.requires.process, is.number, is.sets_are.few))) in
    let next : c.apply.result.1.0 ≡ next_of t raw p a.start.state.0 =
    ap (λ (x : ℕ × ℕ). x.1) c.apply.ensures.value ∙ ap (λ (o : ℕ). (transition t o a.start.state.0).1) c.operation.ensures.operation in
    let seen : None ≡ seen_behind v a.start p = sym (none_seen v.process p (answer_of t raw p a.start.state.0) c.if-process-view.false) in
    let End : ℕ → ℕ → ℕ → Option ℕ → Type 0 = λ n u q s. IfNone c.own_ending.result (NoEnding v a.target.now 0 n u q s) in
    subst (λ (n : ℕ). End n (bit_or a.start.used (2 ^ p)) (next_of t raw p a.start.state.0) (seen_behind v a.start p)) every
    (subst (λ (u : ℕ). End c.len-n.result u (next_of t raw p a.start.state.0) (seen_behind v a.start p)) used
    (subst (λ (q : ℕ). End c.len-n.result (bit_or a.start.used (1 * 2 ^ p % 2 ^ 16)) q (seen_behind v a.start p)) next
    (subst (λ (s : Option ℕ). End c.len-n.result (bit_or a.start.used (1 * 2 ^ p % 2 ^ 16)) c.apply.result.1.0 s) seen c.own_ending.ensures.none)))
