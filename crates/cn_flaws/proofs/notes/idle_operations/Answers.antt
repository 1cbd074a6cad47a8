use Rattle.std.proofs.Common.{◌↔◌, ◌∙◌, ◌+◌, ◌<◌, ◌∷◌, [], IsTrue, ap, arith, length, map, subst, sym}
use Rattle.std.proofs.lemmas.List.Elements.{All-push}
use Rattle.std.proofs.lemmas.List.{map-append}
use Rattle.cn_flaws.specs.Notes.{AnswersDiffer, IsIdle}
use Rattle.cn_flaws.specs.declared.notes.IdleOperation.{IdleOperation}
use Rattle.cn_flaws.proofs.NoteLemmas.{AreThoseBelow, idle_by_test, test_of_idle, those_added, those_skipped}
use Rattle.cn_flaws.proofs.notes.idle_operations.Goals as goal

pub loop-number-preserved-then-not-changes_nothing : goal.loop-number-preserved-then-not-changes_nothing
loop-number-preserved-then-not-changes_nothing c =
    let t = c.args.table.now in
    let n = c.loop-number.number in
    let known : n < length t.operations = omega (arith, c.loop-number-test.true, c.operations-number-end.ensures.number) in
    record {
      operations = those_skipped (IsIdle t) n (map (λ (i : IdleOperation). i.operation.0) c.loop-number.idle.items)
          (λ idle. let test = test_of_idle t n c.tables_are_valid.ensures.table known idle in cc) c.loop-number.invariant.operations;
      answers = c.loop-number.invariant.answers;
    }

pub loop-number-preserved : goal.loop-number-preserved
loop-number-preserved c =
    let t = c.args.table.now in
    let n = c.loop-number.number in
    let old = c.loop-number.idle.items in
    let answers = c.answers_differ-answers.result in
    let known : n < length t.operations = omega (arith, c.loop-number-test.true, c.operations-number-end.ensures.number) in
    record {
      operations = subst (AreThoseBelow (IsIdle t) (n + 1))
          (sym (ap (map (λ (i : IdleOperation). i.operation.0)) c.in_ok-push.ensures.items
          ∙ map-append (λ (i : IdleOperation). i.operation.0) old (record { operation = record { 0 = n }; answers = answers } ∷ [])))
          (those_added (IsIdle t) n (map (λ (i : IdleOperation). i.operation.0) old)
          (idle_by_test t n c.tables_are_valid.ensures.table known (let on = c.if-not-changes_nothing.false in cc)) c.loop-number.invariant.operations);
      answers = rw c.in_ok-push.ensures.items (All-push (λ (i : IdleOperation). IsTrue i.answers ↔ AnswersDiffer t i.operation.0) old
          (record { operation = record { 0 = n }; answers = answers }) c.loop-number.invariant.answers c.answers_differ-answers.ensures);
    }

pub returns : goal.returns
returns c = record {
  operations =
      subst (λ n. AreThoseBelow (IsIdle c.args.table.now) n (map (λ (i : IdleOperation). i.operation.0) c.loop-number.idle.items))
      (omega (arith, c.loop-number-test.false, c.loop-number.auto.number-end, c.operations-number-end.ensures.number)) c.loop-number.invariant.operations;
  answers = c.loop-number.invariant.answers;
}
