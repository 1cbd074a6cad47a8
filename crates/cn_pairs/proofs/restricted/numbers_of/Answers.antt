use Rattle.std.proofs.Common.{◌≡◌, ◌∙◌, List, All, map, subst, sym, take}
use Rattle.std.proofs.lemmas.List.Elements.{All-push}
use Rattle.cn_table.specs.Restriction.{with_operations}
use Rattle.cn_table.specs.declared.elements.Operation.{Operation}
use Rattle.cn_search.specs.Numbers.{HasNumber}
use Rattle.cn_pairs.specs.SetNumbers.{IsSetNumber, numbers}
use Rattle.cn_pairs.specs.declared.restricted.SetNumber.{SetNumber}
use Rattle.cn_pairs.proofs.SetLists.{lists_more, set_told}
use Rattle.cn_pairs.proofs.restricted.numbers_of.Goals as goal

pub loop-set-preserved : goal.loop-set-preserved
loop-set-preserved g c =
    let own : SetNumber = record { operations = c.in_ok-operations.operations; number = c.in_ok-number.number } in
    let copied : own.operations.items ≡ c.set-item.result.items = c.in_ok-operations.ensures.items ∙ c.as_slice-in-loop-set.ensures.value in
    let number : HasNumber (with_operations c.args.table.now (numbers own.operations.items)) own.number =
    subst (λ (os : List Operation). HasNumber (with_operations c.args.table.now (numbers os)) own.number)
    (c.as_slice.ensures.value ∙ sym copied) c.in_ok-number.ensures in
    record {
      listed = set_told c.loop-set.told.items c.push.new.self.items own (map (λ set. numbers set.items) (take c.loop-set.set-index c.args.sets.now)) c.set-item.result.items
          c.in_ok-push.ensures.items c.loop-set.invariant.listed copied
          ∙ sym (lists_more c.args.sets.now c.loop-set.set-index c.set-item.result c.loop-set-test.true c.set-item.is);
      told_are = subst (All (IsSetNumber c.args.table.now)) (sym c.in_ok-push.ensures.items)
          (All-push (IsSetNumber c.args.table.now) c.loop-set.told.items own c.loop-set.invariant.told_are number);
    }
