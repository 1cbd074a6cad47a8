use Rattle.std.proofs.Common.{◌∙◌, All, List, subst, sym}
use Rattle.cn_changes.specs.Changes.{IsTarget}
use Rattle.cn_changes.specs.Told.{AreNextNumbers}
use Rattle.cn_changes.specs.declared.numbers.NextNumbers.{NextNumbers}
use Rattle.cn_changes.specs.declared.targets.Target.{Target}
use Rattle.cn_changes.proofs.Known.{targets_known}
use Rattle.cn_changes.proofs.Zipped.{all_of, listed_of}
use Rattle.cn_changes.proofs.changes.changes_of.Goals as goal

pub numbers_of-requires-after_bounds : goal.numbers_of-requires-after_bounds
numbers_of-requires-after_bounds g c = λ _ _.
    subst (λ (xs : List Target). All (IsTarget c.args.table.now) xs) (sym (c.as_slice.ensures.value ∙ c.in_ok-targets.ensures)) (targets_known c.args.table.now)

pub returns-clause-nexts : goal.returns-clause-nexts
returns-clause-nexts g c =
    let P : NextNumbers → Type 0 = AreNextNumbers c.args.kind c.args.table.now in
    let of : NextNumbers → Target = λ x. x.target in
    record {
      listed = listed_of of P c.as_slice.result.now c.in_ok-nexts.nexts.items c.in_ok-nexts.ensures ∙ (c.as_slice.ensures.value ∙ c.in_ok-targets.ensures);
      numbers = all_of of P c.as_slice.result.now c.in_ok-nexts.nexts.items c.in_ok-nexts.ensures;
    }
