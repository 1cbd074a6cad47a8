use Rattle.std.proofs.Common.{◌∙◌, All, List, subst, sym}
use Rattle.cn_changes.specs.Changes.{IsTarget}
use Rattle.cn_changes.specs.declared.targets.Target.{Target}
use Rattle.cn_changes.proofs.Known.{targets_known}
use Rattle.cn_changes.proofs.change.all_changes.Goals as goal

pub push_all_changes-requires : goal.push_all_changes-requires
push_all_changes-requires c =
    subst (λ (xs : List Target). All (IsTarget c.args.table.now) xs) (sym (c.as_slice.ensures.value ∙ c.in_ok-targets.ensures)) (targets_known c.args.table.now)
