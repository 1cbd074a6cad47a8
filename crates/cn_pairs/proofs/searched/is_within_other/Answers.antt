use Rattle.std.proofs.Common.{◌∙◌, Contains, All, List, subst, sym}
use Rattle.cn_table.specs.declared.elements.Operation.{Operation}
use Rattle.cn_pairs.specs.Smallest.{IsWithinOther}
use Rattle.cn_pairs.proofs.Between.{numbers_within, within_numbers}
use Rattle.cn_pairs.proofs.searched.is_within_other.Goals as goal

pub returns-then-not-is_same : goal.returns-then-not-is_same
unfolding IsWithinOther
returns-then-not-is_same c =
    let larger : List Operation = c.args.larger.now.operations.items in (
      λ h. (
        sym c.is_same.ensures ∙ c.if-not-is_same.true,
        within_numbers c.args.set.now larger
            (subst (λ (xs : List Operation). All (Contains xs) c.args.set.now) c.as_slice.ensures.value (c.is_within.ensures.0 h)),
      ),
      λ h. c.is_within.ensures.1
          (subst (λ (xs : List Operation). All (Contains xs) c.args.set.now) (sym c.as_slice.ensures.value) (numbers_within c.args.set.now larger h.1)),
    )
