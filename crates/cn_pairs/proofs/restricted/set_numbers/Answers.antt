use Rattle.std.proofs.Common.{◌∙◌, List, All, ap, map, subst, sym}
use Rattle.std.specs.Prelude.{Vec}
use Rattle.std.specs.declared.alloc.Global.{Global}
use Rattle.cn_table.specs.Restriction.{AreOperations}
use Rattle.cn_table.specs.declared.elements.Operation.{Operation}
use Rattle.cn_pairs.specs.SetNumbers.{numbers}
use Rattle.cn_pairs.proofs.SetLists.{sets_are}
use Rattle.cn_pairs.proofs.restricted.set_numbers.Goals as goal

pub numbers_of-requires-after_bounds : goal.numbers_of-requires-after_bounds
numbers_of-requires-after_bounds g c = λ _ _.
    subst (λ (sets : List (Vec Operation Global)). All (λ set. AreOperations c.args.table.now (numbers set.items)) sets) (sym c.as_slice.ensures.value)
    (sets_are c.args.table.now c.args.size c.in_ok-sets.sets.items c.requires c.in_ok-sets.ensures)

pub returns : goal.returns
returns g c = record {
  listed = c.in_ok-told.ensures.sets
      ∙ (ap (map (λ (set : Vec Operation Global). numbers set.items)) c.as_slice.ensures.value ∙ c.in_ok-sets.ensures);
  numbers = c.in_ok-told.ensures.numbers;
}
