use Rattle.std.proofs.Common.{◌∙◌, ℕ, List, All, ap, map, subst, sym}
use Rattle.std.specs.Prelude.{IfOk, Vec}
use Rattle.std.specs.declared.alloc.Global.{Global}
use Rattle.cn_table.specs.Restriction.{AreOperations}
use Rattle.cn_table.specs.declared.elements.Operation.{Operation}
use Rattle.cn_pairs.specs.Firsts.{AreFirstWith}
use Rattle.cn_pairs.specs.SetNumbers.{numbers, set_lists}
use Rattle.cn_pairs.specs.Smallest.{HasNumberWith}
use Rattle.cn_pairs.proofs.SetLists.{sets_are}
use Rattle.cn_pairs.proofs.searched.first_sets.Goals as goal

pub first_of-requires-clause-sets : goal.first_of-requires-clause-sets
first_of-requires-clause-sets g c κs within =
    subst (λ (sets : List (Vec Operation Global)). All (λ set. AreOperations c.args.table.now (numbers set.items)) sets) (sym c.as_slice.ensures.value)
    (sets_are c.args.table.now c.args.size c.in_ok-sets.sets.items c.requires.size c.in_ok-sets.ensures)

pub returns : goal.returns
returns g c =
    subst (λ (lists : List (List ℕ)). IfOk c.first_of.result (λ found. AreFirstWith (HasNumberWith c.args.table.now c.args.number) 12 lists (set_lists found)))
    (ap (map (λ (set : Vec Operation Global). numbers set.items)) c.as_slice.ensures.value ∙ c.in_ok-sets.ensures) c.first_of.ensures
