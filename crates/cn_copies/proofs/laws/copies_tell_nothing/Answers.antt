use Rattle.std.proofs.Common.{◌↔◌, subst, sym}
use Rattle.cn_table.specs.TypeTable.{TypeTable}
use Rattle.cn_choice.specs.Discerning.{IsDiscerning}
use Rattle.cn_copies.proofs.CopyLemmas.{same_with_list}
use Rattle.cn_copies.proofs.FirstLemmas.{has_copies}
use Rattle.cn_copies.proofs.laws.copies_tell_nothing.Goals as goal

pub returns-clause-some : goal.returns-clause-some
returns-clause-some c = λ t operations closed known has n. same_with_list t operations closed known has n

pub returns-clause-without : goal.returns-clause-without
returns-clause-without c = λ t u closed (operations, first, is) n.
    subst (λ (v : TypeTable). IsDiscerning t n ↔ IsDiscerning v n) (sym is) (same_with_list t operations closed first.are.known (has_copies t operations first) n)
