use Rattle.std.proofs.Common.{◌≡◌, ◌+◌, length, refl, sym, subst, arith, length-append}
use Rattle.cn_table.specs.TypeTable.{IsClosed, TypeTable}
use Rattle.cn_choice.specs.Canonical.{Choice}
use Rattle.cn_solvable.specs.Solving.{SolvesConsensus}
use Rattle.cn_trees.specs.Seats.{tournament_tree}
use Rattle.cn_trees.specs.Tree.{processes_of}
use Rattle.cn_tree_laws.proofs.laws.plan_trees_are_general.Goals as goal

pub returns : goal.returns
returns c = λ t n closed two. (
  λ w. (
      let f = c.coverage.ensures t n w.0 w.1 in
      let d : Choice = f.0 in
      let some = f.1.canonical.someone_in_a in
      let longer = f.1.canonical.a_not_longer in
      let trees = c.tournaments_are_trees_of_witnesses.ensures in
      let each = f.1.for_n.one_operation_each in
      let all : processes_of (tournament_tree t d) ≡ length d.a + length d.b = trees.processes t d some (omega arith) in
      (tournament_tree t d, refl, trees.of_type t n d some (omega arith) f.1.for_n, trees.tournament t d some (omega arith) (f.1.same_witness.0 w.2), omega (arith, all, each, length-append d.a d.b))),
  λ h. (
      let closed' : IsClosed h.0.table = subst IsClosed (sym h.1) closed in
      let solves : SolvesConsensus h.0.table n = c.trees_are_enough.ensures.reads h.0 n closed' h.2 h.3 h.4 in
      (c.solving_is_discerning.ensures t n closed two).0 (subst (λ (u : TypeTable). SolvesConsensus u n) h.1 solves)),
)
