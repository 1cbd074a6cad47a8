use Rattle.std.proofs.Common.{◌↔◌, ℕ, arith, length-set, ◌∙◌, subst}
use Rattle.std.specs.Prelude.{IsBitSet}
use Rattle.cn_choice.specs.Renumbering.{other}
use Rattle.cn_choice.specs.declared.team.Team.{Team}
use Rattle.cn_outcomes.proofs.Unions.{at_more}
use Rattle.cn_signs.specs.SignChecks.{Answers}
use Rattle.cn_signs.specs.StateSets.{InTeam}
use Rattle.cn_signs.proofs.Rows.{only_here}
use Rattle.cn_signs.proofs.responses.sign_rows.Goals as goal

pub loop-operation-preserved : goal.loop-operation-preserved
loop-operation-preserved c =
    let t = c.args.table.now in
    let s = c.args.states.now in
    let i = c.loop-operation.invariant in
    let o = c.loop-operation.operation in
    record {
      rows = at_more (λ (x row : ℕ). (r : ℕ) → IsBitSet row r ↔ (Answers t x (InTeam s c.args.side) r × ¬ Answers t x (InTeam s (other c.args.side)) r)) 0 c.loop-operation.rows o
          c.difference.result (omega (arith, i.long, c.loop-operation-test.true, c.operations-operation-end.ensures.range.1)) i.rows
          (only_here t o c.of_team-own.result c.of_team-others.result c.responses_in-here.result c.responses_in-there.result c.difference.result (InTeam s c.args.side) (InTeam s (other c.args.side))
          c.of_team-own.ensures.same
          (subst (λ (team : Team). (q : ℕ) → IsBitSet c.of_team-others.result q ↔ InTeam s team q) c.other_team.ensures c.of_team-others.ensures.same)
          c.responses_in-here.ensures c.responses_in-there.ensures c.difference.ensures);
      long = length-set c.loop-operation.rows o c.difference.result ∙ i.long;
    }

pub returns-clause-rows : goal.returns-clause-rows
returns-clause-rows c o l = c.loop-operation.invariant.rows o (omega (arith, l, c.loop-operation-test.false, c.operations-operation-end.ensures.number))
