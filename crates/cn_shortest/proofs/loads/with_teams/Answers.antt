use Rattle.std.proofs.Common.{ℕ, suc, ◌≡◌, ◌+◌, ◌*◌, ◌++◌, ◌∙◌, arith, ap, sym, replicate}
use Rattle.cn_tree_costs.specs.Least.{load_of_teams, plus}
use Rattle.cn_shortest.specs.Loads.{load_of}
use Rattle.cn_shortest.proofs.Loading.{below_more, plus_below}
use Rattle.cn_shortest.proofs.loads.with_teams.Goals as goal

pub loop-team-preserved : goal.loop-team-preserved
loop-team-preserved c =
    let k = c.loop-team._team in
    let next : k + 1 ≡ suc k = omega arith in
    record {
      same = λ best b size sizes e f.
          ap (λ (j : ℕ). load_of_teams best b (replicate j size ++ sizes)) next
          ∙ (ap (λ o. plus o (load_of_teams best b (replicate k size ++ sizes))) e
          ∙ (ap (plus (load_of c.args.team)) (c.loop-team.invariant.same best b size sizes e f) ∙ sym c.plus-load.ensures));
      below = λ nodes sum h.
          below_more (7 + (nodes + 7 * k)) (224 + (sum + 224 * k)) (nodes + 7 * (k + 1)) (sum + 224 * (k + 1)) c.plus-load.result (omega arith) (omega arith)
          (plus_below 7 224 (nodes + 7 * k) (sum + 224 * k) c.args.team c.loop-team.load c.plus-load.result c.plus-load.ensures c.requires.team (c.loop-team.invariant.below nodes sum h));
    }
