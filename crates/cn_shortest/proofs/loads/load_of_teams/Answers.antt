use Rattle.std.proofs.Common.{ℕ, suc, None, ◌≡◌, ◌+◌, ◌*◌, ◌∙◌, arith, ap, sym, get_or, [], ◌++◌, replicate}
use Rattle.std.specs.Prelude.{slice_index}
use Rattle.cn_shortest.specs.declared.loads.Row.{Row}
use Rattle.cn_tree_costs.specs.Least.{load_of_teams}
use Rattle.cn_shortest.specs.Loads.{table_of}
use Rattle.cn_shortest.specs.Sizes.{sizes_from}
use Rattle.cn_shortest.proofs.Loading.{below_more, team_below}
use Rattle.cn_shortest.proofs.Rows.{table_at}
use Rattle.cn_shortest.proofs.loads.load_of_teams.Goals as goal

pub with_teams-load-requires-clause-team : goal.with_teams-load-requires-clause-team
with_teams-load-requires-clause-team c =
    let rows = c.args.rows.now in
    let k = c.loop-place.place in
    let none : Row = record { loads = [] } in
    let at = table_at rows k c.args.budget none c.loop-place-test.true in
    team_below (k + 1) (get_or (get_or rows k none).loads c.args.budget None) (omega (arith, c.loop-place-test.true, c.requires.few)) (λ x e. c.requires.small (k + 1) c.args.budget x (omega arith) (at ∙ e))

pub loop-place-preserved : goal.loop-place-preserved
loop-place-preserved c =
    let rows = c.args.rows.now in
    let k = c.loop-place.place in
    let next : k + 1 ≡ suc k = omega arith in
    let none : Row = record { loads = [] } in
    let at = table_at rows k c.args.budget none c.loop-place-test.true in
    record {
      same = sym (ap (λ (j : ℕ). load_of_teams (table_of rows) c.args.budget (sizes_from c.args.sizes.now.counts j)) next
          ∙ (ap (λ (j : ℕ). load_of_teams (table_of rows) c.args.budget (replicate (slice_index c.args.sizes.now.counts j) j ++ sizes_from c.args.sizes.now.counts k)) (sym next)
          ∙ c.with_teams-load.ensures.value (table_of rows) c.args.budget (k + 1) (sizes_from c.args.sizes.now.counts k) at (sym c.loop-place.invariant.same)));
      below = below_more (1785 * k + 1785) (57120 * k + 57120) (1785 * (k + 1)) (57120 * (k + 1)) c.with_teams-load.result (omega arith) (omega arith)
          (c.with_teams-load.ensures.below (1785 * k) (57120 * k) c.loop-place.invariant.below);
    }
