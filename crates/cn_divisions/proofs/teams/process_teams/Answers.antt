use Rattle.std.proofs.Common.{ℕ, ◌≡◌, ◌↔◌, List, ap, arith, get_or, length, slice_index, subst, sym, ◌∙◌}
use Rattle.cn_table.specs.TypeTable.{transition}
use Rattle.cn_stocks.proofs.Times.{times_of_place}
use Rattle.cn_meetings.specs.Sights.{sight_of}
use Rattle.cn_divisions.proofs.ProcessTeams.{finest_of_twins}
use Rattle.cn_divisions.proofs.teams.process_teams.Goals as goal

pub twin_teams-requires-clause-operation : goal.twin_teams-requires-clause-operation
twin_teams-requires-clause-operation c =
    let items = c.args.setting.now.stock.now.operations.items in
    let known = c.requires.setting.stock_is.known (get_or items 0 0) (times_of_place items 0 (omega (arith, c.requires.many))) in
    omega (arith, known, ap (λ (xs : List ℕ). get_or xs 0 0) c.as_slice-operations.ensures.value)

pub returns-then-operations-clause-finest : goal.returns-then-operations-clause-finest
returns-then-operations-clause-finest c =
    let s = c.args.setting.now in
    let t = s.table.now in
    let items = s.stock.now.operations.items in
    let start = c.args.start in
    let value = c.as_slice-operations.ensures.value in
    let two : length items ≡ 2 = sym (ap length value) ∙ c.if-operations-eq2.true in
    let alike : get_or items 0 0 ≡ get_or items 1 0 = subst (λ (xs : List ℕ). get_or xs 0 0 ≡ get_or xs 1 0) value c.if-operations.true in
    finest_of_twins t (sight_of c.args.look.now.sight) start items (length items) two alike c.twin_teams.result.items
    (subst (λ (xs : List ℕ). (slice_index c.twin_teams.result.items 0 ≡ slice_index c.twin_teams.result.items 1) ↔ ((transition t (get_or xs 0 0) start).0 ≡ (transition t (get_or xs 0 0) (transition t (get_or xs 0 0) start).1).0)) value c.twin_teams.ensures.same)
