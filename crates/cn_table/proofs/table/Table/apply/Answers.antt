use Rattle.std.proofs.Common.{◌<◌, length}
use Rattle.cn_table.proofs.Rows.{all_at, the_row}
use Rattle.cn_table.proofs.table.Table.apply.Goals as goal

pub bounds-response-place : goal.bounds-response-place
bounds-response-place c =
    let row = the_row c.self.inside _ _ _ c.self.view_is c.self.invariant c.requires.operation c.index-row.ensures in
    rw (c.as_slice-response.ensures.value, row.response_len) c.requires.state

pub bounds-next-place : goal.bounds-next-place
bounds-next-place c =
    let row = the_row c.self.inside _ _ _ c.self.view_is c.self.invariant c.requires.operation c.index-row.ensures in
    rw (c.as_slice-next.ensures.value, row.next_len) c.requires.state

pub returns-clause-response : goal.returns-clause-response
returns-clause-response c =
    let row = the_row c.self.inside _ _ _ c.self.view_is c.self.invariant c.requires.operation c.index-row.ensures in
    rw c.as_slice-response.ensures.value (all_at (λ x. x < length c.args.self.now.responses) _ c.args.state.0 0 (rw row.response_len c.requires.state) row.response)

pub returns-clause-next : goal.returns-clause-next
returns-clause-next c =
    let row = the_row c.self.inside _ _ _ c.self.view_is c.self.invariant c.requires.operation c.index-row.ensures in
    rw c.as_slice-next.ensures.value (all_at (λ x. x < length c.args.self.now.states) _ c.args.state.0 0 (rw row.next_len c.requires.state) row.next)
