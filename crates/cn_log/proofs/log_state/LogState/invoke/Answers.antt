use Rattle.std.proofs.Common.{arith}
use Rattle.cn_log.proofs.StateLemmas.Fields.{calls_few, invoke_keeps, keeps_shown, read_at}
use Rattle.cn_log.proofs.log_state.LogState.invoke.Goals as goal

pub overflow_add-here : goal.overflow_add-here
overflow_add-here c =
    let here = read_at c.self.inside.callers.items c.index_mut-here.ensures.value c.from.ensures in
    let few = calls_few _ _ c.openings_are_valid.ensures.agrees (keeps_shown c.requires.1 c.self.view_is) c.requires.2 here in
    let slots = c.openings_are_valid.ensures.opening.few in
    omega arith

pub returns-clause-keeps : goal.returns-clause-keeps
returns-clause-keeps c = λ s keeps may.
    let here = read_at c.self.inside.callers.items c.index_mut-here.ensures.value c.from.ensures in
    rw (c.first_look-here.ensures, c.from.ensures, c.from-2.ensures) (invoke_keeps _ _ c.openings_are_valid.ensures.agrees (keeps_shown keeps c.self.view_is) may here)
