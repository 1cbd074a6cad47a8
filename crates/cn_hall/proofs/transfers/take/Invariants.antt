use Rattle.std.proofs.Common.{◌≡◌}
use Rattle.crossbeam_queue.specs.Passes.{view, IsSamePass}
use Rattle.cn_hall.proofs.transfers.take.Given as goal

abbrev pub invariant-loop : goal.invariant-loop
invariant-loop g l = record { same : IsSamePass l.initial.pass l.pass; view : view l.pass ≡ view l.initial.pass }
