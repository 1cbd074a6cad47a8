use Rattle.std.proofs.Common.{◌≡◌, length}
use Rattle.cn_base_tests.proofs.choice.raw_choice.Given as goal

abbrev pub invariant-loop-process : goal.invariant-loop-process
invariant-loop-process l = (length l.operations.items ≡ l._process) × (length l.marks.items ≡ l._process)
