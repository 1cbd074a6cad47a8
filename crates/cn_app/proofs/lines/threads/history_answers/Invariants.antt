use Rattle.std.proofs.Common.{◌≡◌, ◌++◌, drop}
use Rattle.cn_app.specs.Lines.Threads.{history_answers}
use Rattle.cn_app.proofs.lines.threads.history_answers.Given as goal

abbrev pub invariant-loop-process : goal.invariant-loop-process
invariant-loop-process l = l.answers.items ++ history_answers l.process (drop l.process l.worked) ≡ history_answers 0 l.worked
