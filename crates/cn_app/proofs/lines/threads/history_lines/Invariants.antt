use Rattle.std.proofs.Common.{◌≡◌, ◌++◌, drop, string_bytes}
use Rattle.cn_app.specs.Lines.Threads.{history_lines}
use Rattle.cn_app.proofs.lines.threads.history_lines.Given as goal

abbrev pub invariant-loop-process : goal.invariant-loop-process
invariant-loop-process l = string_bytes l.lines ++ history_lines l.object l.process (drop l.process l.worked) ≡ history_lines l.object 0 l.worked
