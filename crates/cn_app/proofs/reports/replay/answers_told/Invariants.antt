use Rattle.std.proofs.Common.{◌≡◌, take}
use Rattle.cn_app.specs.Answers.{answers_told}
use Rattle.cn_app.proofs.reports.replay.answers_told.Given as goal

abbrev pub invariant-loop-end : goal.invariant-loop-end
invariant-loop-end l = l.answers.items ≡ answers_told (take l.end-index l.ends)
