use Rattle.std.proofs.Common.{◌≡◌, take}
use Rattle.cn_io.specs.Arguments.Events.{events_in}
use Rattle.cn_io.proofs.arguments.events.each_in.Given as goal

-- the events so far
abbrev pub invariant-loop-word : goal.invariant-loop-word
invariant-loop-word l = l.events.items ≡ events_in l.object (take l.word-index l.words)
