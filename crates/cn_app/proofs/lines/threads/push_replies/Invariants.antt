use Rattle.std.proofs.Common.{◌≡◌, ◌++◌, take}
use Rattle.cn_app.specs.Lines.Threads.{reply_answers}
use Rattle.cn_app.proofs.lines.threads.push_replies.Given as goal

abbrev pub invariant-loop-reply : goal.invariant-loop-reply
invariant-loop-reply l = l.answers.items ≡ l.fn.answers.items ++ reply_answers l.process (take l.reply-index l.replies)
