use Rattle.std.proofs.Common.{◌≡◌, ◌++◌, drop, string_bytes}
use Rattle.cn_plan_text.specs.Log.{reply_lines}
use Rattle.cn_plan_text.proofs.log.reply_lines.Given as goal

abbrev pub invariant-loop-reply : goal.invariant-loop-reply
invariant-loop-reply l = string_bytes l.lines ++ reply_lines l.object l.process (drop l.reply-index l.replies) ≡ reply_lines l.object l.process l.replies
