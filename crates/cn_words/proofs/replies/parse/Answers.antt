use Rattle.std.proofs.Common.{map, string_bytes}
use Rattle.cn_words.proofs.ReplyLemmas.{command_given, fault_given, reply_given}
use Rattle.cn_words.proofs.replies.parse.Goals as goal

pub returns-in-Ok-invocation_of : goal.returns-in-Ok-invocation_of
returns-in-Ok-invocation_of c =
    command_given c.in_ok-command.field-0 c.in-Ok.matches (map string_bytes c.args.words.now) c.in-Ok-invocation_of.invocation
    c.in_ok-command.ensures c.in-Ok.ensures.matches c.in-Ok.ensures.kinds c.in-Ok-invocation_of.ensures

pub returns-in-Ok : goal.returns-in-Ok
returns-in-Ok c =
    fault_given c.in_ok-command.field-0 c.in-Ok.matches (map string_bytes c.args.words.now) c.in-Err-invocation_of.fault
    c.in_ok-command.ensures c.in-Ok.ensures.matches c.in-Err-invocation_of.ensures

pub returns : goal.returns
returns c =
    reply_given c.in_ok-command.field-0 c.in-Err.error (map string_bytes c.args.words.now) c.reply_to.result
    c.in_ok-command.ensures c.in-Err.ensures.kinds c.reply_to.ensures
