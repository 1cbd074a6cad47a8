use Rattle.cn_json.proofs.log.AnswerOfJsonValue.write.Goals as goal

pub returns-in-None : goal.returns-in-None
returns-in-None c = rw c.in-None.is c.write_unanswered-in-None.ensures
