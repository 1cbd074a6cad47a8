use Rattle.cn_json.proofs.lives.LifeRecordJsonValue.write.Goals as goal

pub returns-in-ReadStart : goal.returns-in-ReadStart
returns-in-ReadStart c = rw (c.in-ReadStart.is, c.state_name.ensures) c.object.ensures
