use Rattle.cn_json.proofs.flaws.IdleOperationJsonValue.write.Goals as goal

pub returns : goal.returns
returns c = rw (c.operation_name.ensures) c.object.ensures
