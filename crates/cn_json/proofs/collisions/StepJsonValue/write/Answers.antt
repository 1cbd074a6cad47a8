use Rattle.cn_json.proofs.collisions.StepJsonValue.write.Goals as goal

pub returns : goal.returns
returns c = rw (c.operation_name.ensures, c.response_name.ensures, c.state_name.ensures) c.object.ensures
