use Rattle.cn_json.proofs.plan.PlaceJsonValue.write.Goals as goal

pub returns : goal.returns
returns c = rw (← c.name.ensures) c.object.ensures
