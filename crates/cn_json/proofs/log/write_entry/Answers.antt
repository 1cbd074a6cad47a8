use Rattle.cn_json.proofs.log.write_entry.Goals as goal

pub returns : goal.returns
returns c = rw (← c.from.ensures, c.operation_name.ensures, c.response_name.ensures, c.state_name.ensures) c.object.ensures
