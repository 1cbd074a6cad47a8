use Rattle.cn_json.proofs.course.write_action.Goals as goal

pub returns-in-Apply : goal.returns-in-Apply
returns-in-Apply c = rw (c.in-Apply.is, c.state_name-in-Apply.ensures, c.state_name.ensures, c.operation_name.ensures, c.response_name.ensures) c.object.ensures

pub returns-in-Read : goal.returns-in-Read
returns-in-Read c = rw (c.in-Read.is, ← c.name.ensures, c.state_name-in-Read.ensures) c.object-in-Read.ensures
