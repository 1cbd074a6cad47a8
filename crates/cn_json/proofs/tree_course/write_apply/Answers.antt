use Rattle.cn_json.proofs.tree_course.write_apply.Goals as goal

pub returns-in-None : goal.returns-in-None
returns-in-None c = rw (c.in-None.is, c.state_name-after.ensures, c.state_name-before.ensures, c.operation_name-done.ensures, c.response_name-given.ensures) c.object-in-None.ensures
