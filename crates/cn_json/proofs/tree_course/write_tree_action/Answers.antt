use Rattle.cn_json.proofs.tree_course.write_tree_action.Goals as goal

pub returns-in-Apply : goal.returns-in-Apply
returns-in-Apply c = rw c.in-Apply.is c.write_apply.ensures

pub returns-in-Read : goal.returns-in-Read
returns-in-Read c = rw (c.in-Read.is, c.state_name.ensures) c.object.ensures
