use Rattle.cn_json.specs.TreeCourses.{tree_course_data}
use Rattle.cn_json.proofs.Pieces.{piece}
use Rattle.cn_json.proofs.tree_course.write_tree_course.Goals as goal

pub returns : goal.returns
unfolding tree_course_data
returns c = rw (← c.course.view_is, ← c.deref.ensures.value, ← c.deref-2.ensures.value)
    (piece c.in_ok-begin_with_decisions.ensures (piece c.in_ok-array_at.ensures c.end_object.ensures))
