use Rattle.std.proofs.Common.{◌≡◌, ◌++◌, drop}
use Rattle.cn_json.specs.Course.{decision_data}
use Rattle.cn_json.specs.Tokens.{list_rest}
use Rattle.cn_json.proofs.course.write_each_decision.Given as goal

-- the decisions that are left make up the array
abbrev pub invariant-loop-decision : goal.invariant-loop-decision
invariant-loop-decision l = l.out ++ list_rest decision_data (drop l.decision-index l.decisions) ≡ l.initial.out ++ list_rest decision_data l.decisions
