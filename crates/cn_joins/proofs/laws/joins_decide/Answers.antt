use Rattle.cn_joins.proofs.Decisions.{complete, sound}
use Rattle.cn_joins.proofs.laws.joins_decide.Goals as goal

pub returns : goal.returns
returns c = record { sound = λ t n m joins l u e. sound t n m joins l u e; complete = λ t n l no. complete t n l no }
