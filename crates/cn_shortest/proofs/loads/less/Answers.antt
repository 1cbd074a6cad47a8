use Rattle.cn_shortest.proofs.Lesser.{first_less, second_less}
use Rattle.cn_shortest.proofs.loads.less.Goals as goal

pub returns-then-is_at_most : goal.returns-then-is_at_most
returns-then-is_at_most c = first_less c.args.x c.args.y c.in-Some.a c.in-Some-y.b c.in-Some.is c.in-Some-y.is (c.is_at_most.ensures.0 c.if-is_at_most.true)

pub returns-else-is_at_most : goal.returns-else-is_at_most
returns-else-is_at_most c = second_less c.args.x c.args.y c.in-Some.a c.in-Some-y.b c.in-Some.is c.in-Some-y.is c.is_at_most.result c.is_at_most.ensures c.if-is_at_most.false
