use Rattle.std.proofs.Common.{◌<◌}
use Rattle.std.proofs.lemmas.List.Elements.{recursion_from_All}
use Rattle.cn_choice.proofs.OrderLemmas.AllOrders.{differ_from, fits_below}
use Rattle.cn_choice.proofs.laws.short_orders.Goals as goal

pub returns : goal.returns
returns c n order is = fits_below n order (recursion_from_All (λ p. p < n) order is.known) (differ_from order is.distinct)
