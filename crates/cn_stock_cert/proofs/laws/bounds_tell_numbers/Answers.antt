use Rattle.cn_stock_cert.proofs.Bounds.{at_limit, no_number, none_up_to, one_number, up_to}
use Rattle.cn_stock_cert.proofs.laws.bounds_tell_numbers.Goals as goal

pub returns : goal.returns
returns c = record {
  number = λ t n two b. one_number t n two b;
  no_number = λ t at_least b. no_number t at_least b;
  up_to = λ t n limit two l b. up_to t n limit two l b;
  none_up_to = λ t limit at_least b. none_up_to t limit at_least b;
  at_limit = λ t limit at_most two b. at_limit t limit at_most two b;
}
