use Rattle.std.proofs.Common.{◌≡◌, ◌*◌, ◌^◌, ◌%◌, ◌↔◌, ℕ, subst, sym}
use Rattle.std.proofs.lemmas.Nat.{one_shl}
use Rattle.cn_stock_check.specs.Sets.{IsIn}
use Rattle.cn_stock_check.proofs.SetLemmas.{in_pow}
use Rattle.cn_stock_check.proofs.sets.only.Goals as goal

pub returns : goal.returns
returns c q =
    let one : 1 * 2 ^ c.args.number % 2 ^ 16 ≡ 2 ^ c.args.number = one_shl c.args.number 16 c.requires in
    subst (λ (set : ℕ). IsIn set q ↔ (q ≡ c.args.number)) (sym one) (in_pow c.args.number q)
