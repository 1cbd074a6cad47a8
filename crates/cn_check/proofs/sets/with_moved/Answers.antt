use Rattle.std.proofs.Common.{◌≡◌, ◌*◌, ◌^◌, ◌%◌, ◌<◌, ℕ, bit_or, subst, sym}
use Rattle.std.proofs.lemmas.Nat.{one_shl}
use Rattle.cn_check.proofs.SetLemmas.{moved_more}
use Rattle.cn_check.proofs.sets.with_moved.Goals as goal

pub returns-clause-more : goal.returns-clause-more
returns-clause-more c none =
    let one : 1 * 2 ^ c.args.process % 2 ^ 8 ≡ 2 ^ c.args.process = one_shl c.args.process 8 c.requires in
    subst (λ (bit : ℕ). c.args.used < bit_or c.args.used bit) (sym one) (moved_more c.args.used c.args.process none)
