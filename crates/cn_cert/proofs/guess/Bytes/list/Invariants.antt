use Rattle.std.proofs.Common.{◌≡◌, true, ◌-◌}
use Rattle.std.specs.List.{list_all}
use Rattle.std.specs.Prelude.{nat_le}
use Rattle.arrayvec.specs.ArrayVec.{array_vec_len}
use Rattle.cn_cert.proofs.guess.Bytes.list.Given as goal
use Rattle.cn_choice.specs.declared.limits.TheConstants.{MOST_PROCESSES}

abbrev pub invariant-loop : goal.invariant-loop
invariant-loop l = record {
  len : array_vec_len l.out ≡ l.counter;
  small : list_all (λ n. nat_le n (MOST_PROCESSES - 1)) l.out.items ≡ true;
}
