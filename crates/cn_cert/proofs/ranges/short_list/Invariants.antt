use Rattle.std.proofs.Common.{◌≡◌, ◌≤◌, length, take, true, nat_le, ◌-◌}
use Rattle.std.specs.List.{list_all}
use Rattle.arrayvec.specs.ArrayVec.{array_vec_len}
use Rattle.cn_cert.proofs.ranges.short_list.Given as goal
use Rattle.cn_choice.specs.declared.limits.TheConstants.{MOST_PROCESSES}

abbrev pub invariant-loop-n : goal.invariant-loop-n
invariant-loop-n l = record {
  so_far : l.out.items ≡ take l.n-index l.numbers;
  len : array_vec_len l.out ≡ l.n-index;
  small : list_all (λ n. nat_le n (MOST_PROCESSES - 1)) (take l.n-index l.numbers) ≡ true;
  few : length l.numbers ≤ MOST_PROCESSES;
}
