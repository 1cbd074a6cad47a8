use Rattle.std.proofs.Common.{◌≡◌, ◌-◌, ◌++◌, List, ℕ, map, drop, take, true, nat_le}
use Rattle.std.specs.List.{list_all}
use Rattle.serde_json.specs.View.{items_of}
use Rattle.serde_json.specs.Written.{compact_text, items_text}
use Rattle.cn_choice.specs.declared.limits.TheConstants.{MOST_PROCESSES}
use Rattle.cn_cert.specs.CertificateText.{number_data, numbers_data}
use Rattle.cn_check.proofs.pieces.behind_numbers.Given as goal

-- if the text of the numbers that are left comes next, that of all of them comes at the front
abbrev pub invariant-loop-n : goal.invariant-loop-n
invariant-loop-n l = record {
  text : (rest : List ℕ) → l.left ≡ items_text l.later (items_of (map number_data (drop l.n-index l.list))) ++ rest → l.bytes ≡ compact_text (numbers_data l.list) ++ rest;
  small : list_all (λ n. nat_le n (MOST_PROCESSES - 1)) (take l.n-index l.list) ≡ true;
}
