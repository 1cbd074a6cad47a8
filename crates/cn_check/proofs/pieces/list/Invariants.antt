use Rattle.std.proofs.Common.{◌≡◌, ◌≤◌, ◌-◌, ◌++◌, ◌∷◌, All, List, ℕ, map, decimal, true, nat_le}
use Rattle.std.specs.List.{list_all}
use Rattle.arrayvec.specs.ArrayVec.{array_vec_len}
use Rattle.serde_json.specs.View.{items_of}
use Rattle.serde_json.specs.Written.{compact_text, items_text}
use Rattle.cn_choice.specs.declared.limits.TheConstants.{MOST_PROCESSES}
use Rattle.cn_cert.specs.CertificateText.{number_data, numbers_data}
use Rattle.cn_check.proofs.pieces.list.Given as goal

-- if the text of these numbers comes next, that of all numbers comes at the front
abbrev pub invariant-loop : goal.invariant-loop
invariant-loop l = record {
  len : array_vec_len l.out ≡ l.counter;
  small : list_all (λ n. nat_le n (MOST_PROCESSES - 1)) l.out.items ≡ true;
  greatest : All (λ p. p ≤ l.greatest) l.out.items;
  text : (n : ℕ) (ns rest : List ℕ) → l.left ≡ decimal n ++ (items_text true (items_of (map number_data ns)) ++ rest) → l.bytes ≡ compact_text (numbers_data (l.out.items ++ n ∷ ns)) ++ rest;
}
