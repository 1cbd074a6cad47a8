use Rattle.std.proofs.Common.{◌≡◌, ◌-◌, ◌≤◌, length, take, drop, ◌∙◌, arith, leb, ltb, rules}
use Rattle.std.proofs.lemmas.List.{get_or-drop, get_or-take, length-drop, length-take-le}
use Rattle.std.proofs.lemmas.List.Sorted.{IsNonDecreasingBy-drop, IsNonDecreasingBy-take, IsPartitionPoint-from_clause, IsPartitionedBy-leb, IsPartitionedBy-ltb}
use Rattle.cn_game.specs.InOrder.{pair_of}
use Rattle.cn_game.specs.declared.trap.Turn.{Turn}
use Rattle.cn_game.proofs.Halves.{all_found, found_listed}
use Rattle.cn_game.proofs.turns.with_pair.Goals as goal

pub returns-clause-listed : goal.returns-clause-listed
returns-clause-listed c =
    let xs = c.args.turns.now in
    let i = c.partition_point-start.result in
    let j = c.partition_point-end.result in
    let rest = take (length xs - i) (drop i xs) in
    let long : length rest ≡ length xs - i = length-take-le (length xs - i) (drop i xs) (omega (arith, length-drop i xs)) in
    let inside : j ≤ length rest = c.partition_point-end.ensures.bound in
    found_listed (λ (turn : Turn). pair_of turn.board) c.args.pair xs rest (take j rest) i j
    (λ k d l. get_or-take (length xs - i) (drop i xs) k d (omega (arith, l, long)) ∙ get_or-drop i xs k d)
    (omega (arith, long, c.partition_point-start.ensures.bound))
    (λ k d l. get_or-take j rest k d l)
    (length-take-le j rest inside) inside

pub returns-clause-all : goal.returns-clause-all
returns-clause-all c =
    let xs = c.args.turns.now in
    let n = λ (turn : Turn). pair_of turn.board in
    let i = c.partition_point-start.result in
    let j = c.partition_point-end.result in
    let rest = take (length xs - i) (drop i xs) in
    let long : length rest ≡ length xs - i = length-take-le (length xs - i) (drop i xs) (omega (arith, length-drop i xs)) in
    let inside : j ≤ length rest = c.partition_point-end.ensures.bound in
    let rising = IsNonDecreasingBy-take n (length xs - i) (drop i xs) (IsNonDecreasingBy-drop n i xs c.requires) in
    let low = IsPartitionPoint-from_clause (λ (turn : Turn). ltb (pair_of turn.board) c.args.pair) _ _ c.partition_point-start.ensures.partitioned (IsPartitionedBy-ltb n xs c.args.pair c.requires) (λ a r q k. search rules) in
    let high = IsPartitionPoint-from_clause (λ (turn : Turn). leb (pair_of turn.board) c.args.pair) _ _ c.partition_point-end.ensures.partitioned (IsPartitionedBy-leb n rest c.args.pair rising) (λ a r q k. search rules) in
    all_found n c.args.pair xs rest (take j rest) i j
    (λ k d l. get_or-take (length xs - i) (drop i xs) k d (omega (arith, l, long)) ∙ get_or-drop i xs k d)
    (omega (arith, long, c.partition_point-start.ensures.bound))
    (λ k d l. get_or-take j rest k d l)
    (length-take-le j rest inside) inside low high
