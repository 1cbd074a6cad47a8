use Rattle.std.proofs.Common.{◌≡◌, ◌≤◌, ◌+◌, ◌++◌, ◌∙◌, List, ap, append-nil, append_assoc, arith, drop, false, flat_map, length, refl, sym, take, true, Bool}
use Rattle.cn_changes.specs.Pairs.{is_before, pair_with}
use Rattle.cn_changes.specs.declared.change.Change.{Change}
use Rattle.cn_changes.specs.declared.pairs.ChangePair.{ChangePair}
use Rattle.cn_changes.specs.declared.pairs.TheConstants.{MOST_PAIRS}
use Rattle.cn_changes.proofs.Cutting.{cut_full, cut_none, parts_next, parts_of_all}
use Rattle.cn_changes.proofs.pairs.push_pairs.Goals as goal

one_at_most : (c d : Change) (b : Bool) → b ≡ is_before c d → length (pair_with c d) ≤ 1
one_at_most c d true e = rw (← e) (omega arith)
one_at_most c d false e = rw (← e) (omega arith)

pub loop-second-init : goal.loop-second-init
loop-second-init c =
    sym (cut_none (MOST_PAIRS + 1) c.args.pairs.now.items c.requires) ∙ ap (take (MOST_PAIRS + 1)) (sym (append-nil c.args.pairs.now.items))

pub loop-second-preserved : goal.loop-second-preserved
loop-second-preserved c =
    parts_next (MOST_PAIRS + 1) (pair_with c.args.first) c.args.changes.now c.loop-second.second-index _ c.args.pairs.now.items c.loop-second.pairs.items c.push_pair.new.pairs.items
    c.loop-second-test.true c.loop-second.invariant (λ d. one_at_most c.args.first d (is_before c.args.first d) refl)
    (omega (arith, c.if-len-gt-MOST_PAIRS.false, c.len.ensures, c.loop-second.pairs.ok.0)) c.in_ok-push_pair.ensures

pub returns-then-len-gt-MOST_PAIRS : goal.returns-then-len-gt-MOST_PAIRS
returns-then-len-gt-MOST_PAIRS c =
    let old : List ChangePair = c.args.pairs.now.items in
    let i = c.loop-second.second-index in
    let f = pair_with c.args.first in
    let front : List ChangePair = flat_map f (take i c.args.changes.now) in
    let back : List ChangePair = flat_map f (drop i c.args.changes.now) in
    cut_full (MOST_PAIRS + 1) (old ++ front) back c.loop-second.pairs.items c.loop-second.invariant (omega (arith, c.if-len-gt-MOST_PAIRS.true, c.len.ensures, c.loop-second.pairs.ok.0))
    ∙ ap (take (MOST_PAIRS + 1)) (append_assoc old front back ∙ ap (λ ys. old ++ ys) (sym (parts_of_all f c.args.changes.now i)))
