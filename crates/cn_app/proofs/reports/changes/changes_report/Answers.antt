use Rattle.std.proofs.Common.{◌≡◌, ◌==◌, ◌∙◌, All, Bool, IfSome, Option, Some, None, ap, false, length, string_bytes, subst, sym, true}
use Rattle.cn_table.specs.TypeTable.{TypeTable}
use Rattle.cn_changes.specs.Pairs.{ArePairNumbers}
use Rattle.cn_changes.specs.Raises.{raises_of}
use Rattle.cn_changes.specs.declared.changes.Changes.{Changes}
use Rattle.cn_changes.specs.declared.pairs.PairNumbers.{PairNumbers}
use Rattle.cn_json.specs.Changes.{AreKnownPairs}
use Rattle.cn_app.specs.Commands.Changes.{ArePairsAfter, ArePairsFor}
use Rattle.cn_app.proofs.reports.changes.changes_report.Goals as goal

module _ (t : TypeTable) (c : Changes) (known : (p : PairNumbers) → ArePairNumbers c.kind t c.number p → AreKnownPairs t p) where
  known_after : (tried : Bool) (pairs : Option PairNumbers) → ArePairsAfter tried t c pairs → IfSome pairs (AreKnownPairs t)
  known_after true (Some p) are = known p are
  known_after true None are = absurd are
  known_after false pairs none = subst (λ (o : Option PairNumbers). IfSome o (AreKnownPairs t)) (sym none) tt

  known_for : (asked : Bool) (pairs : Option PairNumbers) → ArePairsFor asked t c pairs → IfSome pairs (AreKnownPairs t)
  known_for false pairs none = subst (λ (o : Option PairNumbers). IfSome o (AreKnownPairs t)) (sym none) tt
  known_for true pairs are = known_after (length (raises_of c.number c.nexts.items) == 0) pairs are

pub text_of-requires-clause-nexts : goal.text_of-requires-clause-nexts
text_of-requires-clause-nexts g c =
    c.told_changes_are_known.ensures.nexts c.args.asked.kind c.args.table.now c.in_ok-changes.changes.nexts.items c.in_ok-changes.ensures.nexts

pub text_of-requires-clause-pairs : goal.text_of-requires-clause-pairs
text_of-requires-clause-pairs g c =
    let t = c.args.table.now in
    let changes = c.in_ok-changes.changes in
    known_for t changes (λ p are. c.told_changes_are_known.ensures.pairs changes.kind t changes.number p are) c.args.asked.pairs c.in_ok-pairs.pairs c.in_ok-pairs.ensures

pub returns : goal.returns
returns g c = (
  record {
    changes = c.in_ok-changes.changes;
    pairs = c.in_ok-pairs.pairs;
    are = record {
      kind_is = c.in_ok-changes.ensures.kind;
      number = c.in_ok-changes.ensures.number;
      nexts = c.in_ok-changes.ensures.nexts;
    };
    pairs_are = c.in_ok-pairs.ensures;
    written = ap string_bytes c.whole.ensures.text ∙ c.in_ok-text_of.ensures;
  },
  c.whole.ensures.outcome,
)
