use Rattle.std.proofs.Common.{◌+◌, ◌∙◌, All, List, ap, arith, flat_map, length, subst, sym, take}
use Rattle.std.proofs.lemmas.List.{length-take}
use Rattle.cn_changes.specs.Greatest.{greatest_first}
use Rattle.cn_changes.specs.Kinds.{HasNumberOf}
use Rattle.cn_changes.specs.Pairs.{change_pairs, told_if, with_both}
use Rattle.cn_changes.specs.declared.greatest.TheConstants.{GREATEST_RANK}
use Rattle.cn_changes.specs.declared.pairs.ChangePair.{ChangePair}
use Rattle.cn_changes.specs.declared.pairs.PairNumber.{PairNumber}
use Rattle.cn_changes.specs.declared.pairs.TheConstants.{MOST_PAIRS}
use Rattle.cn_changes.proofs.Cutting.{cut_twice}
use Rattle.cn_changes.proofs.Known.{IsKnownPair, pairs_known}
use Rattle.cn_changes.proofs.Zipped.{all_of, listed_of}
use Rattle.cn_changes.proofs.pairs.pair_numbers.Goals as goal

pub numbers_of-requires-after_bounds : goal.numbers_of-requires-after_bounds
numbers_of-requires-after_bounds g c = λ _ _.
    let t = c.args.table.now in
    subst (λ (xs : List ChangePair). All (IsKnownPair t) xs)
    (sym (c.front_of-tried.ensures ∙ (ap (take MOST_PAIRS) (c.as_slice.ensures.value ∙ c.in_ok-pairs.ensures) ∙ cut_twice MOST_PAIRS (MOST_PAIRS + 1) (change_pairs t) (omega arith))))
    (pairs_known t MOST_PAIRS)

pub returns : goal.returns
returns g c =
    let t = c.args.table.now in
    let all : List PairNumber = c.in_ok-told.told.items in
    let of : PairNumber → ChangePair = λ x. x.pair in
    let P : PairNumber → Type 0 = λ x. HasNumberOf c.args.kind (with_both t x.pair) x.number in
    record {
      all = all;
      numbers = record {
        listed = listed_of of P c.front_of-tried.result.now all c.in_ok-told.ensures
            ∙ (c.front_of-tried.ensures ∙ (ap (take MOST_PAIRS) (c.as_slice.ensures.value ∙ c.in_ok-pairs.ensures) ∙ cut_twice MOST_PAIRS (MOST_PAIRS + 1) (change_pairs t) (omega arith)));
        numbers = all_of of P c.front_of-tried.result.now all c.in_ok-told.ensures;
      };
      raising = c.in_ok-raising-2.ensures
          ∙ ap (greatest_first (λ (x : PairNumber). x.number) GREATEST_RANK) (c.as_slice-3.ensures.value ∙ (c.in_ok-raising.ensures ∙ ap (flat_map (told_if c.args.number)) c.as_slice-2.ensures.value));
      cut = (
        λ h. omega (arith, c.are_more-is_cut.ensures.0 h, c.len.ensures, c.in_ok-pairs.pairs.ok.0, ap length c.in_ok-pairs.ensures, length-take (MOST_PAIRS + 1) (change_pairs t)),
        λ h. c.are_more-is_cut.ensures.1 (omega (arith, h, c.len.ensures, c.in_ok-pairs.pairs.ok.0, ap length c.in_ok-pairs.ensures, length-take (MOST_PAIRS + 1) (change_pairs t))),
      );
    }
