use Rattle.std.proofs.Common.{◌≤◌, ◌∷◌, ◌++◌, ◌-◌, [], ℕ, All, List, ap, arith, rules, subst, sym, ◌∙◌}
use Rattle.std.proofs.lemmas.List.Elements.{All-from_recursion}
use Rattle.serde_json.specs.Written.{compact_text}
use Rattle.cn_cert.specs.CertificateText.{numbers_data}
use Rattle.cn_choice.specs.declared.limits.TheConstants.{MOST_PROCESSES}
use Rattle.cn_check.proofs.PieceLemmas.{greatest_read, read_end, read_first, read_more, small_read}
use Rattle.cn_check.proofs.pieces.list.Goals as goal

pub loop-init : goal.loop-init
loop-init c = record {
  len = search rules;
  small = search rules;
  greatest = subst (λ (xs : List ℕ). All (λ p. p ≤ 0) xs) (sym c.new-out.ensures) (All-from_recursion (λ p. p ≤ 0) [] tt);
  text = read_first c.args.bytes.now _ _ c.new-out.ensures c.in_ok-first.ensures;
}

pub loop-preserved : goal.loop-preserved
loop-preserved c = record {
  len = omega (arith, c.push.ensures.len, c.loop.invariant.len);
  small = small_read (MOST_PROCESSES - 1) _ c.loop.out.items _ c.push.ensures.items (omega (arith, c.in_ok-process.ensures.small)) c.loop.invariant.small;
  greatest = greatest_read _ _ _ _ _ c.push.ensures.items c.greater-greatest.ensures.0 c.greater-greatest.ensures.1 c.loop.invariant.greatest;
  text = λ n ns rest g.
      read_more c.args.bytes.now c.loop.out.items c.loop.left.now c.loop.invariant.text _ _ _ c.in_ok-process.ensures.text c.in_ok-left.ensures n ns rest g
      ∙ ap (λ (xs : List ℕ). compact_text (numbers_data (xs ++ n ∷ ns)) ++ rest) (sym c.push.ensures.items);
}

pub returns-in-Some-clause-text : goal.returns-in-Some-clause-text
returns-in-Some-clause-text c =
    read_end c.args.bytes.now c.loop.out.items c.loop.left.now c.loop.invariant.text _ _ _ c.in_ok-process.ensures.text c.in-Some.ensures
    ∙ ap (λ (xs : List ℕ). compact_text (numbers_data xs) ++ c.in-Some.rest.now) (sym c.push.ensures.items)

pub returns-in-Some-clause-greatest : goal.returns-in-Some-clause-greatest
returns-in-Some-clause-greatest c = greatest_read _ _ _ _ _ c.push.ensures.items c.greater-greatest.ensures.0 c.greater-greatest.ensures.1 c.loop.invariant.greatest
