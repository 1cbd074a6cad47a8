use Rattle.std.proofs.Common.{◌≡◌, Bool, true, false, not, refl, subst, sym, true≢false}
use Rattle.cn_stocks.proofs.lasting.onward.lasts.Goals as goal

is_true : (b : Bool) → not b ≡ false → b ≡ true
is_true true f = refl
is_true false f = absurd (true≢false f)

pub returns-clause-yes : goal.returns-clause-yes
returns-clause-yes c h = record {
  start_known = c.requires.start;
  many_known = c.requires.many;
  single_known = c.requires.single;
  different = c.requires.different;
  apart = λ q many single.
      let meet = c.meets.ensures.1 (q, (c.single_first.ensures q).1 single, (c.many_first.ensures q).1 many) in
      true≢false (sym (subst (λ (b : Bool). not b ≡ true) meet h));
}

pub returns-clause-no : goal.returns-clause-no
returns-clause-no c h =
    let r = c.meets.ensures.0 (is_true c.meets.result h) in
    (r.0, (c.many_first.ensures r.0).0 r.2, (c.single_first.ensures r.0).0 r.1)
