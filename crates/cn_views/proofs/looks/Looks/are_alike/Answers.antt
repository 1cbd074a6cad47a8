use Rattle.std.proofs.Common.{ℕ, arith, subst, sym}
use Rattle.std.specs.Prelude.{IsBitSet}
use Rattle.std.proofs.lemmas.List.{get_or_default}
use Rattle.cn_views.proofs.looks.Looks.are_alike.Goals as goal

pub returns : goal.returns
returns c =
    let s = c.requires.looks.sets c.args.one.0 c.requires.one c.args.other.0 in
    let e = get_or_default c.args.self.now.alike c.args.one.0 c.index-self-one.result 0 (omega (arith, c.requires.looks.long, c.requires.one, c.tables_are_valid.ensures.states.1)) in (
      λ h. (s.0 (subst (λ (set : ℕ). IsBitSet set c.args.other.0) e (c.has.ensures.0 h))).1,
      λ a. c.has.ensures.1 (subst (λ (set : ℕ). IsBitSet set c.args.other.0) (sym e) (s.1 (c.requires.other, a))),
    )
