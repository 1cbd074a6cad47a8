use Rattle.std.proofs.Common.{inl, inr}
use Rattle.cn_telling.proofs.shown.Shown.add_to.Goals as goal

pub returns : goal.returns
returns c t stock asked is below r q =
    let added = c.add_all.ensures r q in
    let here = is c.args.start below r q in (
      λ h. elim (added.0 h) [ inl a ↦ inl a | inr b ↦ inr (here.0 b) ],
      λ h. added.1 (elim h [ inl a ↦ inl a | inr b ↦ inr (here.1 b) ]),
    )
