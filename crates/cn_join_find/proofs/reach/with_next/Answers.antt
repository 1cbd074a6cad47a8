use Rattle.std.proofs.Common.{ap, inl, inr, sym, ◌∙◌}
use Rattle.cn_join_find.proofs.reach.with_next.Goals as goal

pub returns-then-contains : goal.returns-then-contains
returns-then-contains c = record {
  larger = λ x b. (c.with.ensures x).1 (inl b);
  joined = λ chosen one same all x b. elim ((c.with.ensures x).0 b) [ inl s ↦ all x s | inr e ↦ ap chosen e ∙ (sym same ∙ all c.args.first (c.contains.ensures.0 c.if-contains.true)) ];
}
