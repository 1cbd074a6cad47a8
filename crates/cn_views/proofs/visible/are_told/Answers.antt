use Rattle.std.proofs.Common.{◌≡◌, ◌∙◌, arith, below_more, ap, length, refl, sym, true≢false}
use Rattle.cn_choice.specs.Canonical.{Choice, raw_choice_of}
use Rattle.cn_choice.specs.declared.team.Team.TheVariants.{A}
use Rattle.cn_views.proofs.visible.are_told.Goals as goal

pub loop-process-preserved : goal.loop-process-preserved
loop-process-preserved c = below_more _ _ c.loop-process.invariant (c.is_told.ensures.0 c.if-not-is_told.false)

pub returns-then-not-is_told : goal.returns-then-not-is_told
returns-then-not-is_told c = (
  λ f. absurd (true≢false (sym f)),
  λ visible. absurd (true≢false (sym (c.is_told.ensures.1 (visible c.loop-process.process)) ∙ c.if-not-is_told.true)),
)

pub returns : goal.returns
returns c =
    let t = c.args.table.now in
    let raw = raw_choice_of c.args.choice.now in
    let a : c.len.result ≡ length c.args.choice.now.a = c.len.ensures.value ∙ ap (λ (c : Choice). length c.a) c.choice.view_is in
    let b : c.len-2.result ≡ length c.args.choice.now.b = c.len-2.ensures.value ∙ ap (λ (c : Choice). length c.b) c.choice.view_is in (
      λ _ j r p q x y same. c.loop-process.invariant j
          (omega (arith, a, b, c.loop-process-test.false, c.loop-process.auto.process-end, c.requires.fits.fits.one_operation_each, c.process_of_pair.ensures t raw A j (r, p) x)) r p q x y same,
      λ _. refl,
    )
