use Rattle.std.proofs.Common.{◌∙◌, inl, inr, refl, sym, true≢false}
use Rattle.cn_stock_check.proofs.stocks.is_left_out.Goals as goal

pub returns-then-is_copy : goal.returns-then-is_copy
returns-then-is_copy c stock has = (λ h. inl (c.is_copy.ensures.0 c.if-is_copy.true), λ h. refl)

pub returns : goal.returns
returns c stock has = (
  λ h. inr ((c.has_earlier.ensures stock has).0 h),
  λ out. elim out [ inl copy ↦ absurd (true≢false (sym (c.is_copy.ensures.1 copy) ∙ c.if-is_copy.false)) | inr early ↦ (c.has_earlier.ensures stock has).1 early ],
)
