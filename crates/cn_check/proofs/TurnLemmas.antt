-- No two faults are looked for at one turn.
use Rattle.std.proofs.Common.{◌≡◌, ℕ, zero, suc, ◌+◌, ◌*◌, ◌/◌, ◌%◌, ◌⊎◌, inl, inr, refl, sym, ap, ◌∙◌, arith, cond, nat_eq}
use Rattle.std.proofs.lemmas.Bool.{cases_order, eq-eqb, ne_eqb}
use Rattle.cn_table.specs.TypeTable.{TypeTable}
use Rattle.cn_cert.specs.Certificate.{Certificate}
use Rattle.cn_check.specs.Faults.{ComesSooner, IsFirstFault, turn}
use Rattle.cn_check.specs.declared.fault.CheckFault.{CheckFault}
use Rattle.cn_check.specs.declared.fault.CheckFault.TheVariants.{OtherType, BadNumber, WitnessShape, WitnessMeets, Unexpected, NotNext, NotACollision, TooFew}

-- the fault that is looked for at a turn
abbrev fault_at : ℕ → ℕ → CheckFault
fault_at (suc zero) k = OtherType
fault_at (suc (suc zero)) k = BadNumber
fault_at (suc (suc (suc zero))) k = WitnessShape
fault_at (suc (suc (suc (suc zero)))) k = WitnessMeets k
fault_at (suc (suc (suc (suc (suc zero))))) k = Unexpected
fault_at (suc (suc (suc (suc (suc (suc zero)))))) k = cond (nat_eq (k % 2) 0) (NotNext (k / 2)) (NotACollision (k / 2))
fault_at _ k = TooFew

at_its_turn : (e : CheckFault) → fault_at (turn e).0 (turn e).1 ≡ e
at_its_turn OtherType = refl
at_its_turn BadNumber = refl
at_its_turn WitnessShape = refl
at_its_turn (WitnessMeets j) = refl
at_its_turn Unexpected = refl
at_its_turn (NotNext i) = rw (eq-eqb (2 * i % 2) 0 (omega arith)) (ap NotNext (omega arith))
at_its_turn (NotACollision i) = rw (ne_eqb ((2 * i + 1) % 2) 0 (λ e. omega (arith, e))) (ap NotACollision (omega arith))
at_its_turn TooFew = refl

-- of two faults one is looked for sooner, or they are the same
pub sooner_or_same : (e f : CheckFault) → ComesSooner e f ⊎ (ComesSooner f e ⊎ (e ≡ f))
sooner_or_same e f = elim (cases_order (turn e).0 (turn f).0) [
  | inl round ↦ elim (cases_order (turn e).1 (turn f).1) [
    | inl same ↦ inr (inr (sym (at_its_turn e) ∙ (ap (λ (k : ℕ). fault_at k (turn e).1) round ∙ (ap (fault_at (turn f).0) same ∙ at_its_turn f))))
    | inr apart ↦ elim apart [ inl less ↦ inl (inr (round, less)) | inr more ↦ inr (inl (inr (sym round, more))) ]
  ]
  | inr apart ↦ elim apart [ inl less ↦ inl (inl less) | inr more ↦ inr (inl (inl more)) ]
]

pub one_first : (t : TypeTable) (c : Certificate) (e f : CheckFault) → IsFirstFault t c e → IsFirstFault t c f → e ≡ f
one_first t c e f h g = elim (sooner_or_same e f) [
  | inl sooner ↦ absurd (g.first e sooner h.holds)
  | inr rest ↦ elim rest [ inl later ↦ absurd (h.first f later g.holds) | inr same ↦ same ]
]
