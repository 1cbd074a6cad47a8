-- A choice with a reason is no recording witness, and one without any is one.
use Rattle.std.proofs.Common.{◌≡◌, ◌∙◌, ℕ, ◌+◌, ◌<◌, ◌≤◌, inl, inr, List, [], ◌++◌, length, length-append, ap, arith, sym, subst}
use Rattle.std.proofs.lemmas.List.Elements.{All-nil}
use Rattle.arrayvec.specs.ArrayVec.{ArrayVec}
use Rattle.cn_table.specs.TypeTable.{IsTypeTable, TypeTable}
use Rattle.cn_choice.specs.Canonical.{Choice, FitsTable, raw_choice_of}
use Rattle.cn_choice.specs.Orders.{IsOrder}
use Rattle.cn_choice.specs.RawChoices.{RawChoice}
use Rattle.cn_choice.specs.declared.team.Team.{Team}
use Rattle.cn_choice.specs.declared.team.Team.TheVariants.{A, B}
use Rattle.cn_outcomes.specs.LeftStates.{LeavesIn}
use Rattle.cn_recover.specs.Recording.{HasTwo, IsRecordingWitness}
use Rattle.cn_recover.proofs.TeamSizes.{two_in_a, two_in_b}
use Rattle.cn_reasons.specs.NotRecording.{BothLeave, IsBack, IsFirstOrder, IsReason, Leaves}
use Rattle.cn_reasons.specs.Runs.{IsShort}
use Rattle.cn_reasons.specs.declared.reason.Reason.{Reason}
use Rattle.cn_reasons.proofs.StateLemmas.{left_known}

module _ (t : TypeTable) (c : RawChoice) where
  pub left_in : (team : Team) (state : ℕ) (order : List ℕ) → Leaves t c team state order → LeavesIn t c team state
  left_in team state order l = (order, l.is, l.begins, l.ends)

  pub first_left_in : (team : Team) (state : ℕ) (order : List ℕ) → IsFirstOrder t c team state order → LeavesIn t c team state
  first_left_in team state order f = left_in team state order f.leaves

  pub reason_refutes : (r : Reason) → IsReason t c r → ¬ IsRecordingWitness t c
  reason_refutes r h w = elim h [
    | inl common ↦ w.apart r.state.0 (first_left_in A r.state.0 r.alpha.items common.alpha) (first_left_in B r.state.0 r.beta.items common.beta)
    | inr back ↦ elim back.way [
      | inl a ↦ w.no_way_back_a a.two (first_left_in A c.state r.alpha.items a.alpha)
      | inr b ↦ w.no_way_back_b b.0.two (first_left_in B c.state r.beta.items b.0.beta)
    ]
  ]

abbrev pub reason : ℕ → ArrayVec ℕ → ArrayVec ℕ → Reason
reason state alpha beta = record { state = record { 0 = state }; alpha = alpha; beta = beta }

-- where no state is common, by the sizes of the teams
module _ (t : TypeTable) (c : Choice) (raw : RawChoice) (same : raw ≡ raw_choice_of c) (apart : (q : ℕ) → ¬ BothLeave t raw q) (start : ℕ) (is : start ≡ c.state) where
  start_is : start ≡ raw.state
  start_is = is ∙ sym (ap (λ (r : RawChoice). r.state) same)

  two_b : 1 < length c.b → HasTwo raw B
  two_b l = subst (λ (r : RawChoice). HasTwo r B) (sym same) ((two_in_b c).1 l)

  two_a : 1 < length c.a → HasTwo raw A
  two_a l = subst (λ (r : RawChoice). HasTwo r A) (sym same) ((two_in_a c).1 l)

  many_b : HasTwo raw B → 1 < length c.b
  many_b h = (two_in_b c).0 (subst (λ (r : RawChoice). HasTwo r B) same h)

  many_a : HasTwo raw A → 1 < length c.a
  many_a h = (two_in_a c).0 (subst (λ (r : RawChoice). HasTwo r A) same h)

  pub back_of_a : (alpha beta : ArrayVec ℕ) → 1 < length c.b → IsFirstOrder t raw A start alpha.items → beta.items ≡ [] → IsBack t raw (reason start alpha beta)
  back_of_a alpha beta l first none = record {
    apart = apart;
    way = inl (record { start = start_is; two = two_b l; alpha = subst (λ (q : ℕ). IsFirstOrder t raw A q alpha.items) start_is first; no_step = none });
  }

  pub back_of_b : (alpha beta : ArrayVec ℕ) → 1 < length c.a → (1 < length c.b → ¬ LeavesIn t raw A start) → IsFirstOrder t raw B start beta.items
      → alpha.items ≡ [] → IsBack t raw (reason start alpha beta)
  back_of_b alpha beta l not_a first none = record {
    apart = apart;
    way = inr (
      record { start = start_is; two = two_a l; beta = subst (λ (q : ℕ). IsFirstOrder t raw B q beta.items) start_is first; no_step = none },
      λ h. not_a (many_b h.0) (subst (LeavesIn t raw A) (sym start_is) h.1),
    );
  }

  pub no_way_back : (1 < length c.b → ¬ LeavesIn t raw A start) → (1 < length c.a → ¬ LeavesIn t raw B start) → IsRecordingWitness t raw
  no_way_back not_a not_b = record {
    apart = λ q a b. apart q (a, b);
    no_way_back_a = λ two h. not_a (many_b two) (subst (LeavesIn t raw A) (sym start_is) h);
    no_way_back_b = λ two h. not_b (many_a two) (subst (LeavesIn t raw B) (sym start_is) h);
  }

-- the state of a reason is of the table, and its orders are of the choice
module _ (t : TypeTable) (is : IsTypeTable t) (c : Choice) (fits : FitsTable t c) (short : (n : ℕ) (order : List ℕ) → IsOrder n order → length order ≤ n) where
  abbrev many : ℕ
  many = length (c.a ++ c.b)

  order_short : (team : Team) (state : ℕ) (order : List ℕ) → IsFirstOrder t (raw_choice_of c) team state order → IsShort many order
  order_short team state order f = record {
    known = f.leaves.is.known;
    short = omega (arith, short (length (c.a ++ c.b)) order f.leaves.is, length-append c.a c.b, fits.few);
  }

  none_short : (order : List ℕ) → order ≡ [] → IsShort many order
  none_short order e = subst (IsShort many) (sym e) (record { known = All-nil (λ p. p < many); short = omega arith })

  state_known : (team : Team) (state : ℕ) (order : List ℕ) → IsFirstOrder t (raw_choice_of c) team state order → state < length t.states
  state_known team state order f = left_known t is (raw_choice_of c) (length c.a + length c.b) fits.fits team state (first_left_in t (raw_choice_of c) team state order f)

  pub reason_parts : (r : Reason) → IsReason t (raw_choice_of c) r
      → (r.state.0 < length t.states) × IsShort (length (c.a ++ c.b)) r.alpha.items × IsShort (length (c.a ++ c.b)) r.beta.items
  reason_parts r h = elim h [
    | inl w ↦ (state_known A r.state.0 r.alpha.items w.alpha, order_short A r.state.0 r.alpha.items w.alpha, order_short B r.state.0 r.beta.items w.beta)
    | inr b ↦ elim b.way [
      | inl w ↦ (subst (λ (q : ℕ). q < length t.states) (sym w.start) fits.fits.state_known, order_short A c.state r.alpha.items w.alpha, none_short r.beta.items w.no_step)
      | inr w ↦ (subst (λ (q : ℕ). q < length t.states) (sym w.0.start) fits.fits.state_known, none_short r.alpha.items w.0.no_step, order_short B c.state r.beta.items w.0.beta)
    ]
  ]
