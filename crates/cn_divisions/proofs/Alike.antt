-- Pairs that look alike, by sets of states.
use Rattle.std.proofs.Common.{ℕ, ◌≡◌, ◌↔◌, ◌<◌, ◌∙◌, List, [], ◌∷◌, length, get_or, true, true≢false, refl, sym, arith, subst}
use Rattle.std.proofs.lemmas.Option.{slice_get-get_or}
use Rattle.cn_outcomes.proofs.MemberLemmas.{all_set}
use Rattle.cn_table.specs.TypeTable.{IsTypeTable, TypeTable, transition}
use Rattle.cn_table.specs.declared.elements.Operation.{Operation}
use Rattle.cn_stocks.specs.Pairs.{Has}
use Rattle.cn_stocks.specs.declared.pair_sets.PairSet.{PairSet}
use Rattle.cn_divisions.specs.Looks.{AreAnswers, AreSeenAlike, ShareInOne}
use Rattle.cn_divisions.specs.Sights.{AreAlike, IsOf}
use Rattle.cn_meetings.specs.Sights.{reads, sight_of}
use Rattle.cn_meetings.specs.declared.sight.Sight.{Sight}
use Rattle.cn_meetings.specs.declared.sight.Sight.TheVariants.{Nothing, Response, State}
use Rattle.cn_divisions.proofs.Known.{answer_known}

-- where the state is read, the pairs are the same
pub meets_alike : (t : TypeTable) (sight : Sight) (a b : PairSet) → reads sight ≡ true → ((r : ℕ) × ((q : ℕ) × Has a r q × Has b r q)) ↔ AreAlike t (sight_of sight) a b
meets_alike t State a b e = (
  λ h. (h.0, h.1.0, h.1.0, h.1.1, h.1.2, refl),
  λ h. (h.0, (h.1, h.3, subst (λ q. Has b h.0 q) (sym h.5) h.4)),
)
meets_alike t Nothing a b e = absurd (true≢false (sym e))
meets_alike t (Response o) a b e = absurd (true≢false (sym e))

-- else one of the sets has both states
pub shares_alike : (t : TypeTable) (sight : Sight) (sets : List ℕ) (a b : PairSet) → AreSeenAlike t sight sets → IsOf t a → IsOf t b → ShareInOne a b sets ↔ AreAlike t (sight_of sight) a b
shares_alike t sight sets a b alike of_a of_b = (
  λ h. (let s = h.3 in (s.0, s.1, s.2, s.3, s.4, (alike s.1 s.2 (of_a s.0 s.1 s.3).1 (of_b s.0 s.2 s.4).1).1 (h.0, h.1, h.2, s.5, s.6))),
  λ h. (let s = (alike h.1 h.2 (of_a h.0 h.1 h.3).1 (of_b h.0 h.2 h.4).1).0 h.5 in (s.0, s.1, s.2, (h.0, h.1, h.2, h.3, h.4, s.3, s.4))),
)

-- nobody looks: all states are in one set
pub all_alike : (t : TypeTable) → length t.states < 17 → AreSeenAlike t Nothing (65535 ∷ [])
all_alike t few p q lp lq = (λ e. (0, 65535, refl, (all_set p).1 (omega (arith, few, lp)), (all_set q).1 (omega (arith, few, lq))), λ h. refl)

-- a set for each response
pub answers_alike : (t : TypeTable) (o : Operation) (sets : List ℕ) → IsTypeTable t → AreAnswers t o.0 sets → AreSeenAlike t (Response o) sets
answers_alike t o sets is are p q lp lq = (
  λ e.
      let r = (transition t o.0 p).0 in
      let at = slice_get-get_or sets r 0 (omega (arith, answer_known t is o.0 p, are.0)) in
      let set = are.1 r (get_or sets r 0) at in
      (r, get_or sets r 0, at, (set p).1 (lp, refl), (set q).1 (lq, sym e)),
  λ h. (let set = are.1 h.0 h.1 h.2 in ((set p).0 h.3).1 ∙ sym ((set q).0 h.4).1),
)
