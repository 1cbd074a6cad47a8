-- Sets of states that show that two operations last.
use Rattle.std.proofs.Common.{ℕ, zero, suc, List, ◌∷◌, ◌++◌, ◌⊎◌, inl, inr, subst, Contains}
use Rattle.std.specs.Prelude.{replicate}
use Rattle.std.proofs.lemmas.List.Elements.{All-contains}
use Rattle.cn_table.specs.TypeTable.{TypeTable, transition}
use Rattle.cn_table.specs.Run.{state_after}
use Rattle.cn_stocks.specs.Lasting.{Lasts, ManyFirst, SingleFirst}
use Rattle.cn_stock_cert.specs.LastingSets.{AreLastingSets, LastingSets, LeadsInto}

-- what is closed has the states to which the operation leads, any number of times
kept : (t : TypeTable) (many : ℕ) (states : List ℕ) → LeadsInto t many states states → (k q : ℕ) → Contains states q → Contains states (state_after t q (replicate k many))
kept t many states closed zero q has = has
kept t many states closed (suc k) q has =
    kept t many states closed k (transition t many q).1 (All-contains (λ (x : ℕ). Contains states (transition t many x).1) states q closed has)

module _ (t : TypeTable) (s : LastingSets) (are : AreLastingSets t s) where
  in_first : (state : ℕ) → SingleFirst t s.start s.many s.single state → Contains s.first state
  in_first state h = subst (Contains s.first) h.1 (kept t s.many s.first are.first_closed h.0 (transition t s.single s.start).1 are.first)

  in_behind : (i k q : ℕ) → Contains s.alone q → Contains s.behind (state_after t (transition t s.many q).1 (replicate i s.many ++ s.single ∷ replicate k s.many))
  in_behind zero k q has = kept t s.many s.behind are.behind_closed k (transition t s.single (transition t s.many q).1).1
      (All-contains (λ (x : ℕ). Contains s.behind (transition t s.single (transition t s.many x).1).1) s.alone q are.behind has)
  in_behind (suc i) k q has = in_behind i k (transition t s.many q).1 (All-contains (λ (x : ℕ). Contains s.alone (transition t s.many x).1) s.alone q are.alone_closed has)

  later : (state : ℕ) → ManyFirst t s.start s.many s.single state → Contains s.alone state ⊎ Contains s.behind state
  later state (inl h) = inl (subst (Contains s.alone) h.1 (kept t s.many s.alone are.alone_closed h.0 s.start are.alone))
  later state (inr h) = inr (subst (Contains s.behind) h.2 (in_behind h.0 h.1 s.start are.alone))

  pub lasts : Lasts t s.start s.many s.single
  lasts = record {
    start_known = are.start_known;
    many_known = are.many_known;
    single_known = are.single_known;
    different = are.different;
    apart = λ state many first.
        let none = All-contains (λ (q : ℕ). ¬ Contains s.alone q × ¬ Contains s.behind q) s.first state are.apart (in_first state first) in
        elim (later state many) [ inl a ↦ none.0 a | inr b ↦ none.1 b ];
  }
