-- Stocks whose operations are in different components.
use Rattle.std.proofs.Common.{ℕ, ◌≢◌, ◌≤◌, List, ◌∷◌, length, arith, subst}
use Rattle.cn_table.specs.TypeTable.{TypeTable}
use Rattle.cn_meetings.specs.Meeting.{Sight}
use Rattle.cn_stocks.specs.Words.{HaveSame}
use Rattle.cn_stocks.proofs.Fewer.{beside}
use Rattle.cn_stocks.proofs.Steps.{shows_same}
use Rattle.cn_stocks.proofs.Times.{same_sym, times_cons}
use Rattle.cn_divisions.specs.Joins.{AreConnected, IsSplit, Tells}
use Rattle.cn_divisions.specs.Joins.AreConnected.{ByWayOf, Itself}

module _ (t : TypeTable) (sight : Sight) (start : ℕ) where
  tells_more : (stock rest : List ℕ) (x f o r s : ℕ) → HaveSame stock (x ∷ rest) → Tells t sight start rest f o r s → Tells t sight start stock f o r s
  tells_more stock rest x f o r s same told =
      let shows = told.1 in (
        told.0,
        record {
          before = shows.before;
          after = shows.after;
          within = λ p. omega (arith, shows.within p, same p, times_cons p x rest);
          begins = shows.begins;
          answer = shows.answer;
          ends = shows.ends;
        },
        told.2,
      )

  connected_more : (stock rest : List ℕ) (x : ℕ) → HaveSame stock (x ∷ rest) → (f g : ℕ) → AreConnected t sight start rest f g → AreConnected t sight start stock f g
  connected_more stock rest x same f g (Itself h) = Itself h
  connected_more stock rest x same f g (ByWayOf a b c j more) =
      ByWayOf a b c
      (record { to = j.to; response = j.response; saw = j.saw; told_f = tells_more stock rest x a j.to j.response j.saw same j.told_f; told_g = tells_more stock rest x b j.to j.response j.saw same j.told_g })
      (connected_more stock rest x same b c more)

  connected_same : (a b : List ℕ) → HaveSame a b → (f g : ℕ) → AreConnected t sight start a f g → AreConnected t sight start b f g
  connected_same a b same f g (Itself h) = Itself h
  connected_same a b same f g (ByWayOf x y z j more) =
      ByWayOf x y z
      (record {
        to = j.to;
        response = j.response;
        saw = j.saw;
        told_f = (j.told_f.0, shows_same t start b a x j.to j.response j.told_f.0 same j.told_f.1, j.told_f.2);
        told_g = (j.told_g.0, shows_same t start b a y j.to j.response j.told_g.0 same j.told_g.1, j.told_g.2);
      })
      (connected_same a b same y z more)

  pub split_same : (a b : List ℕ) → HaveSame a b → IsSplit t sight start a → IsSplit t sight start b
  split_same a b same s = (s.0, s.1, omega (arith, s.2, same s.0), omega (arith, s.3, same s.1), λ c. s.4 (connected_same b a (same_sym a b same) s.0 s.1 c))

  pub different : (stock : List ℕ) (s : IsSplit t sight start stock) → s.0 ≢ s.1
  different stock s e = s.4 (subst (AreConnected t sight start stock s.0) e (Itself s.0))

  -- a stock of three operations or more that is split is so with some operation less
  pub less_split : (stock : List ℕ) → 3 ≤ length stock → IsSplit t sight start stock → (x : ℕ) × (rest : List ℕ) × HaveSame stock (x ∷ rest) × IsSplit t sight start rest
  less_split stock l s =
      let r = beside s.0 s.1 stock l s.2 s.3 (different stock s) in
      (r.1.0, r.0, r.1.1, (s.0, s.1, r.3, r.4, λ c. s.4 (connected_more stock r.0 r.1.0 r.1.1 s.0 s.1 c)))
