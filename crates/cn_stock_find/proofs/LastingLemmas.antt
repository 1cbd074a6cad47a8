-- Lists of the states that orders of two operations that last leave.
use Rattle.std.proofs.Common.{◌≡◌, ℕ, zero, suc, ◌<◌, ◌↔◌, inl, inr, List, ◌∷◌, length, refl, sym, ap, ◌∙◌, All, Contains}
use Rattle.std.specs.Prelude.{replicate}
use Rattle.std.proofs.lemmas.List.Elements.{Contains-get_or}
use Rattle.cn_table.specs.TypeTable.{TypeTable, transition}
use Rattle.cn_table.specs.Run.{state_after}
use Rattle.cn_stocks.specs.Lasting.{Lasts, SingleFirst}
use Rattle.cn_stocks.specs.Repeats.{FirstOnward, Onward}
use Rattle.cn_stocks.specs.declared.lasting.search.Lasting.{Lasting}
use Rattle.cn_stocks.proofs.LastingLemmas.Closing.{onward_more, single_first}
use Rattle.cn_stocks.proofs.LastingLemmas.Forms.{state_join}
use Rattle.cn_stock_cert.specs.LastingSets.{AreLastingSets, LastingSets}
use Rattle.cn_stock_find.specs.LeastSets.{AreLeastSets, ManyAlone, SingleBehind}

-- what holds of the elements of a list, one by one
all_of : (P : ℕ → Type 0) (xs : List ℕ) → ((q : ℕ) → Contains xs q → P q) → All P xs
all_of P xs each i d l = each _ (Contains-get_or xs i d l)

-- one more of the operation of the many, at the end
more : (t : TypeTable) (many k found : ℕ) → state_after t found (many ∷ replicate k many) ≡ (transition t many (state_after t found (replicate k many))).1
more t many zero found = refl
more t many (suc k) found = more t many k (transition t many found).1

-- ---- the states

module _ (t : TypeTable) (start many single : ℕ) (from alone begun behind : ℕ → Type 0) (f : (q : ℕ) → from q ↔ (q ≡ start))
    (al : (q : ℕ) → alone q ↔ Onward t many from q) (be : (q : ℕ) → begun q ↔ FirstOnward t many many from q)
    (bh : (q : ℕ) → behind q ↔ FirstOnward t single many begun q) where
  pub alone_is : (q : ℕ) → alone q ↔ ManyAlone t start many q
  alone_is q = (
    λ h. (let o = (al q).0 h in (o.2.0, ap (λ (s : ℕ). state_after t s (replicate o.2.0 many)) (sym ((f o.0).0 o.1)) ∙ o.2.1)),
    λ a. (al q).1 (start, (f start).1 refl, (a.0, a.1)),
  )

  pub behind_is : (q : ℕ) → behind q ↔ SingleBehind t start many single q
  behind_is q = (
    λ h. (
        let o = (bh q).0 h in
        let b = (be o.0).0 o.1 in
        let reached : state_after t start (many ∷ replicate b.2.0 many) ≡ o.0 = ap (λ (s : ℕ). state_after t s (many ∷ replicate b.2.0 many)) (sym ((f b.0).0 b.1)) ∙ b.2.1 in (
          b.2.0,
          o.2.0,
          state_join t start (many ∷ replicate b.2.0 many) (single ∷ replicate o.2.0 many) ∙ (ap (λ (s : ℕ). state_after t s (single ∷ replicate o.2.0 many)) reached ∙ o.2.1),
        )
        ),
    λ m. (bh q).1 (
      state_after t start (many ∷ replicate m.0 many),
      (be (state_after t start (many ∷ replicate m.0 many))).1 (start, (f start).1 refl, (m.0, refl)),
      (m.1, sym (state_join t start (many ∷ replicate m.0 many) (single ∷ replicate m.1 many)) ∙ m.2),
    ),
  )

-- closed under the operation of the many
first_closed : (t : TypeTable) (first many : ℕ) (from : ℕ → Type 0) (q : ℕ) → FirstOnward t first many from q → FirstOnward t first many from (transition t many q).1
first_closed t first many from q o = (
  o.0,
  o.1,
  (suc o.2.0, more t many o.2.0 (transition t first o.0).1 ∙ ap (λ (s : ℕ). (transition t many s).1) o.2.1),
)

-- ---- the lists

module _ (t : TypeTable) (l : Lasting) (s : LastingSets) (lasts : Lasts t s.start s.many s.single) (from alone begun behind first : ℕ → Type 0) (f : (q : ℕ) → from q ↔ (q ≡ s.start))
    (al : (q : ℕ) → alone q ↔ Onward t s.many from q) (be : (q : ℕ) → begun q ↔ FirstOnward t s.many s.many from q)
    (bh : (q : ℕ) → behind q ↔ FirstOnward t s.single s.many begun q) (fi : (q : ℕ) → first q ↔ FirstOnward t s.single s.many from q)
    (alone_known : (q : ℕ) → alone q → q < length t.states) (behind_known : (q : ℕ) → behind q → q < length t.states) (first_known : (q : ℕ) → first q → q < length t.states)
    (in_alone : (q : ℕ) → Contains s.alone q ↔ alone q) (in_behind : (q : ℕ) → Contains s.behind q ↔ behind q) (in_first : (q : ℕ) → Contains s.first q ↔ first q) where
  alone_closed : (q : ℕ) → alone q → alone (transition t s.many q).1
  alone_closed q a = (al (transition t s.many q).1).1 (onward_more t s.many from q (transition t s.many q).1 ((al q).0 a) refl)

  behind_alone : (q : ℕ) → alone q → behind (transition t s.single (transition t s.many q).1).1
  behind_alone q a =
      let o = (al q).0 a in
      let step = more t s.many o.2.0 o.0 ∙ ap (λ (x : ℕ). (transition t s.many x).1) o.2.1 in
      (bh (transition t s.single (transition t s.many q).1).1).1 ((transition t s.many q).1, (be (transition t s.many q).1).1 (o.0, o.1, (o.2.0, step)), (0, refl))

  is_alone : (q : ℕ) → alone q ↔ ManyAlone t s.start s.many q
  is_alone q = alone_is t s.start s.many s.single from alone begun behind f al be bh q

  is_behind : (q : ℕ) → behind q ↔ SingleBehind t s.start s.many s.single q
  is_behind q = behind_is t s.start s.many s.single from alone begun behind f al be bh q

  is_first : (q : ℕ) → first q ↔ SingleFirst t s.start s.many s.single q
  is_first q =
      let single = single_first t s.start s.many s.single from f q in
      (λ h. single.0 ((fi q).0 h), λ h. (fi q).1 (single.1 h))

  apart : (q : ℕ) → first q → ¬ Contains s.alone q × ¬ Contains s.behind q
  apart q h =
      let one = (is_first q).0 h in (
        λ c. lasts.apart q (inl ((is_alone q).0 ((in_alone q).0 c))) one,
        λ c. lasts.apart q (inr ((is_behind q).0 ((in_behind q).0 c))) one,
      )

  show : AreLastingSets t s
  show = record {
    start_known = lasts.start_known;
    many_known = lasts.many_known;
    single_known = lasts.single_known;
    different = lasts.different;
    alone_known = all_of (λ q. q < length t.states) s.alone (λ q c. alone_known q ((in_alone q).0 c));
    behind_known = all_of (λ q. q < length t.states) s.behind (λ q c. behind_known q ((in_behind q).0 c));
    first_known = all_of (λ q. q < length t.states) s.first (λ q c. first_known q ((in_first q).0 c));
    alone = (in_alone s.start).1 ((al s.start).1 (s.start, (f s.start).1 refl, (0, refl)));
    alone_closed = all_of (λ q. Contains s.alone (transition t s.many q).1) s.alone (λ q c. (in_alone (transition t s.many q).1).1 (alone_closed q ((in_alone q).0 c)));
    behind = all_of (λ q. Contains s.behind (transition t s.single (transition t s.many q).1).1) s.alone
        (λ q c. (in_behind (transition t s.single (transition t s.many q).1).1).1 (behind_alone q ((in_alone q).0 c)));
    behind_closed = all_of (λ q. Contains s.behind (transition t s.many q).1) s.behind (λ q c.
        (in_behind (transition t s.many q).1).1 ((bh (transition t s.many q).1).1 (first_closed t s.single s.many begun q ((bh q).0 ((in_behind q).0 c)))));
    first = (in_first (transition t s.single s.start).1).1 ((fi (transition t s.single s.start).1).1 (s.start, (f s.start).1 refl, (0, refl)));
    first_closed = all_of (λ q. Contains s.first (transition t s.many q).1) s.first (λ q c.
        (in_first (transition t s.many q).1).1 ((fi (transition t s.many q).1).1 (first_closed t s.single s.many from q ((fi q).0 ((in_first q).0 c)))));
    apart = all_of (λ q. ¬ Contains s.alone q × ¬ Contains s.behind q) s.first (λ q c. apart q ((in_first q).0 c));
  }

  pub least_sets : s.start ≡ l.start.0 → s.many ≡ l.many.0 → s.single ≡ l.single.0 → AreLeastSets t l s
  least_sets a b c = record {
    start = a;
    many = b;
    single = c;
    alone = λ q. (λ h. (is_alone q).0 ((in_alone q).0 h), λ h. (in_alone q).1 ((is_alone q).1 h));
    behind = λ q. (λ h. (is_behind q).0 ((in_behind q).0 h), λ h. (in_behind q).1 ((is_behind q).1 h));
    first = λ q. (λ h. (is_first q).0 ((in_first q).0 h), λ h. (in_first q).1 ((is_first q).1 h));
    show = show;
  }
