-- The first collision of a process, found in the list of all orders.
use Rattle.std.proofs.Common.{◌≡◌, ℕ, ◌+◌, List, refl, sym, ◌∙◌, ◌↔◌, Option, Some, None}
use Rattle.cn_choice.specs.declared.team.Team.{Team}
use Rattle.cn_choice.specs.declared.team.Team.TheVariants.{A, B}
use Rattle.cn_table.specs.TypeTable.{TypeTable}
use Rattle.cn_choice.specs.RawChoices.{RawChoice}
use Rattle.cn_choice.specs.FirstCollision.{IsFirstCollision}
use Rattle.cn_collisions.specs.OutcomeOrders.{IsFirstInto, IsFirstOfPair, LeadsInto, NoneInto}
use Rattle.cn_stocks.specs.declared.pair_sets.PairSet.{PairSet}
use Rattle.cn_stocks.specs.Pairs.{Has}
use Rattle.cn_choice.specs.OutcomeSets.{InOutcomeSet, pair_of}
use Rattle.cn_choice.specs.Collisions.{IsCollision}
use Rattle.cn_outcomes.specs.Twins.{AreTwins}
use Rattle.cn_outcomes.proofs.Exchange.{twin_results}
use Rattle.cn_choice.proofs.OrderLemmas.Walks.{the_pair}

pub same_pair : (a b x y : ℕ) → a ≡ x → b ≡ y → ◌≡◌ {A = Option (ℕ × ℕ)} (Some (a, b)) (Some (x, y))
same_pair a b x y e f = cc

module _ (t : TypeTable) (c : RawChoice) (j : ℕ) where
  -- the set has the pairs of orders that begin in B, and the single set has one of these pairs
  module _ (set : PairSet) (from_b : (r q : ℕ) → Has set r q ↔ InOutcomeSet t c B j (r, q)) where
    into_set : (x y : List ℕ) → IsCollision t c j x y → LeadsInto t c A j set x
    into_set x y k =
        let p = the_pair (pair_of t c x j) k.takes_part in
        (p.0, (k.alpha_in_a, p.1), (from_b p.0.0 p.0.1).1 (y, k.beta_order, k.beta_in_b, sym k.same ∙ p.1))

    pub none_collides : NoneInto t c A j set → (x y : List ℕ) → ¬ IsCollision t c j x y
    none_collides none x y k = none x k.alpha_order (into_set x y k)

  -- the first order into the set of one pair is the first with this pair
  pub first_of_pair : (team : Team) (pair : ℕ × ℕ) (single : PairSet) → ((r q : ℕ) → Has single r q ↔ ((r ≡ pair.0) × (q ≡ pair.1))) → (order : List ℕ) (again : ℕ × ℕ)
      → IsFirstInto t c team j single order again
      → IsFirstOfPair t c team j pair order
  first_of_pair team pair single only order again first =
      let is = (only again.0 again.1).0 first.has in
      record {
        ordered = first.ordered;
        leads = (first.leads.0, first.leads.1 ∙ same_pair again.0 again.1 pair.0 pair.1 is.0 is.1);
        earlier = λ x o before l. first.earlier x o before (pair, l, (only pair.0 pair.1).1 (refl, refl));
      }

  -- the set has at least the pairs of orders that begin in B
  pub first_collision : (set : PairSet) → ((r q : ℕ) → InOutcomeSet t c B j (r, q) → Has set r q) → (alpha : List ℕ) (pair : ℕ × ℕ) → IsFirstInto t c A j set alpha pair
      → (beta : List ℕ) → IsFirstOfPair t c B j pair beta → IsFirstCollision t c j alpha beta
  first_collision set from_b alpha pair first beta second = record {
    collision = record {
      alpha_order = first.ordered;
      beta_order = second.ordered;
      alpha_in_a = first.leads.0;
      beta_in_b = second.leads.0;
      takes_part = λ e. let no : None ≡ Some pair = sym e ∙ first.leads.1 in absurd (cc);
      same = first.leads.1 ∙ sym second.leads.1;
    };
    first_alpha = λ x y before k. first.earlier x k.alpha_order before
        (let p = the_pair (pair_of t c x j) k.takes_part in (p.0, (k.alpha_in_a, p.1), from_b p.0.0 p.0.1 (y, k.beta_order, k.beta_in_b, sym k.same ∙ p.1)));
    first_beta = λ y before k. second.earlier y k.beta_order before (k.beta_in_b, sym k.same ∙ first.leads.1);
  }

-- a process has a collision only if its twin before it has one
pub twin_collides : (t : TypeTable) (c : RawChoice) (p : ℕ) → AreTwins c p → ((x y : List ℕ) → ¬ IsCollision t c p x y) → (x y : List ℕ) → ¬ IsCollision t c (p + 1) x y
twin_collides t c p twins none x y k =
    let pair = the_pair _ k.takes_part in
    let a = (twin_results t c p twins A pair.0).1 (x, k.alpha_order, k.alpha_in_a, pair.1) in
    let o = (twin_results t c p twins B pair.0).1 (y, k.beta_order, k.beta_in_b, sym k.same ∙ pair.1) in
    none a.0 o.0 (record {
      alpha_order = a.1;
      beta_order = o.1;
      alpha_in_a = a.2;
      beta_in_b = o.2;
      takes_part = λ e. let no : None ≡ Some pair.0 = sym e ∙ a.3 in absurd (cc);
      same = a.3 ∙ sym o.3;
    })
