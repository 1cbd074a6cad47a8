-- The certificate of what is found.
use Rattle.std.proofs.Common.{◌≡◌, ◌≢◌, ℕ, ◌+◌, ◌<◌, ◌≤◌, List, ◌∷◌, length, inl, inr, refl, sym, ap, ◌∙◌, subst, arith, Contains, Option, Some, None, Bool, true, false, cond, nat_le, ◌&&◌}
use Rattle.std.specs.Prelude.{MatchOption, nat_lt}
use Rattle.std.specs.Option.{option_map}
use Rattle.std.proofs.lemmas.Bool.{and_parts, leb-true, lt-ltb, ltb-false, ltb-true}
use Rattle.std.proofs.lemmas.Option.{same_Some}
use Rattle.std.proofs.lemmas.List.Elements.{Contains-append_right}
use Rattle.cn_table.specs.TypeTable.{TypeTable}
use Rattle.cn_choice.specs.Canonical.{Choice, raw_choice_of}
use Rattle.cn_choice.specs.Discerning.{IsDiscerning, IsNumberUpTo, IsWitness}
use Rattle.cn_choice.specs.Live.{live_choices}
use Rattle.cn_choice.specs.RawChoices.{IsRawChoice}
use Rattle.cn_finding.specs.Evidence.{IsFirstAmong, NoneIsWitness}
use Rattle.cn_joins.specs.Evidence.{IsEvidenceAgainst}
use Rattle.cn_joins.specs.Joins.{Join}
use Rattle.cn_finding.specs.declared.limits.TheConstants.{GREATEST_LIMIT, LEAST_LIMIT}
use Rattle.cn_search.specs.Faults.{number_fault}
use Rattle.cn_search.specs.Numbers.{HasNumber}
use Rattle.cn_search.specs.declared.exact.ConsensusNumber.TheVariants.{Finite, Infinite}
use Rattle.cn_stocks.specs.declared.limits.TheConstants.{MOST_SIZE}
use Rattle.cn_search.specs.declared.fault.FindFault.TheVariants.{BadLimit}
use Rattle.cn_stock_cert.specs.Certificate.{StockCertificate}
use Rattle.cn_stock_cert.specs.Right.{AreInRange, ShowsAtLeast, ShowsAtMost}
use Rattle.cn_stock_cert.specs.declared.certificate.StockClaim.{StockClaim}
use Rattle.cn_stock_find.specs.Found.{IsCertificateOf, IsClaimOf, IsFirstClaim, IsFoundCertificate, discerning_number, lower_bound, upper_bound}

-- ---- the upper bound

-- the number is the bound and below the limit, or there is no bound
below_or_none : (n limit : ℕ) (b : Bool) → nat_lt n limit ≡ b → (most : ℕ) → cond b (Some n) None ≡ Some most → (n ≡ most) × (n < limit)
below_or_none n limit true e most s = (same_Some n most s, ltb-true n limit e)
below_or_none n limit false e most s = absurd (cc s)

pub not_above : (t : TypeTable) (limit : ℕ) (number : Option ℕ) (most : ℕ) → 2 ≤ limit → IsNumberUpTo t limit number → upper_bound limit number ≡ Some most → ¬ IsDiscerning t (most + 1)
not_above t limit None most two is e = let same : most + 1 ≡ 2 = omega (arith, same_Some 1 most e) in subst (λ (n : ℕ). ¬ IsDiscerning t n) (sym same) (is 2 (omega arith) two)
not_above t limit (Some n) most two is e =
    let b = below_or_none n limit (nat_lt n limit) refl most e in
    is.3 (most + 1) (omega (arith, b.0)) (omega (arith, b.0, b.1))

-- the bound is at least 1, and at most the limit
pub bound_in : (t : TypeTable) (limit : ℕ) (number : Option ℕ) (most : ℕ) → 2 ≤ limit → IsNumberUpTo t limit number → upper_bound limit number ≡ Some most
    → (lower_bound number ≡ most) × (1 ≤ most) × (most ≤ limit)
bound_in t limit None most two is e = let s = same_Some 1 most e in (s, omega (arith, s), omega (arith, s, two))
bound_in t limit (Some n) most two is e =
    let b = below_or_none n limit (nat_lt n limit) refl most e in
    (b.0, omega (arith, b.0, is.0), omega (arith, b.0, b.1))

-- it is below the limit
pub bound_below : (t : TypeTable) (limit : ℕ) (number : Option ℕ) (most : ℕ) → 2 ≤ limit → IsNumberUpTo t limit number → upper_bound limit number ≡ Some most → most + 1 ≤ limit
bound_below t limit None most two is e = let s = same_Some 1 most e in omega (arith, s, two)
bound_below t limit (Some n) most two is e = let b = below_or_none n limit (nat_lt n limit) refl most e in omega (arith, b.0, b.1)

pub shows_most : {V : Type 0} (items : V → List Join) (t : TypeTable) (most : ℕ) → ¬ IsDiscerning t (most + 1) → (joins : Option V)
    → MatchOption joins (IsDiscerning t (most + 1)) (λ j. IsEvidenceAgainst t (most + 1) (items j)) → ShowsAtMost t (option_map items joins) (Some most)
shows_most items t most fails None h = absurd (fails h)
shows_most items t most fails (Some j) h = h

-- ---- the certificate

shows_least : (t : TypeTable) (limit : ℕ) (number : Option ℕ) (claim : StockClaim) → IsNumberUpTo t limit number
    → ((n : ℕ) (w : Choice) → Contains (live_choices t n) w → IsRawChoice t n (raw_choice_of w)) → IsFirstClaim t number claim → ShowsAtLeast t claim (Some (lower_bound number))
shows_least t limit None claim is raw e = subst (λ (claim : StockClaim). ShowsAtLeast t claim (Some 1)) (sym e) refl
shows_least t limit (Some n) claim is raw f =
    let first = f.2 in
    let listed = subst (λ (l : List Choice). Contains l f.0) (sym first.listed) (Contains-append_right first.before (f.0 ∷ first.after) f.0 (0, omega arith, refl)) in
    subst (λ (claim : StockClaim). ShowsAtLeast t claim (Some n)) (sym f.1) (raw n f.0 listed, first.witness)

-- the first claim shows the number
pub first_shows : (t : TypeTable) (limit : ℕ) (number : Option ℕ) (claim : StockClaim) → IsNumberUpTo t limit number
    → ((n : ℕ) (w : Choice) → Contains (live_choices t n) w → IsRawChoice t n (raw_choice_of w)) → IsFirstClaim t number claim → IsClaimOf t number claim
first_shows t limit number claim is raw first = record { shows = shows_least t limit number claim is raw first; first = λ few. first }

-- a number above the greatest limit has no first claim
pub some_shows : (t : TypeTable) (n : ℕ) (claim : StockClaim) → GREATEST_LIMIT < n → ShowsAtLeast t claim (Some n) → IsClaimOf t (Some n) claim
some_shows t n claim more shows = record { shows = shows; first = λ few. absurd (omega (arith, more, few)) }

in_range : (t : TypeTable) (limit : ℕ) (number most : Option ℕ) → 2 ≤ limit → lower_bound number ≤ 16 → IsNumberUpTo t limit number → upper_bound limit number ≡ most → AreInRange (Some (lower_bound number)) most
in_range t limit number (Some m) two few is e =
    let b = bound_in t limit number m two is e in
    (omega (arith, b.0, b.1), omega (arith, b.0), omega (arith, b.0, few))
in_range t limit None None two few is e = absurd (cc e)
in_range t limit (Some n) None two few is e = (omega (arith, is.0), few)

pub certificate_for : (t : TypeTable) (limit : ℕ) (number : Option ℕ) → 2 ≤ limit → lower_bound number ≤ 16 → IsNumberUpTo t limit number → (c : StockCertificate) → c.at_least ≡ Some (lower_bound number)
    → c.at_most ≡ upper_bound limit number → IsClaimOf t number c.least → ShowsAtMost t c.most (upper_bound limit number) → c.type_name ≡ t.name → IsCertificateOf t limit number c
certificate_for t limit number two few is c least most claim joins name = record {
  right = record {
    type_name = name;
    in_range = subst (λ (a : Option ℕ). AreInRange a c.at_most) (sym least)
        (subst (AreInRange (Some (lower_bound number))) (sym most) (in_range t limit number (upper_bound limit number) two few is refl));
    least = subst (ShowsAtLeast t c.least) (sym least) claim.shows;
    most = subst (ShowsAtMost t c.most) (sym most) joins;
  };
  at_least = least;
  at_most = most;
  least = claim;
}

pub lower_up_to : (t : TypeTable) (limit : ℕ) (number : Option ℕ) → limit ≤ 8 → IsNumberUpTo t limit number → lower_bound number ≤ 16
lower_up_to t limit None few is = omega arith
lower_up_to t limit (Some n) few is = omega (arith, is.1, few)

-- a number up to one of the limits
pub found_up_to : (t : TypeTable) (limit : ℕ) (number : Option ℕ) → limit ≤ 8 → IsNumberUpTo t limit number → (c : StockCertificate) → IsCertificateOf t limit number c → IsFoundCertificate t (Some limit) c
found_up_to t limit number few is c of = record {
  right = of.right;
  found = record { number = number; is_number = is; at_least = of.at_least; at_most = of.at_most; least = of.least.first (small number is) };
}
  where
    small : (number : Option ℕ) → IsNumberUpTo t limit number → lower_bound number ≤ GREATEST_LIMIT
    small None is = omega arith
    small (Some n) is = omega (arith, is.1, few)

-- ---- the number of a type

-- it is at most the most states
few_of : (t : TypeTable) (n : ℕ) → length t.states ≤ 16 → HasNumber t (Finite n) → n ≤ 16
few_of t n states (one, few, is, none) = elim few [
  | inl small ↦ omega (arith, small)
  | inr known ↦ omega (arith, known, states)
]

-- so that it is the number up to the most operations of a stock
pub number_within : (t : TypeTable) (n : ℕ) → length t.states ≤ 16 → HasNumber t (Finite n) → IsNumberUpTo t MOST_SIZE (discerning_number n)
number_within t n states (one, few, is, none) = by_test (nat_lt n LEAST_LIMIT) refl
  where
    by_test : (b : Bool) → nat_lt n LEAST_LIMIT ≡ b → IsNumberUpTo t MOST_SIZE (cond b None (Some n))
    by_test true e = λ m two limit. none m (let l : n < 2 = ltb-true n LEAST_LIMIT e in omega (arith, l, two))
    by_test false e =
        let two : 2 ≤ n = ltb-false n LEAST_LIMIT e in
        (two, omega (arith, few_of t n states (one, few, is, none)), is two, λ m less limit. none m less)

-- its lower bound is the number
lower_is : (n : ℕ) → 1 ≤ n → lower_bound (discerning_number n) ≡ n
lower_is n one = by_test (nat_lt n LEAST_LIMIT) refl
  where
    by_test : (b : Bool) → nat_lt n LEAST_LIMIT ≡ b → lower_bound (cond b None (Some n)) ≡ n
    by_test true e = let l : n < 2 = ltb-true n LEAST_LIMIT e in omega (arith, l, one)
    by_test false e = refl

-- and so is its upper bound
upper_is : (n : ℕ) → 1 ≤ n → n ≤ 16 → upper_bound MOST_SIZE (discerning_number n) ≡ Some n
upper_is n one few = by_test (nat_lt n LEAST_LIMIT) refl
  where
    by_test : (b : Bool) → nat_lt n LEAST_LIMIT ≡ b → upper_bound MOST_SIZE (cond b None (Some n)) ≡ Some n
    by_test true e =
        let l : n < 2 = ltb-true n LEAST_LIMIT e in
        let same : 1 ≡ n = omega (arith, l, one) in
        ap Some same
    by_test false e = ap (λ (b : Bool). cond b (Some n) None) (lt-ltb n MOST_SIZE (omega (arith, few)))

pub lower_within : (t : TypeTable) (n : ℕ) → length t.states ≤ 16 → HasNumber t (Finite n) → lower_bound (discerning_number n) ≤ 16
lower_within t n states is = omega (arith, lower_is n is.0, few_of t n states is)

pub found_exactly : (t : TypeTable) (n : ℕ) → length t.states ≤ 16 → HasNumber t (Finite n) → (c : StockCertificate) → IsCertificateOf t MOST_SIZE (discerning_number n) c → IsFoundCertificate t None c
found_exactly t n states is c of = record {
  right = of.right;
  found = inr (record {
    number = n;
    is_number = is;
    at_least = of.at_least ∙ ap Some (lower_is n is.0);
    at_most = of.at_most ∙ upper_is n is.0 (few_of t n states is);
    least = λ few. of.least.first (omega (arith, few, lower_is n is.0));
  });
}

-- the number of a type that is not discerning for some number is finite
pub not_infinite : (t : TypeTable) → HasNumber t Infinite → ((n : ℕ) × (2 ≤ n) × ¬ IsDiscerning t n) → ⊥
not_infinite t always fails = fails.2 (always fails.0 fails.1)

-- a type that is discerning has a first witness
pub no_first : (t : TypeTable) (n : ℕ) (found : Option Choice) → ((w : Choice) → found ≢ Some w) → IsFirstAmong (IsWitness t) (live_choices t n) found
    → (NoneIsWitness t (live_choices t n) → ¬ IsDiscerning t n) → ¬ IsDiscerning t n
no_first t n None other none refuted = refuted none
no_first t n (Some w) other first refuted = absurd (other w refl)

pub no_bound : (t : TypeTable) (m : Option ℕ) → ((n : ℕ) → m ≢ Some n) → ShowsAtMost t None m
no_bound t None other = tt
no_bound t (Some n) other = absurd (other n refl)

-- a limit with no fault is one of the limits
pub limit_in : (limit : ℕ) → number_fault limit ≡ None → (2 ≤ limit) × (limit ≤ 8)
limit_in limit e = by_test (nat_le 2 limit && nat_le limit 8) refl e
  where
    by_test : (b : Bool) → (nat_le 2 limit && nat_le limit 8) ≡ b → cond b None (Some BadLimit) ≡ None → (2 ≤ limit) × (limit ≤ 8)
    by_test true t e = let r = and_parts _ _ t in (leb-true _ _ r.0, leb-true _ _ r.1)
    by_test false t e = absurd (cc e)
