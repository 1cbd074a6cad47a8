-- The parts of a certificate that is accepted, and the pairs apart, are of the table.
use Rattle.std.proofs.Common.{◌≡◌, ℕ, suc, ◌+◌, ◌≤◌, ◌↔◌, List, [], ◌∷◌, length, arith, refl, sym, subst, Bool, true, false, cond, nat_lt, ◌==◌, Option, Some, None, All, Contains}
use Rattle.std.specs.List.{AllZip}
use Rattle.std.proofs.lemmas.Bool.{ltb-true}
use Rattle.std.proofs.lemmas.List.Elements.{All-cons, All-contains_itself, All-nil, All-weaker}
use Rattle.cn_table.specs.TypeTable.{TypeTable}
use Rattle.cn_choice.specs.Canonical.{Choice, FitsTable, IsCanonical, canonical_choices, raw_choice_of}
use Rattle.cn_choice.specs.Collisions.{Collision}
use Rattle.cn_choice.specs.Live.{IsLive, live_choices}
use Rattle.cn_choice.specs.RawChoices.{IsRawChoice}
use Rattle.cn_interference.specs.Pairs.{ArePairsApart}
use Rattle.cn_interference.specs.declared.pairs.OperationPair.{OperationPair}
use Rattle.cn_cert.specs.Certificate.{Certificate}
use Rattle.cn_check.proofs.WitnessLemmas.{fits_for, greatest_few}
use Rattle.cn_check.specs.Conditions.{IsInRange, Refutes}
use Rattle.cn_check.specs.Verdict.{IsAccepted}
use Rattle.cn_check.specs.Versions.{choices_in_version, choices_to_refute_in}
use Rattle.cn_reasons.specs.Known.{IsKnownPair}
use Rattle.cn_reasons.specs.Refutations.{refuted_processes}
use Rattle.cn_reasons.specs.Ways.{IsCollisionOf}

module _ (t : TypeTable) where
  entries_refuted : (choices : List Choice) (entries : List Collision) → ((x : Choice) → Contains choices x → FitsTable t x) → AllZip (Refutes t) choices entries → All (IsCollisionOf t) entries
  entries_refuted [] [] fits h = All-nil (IsCollisionOf t)
  entries_refuted [] (e ∷ es) fits h = absurd h
  entries_refuted (x ∷ xs) [] fits h = absurd h
  entries_refuted (x ∷ xs) (e ∷ es) fits h =
      All-cons (IsCollisionOf t) e es (record { fits = subst (FitsTable t) (sym h.0.0) (fits x (0, omega arith, refl)); collision = h.0.1 })
      (entries_refuted xs es (λ y at. fits y (suc at.0, omega (arith, at.1), at.2)) h.1)

  module _ (canonical : (u : TypeTable) (n : ℕ) (c : Choice) → Contains (canonical_choices (length u.states) (length u.operations) n) c ↔ (IsCanonical c × IsRawChoice u n (raw_choice_of c)))
      (live : (u : TypeTable) (n : ℕ) (c : Choice) → Contains (live_choices u n) c ↔ (IsCanonical c × IsRawChoice u n (raw_choice_of c) × IsLive u (raw_choice_of c))) where
    counted_fits : (version n : ℕ) → 2 ≤ n → n ≤ 8 → (c : Choice) → Contains (choices_in_version version t n) c → FitsTable t c
    counted_fits version n some few c = by_version (version == 1)
      where
        by_version : (one : Bool) → Contains (cond one (canonical_choices (length t.states) (length t.operations) n) (live_choices t n)) c → FitsTable t c
        by_version true here = fits_for t n c some few ((canonical t n c).0 here).1
        by_version false here = fits_for t n c some few ((live t n c).0 here).1

    listed_fits : (version limit : ℕ) (number : Option ℕ) → IsInRange version limit number → (c : Choice) → Contains (choices_to_refute_in version t limit number) c → FitsTable t c
    listed_fits version limit None range c here = counted_fits version 2 (omega arith) (omega arith) c here
    listed_fits version limit (Some n) range c here = by_limit (nat_lt n limit) refl here
      where
        by_limit : (below : Bool) → nat_lt n limit ≡ below → Contains (cond below (choices_in_version version t (n + 1)) []) c → FitsTable t c
        by_limit true e h =
            let less = ltb-true n limit e in
            counted_fits version (n + 1) (omega (arith, range.number_in_limit.0)) (omega (arith, less, range.few, greatest_few version)) c h
        by_limit false e h = absurd (omega (arith, h.1))

    -- each entry holds a collision of a choice of the table for 2 to 8 processes
    pub refuted_entries : (c : Certificate) → IsAccepted t c → All (IsCollisionOf t) c.collisions
    refuted_entries c accepted =
        entries_refuted (choices_to_refute_in c.version t c.limit c.number) c.collisions (listed_fits c.version c.limit c.number accepted.in_range) accepted.refuted

-- what a certificate refutes is for 2 to 8 processes
pub refuted_few : (version limit : ℕ) (number : Option ℕ) (n : ℕ) → IsInRange version limit number → refuted_processes limit number ≡ Some n → (2 ≤ n) × (n ≤ 8)
refuted_few version limit None n range e = let two : 2 ≡ n = cc e in (omega (arith, two), omega (arith, two))
refuted_few version limit (Some k) n range e = by_limit (nat_lt k limit) refl e
  where
    by_limit : (below : Bool) → nat_lt k limit ≡ below → cond {A = Option ℕ} below (Some (k + 1)) None ≡ Some n → (2 ≤ n) × (n ≤ 8)
    by_limit true e h =
        let less = ltb-true k limit e in
        let same : k + 1 ≡ n = cc h in (omega (arith, same, range.number_in_limit.0), omega (arith, same, less, range.few, greatest_few version))
    by_limit false e h = absurd (cc h)

-- pairs apart are of the table
pub pairs_known : (t : TypeTable) (pairs : List OperationPair) → ArePairsApart t pairs → All (IsKnownPair t) pairs
pairs_known t pairs are =
    All-weaker (Contains pairs) (IsKnownPair t) (λ pair here. (let p = (are.listed pair).0 here in record { first = omega (arith, p.0, p.1); second = p.1 })) pairs (All-contains_itself pairs)
