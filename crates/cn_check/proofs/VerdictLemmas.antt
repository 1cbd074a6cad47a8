-- What an accepted certificate shows, and that the certificate of a finding is accepted.
use Rattle.std.proofs.Common.{◌≡◌, ◌∙◌, ◌≢◌, ◌==◌, ◌↔◌, ℕ, zero, suc, ◌+◌, ◌<◌, ◌≤◌, List, [], ◌∷◌, length, refl, sym, ap, subst, arith, Bool, true, false, cond, ltb, Option, Some, None, IfSome, All, Contains}
use Rattle.std.specs.Prelude.{IfErr, IsErrAnd, IsOk, IsSomeAnd, MatchOption, OnOk, Result, Ok, Err, slice_get}
use Rattle.std.specs.List.{AllByRecursion, AllZip}
use Rattle.std.proofs.lemmas.Bool.{lt-ltb, ltb-true}
use Rattle.std.proofs.lemmas.List.Elements.{All-from_recursion}
use Rattle.std.proofs.lemmas.Slice.Zip.{AllZip-long}
use Rattle.std.proofs.lemmas.Option.{none-some, same_Some}
use Rattle.cn_table.proofs.Lists.{Contains-between}
use Rattle.cn_table.specs.TypeTable.{TypeTable}
use Rattle.cn_choice.specs.RawChoices.{IsRawChoice, RawChoice}
use Rattle.cn_choice.specs.Canonical.{Choice, IsCanonical, canonical_choices, raw_choice_of}
use Rattle.cn_choice.specs.Collisions.{Collision, IsCollision}
use Rattle.cn_choice.specs.Discerning.{IsDiscerning, IsNumberUpTo, IsWitness, OutcomeSetsMeet}
use Rattle.cn_choice.specs.FirstCollision.{HasCollision}
use Rattle.cn_choice.specs.Live.{IsLive, live_choices}
use Rattle.cn_finding.specs.Evidence.{IsFindingFor, IsFirstWitness, IsRecordedFor, choices_to_refute}
use Rattle.cn_finding.specs.Finding.{Finding}
use Rattle.cn_finding.specs.declared.limits.TheConstants.{GREATEST_LIMIT, LEAST_LIMIT}
use Rattle.cn_cert.specs.Certificate.{Certificate, certificate_of}
use Rattle.cn_check.specs.Conditions.{HasWitnessFor, HoldsCollision, IsInRange, Refutes}
use Rattle.cn_check.specs.Faults.{HasFault, IsFirstFault}
use Rattle.cn_check.specs.EvidenceFaults.{IsEvidenceFault, IsWitnessFault}
use Rattle.cn_check.specs.Verdict.{IsAccepted}
use Rattle.cn_check.specs.Versions.{choices_in_version, choices_to_refute_in}
use Rattle.cn_check.proofs.FaultLemmas.{first_of_evidence, first_of_witness, not_some_if}
use Rattle.cn_check.specs.declared.fault.CheckFault.{CheckFault}
use Rattle.cn_check.specs.declared.fault.CheckFault.TheVariants.{OtherType, BadNumber, WitnessShape, WitnessMeets, Unexpected, NotNext, NotACollision, TooFew}

-- ---- the number

-- what the laws of choices say
pub record Laws : Type 0 where
  pub canonical_decide : (t : TypeTable) (n : ℕ) → All (λ c. ¬ IsWitness t (raw_choice_of c)) (canonical_choices (length t.states) (length t.operations) n) → ¬ IsDiscerning t n
  pub live_decide : (t : TypeTable) (n : ℕ) → All (λ c. ¬ IsWitness t (raw_choice_of c)) (live_choices t n) → ¬ IsDiscerning t n
  pub number_found : (t : TypeTable) (limit n : ℕ) → 2 ≤ n → n ≤ limit → IsDiscerning t n → (n < limit → ¬ IsDiscerning t (n + 1)) → IsNumberUpTo t limit (Some n)
  pub no_number : (t : TypeTable) (limit : ℕ) → ¬ IsDiscerning t 2 → IsNumberUpTo t limit None
  pub no_witness : (t : TypeTable) (c : RawChoice) → HasCollision t c ↔ ¬ IsWitness t c
  pub listed : (t : TypeTable) (n : ℕ) (c : Choice) → Contains (live_choices t n) c ↔ (IsCanonical c × IsRawChoice t n (raw_choice_of c) × IsLive t (raw_choice_of c))

refuted_each : Laws → (t : TypeTable) (choices : List Choice) (entries : List Collision) → AllZip (Refutes t) choices entries → AllByRecursion (λ c. ¬ IsWitness t (raw_choice_of c)) choices
refuted_each laws t [] entries h = tt
refuted_each laws t (c ∷ choices) [] h = absurd h
refuted_each laws t (c ∷ choices) (e ∷ entries) h = (
  subst (λ x. ¬ IsWitness t (raw_choice_of x)) h.0.0 ((laws.no_witness t (raw_choice_of e.choice)).0 (e.process, e.alpha, e.beta, h.0.1)),
  refuted_each laws t choices entries h.1,
)

none_discerning : Laws → (version : ℕ) (t : TypeTable) (n : ℕ) (entries : List Collision) → AllZip (Refutes t) (choices_in_version version t n) entries → ¬ IsDiscerning t n
none_discerning laws version t n entries h = by_version (version == 1) h
  where
    by_version : (one : Bool) → AllZip (Refutes t) (cond one (canonical_choices (length t.states) (length t.operations) n) (live_choices t n)) entries → ¬ IsDiscerning t n
    by_version true h = laws.canonical_decide t n
        (All-from_recursion (λ c. ¬ IsWitness t (raw_choice_of c)) (canonical_choices (length t.states) (length t.operations) n) (refuted_each laws t _ entries h))
    by_version false h = laws.live_decide t n (All-from_recursion (λ c. ¬ IsWitness t (raw_choice_of c)) (live_choices t n) (refuted_each laws t _ entries h))

number_by_parts : Laws → (version : ℕ) (t : TypeTable) (limit : ℕ) (number : Option ℕ) (witness : Option Choice) (entries : List Collision) → IsInRange version limit number
    → HasWitnessFor t number witness
    → IfSome witness (λ w. IsWitness t (raw_choice_of w)) → AllZip (Refutes t) (choices_to_refute_in version t limit number) entries → IsNumberUpTo t limit number
number_by_parts laws version t limit None None entries r f w h = laws.no_number t limit (none_discerning laws version t 2 entries h)
number_by_parts laws version t limit None (Some x) entries r f w h = absurd f
number_by_parts laws version t limit (Some n) None entries r f w h = absurd f
number_by_parts laws version t limit (Some n) (Some x) entries r f w h =
    laws.number_found t limit n r.number_in_limit.0 r.number_in_limit.1 (raw_choice_of x, f, w)
    (λ l. none_discerning laws version t (n + 1) entries (subst (λ b. AllZip (Refutes t) (cond b (choices_in_version version t (n + 1)) []) entries) (lt-ltb n limit l) h))

pub number_accepted : Laws → (t : TypeTable) (c : Certificate) → IsAccepted t c → IsNumberUpTo t c.limit c.number
number_accepted laws t c a = number_by_parts laws c.version t c.limit c.number c.witness c.collisions a.in_range a.witness_fits a.witness a.refuted

-- ---- an accepted certificate has no fault

zip_at : (t : TypeTable) (choices : List Choice) (entries : List Collision) (i : ℕ) → AllZip (Refutes t) choices entries
    → IfSome (slice_get entries i) (λ e. (slice_get choices i ≡ Some e.choice) × HoldsCollision t e)
zip_at t [] [] i h = tt
zip_at t [] (e ∷ entries) i h = absurd h
zip_at t (c ∷ choices) [] i h = absurd h
zip_at t (c ∷ choices) (e ∷ entries) zero h = (ap Some (sym h.0.0), h.0.1)
zip_at t (c ∷ choices) (e ∷ entries) (suc i) h = zip_at t choices entries i h.1

nothing_at_limit : (version : ℕ) (t : TypeTable) (limit : ℕ) (number : Option ℕ) → number ≡ Some limit → choices_to_refute_in version t limit number ≡ []
nothing_at_limit version t limit None e = absurd (none-some limit e)
nothing_at_limit version t limit (Some n) e = by_test (ltb n limit) refl
  where
    by_test : (b : Bool) → ltb n limit ≡ b → cond b (choices_in_version version t (n + 1)) [] ≡ []
    by_test true f = absurd (omega (arith, ltb-true n limit f, same_Some n limit e))
    by_test false f = refl

no_entries : (t : TypeTable) (choices : List Choice) (entries : List Collision) → choices ≡ [] → AllZip (Refutes t) choices entries → entries ≡ []
no_entries t [] [] e h = refl
no_entries t [] (x ∷ entries) e h = absurd h
no_entries t (c ∷ choices) entries e h = absurd (cc e)

pub no_fault : (t : TypeTable) (c : Certificate) → IsAccepted t c → (e : CheckFault) → ¬ HasFault t c e
no_fault t c a OtherType h = h a.type_name
no_fault t c a BadNumber h = h a.in_range
no_fault t c a WitnessShape h = h a.witness_fits
no_fault t c a (WitnessMeets j) h = not_some_if (λ w. IsWitness t (raw_choice_of w)) (λ w. OutcomeSetsMeet t (raw_choice_of w) j) c.witness (λ w is meet. is j meet.0 meet.1 meet.2) a.witness h
no_fault t c a Unexpected h = h.1 (no_entries t (choices_to_refute_in c.version t c.limit c.number) c.collisions (nothing_at_limit c.version t c.limit c.number h.0) a.refuted)
no_fault t c a (NotNext i) h =
    not_some_if (λ e. (slice_get (choices_to_refute_in c.version t c.limit c.number) i ≡ Some e.choice) × HoldsCollision t e)
    (λ e. slice_get (choices_to_refute_in c.version t c.limit c.number) i ≢ Some e.choice) (slice_get c.collisions i)
    (λ e p q. q p.0) (zip_at t (choices_to_refute_in c.version t c.limit c.number) c.collisions i a.refuted) h
no_fault t c a (NotACollision i) h =
    not_some_if (λ e. (slice_get (choices_to_refute_in c.version t c.limit c.number) i ≡ Some e.choice) × HoldsCollision t e) (λ e. ¬ HoldsCollision t e) (slice_get c.collisions i)
    (λ e p q. q p.1) (zip_at t (choices_to_refute_in c.version t c.limit c.number) c.collisions i a.refuted) h
no_fault t c a TooFew h = absurd (omega (arith, h, AllZip-long (Refutes t) (choices_to_refute_in c.version t c.limit c.number) c.collisions a.refuted))

-- ---- the certificate of a finding

recorded_refute : (t : TypeTable) (choices : List Choice) (entries : List Collision) → AllZip (IsRecordedFor t) choices entries → AllZip (Refutes t) choices entries
recorded_refute t [] [] h = tt
recorded_refute t [] (e ∷ entries) h = absurd h
recorded_refute t (c ∷ choices) [] h = absurd h
recorded_refute t (c ∷ choices) (e ∷ entries) h = (
  (h.0.0, subst (λ x. IsCollision t (raw_choice_of x) e.process e.alpha e.beta) (sym h.0.0) h.0.1.collision),
  recorded_refute t choices entries h.1,
)

first_fits : Laws → (t : TypeTable) (n : ℕ) (w : Choice) → IsFirstWitness t (live_choices t n) w → IsRawChoice t n (raw_choice_of w)
first_fits laws t n w f = ((laws.listed t n w).0 (Contains-between (live_choices t n) f.before f.after w (sym f.listed))).1

fits_by_parts : Laws → (t : TypeTable) (number : Option ℕ) (witness : Option Choice) → MatchOption number (witness ≡ None) (λ n. IsSomeAnd witness (IsFirstWitness t (live_choices t n)))
    → HasWitnessFor t number witness × IfSome witness (λ w. IsWitness t (raw_choice_of w))
fits_by_parts laws t None None h = (tt, tt)
fits_by_parts laws t None (Some w) h = absurd (none-some w (sym h))
fits_by_parts laws t (Some n) None h = absurd h
fits_by_parts laws t (Some n) (Some w) h = (first_fits laws t n w h, h.witness)

in_range_by_parts : (t : TypeTable) (limit : ℕ) (number : Option ℕ) → 2 ≤ limit → limit ≤ 8 → IsNumberUpTo t limit number → IsInRange 2 limit number
in_range_by_parts t limit None some few h = record { some = some; few = few; number_in_limit = tt }
in_range_by_parts t limit (Some n) some few h = record { some = some; few = few; number_in_limit = (h.0, h.1) }

pub finding_accepted : Laws → (t : TypeTable) (f : Finding) → IsFindingFor t f.limit f → LEAST_LIMIT ≤ f.limit → f.limit ≤ GREATEST_LIMIT → IsAccepted t (certificate_of t.name f)
finding_accepted laws t f is some few =
    let parts = fits_by_parts laws t f.number f.witness is.witness in
    record {
      type_name = refl;
      in_range = in_range_by_parts t f.limit f.number some few is.number;
      witness_fits = parts.0;
      witness = parts.1;
      refuted = recorded_refute t (choices_to_refute_in 2 t f.limit f.number) f.collisions (found f.number is.collisions);
    }
  where
    -- what is found is of the choices that count in version 2
    found : (number : Option ℕ) → AllZip (IsRecordedFor t) (choices_to_refute t f.limit number) f.collisions → AllZip (IsRecordedFor t) (choices_to_refute_in 2 t f.limit number) f.collisions
    found None h = h
    found (Some n) h = h

-- ---- the parts of the check, put together

module _ (t : TypeTable) (seen c : Certificate) (r : Result (Unit {0}) CheckFault) (same : seen ≡ c) (named : c.type_name ≡ t.name) (in_range : IsInRange seen.version seen.limit seen.number) where
  -- a fault of the witness that is handed on
  pub witness_refused : (e : CheckFault) → IsErrAnd r (λ f. f ≡ e) → IsWitnessFault t seen.number seen.witness e → IfErr r (IsFirstFault t c)
  witness_refused e handed fault =
      let first : IsFirstFault t seen e = first_of_witness t seen (ap (λ x. x.type_name) same ∙ named) in_range e fault in
      by_result r handed (subst (λ x. IsFirstFault t x e) same first)
    where
      by_result : (u : Result (Unit {0}) CheckFault) → IsErrAnd u (λ f. f ≡ e) → IsFirstFault t c e → IfErr u (IsFirstFault t c)
      by_result (Ok x) h f = tt
      by_result (Err g) h f = subst (IsFirstFault t c) (sym h) f

  module _ (fits : HasWitnessFor t seen.number seen.witness) (witness : IfSome seen.witness (λ w. IsWitness t (raw_choice_of w))) where
    pub evidence_refused : IfErr r (IsEvidenceFault t seen.version seen.limit seen.number seen.collisions) → IfErr r (IsFirstFault t c)
    evidence_refused h = by_result r h
      where
        by_result : (u : Result (Unit {0}) CheckFault) → IfErr u (IsEvidenceFault t seen.version seen.limit seen.number seen.collisions) → IfErr u (IsFirstFault t c)
        by_result (Ok x) h = tt
        by_result (Err e) h = subst (λ x. IsFirstFault t x e) same (first_of_evidence t seen (ap (λ x. x.type_name) same ∙ named) in_range fits witness e h)

    pub evidence_accepted : OnOk r (AllZip (Refutes t) (choices_to_refute_in seen.version t seen.limit seen.number) seen.collisions) → OnOk r (IsAccepted t c)
    evidence_accepted h = by_result r h
      where
        by_result : (u : Result (Unit {0}) CheckFault) → OnOk u (AllZip (Refutes t) (choices_to_refute_in seen.version t seen.limit seen.number) seen.collisions) → OnOk u (IsAccepted t c)
        by_result (Ok x) h =
            let accepted : IsAccepted t seen = record { type_name = ap (λ x. x.type_name) same ∙ named; in_range = in_range; witness_fits = fits; witness = witness; refuted = h } in
            subst (IsAccepted t) same accepted
        by_result (Err e) h = tt

-- what is accepted has the number of the type
pub number_if_accepted : ((t : TypeTable) (c : Certificate) → IsAccepted t c → IsNumberUpTo t c.limit c.number) → (t : TypeTable) (c : Certificate) (r : Result (Unit {0}) CheckFault)
    → OnOk r (IsAccepted t c) → OnOk r (IsNumberUpTo t c.limit c.number)
number_if_accepted law t c (Ok x) h = law t c h
number_if_accepted law t c (Err e) h = tt

-- where each fault would be the first one, what is accepted passes, and so does the certificate of a finding
pub accepted_passes : (t : TypeTable) (c : Certificate) (r : Result (Unit {0}) CheckFault) → IfErr r (IsFirstFault t c) → IsAccepted t c → IsOk r
accepted_passes t c (Ok x) h a = refl
accepted_passes t c (Err e) h a = absurd (no_fault t c a e h.holds)

pub found_passes : ((t : TypeTable) (f : Finding) → IsFindingFor t f.limit f → LEAST_LIMIT ≤ f.limit → f.limit ≤ GREATEST_LIMIT → IsAccepted t (certificate_of t.name f))
    → (t : TypeTable) (c : Certificate) (r : Result (Unit {0}) CheckFault) → IfErr r (IsFirstFault t c) → (f : Finding) → IsFindingFor t f.limit f
    → LEAST_LIMIT ≤ f.limit → f.limit ≤ GREATEST_LIMIT → c ≡ certificate_of t.name f → IsOk r
found_passes law t c r h f is some few same = accepted_passes t c r h (subst (IsAccepted t) (sym same) (law t f is some few))
