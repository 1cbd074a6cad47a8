-- Canonical choices stand for all choices.
use Rattle.std.proofs.Common.{◌≡◌, ℕ, zero, suc, ◌<◌, ◌≤◌, inl, inr, List, ◌++◌, length, replicate, refl, sym, ◌∙◌, subst, arith, All, Contains, length-append, ◌↔◌}
use Rattle.std.proofs.lemmas.List.{length-replicate}
use Rattle.std.proofs.lemmas.List.Elements.{recursion_from_All, All-from_recursion}
use Rattle.cn_table.specs.TypeTable.{TypeTable}
use Rattle.cn_choice.specs.Canonical.{Choice, IsCanonical, IsCanonicalForm, IsChoiceFor, canonical_choices, raw_choice_of}
use Rattle.cn_choice.specs.Discerning.{IsDiscerning, IsWitness}
use Rattle.cn_choice.specs.RawChoices.{IsRawChoice, RawChoice}
use Rattle.cn_choice.specs.Renumbering.{Embeds, with_other_teams}
use Rattle.cn_choice.specs.declared.team.Team.{Team}
use Rattle.cn_choice.specs.declared.team.Team.TheVariants.{A, B}
use Rattle.cn_choice.proofs.ChoiceLemmas.CanonicalCover.{Covers, covered}
use Rattle.cn_choice.proofs.ChoiceLemmas.ListedChoices.{IsListed, choice_listed, to_choice_listed}
use Rattle.cn_choice.proofs.ListLemmas.Members.{Contains-from_IsIn, IsIn, IsIn-append_cases, IsIn-append_left, IsIn-append_right, IsIn-from_Contains, each_at, each_from, place_of}

-- the operations of an embedded choice are operations of the type
embedded_known : (m : ℕ) (f : ℕ → ℕ) (d c : RawChoice) → Embeds f d c → All (λ o. o < m) c.operations → (x : ℕ) → IsIn x d.operations → x < m
embedded_known m f d c e k x i =
    let p = place_of x d.operations 0 i in
    subst (λ (z : ℕ). z < m) (sym (e.operation p.0 p.1) ∙ p.2) (k (f p.0) 0 (e.inside p.0 p.1))

covered_listed : (t : TypeTable) (n : ℕ) (c : RawChoice) (d : Choice) → IsRawChoice t n c → Covers t d c → IsListed (length t.states) (length t.operations) n d
covered_listed t n c d is v =
    let m : ℕ = length t.operations in
    let known : (x : ℕ) → IsIn x (d.a ++ d.b) → x < m = λ x i. elim v.renumbered [
      | inl r ↦ embedded_known m r.0 (raw_choice_of d) c r.1 is.operations_known x i
      | inr r ↦ embedded_known m r.0 (raw_choice_of d) (with_other_teams c) r.1 is.operations_known x i
    ] in
    let state : d.state ≡ c.state = elim v.renumbered [ inl r ↦ r.1.same_state | inr r ↦ r.1.same_state ] in
    record {
      known_state = omega (arith, state, is.state_known);
      a_below = each_from (λ o. o < m) d.a (λ x i. known x (IsIn-append_left x d.a d.b i));
      b_below = each_from (λ o. o < m) d.b (λ x i. known x (IsIn-append_right x d.a d.b i));
      all = omega (arith, length-append d.a d.b, v.long, is.one_operation_each);
      canonical = v.canonical;
    }

replicate_in : (m : Team) (k : ℕ) → 1 ≤ k → IsIn m (replicate k m)
replicate_in m zero l = absurd (omega arith)
replicate_in m (suc k) l = inl refl

pub IsRawChoice-choice : (t : TypeTable) (n : ℕ) (c : Choice) → IsChoiceFor t n c → IsRawChoice t n (raw_choice_of c)
IsRawChoice-choice t n c is =
    let m : ℕ = length t.operations in
    let a_teams : List Team = replicate (length c.a) A in
    let b_teams : List Team = replicate (length c.b) B in
    let below : (x : ℕ) → IsIn x (c.a ++ c.b) → x < m = λ x i. elim (IsIn-append_cases x c.a c.b i) [
      | inl j ↦ each_at (λ o. o < m) c.a x (recursion_from_All (λ o. o < m) c.a is.a_known) j
      | inr j ↦ each_at (λ o. o < m) c.b x (recursion_from_All (λ o. o < m) c.b is.b_known) j
    ] in
    record {
      state_known = is.known_state;
      operations_known = All-from_recursion (λ o. o < m) (c.a ++ c.b) (each_from (λ o. o < m) (c.a ++ c.b) below);
      one_operation_each = omega (arith, length-append c.a c.b, is.all);
      one_team_each = omega (arith, length-append a_teams b_teams, length-replicate (length c.a) A, length-replicate (length c.b) B, is.all);
      someone_in_a = Contains-from_IsIn A (a_teams ++ b_teams) (IsIn-append_left A a_teams b_teams (replicate_in A (length c.a) is.someone_in_a));
      someone_in_b = Contains-from_IsIn B (a_teams ++ b_teams) (IsIn-append_right B a_teams b_teams (replicate_in B (length c.b) is.someone_in_b));
    }

-- the only team in a list of copies of one team
only_teams : (m o : Team) (k : ℕ) → IsIn m (replicate k o) → m ≡ o
only_teams m o zero h = absurd h
only_teams m o (suc k) h = elim h [ inl e ↦ sym e | inr i ↦ only_teams m o k i ]

some_teams : (m : Team) (k : ℕ) → IsIn m (replicate k m) → 1 ≤ k
some_teams m zero h = absurd h
some_teams m (suc k) h = omega arith

pub choice-IsRawChoice : (t : TypeTable) (n : ℕ) (c : Choice) → IsRawChoice t n (raw_choice_of c) → IsChoiceFor t n c
choice-IsRawChoice t n c is =
    let m : ℕ = length t.operations in
    let a_teams : List Team = replicate (length c.a) A in
    let b_teams : List Team = replicate (length c.b) B in
    let known = recursion_from_All (λ o. o < m) (c.a ++ c.b) is.operations_known in
    record {
      known_state = is.state_known;
      a_known = All-from_recursion (λ o. o < m) c.a (each_from (λ o. o < m) c.a (λ x i. each_at (λ o. o < m) (c.a ++ c.b) x known (IsIn-append_left x c.a c.b i)));
      b_known = All-from_recursion (λ o. o < m) c.b (each_from (λ o. o < m) c.b (λ x i. each_at (λ o. o < m) (c.a ++ c.b) x known (IsIn-append_right x c.a c.b i)));
      someone_in_a = elim (IsIn-append_cases A a_teams b_teams (IsIn-from_Contains A (a_teams ++ b_teams) is.someone_in_a)) [
        | inl i ↦ some_teams A (length c.a) i
        | inr i ↦ absurd (apart (only_teams A B (length c.b) i))
      ];
      someone_in_b = elim (IsIn-append_cases B a_teams b_teams (IsIn-from_Contains B (a_teams ++ b_teams) is.someone_in_b)) [
        | inl i ↦ absurd (apart (sym (only_teams B A (length c.a) i)))
        | inr i ↦ some_teams B (length c.b) i
      ];
      all = omega (arith, length-append c.a c.b, is.one_operation_each);
    }
  where
    apart : A ≡ B → ⊥
    apart e = cc

pub IsRawChoice-listed : (t : TypeTable) (n : ℕ) (d : Choice) → IsListed (length t.states) (length t.operations) n d → IsRawChoice t n (raw_choice_of d)
IsRawChoice-listed t n d l = IsRawChoice-choice t n d (record {
  known_state = l.known_state;
  a_known = All-from_recursion (λ o. o < length t.operations) d.a l.a_below;
  b_known = All-from_recursion (λ o. o < length t.operations) d.b l.b_below;
  someone_in_a = l.canonical.someone_in_a;
  someone_in_b = omega (arith, l.canonical.someone_in_a, l.canonical.a_not_longer);
  all = l.all;
})

listed-IsRawChoice : (t : TypeTable) (n : ℕ) (d : Choice) → IsCanonical d → IsRawChoice t n (raw_choice_of d) → IsListed (length t.states) (length t.operations) n d
listed-IsRawChoice t n d canonical is =
    let parts = choice-IsRawChoice t n d is in
    record {
      known_state = parts.known_state;
      a_below = recursion_from_All (λ o. o < length t.operations) d.a parts.a_known;
      b_below = recursion_from_All (λ o. o < length t.operations) d.b parts.b_known;
      all = parts.all;
      canonical = canonical;
    }

-- the list has exactly the canonical choices of a table
pub canonical_listed : (t : TypeTable) (n : ℕ) (d : Choice) → Contains (canonical_choices (length t.states) (length t.operations) n) d ↔ (IsCanonical d × IsRawChoice t n (raw_choice_of d))
canonical_listed t n d = (
  λ h. let l = choice_listed (length t.states) (length t.operations) n d (IsIn-from_Contains d _ h) in (l.canonical, IsRawChoice-listed t n d l),
  λ h. Contains-from_IsIn d _ (to_choice_listed (length t.states) (length t.operations) n d (listed-IsRawChoice t n d h.0 h.1)),
)

-- each raw choice has a canonical form
pub coverage : (t : TypeTable) (n : ℕ) (c : RawChoice) → IsRawChoice t n c → (d : Choice) × IsCanonicalForm t n d c
coverage t n c is =
    let r = covered t n c is in (
      r.0,
      record {
        canonical = r.1.canonical;
        for_n = IsRawChoice-listed t n r.0 (covered_listed t n c r.0 is r.1);
        renumbered = elim r.1.renumbered [ inl f ↦ inl (f.0, f.1, r.1.long) | inr f ↦ inr (f.0, f.1, r.1.long) ];
        same_witness = r.1.same;
      },
    )

-- if no canonical choice is a witness, no choice is one
pub not_discerning : (t : TypeTable) (n : ℕ) → All (λ d. ¬ IsWitness t (raw_choice_of d)) (canonical_choices (length t.states) (length t.operations) n) → ¬ IsDiscerning t n
not_discerning t n none w =
    let cs : List Choice = canonical_choices (length t.states) (length t.operations) n in
    let r = coverage t n w.0 w.1 in
    let listed = IsIn-from_Contains r.0 cs ((canonical_listed t n r.0).1 (r.1.canonical, r.1.for_n)) in
    each_at (λ d. ¬ IsWitness t (raw_choice_of d)) cs r.0 (recursion_from_All (λ d. ¬ IsWitness t (raw_choice_of d)) cs none) listed (r.1.same_witness.0 w.2)

-- a canonical witness is a witness
pub discerning_from : (t : TypeTable) (n : ℕ) (d : Choice) → Contains (canonical_choices (length t.states) (length t.operations) n) d → IsWitness t (raw_choice_of d) → IsDiscerning t n
discerning_from t n d h w = (raw_choice_of d, ((canonical_listed t n d).0 h).1, w)
