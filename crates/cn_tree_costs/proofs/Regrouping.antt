-- Other teams of the processes of a witness.
use Rattle.std.proofs.Common.{ℕ, zero, suc, ◌≡◌, ◌≢◌, Bool, true, false, ◌+◌, ◌-◌, ◌<◌, ◌≤◌, List, [], ◌∷◌, length, slice_index_or, refl, sym, ap, ◌∙◌, subst, arith, nat_lt, nat_eq, if◌then◌else◌, inl, inr}
use Rattle.std.specs.Prelude.{IsPermutation, sum, swap}
use Rattle.std.proofs.lemmas.Bool.{cases_eq, cases_lt}
use Rattle.std.proofs.lemmas.Bool.Decides.{nat_tests}
use Rattle.std.proofs.lemmas.List.Edits.{swapped_from_swap}
use Rattle.std.proofs.lemmas.List.Sorted.{IsPermutation-keeps}
use Rattle.cn_table.specs.TypeTable.{TypeTable}
use Rattle.cn_meetings.specs.Choices.{renamed}
use Rattle.cn_meetings.specs.Meeting.{IsSightOf, Meeting, Sight, see}
use Rattle.cn_meetings.specs.Meeting.Sight.{State}
use Rattle.cn_meetings.specs.Witness.{Has, IsTeamWitness}
use Rattle.cn_meetings.proofs.Renaming.{renaming}
use Rattle.cn_meetings.proofs.Witnesses.{fewer_teams, seeing_more}
use Rattle.cn_trees.specs.Seats.{HasRoles}
use Rattle.cn_tree_costs.specs.Sizes.{HasSizes, block}
use Rattle.cn_tree_costs.proofs.Numbers.{block_in, block_out, sum_cons}
use Rattle.cn_tree_costs.proofs.Witnesses.{same_teams}

abbrev pub size_at : List ℕ → ℕ → ℕ
size_at sizes g = slice_index_or sizes g 0

-- the first process of a team
abbrev pub start_of : List ℕ → ℕ → ℕ
start_of [] g = 0
start_of (m ∷ sizes) zero = 0
start_of (m ∷ sizes) (suc g) = m + start_of sizes g

-- the number of a process in its team
abbrev seat : List ℕ → ℕ → ℕ
seat [] p = p
seat (m ∷ sizes) p = if nat_lt p m then p else seat sizes (p - m)

pub placed : (sizes : List ℕ) (g i : ℕ) → i < size_at sizes g → (block sizes (start_of sizes g + i) ≡ g) × (start_of sizes g + i < sum sizes)
placed [] g i lt = absurd (omega arith)
placed (m ∷ sizes) zero i lt = (block_in m (0 + i) sizes (omega arith), omega (arith, sum_cons m sizes))
placed (m ∷ sizes) (suc g) i lt =
    let h = placed sizes g i lt in
    let d : m + start_of sizes g + i - m ≡ start_of sizes g + i = omega arith in
    let l = h.1 in
    (block_out m (m + start_of sizes g + i) sizes (omega arith) ∙ ap suc (ap (block sizes) d ∙ h.0), omega (arith, sum_cons m sizes))

seated : (sizes : List ℕ) (p : ℕ) → p < sum sizes → (seat sizes p < size_at sizes (block sizes p)) × (start_of sizes (block sizes p) + seat sizes p ≡ p)
seated [] p lt = absurd (omega arith)
seated (m ∷ sizes) p lt = elim (cases_lt p m) [
  | inl l ↦ (let e : nat_lt p m ≡ true = grind (arith, nat_tests) in rw e (l, omega arith))
  | inr l ↦ (let e : nat_lt p m ≡ false = grind (arith, nat_tests) in
      let h = seated sizes (p - m) (omega (arith, sum_cons m sizes)) in
      let k = h.1 in
      rw e (h.0, omega arith))
]

-- a witness whose processes take roles in teams of these sizes
module _ (t : TypeTable) (sight : Sight) (M : Meeting) (processes : ℕ → Bool) (team : ℕ → ℕ) (sizes : List ℕ) (role : ℕ → ℕ → ℕ) (roles : HasRoles processes team (λ g. slice_index_or sizes g 0) role) where
  abbrev taken : ℕ → ℕ
  taken p = role (block sizes p) (seat sizes p)

  taken_known : (p : ℕ) → p < sum sizes → Has processes (taken p)
  taken_known p lt = roles.known (block sizes p) (seat sizes p) (seated sizes p lt).0

  taken_team : (p : ℕ) → p < sum sizes → team (taken p) ≡ block sizes p
  taken_team p lt = roles.team_is (block sizes p) (seat sizes p) (seated sizes p lt).0

  taken_apart : (p q : ℕ) → p < sum sizes → q < sum sizes → taken p ≡ taken q → p ≡ q
  taken_apart p q lp lq e =
      let g : block sizes p ≡ block sizes q = sym (taken_team p lp) ∙ (ap team e ∙ taken_team q lq) in
      let sp : seat sizes p < size_at sizes (block sizes q) = subst (λ h. seat sizes p < size_at sizes h) g (seated sizes p lp).0 in
      let e' : role (block sizes q) (seat sizes p) ≡ role (block sizes q) (seat sizes q) = subst (λ h. role h (seat sizes p) ≡ taken q) g e in
      let same : seat sizes p ≡ seat sizes q = roles.apart (block sizes q) (seat sizes p) (seat sizes q) sp (seated sizes q lq).0 e' in
      sym (seated sizes p lp).1 ∙ (ap (λ h. start_of sizes h + seat sizes p) g ∙ (ap (λ i. start_of sizes (block sizes q) + i) same ∙ (seated sizes q lq).1))

  pub numbered : M.start < length t.states → ((p : ℕ) → Has processes p → M.operation p < length t.operations) → ((p : ℕ) → Has processes p → M.sight p ≡ sight) → IsSightOf t sight → IsTeamWitness t M processes team → HasSizes t sight sizes
  numbered start operations sights known witness = record {
    meeting = renamed taken M;
    start = start;
    operations = λ p lt. operations (taken p) (taken_known p lt);
    sights = λ p lt. sights (taken p) (taken_known p lt);
    known = known;
    witness = same_teams t (renamed taken M) (λ p. nat_lt p (sum sizes)) (λ p. team (taken p)) (block sizes) (λ p h. taken_team p (grind (arith, nat_tests)))
        (renaming t M processes (λ p. nat_lt p (sum sizes)) taken (λ p h. taken_known p (grind (arith, nat_tests))) (λ p q hp hq e. taken_apart p q (grind (arith, nat_tests)) (grind (arith, nat_tests)) e) team witness);
  }

-- teams of a witness by sizes, under other numbers and with fewer processes
module _ (t : TypeTable) (sight : Sight) (sizes others : List ℕ) (has : HasSizes t sight sizes) (old new : ℕ → ℕ) (back : (g : ℕ) → new (old g) ≡ g) (small : (g : ℕ) → size_at others g ≤ size_at sizes (old g)) where
  within : (g i : ℕ) → i < size_at others g → i < size_at sizes (old g)
  within g i lt = let s = small g in omega arith

  roles : HasRoles (λ p. nat_lt p (sum sizes)) (λ p. new (block sizes p)) (λ g. slice_index_or others g 0) (λ g i. start_of sizes (old g) + i)
  roles = record {
    known = λ g i lt. (let l = (placed sizes (old g) i (within g i lt)).1 in grind (arith, nat_tests));
    team_is = λ g i lt. ap new (placed sizes (old g) i (within g i lt)).0 ∙ back g;
    apart = λ g i j li lj e. omega arith;
  }

  pub regrouped : HasSizes t sight others
  regrouped =
      numbered t sight has.meeting (λ p. nat_lt p (sum sizes)) (λ p. new (block sizes p)) others (λ g i. start_of sizes (old g) + i) roles
      has.start (λ p h. has.operations p (grind (arith, nat_tests))) (λ p h. has.sights p (grind (arith, nat_tests))) has.known
      (fewer_teams t has.meeting (λ p. nat_lt p (sum sizes)) (block sizes) new has.witness)

-- ---- teams in another order
abbrev exchange : ℕ → ℕ → ℕ → ℕ
exchange i j g = if nat_eq g i then j else if nat_eq g j then i else g

at_first : (i j g : ℕ) → g ≡ i → exchange i j g ≡ j
at_first i j g e = let a : nat_eq g i ≡ true = grind (arith, nat_tests) in rw a refl

at_second : (i j g : ℕ) → g ≢ i → g ≡ j → exchange i j g ≡ i
at_second i j g ne e = let a : nat_eq g i ≡ false = grind (arith, nat_tests) in let b : nat_eq g j ≡ true = grind (arith, nat_tests) in rw (a, b) refl

at_other : (i j g : ℕ) → g ≢ i → g ≢ j → exchange i j g ≡ g
at_other i j g ne nf = let a : nat_eq g i ≡ false = grind (arith, nat_tests) in let b : nat_eq g j ≡ false = grind (arith, nat_tests) in rw (a, b) refl

exchange_back : (i j g : ℕ) → exchange i j (exchange i j g) ≡ g
exchange_back i j g = elim (cases_eq g i) [
  | inl e ↦ ap (exchange i j) (at_first i j g e) ∙ elim (cases_eq j i) [ inl f ↦ at_first i j j f ∙ (f ∙ sym e) | inr ne ↦ at_second i j j ne refl ∙ sym e ]
  | inr ne ↦ elim (cases_eq g j) [
    | inl e ↦ ap (exchange i j) (at_second i j g ne e) ∙ (at_first i j i refl ∙ sym e)
    | inr nf ↦ ap (exchange i j) (at_other i j g ne nf) ∙ at_other i j g ne nf
  ]
]

exchanged_size : (sizes : List ℕ) (i j g : ℕ) → i < length sizes → j < length sizes → size_at (swap sizes i j) g ≡ size_at sizes (exchange i j g)
exchanged_size sizes i j g li lj =
    let s = swapped_from_swap sizes (swap sizes i j) i j 0 li lj refl in
    elim (cases_eq g i) [
      | inl e ↦ ap (size_at (swap sizes i j)) e ∙ (s.0 ∙ ap (size_at sizes) (sym (at_first i j g e)))
      | inr ne ↦ elim (cases_eq g j) [
        | inl e ↦ ap (size_at (swap sizes i j)) e ∙ (s.1 ∙ ap (size_at sizes) (sym (at_second i j g ne e)))
        | inr nf ↦ s.2 g ne nf ∙ ap (size_at sizes) (sym (at_other i j g ne nf))
      ]
    ]

pub reordered : (t : TypeTable) (sight : Sight) (sizes others : List ℕ) → IsPermutation sizes others → HasSizes t sight sizes → HasSizes t sight others
reordered t sight sizes others shuffled has =
    IsPermutation-keeps sizes (HasSizes t sight) has
    (λ l i j li lj h. regrouped t sight l (swap l i j) h (exchange i j) (exchange i j) (exchange_back i j) (λ g. omega (arith, exchanged_size l i j g li lj)))
    others shuffled

pub smaller : (t : TypeTable) (sight : Sight) (sizes fewer : List ℕ) → ((g : ℕ) → slice_index_or fewer g 0 ≤ slice_index_or sizes g 0) → HasSizes t sight sizes → HasSizes t sight fewer
smaller t sight sizes fewer small has = regrouped t sight sizes fewer has (λ g. g) (λ g. g) (λ g. refl) small

-- ---- two teams as one
abbrev merge : ℕ → ℕ
merge zero = 0
merge (suc g) = g

merged_block : (a b p : ℕ) (sizes : List ℕ) → merge (block (a ∷ b ∷ sizes) p) ≡ block ((a + b) ∷ sizes) p
merged_block a b p sizes = elim (cases_lt p a) [
  | inl l ↦ ap merge (block_in a p (b ∷ sizes) l) ∙ sym (block_in (a + b) p sizes (omega arith))
  | inr l ↦ ap merge (block_out a p (b ∷ sizes) l) ∙ elim (cases_lt (p - a) b) [
    | inl k ↦ block_in b (p - a) sizes k ∙ sym (block_in (a + b) p sizes (omega arith))
    | inr k ↦ block_out b (p - a) sizes k ∙ (ap (λ q. suc (block sizes q)) (omega arith) ∙ sym (block_out (a + b) p sizes (omega arith)))
  ]
]

pub merged : (t : TypeTable) (sight : Sight) (a b : ℕ) (sizes : List ℕ) → HasSizes t sight (a ∷ b ∷ sizes) → HasSizes t sight ((a + b) ∷ sizes)
merged t sight a b sizes has =
    let same : sum ((a + b) ∷ sizes) ≡ sum (a ∷ b ∷ sizes) = omega (arith, sum_cons (a + b) sizes, sum_cons a (b ∷ sizes), sum_cons b sizes) in
    record {
      meeting = has.meeting;
      start = has.start;
      operations = λ p lt. has.operations p (omega arith);
      sights = λ p lt. has.sights p (omega arith);
      known = has.known;
      witness = rw same
          (same_teams t has.meeting (λ p. nat_lt p (sum (a ∷ b ∷ sizes))) (λ p. merge (block (a ∷ b ∷ sizes) p)) (block ((a + b) ∷ sizes)) (λ p h. merged_block a b p sizes)
          (fewer_teams t has.meeting (λ p. nat_lt p (sum (a ∷ b ∷ sizes))) (block (a ∷ b ∷ sizes)) merge has.witness));
    }

-- who reads the state sees most
pub read : (t : TypeTable) (sight : Sight) (sizes : List ℕ) → HasSizes t sight sizes → HasSizes t State sizes
read t sight sizes has = record {
  meeting = record has.meeting { sight = λ p. State };
  start = has.start;
  operations = has.operations;
  sights = λ p lt. refl;
  known = tt;
  witness = seeing_more t has.meeting (λ p. State) (λ p q. see t has.meeting p q) (λ p. nat_lt p (sum sizes)) (block sizes) (λ p q. refl) has.witness;
}
