-- The sizes of a finest division are those of a witness.
use Rattle.std.proofs.Common.{ℕ, zero, suc, ◌≡◌, ◌≢◌, ◌+◌, ◌*◌, ◌/◌, ◌<◌, ◌≤◌, inl, inr, true, false, List, [], ◌∷◌, ◌++◌, length, take, replicate, get_or, refl, sym, ap, ◌∙◌, subst, arith, nat_eq, nat_lt}
use Rattle.std.specs.Prelude.{All, IsPermutation, slice_index_or, sum}
use Rattle.std.proofs.Math.Nat.{mul-div_cancel_left}
use Rattle.std.proofs.Math.Seq.{take-length}
use Rattle.std.proofs.lemmas.Bool.{cases_eq}
use Rattle.std.proofs.lemmas.Bool.Decides.{nat_tests}
use Rattle.std.proofs.lemmas.List.Elements.{All-cons, All-nil}
use Rattle.std.proofs.lemmas.List.FromFn.{get_or-map-range_with_len, length-map-range_with_len}
use Rattle.std.proofs.lemmas.List.Sorted.{sum_by-IsPermutation}
use Rattle.std.proofs.lemmas.List.Sums.{sum_by-append}
use Rattle.cn_choice.proofs.ListLemmas.Members.{IsIn}
use Rattle.cn_divisions.specs.declared.divisions.Division.{Division}
use Rattle.cn_divisions.specs.Divisions as divisions
use Rattle.cn_divisions.specs.Divisions.{meeting_in, team_in}
use Rattle.cn_divisions.proofs.Counting.{counted_twice, more_times, times_replicate, times_replicate_else}
use Rattle.cn_meetings.specs.Meeting.{IsSightOf, Meeting, Sight}
use Rattle.cn_meetings.specs.Witness.{IsTeamWitness}
use Rattle.cn_stocks.specs.Words.{HaveSame, times}
use Rattle.cn_stocks.proofs.Times.{one, one_of, one_some, same_or, times_append, times_cons, times_none, times_of_place}
use Rattle.cn_table.specs.TypeTable.{TypeTable}
use Rattle.cn_tree_costs.specs.Sizes.{HasSizes, IsDivision, team_size, team_sizes}
use Rattle.cn_tree_costs.proofs.Numbers.{sum_cons}
use Rattle.cn_shortest.proofs.Permuted.{shuffled}

pub same_factor : (s x y : ℕ) → 1 ≤ s → s * x ≡ s * y → x ≡ y
same_factor zero x y some e = absurd (omega (arith, some))
same_factor (suc s) x y some e = sym (mul-div_cancel_left x {n = suc s} (omega arith)) ∙ (ap (λ z. z / suc s) e ∙ mul-div_cancel_left y {n = suc s} (omega arith))

pub sum_at : (xs : List ℕ) (i : ℕ) → get_or xs i 0 ≤ sum xs
sum_at [] i = omega arith
sum_at (x ∷ xs) zero = omega (arith, sum_cons x xs)
sum_at (x ∷ xs) (suc i) = omega (arith, sum_at xs i, sum_cons x xs)

in_sum : (x : ℕ) (xs : List ℕ) → IsIn x xs → x ≤ sum xs
in_sum x [] i = absurd i
in_sum x (y ∷ xs) (inl e) = omega (arith, e, sum_cons y xs)
in_sum x (y ∷ xs) (inr i) = omega (arith, in_sum x xs i, sum_cons y xs)

no_sum : (k : ℕ) → sum (replicate k 0) ≡ 0
no_sum zero = refl
no_sum (suc k) = omega (arith, sum_cons 0 (replicate k 0), no_sum k)

none_zero : (xs : List ℕ) → times 0 xs ≡ 0 → All (λ m. 1 ≤ m) xs
none_zero [] e = All-nil (λ m. 1 ≤ m)
none_zero (x ∷ xs) e = elim (same_or x 0) [
  | inl z ↦ absurd (omega (arith, e, times_cons 0 x xs, one_of 0 x z))
  | inr n ↦ All-cons (λ m. 1 ≤ m) x xs (omega (arith, n)) (none_zero xs (omega (arith, e, times_cons 0 x xs)))
]

fewer_at : (xs : List ℕ) (more g : ℕ) → slice_index_or xs g 0 ≤ slice_index_or (xs ++ replicate more 0) g 0
fewer_at [] more g = omega arith
fewer_at (x ∷ xs) more zero = omega arith
fewer_at (x ∷ xs) more (suc g) = fewer_at xs more g

pub size_most : (team : ℕ → ℕ) (n g : ℕ) → team_size team n g ≤ n
size_most team zero g = omega arith
size_most team (suc n) g = elim (cases_eq (team n) g) [
  | inl e ↦ (let y : nat_eq (team n) g ≡ true = grind (arith, nat_tests) in rw y (omega (arith, size_most team n g)))
  | inr ne ↦ (let y : nat_eq (team n) g ≡ false = grind (arith, nat_tests) in rw y (omega (arith, size_most team n g)))
]

pub size_less : (team : ℕ → ℕ) (n g q : ℕ) → q < n → team q ≢ g → team_size team n g < n
size_less team zero g q l ne = absurd (omega (arith, l))
size_less team (suc n) g q l ne = elim (cases_eq (team n) g) [
  | inl e ↦ (let y : nat_eq (team n) g ≡ true = grind (arith, nat_tests) in
      let other : q ≢ n = (λ same. ne (ap team same ∙ e)) in
      rw y (omega (arith, size_less team n g q (omega (arith, l, other)) ne)))
  | inr nf ↦ (let y : nat_eq (team n) g ≡ false = grind (arith, nat_tests) in rw y (omega (arith, size_most team n g)))
]

size_some : (team : ℕ → ℕ) (n g q : ℕ) → q < n → team q ≡ g → 1 ≤ team_size team n g
size_some team zero g q l e = absurd (omega (arith, l))
size_some team (suc n) g q l e = elim (cases_eq (team n) g) [
  | inl f ↦ (let y : nat_eq (team n) g ≡ true = grind (arith, nat_tests) in rw y (omega arith))
  | inr nf ↦ (let y : nat_eq (team n) g ≡ false = grind (arith, nat_tests) in
      let other : q ≢ n = (λ same. nf (ap team (sym same) ∙ e)) in
      rw y (omega (arith, size_some team n g q (omega (arith, l, other)) e)))
]

module _ (t : TypeTable) (sight : Sight) (n : ℕ) (d : Division) (is : divisions.IsDivision t sight n d) where
  abbrev S : List ℕ
  S = d.sizes.items

  abbrev teams : List ℕ
  teams = d.teams.items

  abbrev team : ℕ → ℕ
  team = team_in d

  abbrev k : ℕ
  k = sum teams + 1

  abbrev counts : List ℕ
  counts = team_sizes team n k

  size_taken : (g i : ℕ) → i ≤ length teams → team_size team i g ≡ times g (take i teams)
  size_taken g zero l = sym (times_none g)
  size_taken g (suc i) l =
      let next : i + 1 ≡ suc i = omega arith in
      ap (λ x. x + one g (get_or teams i 0)) (size_taken g i (omega (arith, l))) ∙ (sym (more_times g teams i (omega (arith, l))) ∙ ap (λ j. times g (take j teams)) next)

  size_is : (g : ℕ) → team_size team n g ≡ times g teams
  size_is g = size_taken g n (omega (arith, is.members)) ∙ ap (times g) (subst (λ m. take m teams ≡ teams) is.members (take-length teams))

  long : length counts ≡ k
  long = length-map-range_with_len (team_size team n) 0 k

  count_at : (g : ℕ) → g < k → get_or counts g 0 ≡ team_size team n g
  count_at g l = get_or-map-range_with_len (team_size team n) 0 k g g 0 l (omega arith)

  twice : (s : ℕ) → s * times s S ≡ s * times s counts
  twice s = is.sizes.counted s ∙ sym (counted_twice s k teams counts long (λ x i. (let l = in_sum x teams i in omega (arith, l))) (λ g l. count_at g l ∙ size_is g))

  same : HaveSame counts (S ++ replicate (times 0 counts) 0)
  same zero = omega (arith, times_append 0 S (replicate (times 0 counts) 0), is.sizes.some, times_replicate 0 (times 0 counts) 0 refl)
  same (suc s) = omega (arith, same_factor (suc s) (times (suc s) S) (times (suc s) counts) (omega arith) (twice (suc s)), times_append (suc s) S (replicate (times 0 counts) 0), times_replicate_else (suc s) (times 0 counts) 0 (λ e. omega (arith, e)))

  permuted : IsPermutation counts (S ++ replicate (times 0 counts) 0)
  permuted = shuffled counts (S ++ replicate (times 0 counts) 0) same

  small_team : (p : ℕ) → p < n → team p < k
  small_team p l = omega (arith, sum_at teams p)

  -- the sizes are those of a witness
  pub sizes_of_witness : HasSizes t sight counts
      → ((xs ys : List ℕ) → IsPermutation xs ys → HasSizes t sight xs → HasSizes t sight ys)
      → ((xs fewer : List ℕ) → ((g : ℕ) → slice_index_or fewer g 0 ≤ slice_index_or xs g 0) → HasSizes t sight xs → HasSizes t sight fewer)
      → HasSizes t sight S
  sizes_of_witness has order smaller = smaller (S ++ replicate (times 0 counts) 0) S (fewer_at S (times 0 counts)) (order counts (S ++ replicate (times 0 counts) 0) permuted has)

  whole_is : sum counts ≡ n → sum S ≡ n
  whole_is all = omega (arith, all, sum_by-IsPermutation (λ x. x) counts (S ++ replicate (times 0 counts) 0) permuted, sum_by-append (λ x. x) S (replicate (times 0 counts) 0), no_sum (times 0 counts))

  -- the team of a process is not all
  team_listed : (p : ℕ) → p < n → 1 ≤ times (team_size team n (team p)) S
  team_listed p l =
      let g = team p in
      let u = small_team p l in
      let s = team_size team n g in
      let one_there : 1 ≤ times s counts = subst (λ x. 1 ≤ times x counts) (count_at g u) (times_of_place counts g (omega (arith, long, u))) in
      let some : 1 ≤ s = size_some team n g p l refl in
      omega (arith, one_there, same_factor s (times s S) (times s counts) some (twice s))

  pub division_is : sum counts ≡ n → IsDivision n S
  division_is all = record {
    whole = whole_is all;
    several = go S (whole_is all) (team_listed is.parted.0 is.parted.2);
    inhabited = none_zero S is.sizes.some;
  }
    where
      go : (xs : List ℕ) → sum xs ≡ n → 1 ≤ times (team_size team n (team is.parted.0)) xs → 2 ≤ length xs
      go [] e h = absurd (omega (arith, h, times_none (team_size team n (team is.parted.0))))
      go (m ∷ (x ∷ xs)) e h = omega arith
      go (m ∷ []) e h =
          let s = team_size team n (team is.parted.0) in
          let only : m ≡ s = one_some s m (omega (arith, h, times_cons s m [], times_none s)) in
          absurd (omega (arith, only, e, sum_cons m [], size_less team n (team is.parted.0) is.parted.1 is.parted.3 (λ f. is.parted.4 (sym f))))

  -- by the laws
  pub division_found : ((f : ℕ → ℕ) (m j : ℕ) → ((p : ℕ) → p < m → f p < j) → sum (team_sizes f m j) ≡ m) → IsDivision n S
  division_found all = division_is (all team n k small_team)

  pub witness_found : IsSightOf t sight
      → ((M : Meeting) (m : ℕ) (f : ℕ → ℕ) → divisions.IsFinestOf t M m f → IsTeamWitness t M (divisions.first m) f)
      → ((M : Meeting) (m j : ℕ) (f : ℕ → ℕ) → M.start < length t.states → ((p : ℕ) → p < m → M.operation p < length t.operations) → ((p : ℕ) → p < m → M.sight p ≡ sight) → IsSightOf t sight
      → IsTeamWitness t M (λ p. nat_lt p m) f → HasSizes t sight (team_sizes f m j))
      → ((xs ys : List ℕ) → IsPermutation xs ys → HasSizes t sight xs → HasSizes t sight ys)
      → ((xs fewer : List ℕ) → ((g : ℕ) → slice_index_or fewer g 0 ≤ slice_index_or xs g 0) → HasSizes t sight xs → HasSizes t sight fewer)
      → HasSizes t sight S
  witness_found known witness counted order smaller =
      sizes_of_witness (counted (meeting_in sight d) n k team is.meeting.start is.meeting.operations is.meeting.looks known (witness (meeting_in sight d) n team is.finest)) order smaller
