-- What is found of one stock and one start state.
use Rattle.std.proofs.Common.{ℕ, ◌≡◌, ◌≢◌, ◌+◌, ◌*◌, ◌<◌, ◌≤◌, inl, inr, Bool, true, false, List, [], ◌∷◌, length, get_or, refl, sym, ap, ◌∙◌, subst, arith, nat_eq}
use Rattle.std.specs.List.{count_by, range_with_len}
use Rattle.std.specs.Prelude.{slice_index}
use Rattle.std.proofs.lemmas.Bool.{eqb-true, eq-eqb}
use Rattle.std.proofs.lemmas.List.{length-map}
use Rattle.std.proofs.lemmas.List.FromFn.{length-range_with_len}
use Rattle.std.proofs.lemmas.List.Sums.{count_by-le-length}
use Rattle.cn_table.specs.TypeTable.{TypeTable}
use Rattle.cn_choice.proofs.ListLemmas.Members.{IsIn, IsIn-map, place_of}
use Rattle.cn_choice.proofs.ListLemmas.Permutations.{range_in}
use Rattle.cn_meetings.specs.Meeting.{Meeting, Sight}
use Rattle.cn_meetings.specs.Meeting.Sight.{State}
use Rattle.cn_stocks.specs.Words.{HaveSame, IsKnown, times}
use Rattle.cn_stocks.proofs.Times.{place_in, one, one_else, one_of, same_or, times_cons, times_none, times_of_place}
use Rattle.cn_divisions.specs.Divisions.{AreParted, IsFinestOf, IsMeetingOf, meeting_of, operations_of, teams_of}
use Rattle.cn_divisions.specs.Joins.{AreConnected, IsSplit}
use Rattle.cn_divisions.specs.Sizes.{AreSizes}
use Rattle.cn_divisions.proofs.Counting.{as_one, count_cons, in_times}
use Rattle.cn_divisions.proofs.Links.{connected_by_operations, connected_down, twins_of_three}
use Rattle.cn_divisions.proofs.ProcessTeams.{own_operations, same_own}
use Rattle.cn_divisions.proofs.SameSizes.{in_stock, same_sizes}

count_all : (P : ℕ → Bool) (xs : List ℕ) → ((x : ℕ) → IsIn x xs → P x ≡ true) → count_by P xs ≡ length xs
count_all P [] sure = refl
count_all P (x ∷ xs) sure = omega (arith, count_cons P x xs, ap as_one (sure x (inl refl)), count_all P xs (λ y i. sure y (inr i)))

all_counted : (P : ℕ → Bool) (xs : List ℕ) → count_by P xs ≡ length xs → (x : ℕ) → IsIn x xs → P x ≡ true
all_counted P [] e x i = absurd i
all_counted P (y ∷ xs) e x i = go (P y) refl i (all_counted P xs)
  where
    go : (b : Bool) → P y ≡ b → IsIn x (y ∷ xs) → (count_by P xs ≡ length xs → (x : ℕ) → IsIn x xs → P x ≡ true) → P x ≡ true
    go false h j rest = absurd (omega (arith, e, count_cons P y xs, ap as_one h, count_by-le-length P xs))
    go true h (inl same) rest = ap P (sym same) ∙ h
    go true h (inr j) rest = rest (omega (arith, e, count_cons P y xs, ap as_one h)) x j

two_times : (a b : ℕ) (xs : List ℕ) → a ≢ b → times a xs + times b xs ≤ length xs
two_times a b [] ne = omega (arith, times_none a, times_none b)
two_times a b (x ∷ xs) ne = omega (arith, times_cons a x xs, times_cons b x xs, two_times a b xs ne, here)
  where
    here : one a x + one b x ≤ 1
    here = elim (same_or x a) [
      | inl e ↦ omega (arith, one_of a x e, one_else b x (λ u. ne (sym e ∙ u)))
      | inr m ↦ elim (same_or x b) [ inl u ↦ omega (arith, one_else a x m, one_of b x u) | inr v ↦ omega (arith, one_else a x m, one_else b x v) ]
    ]

abbrev pub AreSame : List ℕ → Type 0
AreSame xs = (a b : ℕ) → IsIn a xs → IsIn b xs → a ≡ b

-- lists with the same sizes: all in one team, or not
pub all_same : (xs ys sizes : List ℕ) → AreSizes xs sizes → AreSizes ys sizes → length xs ≡ length ys → AreSame xs → AreSame ys
all_same xs ys sizes own other long same a b i j = elim (same_or a b) [
  | inl e ↦ e
  | inr ne ↦ absurd (omega (arith, two_times a b ys ne, in_times b ys j, whole a i))
]
  where
    alone : (a : ℕ) (zs : List ℕ) → ((x : ℕ) → IsIn x zs → x ≡ a) → times a zs ≡ length zs
    alone a zs all = count_all (λ x. nat_eq x a) zs (λ x i. eq-eqb x a (all x i))

    counted : count_by (λ g. nat_eq (times g ys) (length ys)) ys ≡ length ys
    counted =
        sym (other.counted (length ys)) ∙ (ap (λ (k : ℕ). k * times k sizes) (sym long) ∙ (own.counted (length xs)
        ∙ (count_all (λ g. nat_eq (times g xs) (length xs)) xs (λ x i. eq-eqb (times x xs) (length xs) (alone x xs (λ y j. same y x j i))) ∙ long)))

    whole : (a : ℕ) → IsIn a ys → times a ys ≡ length ys
    whole a i = eqb-true (times a ys) (length ys) (all_counted (λ g. nat_eq (times g ys) (length ys)) ys counted a i)

pub length_teams : (team : ℕ → ℕ) (n : ℕ) → length (teams_of team n) ≡ n
length_teams team n = length-map (range_with_len 0 n) team ∙ length-range_with_len 0 n

in_teams : (team : ℕ → ℕ) (n p : ℕ) → p < n → IsIn (team p) (teams_of team n)
in_teams team n p l = IsIn-map team p (range_with_len 0 n) (range_in 0 n p (omega arith) (omega (arith, l)))

-- the list has the teams of all its places
pub own_teams : (teams : List ℕ) (n : ℕ) → length teams ≡ n → teams_of (λ p. slice_index teams p) n ≡ teams
own_teams teams n long = subst (λ (k : ℕ). teams_of (λ p. slice_index teams p) k ≡ teams) long (own_operations 0 teams State)

unparted : (teams : List ℕ) (n : ℕ) → length teams ≡ n → ¬ AreParted n (λ p. slice_index teams p) → AreSame teams
unparted teams n long not_parted a b i j =
    let x = place_of a teams 0 i in
    let y = place_of b teams 0 j in
    let l : x.0 < n = (let u = x.1 in omega (arith, u, long)) in
    let m : y.0 < n = (let u = y.1 in omega (arith, u, long)) in
    elim (same_or (get_or teams x.0 0) (get_or teams y.0 0)) [
      | inl e ↦ sym x.2 ∙ (e ∙ y.2)
      | inr ne ↦ absurd (not_parted (x.0, y.0, l, m, ne))
    ]

module _ (t : TypeTable) (sight : Sight) (start k : ℕ) (items teams sizes : List ℕ) (known : IsKnown k items) (many : 2 ≤ length items) (long : length teams ≡ length items)
    (finest : IsFinestOf t (meeting_of start items sight) (length items) (λ p. slice_index teams p)) (are : AreSizes teams sizes) where
  -- each meeting with the stock has a finest division of these sizes
  pub sizes_move : (M : Meeting) (team : ℕ → ℕ) → IsMeetingOf t sight (length items) M → M.start ≡ start → HaveSame items (operations_of M (length items)) → IsFinestOf t M (length items) team
      → AreSizes (teams_of team (length items)) sizes
  sizes_move M team is begins same its =
      let own = own_operations start items sight in
      same_sizes t sight (length items) M (meeting_of start items sight) team (λ p. slice_index teams p) sizes many is.looks (λ p l. refl) begins
      (subst (λ (xs : List ℕ). HaveSame xs (operations_of M (length items))) (sym own) same) k (subst (IsKnown k) (sym own) known) its finest
      (subst (λ (xs : List ℕ). AreSizes xs sizes) (sym (own_teams teams (length items) long)) are)

  -- where all are in one team, it has no two teams
  pub none_parted : ¬ AreParted (length items) (λ p. slice_index teams p) → (M : Meeting) (team : ℕ → ℕ) → IsMeetingOf t sight (length items) M → M.start ≡ start
      → HaveSame items (operations_of M (length items)) → IsFinestOf t M (length items) team → ¬ AreParted (length items) team
  none_parted not_parted M team is begins same its parted =
      let moved = sizes_move M team is begins same its in
      let alike = all_same teams (teams_of team (length items)) sizes are moved (long ∙ sym (length_teams team (length items))) (unparted teams (length items) long not_parted) in
      parted.4 (alike (team parted.0) (team parted.1) (in_teams team (length items) parted.0 parted.2) (in_teams team (length items) parted.1 parted.3))

  pub is_meeting : k ≡ length t.operations → start < length t.states → IsMeetingOf t sight (length items) (meeting_of start items sight)
  is_meeting e l = record {
    start = l;
    operations = λ p u. omega (arith, known (get_or items p 0) (times_of_place items p u), e);
    looks = λ p u. refl;
  }

  -- where all are in one team, the operations are connected
  pub none_split : ¬ AreParted (length items) (λ p. slice_index teams p) → ¬ IsSplit t sight start items
  none_split not_parted split =
      let S = meeting_of start items sight in
      let x = place_in split.0 items split.2 in
      let y = place_in split.1 items split.3 in
      elim (same_or (slice_index teams x.0) (slice_index teams y.0)) [
        | inl e ↦ (
            let linked = connected_down t S (length items) sight (λ p l. refl) items (same_own start items sight) x.0 y.0 ((finest x.0 y.0 x.1 y.1).0 e) in
            split.4 (subst (λ (f : ℕ). AreConnected t sight start items f split.1) x.2 (subst (AreConnected t sight start items (get_or items x.0 0)) y.2 linked))
            )
        | inr ne ↦ not_parted (x.0, y.0, x.1, y.1, ne)
      ]

-- a meeting of three processes or more with two teams has a stock that is split
pub parted_split : (t : TypeTable) (sight : Sight) (n : ℕ) (items : List ℕ) (M : Meeting) (team : ℕ → ℕ) → 3 ≤ n → IsMeetingOf t sight n M → HaveSame items (operations_of M n) → IsFinestOf t M n team
    → AreParted n team → IsSplit t sight M.start items
parted_split t sight n items M team many is same finest parted = (
  M.operation parted.0,
  M.operation parted.1,
  in_stock n items M same parted.0 parted.2,
  in_stock n items M same parted.1 parted.3,
  λ c. parted.4 ((finest parted.0 parted.1 parted.2 parted.3).1
      ((connected_by_operations t M n sight is.looks items same (twins_of_three t M n many) parted.0 parted.1 parted.2 parted.3).1 c)),
)
