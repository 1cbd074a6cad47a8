-- Examples of sizes: those of divisions, and what merges make of them.
use Rattle.std.proofs.Common.{ℕ, zero, suc, ◌≡◌, ◌≢◌, ◌+◌, ◌<◌, ◌≤◌, inl, inr, cond, List, [], refl, sym, ap, ◌∙◌, subst, arith, nat_eq}
use Rattle.std.specs.Prelude.{slice_index}
use Rattle.std.proofs.Math.ListN.{get_or-eq_default}
use Rattle.std.proofs.Math.Path.{fun_ext}
use Rattle.std.proofs.lemmas.Bool.{cases_lt}
use Rattle.std.proofs.lemmas.Bool.Decides.{nat_tests}
use Rattle.std.proofs.lemmas.List.FromFn.{fill_by_all}
use Rattle.cn_divisions.specs.declared.divisions.Division.{Division}
use Rattle.cn_divisions.specs.Divisions.{first, meeting_in, meeting_of, team_in, teams_of}
use Rattle.cn_divisions.specs.Divisions as divisions
use Rattle.cn_divisions.specs.Sizes.{AreSizes}
use Rattle.cn_divisions.proofs.SameSizes.{renamed_sizes}
use Rattle.cn_meetings.specs.Division.AreConnected.{ByWayOf, Itself}
use Rattle.cn_meetings.specs.Meeting.{Meeting, Sight}
use Rattle.cn_meetings.specs.Witness.{Has, IsTeamWitness}
use Rattle.cn_meetings.proofs.Witnesses.{fewer_teams, joined_decide}
use Rattle.cn_stocks.proofs.Times.{one, one_at, one_else, same_or, times_cons, times_none}
use Rattle.cn_table.specs.TypeTable.{TypeTable}
use Rattle.cn_tree_costs.specs.Cost.{total}
use Rattle.cn_tree_costs.specs.Sizes.{team_size}
use Rattle.cn_shortest.specs.Examples.{IsExample, IsFirstAlike, moved}
use Rattle.cn_shortest.specs.Sizes.{AreCounts, AreMerged, HasBoth}
use Rattle.cn_shortest.specs.declared.examples.Example.{Example}
use Rattle.cn_shortest.proofs.Coarser.{number_found}
use Rattle.cn_shortest.proofs.Moves.{balance, moved_not, moved_there}
use Rattle.cn_shortest.proofs.Permuted.{both_cons}
use Rattle.cn_shortest.proofs.TeamCounts.{number, size_same}
use Rattle.cn_tree_costs.proofs.Numbers.{total_same}

-- ---- teams of some size
no_total : (P : ℕ → ℕ) (k : ℕ) → ((g : ℕ) → g < k → P g ≡ 0) → total P k ≡ 0
no_total P zero none = refl
no_total P (suc k) none = omega (arith, no_total P k (λ g l. none g (omega (arith, l))), none k (omega arith))

one_total : (P : ℕ → ℕ) (u k : ℕ) → ((g : ℕ) → g < k → g ≢ u → P g ≡ 0) → total P k ≤ P u
one_total P u zero none = omega arith
one_total P u (suc k) none = elim (same_or k u) [
  | inl e ↦ omega (arith, no_total P k (λ g l. none g (omega (arith, l)) (λ f. omega (arith, f, l, e))), ap P e)
  | inr n ↦ omega (arith, one_total P u k (λ g l. none g (omega (arith, l))), none k (omega arith) n)
]

module _ (n : ℕ) (f : ℕ → ℕ) (counts : List ℕ) (a b : ℕ) (are : (x : ℕ) → 1 ≤ x → x ≤ 8 → slice_index counts x ≡ number n 8 f x) (la : 1 ≤ a) (ma : a ≤ 8) (lb : 1 ≤ b) (mb : b ≤ 8) (both : HasBoth counts a b) where
  pub some_first : ((g : ℕ) → g < 8 → team_size f n g ≢ a) → ⊥
  some_first none =
      absurd (omega (arith, no_total (λ g. one a (team_size f n g)) 8 (λ g l. one_else a (team_size f n g) (none g l)), are a la ma, both a ma, both_cons a a b, one_at a))

  pub some_second : (u : ℕ) → team_size f n u ≡ a → ((g : ℕ) → g < 8 → g ≢ u → team_size f n g ≢ b) → ⊥
  some_second u e none =
      absurd (omega (arith, one_total (λ g. one b (team_size f n g)) u 8 (λ g l ne. one_else b (team_size f n g) (none g l ne)), are b lb mb, both b mb, both_cons b a b, one_at b, ap (one b) e))

-- ---- other numbers for the teams
pub same_witness : (t : TypeTable) (M : Meeting) (n : ℕ) (f h : ℕ → ℕ) → ((p q : ℕ) → p < n → q < n → f p ≡ f q → h p ≡ h q) → IsTeamWitness t M (first n) f → IsTeamWitness t M (first n) h
same_witness t M n f h same w = (joined_decide t M (first n) h).1 (λ p q j.
    same p q (inside p (j.shown_p.is_order.members 0 p refl)) (inside q (j.shown_q.is_order.members 0 q refl)) ((joined_decide t M (first n) f).0 w p q j))
  where
    inside : (p : ℕ) → Has (first n) p → p < n
    inside p h = grind (arith, nat_tests)

-- ---- a merge
module _ (t : TypeTable) (sight : Sight) (n : ℕ) (counts new : List ℕ) (e : Example) (u v a b : ℕ) (teams : List ℕ) (few : n ≤ 8) (is : IsExample t sight n counts e) (lv : v < 8) (lu : u < 8) (ne : u ≢ v)
    (la : 1 ≤ a) (lb : 1 ≤ b) (size_u : team_size (λ p. slice_index e.teams p) n u ≡ a) (size_v : team_size (λ p. slice_index e.teams p) n v ≡ b) (are : AreMerged counts a b new)
    (at : (p : ℕ) → p < 8 → slice_index teams p ≡ moved (λ q. slice_index e.teams q) u v p) where
  abbrev f : ℕ → ℕ
  f p = slice_index e.teams p

  abbrev h : ℕ → ℕ
  h p = slice_index teams p

  abbrev result : Example
  result = record { start = e.start; operations = e.operations; teams = teams }

  here : (p : ℕ) → p < n → h p ≡ moved f u v p
  here p l = at p (omega (arith, l, few))

  small : (p : ℕ) → p < n → h p < 8
  small p l = elim (same_or (f p) u) [
    | inl s ↦ omega (arith, here p l, moved_there f u v p s, lv)
    | inr m ↦ omega (arith, here p l, moved_not f u v p m, is.small p l)
  ]

  counted : (x : ℕ) → 1 ≤ x → x ≤ 8 → slice_index new x ≡ number n 8 h x
  counted x l m =
      let s : number n 8 h x ≡ number n 8 (moved f u v) x = total_same (λ g. one x (team_size h n g)) (λ g. one x (team_size (moved f u v) n g)) 8 (λ g k. ap (one x) (size_same h (moved f u v) n g here)) in
      let sum_is : team_size f n u + team_size f n v ≡ a + b = omega (arith, size_u, size_v) in
      omega (arith, s, balance f u v ne n 8 lu lv x, ap (one x) size_u, ap (one x) size_v, ap (one x) sum_is, one_else x 0 (λ z. omega (arith, z, l)), are.each x m, both_cons x a b, times_cons x (a + b) [], times_none x, is.counted x l m)

  pub example_merged : IsExample t sight n new result
  example_merged = record {
    start = is.start;
    operations = is.operations;
    small = small;
    witness = same_witness t (meeting_of e.start.0 e.operations sight) n (λ p. cond (nat_eq (f p) u) v (f p)) h (λ p q lp lq s. here p lp ∙ (s ∙ sym (here q lq)))
        (fewer_teams t (meeting_of e.start.0 e.operations sight) (first n) f (λ x. cond (nat_eq x u) v x) is.witness);
    counted = counted;
  }

-- ---- a division
module _ (t : TypeTable) (sight : Sight) (n : ℕ) (counts : List ℕ) (d : Division) (operations teams : List ℕ) (few : n ≤ 8) (is : divisions.IsDivision t sight n d) (are : AreCounts d.sizes.items counts)
    (same : (p : ℕ) → p < n → slice_index operations p ≡ slice_index d.operations.items p) (none : (p : ℕ) → n ≤ p → slice_index operations p ≡ 0)
    (alike : (p : ℕ) → p < n → IsFirstAlike d.teams.items p (slice_index teams p)) where
  abbrev old : ℕ → ℕ
  old p = slice_index d.teams.items p

  abbrev team : ℕ → ℕ
  team p = slice_index teams p

  to_old : (p q : ℕ) → p < n → q < n → team p ≡ team q → old p ≡ old q
  to_old p q lp lq s = sym (alike p lp).alike ∙ (ap old s ∙ (alike q lq).alike)

  from_old : (p q : ℕ) → p < n → q < n → old p ≡ old q → team p ≡ team q
  from_old p q lp lq s = elim (cases_lt (team p) (team q)) [
    | inl l ↦ absurd ((alike q lq).first (team p) l ((alike p lp).alike ∙ s))
    | inr l ↦ elim (cases_lt (team q) (team p)) [
      | inl m ↦ absurd ((alike p lp).first (team q) m ((alike q lq).alike ∙ sym s))
      | inr m ↦ omega (arith, l, m)
    ]
  ]

  below : (p : ℕ) → p < n → team p < 8
  below p l = (let b = (alike p l).before in omega (arith, b, l, few))

  division_sizes : AreSizes (teams_of team n) d.sizes.items
  division_sizes =
      renamed_sizes n old team (λ p q lp lq. (from_old p q lp lq, to_old p q lp lq)) d.sizes.items
      (subst (λ l. AreSizes l d.sizes.items) (fill_by_all old d.teams.items n 0 is.members (λ k l. refl)) is.sizes)

  kept : (p : ℕ) → slice_index operations p ≡ slice_index d.operations.items p
  kept p = elim (cases_lt p n) [
    | inl l ↦ same p l
    | inr l ↦ none p (omega (arith, l)) ∙ sym (get_or-eq_default d.operations.items 0 (let long = is.processes in omega (arith, l, long)))
  ]

  meeting_same : meeting_in sight d ≡ meeting_of d.start.0 operations sight
  meeting_same = ap (λ (o : ℕ → ℕ). record { start = d.start.0; operation = o; sight = λ p. sight }) (fun_ext (λ p. sym (kept p)))

  witness : IsTeamWitness t (meeting_in sight d) (first n) team
  witness = (joined_decide t (meeting_in sight d) (first n) team).1 (λ p q j.
      from_old p q (inside p (j.shown_p.is_order.members 0 p refl)) (inside q (j.shown_q.is_order.members 0 q refl))
      ((is.finest p q (inside p (j.shown_p.is_order.members 0 p refl)) (inside q (j.shown_q.is_order.members 0 q refl))).1 (ByWayOf p q q j (Itself q))))
    where
      inside : (p : ℕ) → Has (first n) p → p < n
      inside p h = grind (arith, nat_tests)

  counted_here : (x : ℕ) → 1 ≤ x → x ≤ 8 → slice_index counts x ≡ number n 8 team x
  counted_here zero l m = absurd (omega (arith, l))
  counted_here (suc x) l m = are.each (suc x) m ∙ number_found n team d.sizes.items 8 below division_sizes x

  pub example_found : IsExample t sight n counts (record { start = d.start; operations = operations; teams = teams })
  example_found = record {
    start = is.meeting.start;
    operations = λ p l. (let k = is.meeting.operations p l in omega (arith, k, same p l));
    small = below;
    witness = subst (λ (M : Meeting). IsTeamWitness t M (first n) team) meeting_same witness;
    counted = counted_here;
  }
