-- The groups of a choice are of its table.
use Rattle.std.proofs.Common.{◌≡◌, ◌==◌, ℕ, ◌+◌, ◌<◌, ◌≤◌, List, [], ◌∷◌, ◌++◌, length, length-drop, drop, get_or, flat_map, refl, ap, sym, subst, arith, Bool, true, false, cond, All, Contains}
use Rattle.std.specs.Prelude.{slice_index}
use Rattle.std.specs.List.{range_with_len}
use Rattle.std.proofs.lemmas.Bool.{eq-eqb}
use Rattle.std.proofs.lemmas.List.Elements.{All-cons, All-contains, All-nil, All-weaker, Contains-append_left, Contains-append_right, Contains-get_or}
use Rattle.std.proofs.lemmas.List.Sums.{prefix_len-drop_yes, prefix_len-le-length}
use Rattle.cn_table.specs.TypeTable.{TypeTable}
use Rattle.cn_choice.specs.Canonical.{Choice, FitsTable}
use Rattle.cn_choice.specs.declared.team.Team.{Team}
use Rattle.cn_choice.specs.declared.team.Team.TheVariants.{A, B}
use Rattle.cn_reasons.specs.Groups.{begins_group, choice_groups, group_at, group_if, groups, AreWithin}
use Rattle.cn_reasons.specs.Known.{IsKnownChoice, IsKnownGroup}
use Rattle.cn_reasons.specs.declared.group.ChoiceGroups.{ChoiceGroups}
use Rattle.cn_reasons.specs.declared.group.Group.{Group}
use Rattle.cn_reasons.proofs.Pieces.{All-pieces, pieces_push}

All-from_contains : (P : ℕ → Type 0) (xs : List ℕ) → ((x : ℕ) → Contains xs x → P x) → All P xs
All-from_contains P xs each k d less = each (get_or xs k d) (Contains-get_or xs k d less)

All-before : (P : ℕ → Type 0) (xs ys : List ℕ) → All P (xs ++ ys) → All P xs
All-before P xs ys all = All-from_contains P xs (λ x at. All-contains P (xs ++ ys) x all (Contains-append_left xs ys x at))

All-behind : (P : ℕ → Type 0) (xs ys : List ℕ) → All P (xs ++ ys) → All P ys
All-behind P xs ys all = All-from_contains P ys (λ x at. All-contains P (xs ++ ys) x all (Contains-append_right xs ys x at))

module _ (t : TypeTable) (team : Team) (first : ℕ) (operations : List ℕ) (few : first + length operations ≤ 8) (known : All (λ o. o < length t.operations) operations) where
  group_known : (k : ℕ) → k < length operations → IsKnownGroup t (group_at team first operations k)
  group_known k less =
      let own = slice_index operations k in
      let begins = prefix_len-drop_yes (λ o. o == own) operations k 0 less (eq-eqb own own refl) in
      let within = prefix_len-le-length (λ o. o == own) (drop k operations) in record {
        some = omega (arith, begins);
        few = omega (arith, within, length-drop k operations, less, few);
        operation = known k 0 less;
      }

  piece_known : (k : ℕ) → k < length operations → All (IsKnownGroup t) (group_if team first operations k)
  piece_known k less = by_test (begins_group operations k)
    where
      by_test : (b : Bool) → All (IsKnownGroup t) (cond {A = List Group} b (group_at team first operations k ∷ []) [])
      by_test true = All-cons (IsKnownGroup t) (group_at team first operations k) [] (group_known k less) (All-nil (IsKnownGroup t))
      by_test false = All-nil (IsKnownGroup t)

  -- the groups of a team whose operations are of the table
  pub groups_known : All (IsKnownGroup t) (groups team first operations)
  groups_known = All-pieces (group_if team first operations) (IsKnownGroup t) 0 (length operations) (λ k from less. piece_known k (omega (arith, less)))

module _ (team : Team) (first : ℕ) (operations : List ℕ) where
  abbrev IsWithin : Group → Type 0
  IsWithin g = g.first < first + length operations

  piece_within : (k : ℕ) → k < length operations → All IsWithin (group_if team first operations k)
  piece_within k less = by_test (begins_group operations k)
    where
      by_test : (b : Bool) → All IsWithin (cond {A = List Group} b (group_at team first operations k ∷ []) [])
      by_test true = All-cons IsWithin (group_at team first operations k) [] (omega (arith, less)) (All-nil IsWithin)
      by_test false = All-nil IsWithin

  groups_within : All IsWithin (groups team first operations)
  groups_within = All-pieces (group_if team first operations) IsWithin 0 (length operations) (λ k from less. piece_within k (omega (arith, less)))

  -- ---- the groups so far
  pub groups_more : (k : ℕ) (before now piece : List Group) → before ≡ flat_map (group_if team first operations) (range_with_len 0 k) → now ≡ before ++ piece
      → piece ≡ group_if team first operations k → now ≡ flat_map (group_if team first operations) (range_with_len 0 (k + 1))
  groups_more k before now piece so_far is here = rw (pieces_push (group_if team first operations) k, ← so_far, ← here) is

  pub group_here : (k : ℕ) → begins_group operations k ≡ true → group_at team first operations k ∷ [] ≡ group_if team first operations k
  group_here k h = ap (λ b. cond {A = List Group} b (group_at team first operations k ∷ []) []) (sym h)

  pub group_none : (k : ℕ) → begins_group operations k ≡ false → [] ≡ group_if team first operations k
  group_none k h = ap (λ b. cond {A = List Group} b (group_at team first operations k ∷ []) []) (sym h)

-- ---- the groups of a choice of the table

pub choice_known : (t : TypeTable) (c : Choice) (g : ChoiceGroups) → FitsTable t c → g ≡ choice_groups c → IsKnownChoice t g
choice_known t c g fits is =
    let known = fits.fits.operations_known in subst (IsKnownChoice t) (sym is) (record {
      start = fits.fits.state_known;
      a = groups_known t A 0 c.a (omega (arith, fits.few)) (All-before (λ o. o < length t.operations) c.a c.b known);
      b = groups_known t B (length c.a) c.b fits.few (All-behind (λ o. o < length t.operations) c.a c.b known);
    })

pub choice_within : (c : Choice) (g : ChoiceGroups) → g ≡ choice_groups c → AreWithin (length c.a + length c.b) g
choice_within c g is =
    let front : All (λ g. g.first < length c.a) (groups A 0 c.a) =
    All-weaker (λ (g : Group). g.first < 0 + length c.a) (λ (g : Group). g.first < length c.a) (λ g l. omega (arith, l)) (groups A 0 c.a) (groups_within A 0 c.a) in
    subst (AreWithin (length c.a + length c.b)) (sym is) (record {
      a = All-weaker (λ (g : Group). g.first < length c.a) (λ (g : Group). g.first < length c.a + length c.b) (λ g l. omega (arith, l)) (groups A 0 c.a) front;
      b = groups_within B (length c.a) c.b;
    })
