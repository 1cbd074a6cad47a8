-- A type that is n-discerning is (n-1)-discerning: leave one process out of a team of two or more.
use Rattle.std.proofs.Common.{◌≡◌, ◌≢◌, ℕ, zero, suc, ◌-◌, ◌<◌, ◌≤◌, List, [], ◌∷◌, length, get_or, refl, sym, ap, ◌∙◌, arith, All, Contains}
use Rattle.std.specs.Prelude.{slice_get}
use Rattle.std.specs.List.{remove}
use Rattle.std.proofs.lemmas.List.Edits.{length-remove}
use Rattle.std.proofs.lemmas.List.Elements.{All-from_recursion, recursion_from_All}
use Rattle.cn_table.specs.TypeTable.{TypeTable}
use Rattle.cn_choice.specs.Discerning.{IsDiscerning, IsWitness}
use Rattle.cn_choice.specs.RawChoices.{IsRawChoice, RawChoice}
use Rattle.cn_choice.specs.Renumbering.{Embeds}
use Rattle.cn_choice.specs.declared.team.Team.TheVariants.{A, B}
use Rattle.cn_choice.proofs.ChoiceLemmas.Embeddings.{IsWitness-embeds}
use Rattle.cn_choice.proofs.ListLemmas.Members.{IsIn-remove, each_at, each_from}

-- the place in the list of the i-th element that is left without place m
abbrev pub skip : ℕ → ℕ → ℕ
skip zero i = suc i
skip (suc m) zero = zero
skip (suc m) (suc i) = suc (skip m i)

pub skip_apart : (m i j : ℕ) → skip m i ≡ skip m j → i ≡ j
skip_apart zero i j e = omega (arith, e)
skip_apart (suc m) zero zero e = refl
skip_apart (suc m) zero (suc j) e = absurd (omega (arith, e))
skip_apart (suc m) (suc i) zero e = absurd (omega (arith, e))
skip_apart (suc m) (suc i) (suc j) e = ap suc (skip_apart m i j (omega (arith, e)))

-- skip reaches each other place
pub skipped_to : (m k : ℕ) → k ≢ m → (i : ℕ) × (skip m i ≡ k)
skipped_to zero zero n = absurd (n refl)
skipped_to zero (suc k) n = (k, refl)
skipped_to (suc m) zero n = (zero, refl)
skipped_to (suc m) (suc k) n = let r = skipped_to m k (λ e. n (ap suc e)) in (suc r.0, ap suc r.1)

pub skip_inside : {X : Type 0} (xs : List X) (m i : ℕ) → m < length xs → i < length (remove xs m) → skip m i < length xs
skip_inside [] m i l u = absurd (omega arith)
skip_inside (x ∷ xs) zero i l u = omega arith
skip_inside (x ∷ xs) (suc m) zero l u = omega arith
skip_inside (x ∷ xs) (suc m) (suc i) l u = omega (arith, skip_inside xs m i (omega arith) (omega arith))

pub skip_back : {X : Type 0} (xs : List X) (m i : ℕ) → m < length xs → skip m i < length xs → i < length (remove xs m)
skip_back [] m i l u = absurd (omega arith)
skip_back (x ∷ xs) zero i l u = omega arith
skip_back (x ∷ xs) (suc m) zero l u = omega arith
skip_back (x ∷ xs) (suc m) (suc i) l u = omega (arith, skip_back xs m i (omega arith) (omega arith))

pub get_or-skip : {X : Type 0} (xs : List X) (m i : ℕ) (d : X) → m < length xs → get_or (remove xs m) i d ≡ get_or xs (skip m i) d
get_or-skip [] m i d l = absurd (omega arith)
get_or-skip (x ∷ xs) zero i d l = refl
get_or-skip (x ∷ xs) (suc m) zero d l = refl
get_or-skip (x ∷ xs) (suc m) (suc i) d l = get_or-skip xs m i d (omega arith)

pub slice_get-skip : {X : Type 0} (xs : List X) (m i : ℕ) → m < length xs → slice_get (remove xs m) i ≡ slice_get xs (skip m i)
slice_get-skip [] m i l = absurd (omega arith)
slice_get-skip (x ∷ xs) zero i l = refl
slice_get-skip (x ∷ xs) (suc m) zero l = refl
slice_get-skip (x ∷ xs) (suc m) (suc i) l = slice_get-skip xs m i (omega arith)

pub Contains-remove : {X : Type 0} (xs : List X) (m : ℕ) (x : X) → m < length xs → (h : Contains xs x) → h.0 ≢ m → Contains (remove xs m) x
Contains-remove xs m x l h n =
    let s = skipped_to m h.0 n in
    (s.0, skip_back xs m s.0 l (omega (arith, h.1, s.1)), get_or-skip xs m s.0 x l ∙ (ap (λ i. get_or xs i x) s.1 ∙ h.2))

pub All-remove : {X : Type 0} (P : X → Type 0) (xs : List X) (m : ℕ) → All P xs → All P (remove xs m)
All-remove P xs m a = All-from_recursion P (remove xs m) (each_from P (remove xs m) (λ x i. each_at P xs x (recursion_from_All P xs a) (IsIn-remove x xs m i)))

-- of the first three numbers, one that is neither k nor l
third : (k l : ℕ) → (m : ℕ) × (m < 3) × (k ≢ m) × (l ≢ m)
third zero zero = (1, omega arith, omega arith, omega arith)
third zero (suc zero) = (2, omega arith, omega arith, omega arith)
third zero (suc (suc l)) = (1, omega arith, omega arith, omega arith)
third (suc zero) zero = (2, omega arith, omega arith, omega arith)
third (suc zero) (suc l) = (0, omega arith, omega arith, omega arith)
third (suc (suc k)) zero = (1, omega arith, omega arith, omega arith)
third (suc (suc k)) (suc l) = (0, omega arith, omega arith, omega arith)

-- the choice without process m
abbrev pub without : RawChoice → ℕ → RawChoice
without c m = record { state = c.state; operations = remove c.operations m; marks = remove c.marks m }

pub without_embeds : (c : RawChoice) (m : ℕ) → m < length c.operations → length c.marks ≡ length c.operations → Embeds (skip m) (without c m) c
without_embeds c m l e = record {
  same_state = refl;
  inside = λ i u. skip_inside c.operations m i l u;
  apart = λ i j u v g. skip_apart m i j g;
  operation = λ i u. get_or-skip c.operations m i 0 l;
  team = λ i u. slice_get-skip c.marks m i (omega arith);
}

-- if some raw choice for n processes has a property that passes to its parts, some raw choice for one process less has it
pub one_less : (P : RawChoice → Type 0) → ((f : ℕ → ℕ) (d c : RawChoice) → Embeds f d c → P c → P d) → (t : TypeTable) (n : ℕ) → 3 ≤ n → (c : RawChoice) × IsRawChoice t n c × P c
    → (c : RawChoice) × IsRawChoice t (n - 1) c × P c
one_less P of_part t n big w =
    let c : RawChoice = w.0 in
    let is : IsRawChoice t n c = w.1 in
    let pick = third is.someone_in_a.0 is.someone_in_b.0 in
    let m : ℕ = pick.0 in
    let in_operations : m < length c.operations = omega (arith, pick.1, is.one_operation_each) in
    let in_teams : m < length c.marks = omega (arith, pick.1, is.one_team_each) in (
      without c m,
      record {
        state_known = is.state_known;
        operations_known = All-remove (λ o. o < length t.operations) c.operations m is.operations_known;
        one_operation_each = omega (arith, length-remove c.operations m in_operations, is.one_operation_each);
        one_team_each = omega (arith, length-remove c.marks m in_teams, is.one_team_each);
        someone_in_a = Contains-remove c.marks m A in_teams is.someone_in_a pick.2;
        someone_in_b = Contains-remove c.marks m B in_teams is.someone_in_b pick.3;
      },
      of_part (skip m) (without c m) c (without_embeds c m in_operations (is.one_team_each ∙ sym is.one_operation_each)) w.2,
    )

pub discerning_below : (t : TypeTable) (n : ℕ) → 3 ≤ n → IsDiscerning t n → IsDiscerning t (n - 1)
discerning_below t = one_less (IsWitness t) (λ f d c e. IsWitness-embeds f d c e t) t
