-- A witness without one process of each team is a recording witness.
use Rattle.std.proofs.Common.{◌≡◌, ◌≢◌, ℕ, zero, suc, ◌+◌, ◌-◌, ◌<◌, ◌≤◌, ◌↔◌, List, [], ◌∷◌, ◌++◌, length, length-append, map, refl, sym, ap, ◌∙◌, subst, arith, Some, replicate, All}
use Rattle.std.specs.Prelude.{slice_get}
use Rattle.std.specs.List.{remove}
use Rattle.std.proofs.lemmas.List.Elements.{All-from_recursion, recursion_from_All}
use Rattle.cn_table.specs.Run.{state_after}
use Rattle.cn_table.specs.TypeTable.{TypeTable}
use Rattle.cn_choice.specs.declared.team.Team.{Team}
use Rattle.cn_choice.specs.declared.team.Team.TheVariants.{A, B}
use Rattle.cn_choice.specs.Canonical.{Choice, IsCanonicalForm, IsChoiceFor, raw_choice_of}
use Rattle.cn_choice.specs.Discerning.{IsDiscerning, IsWitness}
use Rattle.cn_choice.specs.Moves.{answer_of, next_of}
use Rattle.cn_choice.specs.Orders.{IsOrder}
use Rattle.cn_choice.specs.OutcomeSets.{BeginsIn, InOutcomeSet, operations_of}
use Rattle.cn_choice.specs.RawChoices.{IsRawChoice, RawChoice}
use Rattle.cn_choice.specs.Renumbering.{Embeds}
use Rattle.cn_choice.proofs.OrderLemmas.ShortOrders.{alone_gets}
use Rattle.cn_choice.proofs.ChoiceLemmas.Embeddings.{begins_embeds, operations_embed, order_embeds}
use Rattle.cn_choice.proofs.OrderLemmas.LastMoves.{known_last, last_self, order_from, pair_whole}
use Rattle.cn_choice.proofs.ListLemmas.Members.{IsIn, IsIn-map_from, each_at}
use Rattle.cn_choice.proofs.NumberLemmas.FewerProcesses.{skip, skip_apart, without, without_embeds}
use Rattle.cn_outcomes.specs.LeftStates.{LeavesIn}
use Rattle.cn_outcomes.proofs.LastProcess.{begins_more, known_from, state_along}
use Rattle.cn_recover.specs.Recording.{HasTwo, IsRecording, IsRecordingWitness, Misses}
use Rattle.cn_recover.proofs.Recordings.{recording_below}
use Rattle.cn_recover.proofs.TeamSizes.{two_in_a}

-- an order that leaves a state, without process m
abbrev Without : TypeTable → RawChoice → Team → ℕ → ℕ → Type 0
Without t c team q m = (order : List ℕ) × IsOrder (length c.operations) order × BeginsIn c team order × (state_after t c.state (operations_of c order) ≡ q) × (IsIn m order → ⊥)

-- m moves behind it, and gets what it gets in that state
one_more : (t : TypeTable) (c : RawChoice) (team : Team) (q m : ℕ) → m < length c.operations → Without t c team q m → InOutcomeSet t c team m (answer_of t c m q, next_of t c m q)
one_more t c team q m l o = go o.0 o.1 o.2 o.3 o.4
  where
    go : (order : List ℕ) → IsOrder (length c.operations) order → BeginsIn c team order → state_after t c.state (operations_of c order) ≡ q → (IsIn m order → ⊥)
        → InOutcomeSet t c team m (answer_of t c m q, next_of t c m q)
    go [] is b e n = absurd (is.someone refl)
    go (x ∷ xs) is b e n = (
      x ∷ (xs ++ m ∷ []),
      order_from (length c.operations) x (xs ++ m ∷ [])
          (known_last (length c.operations) (x ∷ xs) m (known_from (length c.operations) (x ∷ xs) is) (λ y i g. n (subst (λ (k : ℕ). IsIn k (x ∷ xs)) g i)) l),
      begins_more c team (x ∷ xs) m b,
      pair_whole t c m (x ∷ (xs ++ m ∷ [])) (answer_of t c m q) (next_of t c m q)
          (last_self t c m (x ∷ xs) n ∙ ap Some (ap (answer_of t c m) e))
          (state_along t c (x ∷ xs) m ∙ ap (next_of t c m) e),
    )

module _ (t : TypeTable) (f : ℕ → ℕ) (d c : RawChoice) (e : Embeds f d c) (w : IsWitness t c) where
  embedded : (team other : Team) (q : ℕ) (m : Misses f d c other) → LeavesIn t d team q → Without t c team q m.process
  embedded team other q m o =
      let known = recursion_from_All (λ p. p < length d.operations) o.0 o.1.known in (
        map f o.0,
        order_embeds f d c e o.0 o.1,
        begins_embeds f d c e team o.0 known o.2,
        ap (state_after t c.state) (sym (operations_embed f d c e o.0 known)) ∙ (ap (λ (s : ℕ). state_after t s (operations_of d o.0)) (sym e.same_state) ∙ o.3),
        λ i. (let r = IsIn-map_from f m.process o.0 i in m.apart r.0 (each_at (λ p. p < length d.operations) o.0 r.0 known r.2) r.1),
      )

  missing_apart : (other : Team) → Misses f d c other → (q : ℕ) → LeavesIn t d A q → LeavesIn t d B q → ⊥
  missing_apart other m q a b =
      w m.process (answer_of t c m.process q, next_of t c m.process q) (one_more t c A q m.process m.inside (embedded A other q m a)) (one_more t c B q m.process m.inside (embedded B other q m b))

  no_way_back_from_a : Misses f d c B → LeavesIn t d A d.state → ⊥
  no_way_back_from_a m a =
      w m.process (answer_of t c m.process c.state, next_of t c m.process c.state)
      (one_more t c A c.state m.process m.inside (embedded A B c.state m (subst (LeavesIn t d A) e.same_state a)))
      (alone_gets t c B m.process m.inside m.team_is)

  no_way_back_from_b : Misses f d c A → LeavesIn t d B d.state → ⊥
  no_way_back_from_b m b =
      w m.process (answer_of t c m.process c.state, next_of t c m.process c.state)
      (alone_gets t c A m.process m.inside m.team_is)
      (one_more t c B c.state m.process m.inside (embedded B A c.state m (subst (LeavesIn t d B) e.same_state b)))

  -- without one process of each team
  pub gap : Misses f d c A → Misses f d c B → IsRecordingWitness t d
  gap a b = record { apart = missing_apart A a; no_way_back_a = λ h o. no_way_back_from_a b o; no_way_back_b = λ h o. no_way_back_from_b a o }

  -- without one of team B, where A is one process alone
  pub gap_of_one : (HasTwo d A → ⊥) → Misses f d c B → IsRecordingWitness t d
  gap_of_one one b = record { apart = missing_apart B b; no_way_back_a = λ h o. no_way_back_from_a b o; no_way_back_b = λ h o. absurd (one h) }

-- ---- one process of each team left out

Embeds-through : (f g : ℕ → ℕ) (d c b : RawChoice) → Embeds f d c → Embeds g c b → Embeds (λ i. g (f i)) d b
Embeds-through f g d c b e h = record {
  same_state = e.same_state ∙ h.same_state;
  inside = λ i l. h.inside (f i) (e.inside i l);
  apart = λ i j l u s. e.apart i j l u (h.apart (f i) (f j) (e.inside i l) (e.inside j u) s);
  operation = λ i l. e.operation i l ∙ h.operation (f i) (e.inside i l);
  team = λ i l. e.team i l ∙ h.team (f i) (e.inside i l);
}

skip_passes : (m i : ℕ) → skip m i ≢ m
skip_passes zero i e = absurd (omega (arith, e))
skip_passes (suc m) zero e = absurd (omega (arith, e))
skip_passes (suc m) (suc i) e = skip_passes m i (omega (arith, e))

remove_behind : {X : Type 0} (xs ys : List X) (y : X) → remove (xs ++ y ∷ ys) (length xs) ≡ xs ++ ys
remove_behind [] ys y = refl
remove_behind (x ∷ xs) ys y = ap (λ l. x ∷ l) (remove_behind xs ys y)

remove_mark : (m k : ℕ) → remove (replicate m A ++ replicate (suc k) B) m ≡ replicate m A ++ replicate k B
remove_mark zero k = refl
remove_mark (suc m) k = ap (λ l. A ∷ l) (remove_mark m k)

mark_behind : (m k : ℕ) → slice_get (replicate m A ++ replicate (suc k) B) m ≡ Some B
mark_behind zero k = refl
mark_behind (suc m) k = mark_behind m k

marks_long : (m k : ℕ) → length (replicate m A ++ replicate k B) ≡ m + k
marks_long zero zero = refl
marks_long zero (suc k) = omega (arith, marks_long zero k)
marks_long (suc m) k = omega (arith, marks_long m k)

-- without the first of team A
a_left_out : (state : ℕ) (a b : List ℕ) (x : ℕ) → Embeds (skip 0) (raw_choice_of (record { state = state; a = a; b = b })) (raw_choice_of (record { state = state; a = x ∷ a; b = b }))
a_left_out state a b x =
    let all : RawChoice = raw_choice_of (record { state = state; a = x ∷ a; b = b }) in
    let long : length all.operations ≡ suc (length a) + length b = length-append (x ∷ a) b in
    without_embeds all 0 (omega (arith, long)) (omega (arith, long, marks_long (suc (length a)) (length b)))

-- without the first of team B
b_left_out : (state : ℕ) (a b : List ℕ) (y : ℕ) → Embeds (skip (length a)) (raw_choice_of (record { state = state; a = a; b = b })) (raw_choice_of (record { state = state; a = a; b = y ∷ b }))
b_left_out state a b y =
    let all : RawChoice = raw_choice_of (record { state = state; a = a; b = y ∷ b }) in
    let long : length all.operations ≡ length a + suc (length b) = length-append a (y ∷ b) in
    let less : without all (length a) ≡ raw_choice_of (record { state = state; a = a; b = b }) =
    ap (λ (os : List ℕ). record { state = state; operations = os; marks = remove all.marks (length a) }) (remove_behind a b y)
    ∙ ap (λ (ms : List Team). record { state = state; operations = a ++ b; marks = ms }) (remove_mark (length a) (length b)) in
    subst (λ (d : RawChoice). Embeds (skip (length a)) d all) less (without_embeds all (length a) (omega (arith, long)) (omega (arith, long, marks_long (length a) (suc (length b)))))

-- a witness of two or more in each team gives a recording witness of two less
two_less : (t : TypeTable) (state : ℕ) (a b : List ℕ) (x y : ℕ) → IsWitness t (raw_choice_of (record { state = state; a = x ∷ a; b = y ∷ b }))
    → IsRecordingWitness t (raw_choice_of (record { state = state; a = a; b = b }))
two_less t state a b x y w =
    let whole : RawChoice = raw_choice_of (record { state = state; a = x ∷ a; b = y ∷ b }) in
    let middle : RawChoice = raw_choice_of (record { state = state; a = a; b = y ∷ b }) in
    let rest : RawChoice = raw_choice_of (record { state = state; a = a; b = b }) in
    let long = length-append (x ∷ a) (y ∷ b) in
    let f : ℕ → ℕ = λ i. skip 0 (skip (length a) i) in
    let missing_a : Misses f rest whole A = record { process = 0; inside = omega (arith, long); team_is = refl; apart = λ i l. skip_passes 0 (skip (length a) i) } in
    let missing_b : Misses f rest whole B = record {
      process = suc (length a);
      inside = omega (arith, long);
      team_is = mark_behind (length a) (length b);
      apart = λ i l e. skip_passes (length a) i (skip_apart 0 (skip (length a) i) (length a) e);
    } in
    gap t f rest whole (Embeds-through (skip (length a)) (skip 0) rest middle whole (b_left_out state a b y) (a_left_out state a (y ∷ b) x)) w missing_a missing_b

-- a witness with one process alone in A gives one of one less
one_less_of_b : (t : TypeTable) (state : ℕ) (b : List ℕ) (x y : ℕ) → IsWitness t (raw_choice_of (record { state = state; a = x ∷ []; b = y ∷ b }))
    → IsRecordingWitness t (raw_choice_of (record { state = state; a = x ∷ []; b = b }))
one_less_of_b t state b x y w =
    let d : Choice = record { state = state; a = x ∷ []; b = b } in
    let whole : RawChoice = raw_choice_of (record { state = state; a = x ∷ []; b = y ∷ b }) in
    gap_of_one t (skip 1) (raw_choice_of d) whole (b_left_out state (x ∷ []) b y) w (λ h. (let two = (two_in_a d).0 h in absurd (omega (arith, two))))
    (record { process = 1; inside = omega arith; team_is = refl; apart = λ i l. skip_passes 1 i })

-- what holds of a list holds of the rest
All-rest : {X : Type 0} (P : X → Type 0) (x : X) (xs : List X) → All P (x ∷ xs) → All P xs
All-rest P x xs h = All-from_recursion P xs (recursion_from_All P (x ∷ xs) h).1

module _ (coverage : (t : TypeTable) (n : ℕ) (c : RawChoice) → IsRawChoice t n c → (d : Choice) × IsCanonicalForm t n d c)
    (by_teams : (t : TypeTable) (n : ℕ) (c : Choice) → IsRawChoice t n (raw_choice_of c) ↔ IsChoiceFor t n c) where
  recording_by_teams : (t : TypeTable) (n : ℕ) (state : ℕ) (a b : List ℕ) → 4 ≤ n → length a ≤ length b → IsChoiceFor t n (record { state = state; a = a; b = b })
      → IsWitness t (raw_choice_of (record { state = state; a = a; b = b }))
      → IsRecording t (n - 2)
  recording_by_teams t n state [] b big less is w = absurd (omega (arith, is.someone_in_a))
  recording_by_teams t n state (x ∷ a) [] big less is w = absurd (omega (arith, is.someone_in_b))
  recording_by_teams t n state (x ∷ []) (y ∷ b) big less is w =
      let d : Choice = record { state = state; a = x ∷ []; b = b } in
      let fits : IsChoiceFor t (n - 1) d = record {
        known_state = is.known_state;
        a_known = is.a_known;
        b_known = All-rest (λ o. o < length t.operations) y b is.b_known;
        someone_in_a = is.someone_in_a;
        someone_in_b = omega (arith, is.all, big);
        all = omega (arith, is.all, big);
      } in
      let next : n - 1 - 1 ≡ n - 2 = omega (arith, big) in
      subst (IsRecording t) next (recording_below t (n - 1) (omega (arith, big)) (raw_choice_of d, (by_teams t (n - 1) d).1 fits, one_less_of_b t state b x y w))
  recording_by_teams t n state (x ∷ z ∷ a) (y ∷ b) big less is w =
      let d : Choice = record { state = state; a = z ∷ a; b = b } in
      let fits : IsChoiceFor t (n - 2) d = record {
        known_state = is.known_state;
        a_known = All-rest (λ o. o < length t.operations) x (z ∷ a) is.a_known;
        b_known = All-rest (λ o. o < length t.operations) y b is.b_known;
        someone_in_a = omega arith;
        someone_in_b = omega (arith, less);
        all = omega (arith, is.all, big);
      } in
      (raw_choice_of d, (by_teams t (n - 2) d).1 fits, two_less t state (z ∷ a) b x y w)

  pub recording_of_witness : (t : TypeTable) (n : ℕ) → 4 ≤ n → IsDiscerning t n → IsRecording t (n - 2)
  recording_of_witness t n big w =
      let r = coverage t n w.0 w.1 in
      recording_by_teams t n r.0.state r.0.a r.0.b big r.1.canonical.a_not_longer ((by_teams t n r.0).0 r.1.for_n) (r.1.same_witness.0 w.2)
