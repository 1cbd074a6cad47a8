-- A play of the adversary in the game on two runs: one order in the first run and another in the
-- second. So a choice that is defended is a witness without reads.
use Rattle.std.proofs.Common.{◌≡◌, ◌≢◌, ℕ, zero, suc, ◌<◌, inl, inr, List, [], ◌∷◌, length, map, refl}
use Rattle.std.proofs.Common.{sym, ap, ◌∙◌, subst, Bool, cond, Option}
use Rattle.std.proofs.Common.{Some, None}
use Rattle.std.specs.Prelude.{slice_get, slice_index}
use Rattle.std.specs.List.{AllByRecursion}
use Rattle.std.proofs.lemmas.Bool.{cases_eq, eq-eqb, ne_eqb}
use Rattle.std.proofs.lemmas.List.Elements.{All-from_recursion, All-get_or}
use Rattle.std.proofs.lemmas.List.Elements.{recursion_from_All}
use Rattle.cn_table.specs.Run.{responses_along, state_after}
use Rattle.cn_table.specs.TypeTable.{TypeTable, transition}
use Rattle.cn_choice.specs.RawChoices.{IsRawChoice, RawChoice}
use Rattle.cn_choice.specs.declared.team.Team.TheVariants.{A, B}
use Rattle.cn_choice.specs.Discerning.{IsDiscerning, IsWitness}
use Rattle.cn_choice.specs.Orders.{IsOrder}
use Rattle.cn_choice.specs.OutcomeSets.{BeginsIn, response_of}
use Rattle.cn_choice.proofs.ListLemmas.Arrangements.{Differ}
use Rattle.cn_choice.proofs.ListLemmas.Members.{IsIn, each_at}
use Rattle.cn_choice.proofs.OrderLemmas.AllOrders.{differ_from, distinct_from}
use Rattle.cn_choice.proofs.OrderLemmas.Walks.{first_some, pair_takes_part}
use Rattle.cn_unread.specs.Functions.{put}
use Rattle.cn_unread.proofs.Functions.{put-other, put-same}
use Rattle.cn_unread.specs.Undisturbed.{AreUndisturbed, IsUnreadDiscerning, IsUnreadWitness, IsQuiet}
use Rattle.cn_unread.specs.Undisturbed.{TellsApart, answer, last_state}
use Rattle.cn_unread.specs.Defended.{EachMove, HoldsWithin, IsDefended, IsDefendedFor, Position}
use Rattle.cn_unread.specs.Defended.{Status, moved_first, moved_second, start}
use Rattle.cn_unread.proofs.PairParts.{pair_parts}
use Rattle.cn_unread.specs.Defended.Status.{AheadInFirst, AheadInSecond, Lost, Poised}

-- ---- responses

out_none : (i : ℕ) (ps rs : List ℕ) → (IsIn i ps → ⊥) → response_of i ps rs ≡ None
out_none i [] rs out = refl
out_none i (p ∷ ps) [] out = refl
out_none i (p ∷ ps) (r ∷ rs) out = rw (ne_eqb p i (λ e. out (inl e)))
    (out_none i ps rs (λ h. out (inr h)))

none_after : (o : Option ℕ) → first_some o None ≡ o
none_after None = refl
none_after (Some r) = refl

-- the response to the first process of a list, put to those before
first_response : (f : ℕ → Option ℕ) (p r i : ℕ) (ps rs : List ℕ) → (IsIn p ps → ⊥)
    → first_some (response_of i (p ∷ ps) (r ∷ rs)) (f i)
    ≡ first_some (response_of i ps rs) (put f p (Some r) i)
first_response f p r i ps rs out = elim (cases_eq i p) [
  | inl same ↦
      ap (λ (b : Bool). first_some (cond b (Some r) (response_of i ps rs)) (f i))
      (eq-eqb p i (sym same)) ∙ sym (ap (λ (o : Option ℕ). first_some o (put f p (Some r) i))
      (out_none i ps rs (λ h. out (subst (λ (z : ℕ). IsIn z ps) same h)))
      ∙ (ap (put f p (Some r)) same ∙ put-same f p (Some r)))
  | inr apart ↦
      ap (λ (b : Bool). first_some (cond b (Some r) (response_of i ps rs)) (f i))
      (ne_eqb p i (λ e. apart (sym e)))
      ∙ ap (first_some (response_of i ps rs)) (sym (put-other f p (Some r) i apart))
]

-- one more operation that tells nothing
quiet_more : (t : TypeTable) (p q o : ℕ) (os : List ℕ)
    → (transition t o p).0 ≡ (transition t o q).0
    → IsQuiet t (transition t o p).1 (transition t o q).1 os → IsQuiet t p q (o ∷ os)
quiet_more t p q o os e h = ap (λ (r : ℕ). r ∷ responses_along t (transition t o p).1 os) e
    ∙ ap (λ (rs : List ℕ). (transition t o q).0 ∷ rs) h

module _ (t : TypeTable) (c : RawChoice) where
  abbrev op : ℕ → ℕ
  op i = slice_index c.operations i

  abbrev n : ℕ
  n = length c.operations

  -- what the status of process i is, by its responses in the two runs
  abbrev Matches : ℕ → Option ℕ → Option ℕ → Status → Type 0
  Matches i None None s = s ≡ Poised (op i)
  Matches i (Some r) None s = s ≡ AheadInFirst (op i) r
  Matches i None (Some r) s = s ≡ AheadInSecond (op i) r
  Matches i (Some r) (Some u) s =
      r ≡ u → (m : ℕ) × (m < length t.operations) × (s ≡ Poised m)

  -- the protocol holds out after moves with these responses, with the object in states p and q
  record Stands (f g : ℕ → Option ℕ) (p q : ℕ) : Type 0 where
    pub status : ℕ → Status
    pub moves : ℕ
    pub holds : HoldsWithin t n moves (record { first = p; second = q; status = status })
    pub matches : (i : ℕ) → i < n → Matches i (f i) (g i) (status i)

  restated : (f g h k : ℕ → Option ℕ) (p q : ℕ) → ((i : ℕ) → h i ≡ f i) → ((i : ℕ) → k i ≡ g i)
      → Stands f g p q → Stands h k p q
  restated f g h k p q u v z = record {
    status = z.status;
    moves = z.moves;
    holds = z.holds;
    matches = λ i l. subst (λ (o : Option ℕ). Matches i o (k i) (z.status i)) (sym (u i))
        (subst (λ (o : Option ℕ). Matches i (f i) o (z.status i)) (sym (v i)) (z.matches i l));
  }

  match_first : (f g : ℕ → Option ℕ) (s : ℕ → Status) (j : ℕ) (o : Option ℕ) (new : Status)
      → Matches j o (g j) new → ((i : ℕ) → i < n → Matches i (f i) (g i) (s i))
      → (i : ℕ) → i < n → Matches i (put f j o i) (g i) (put s j new i)
  match_first f g s j o new here others i l = elim (cases_eq i j) [
    | inl same ↦ subst (λ (z : ℕ). Matches z (put f j o z) (g z) (put s j new z)) (sym same)
        (subst (λ (w : Option ℕ). Matches j w (g j) (put s j new j)) (sym (put-same f j o))
        (subst (Matches j o (g j)) (sym (put-same s j new)) here))
    | inr apart ↦ subst (λ (w : Option ℕ). Matches i w (g i) (put s j new i))
        (sym (put-other f j o i apart))
        (subst (Matches i (f i) (g i)) (sym (put-other s j new i apart)) (others i l))
  ]

  match_second : (f g : ℕ → Option ℕ) (s : ℕ → Status) (j : ℕ) (o : Option ℕ) (new : Status)
      → Matches j (f j) o new → ((i : ℕ) → i < n → Matches i (f i) (g i) (s i))
      → (i : ℕ) → i < n → Matches i (f i) (put g j o i) (put s j new i)
  match_second f g s j o new here others i l = elim (cases_eq i j) [
    | inl same ↦ subst (λ (z : ℕ). Matches z (f z) (put g j o z) (put s j new z)) (sym same)
        (subst (λ (w : Option ℕ). Matches j (f j) w (put s j new j)) (sym (put-same g j o))
        (subst (Matches j (f j) o) (sym (put-same s j new)) here))
    | inr apart ↦ subst (λ (w : Option ℕ). Matches i (f i) w (put s j new i))
        (sym (put-other g j o i apart))
        (subst (Matches i (f i) (g i)) (sym (put-other s j new i apart)) (others i l))
  ]

  -- process j moves in the first run
  step_first : (f g : ℕ → Option ℕ) (p q j : ℕ) → j < n → f j ≡ None → Stands f g p q
      → Stands (put f j (Some (transition t (op j) p).0)) g (transition t (op j) p).1 q
  step_first f g p q j l none z = by_moves z.moves z.holds
    where
      by_other : (k : ℕ) → EachMove t (HoldsWithin t n k) (record {
        first = p;
        second = q;
        status = z.status;
      }) j (z.status j) → (o : Option ℕ) → g j ≡ o → Matches j None o (z.status j)
          → Stands (put f j (Some (transition t (op j) p).0)) g (transition t (op j) p).1 q
      by_other k h None e m =
          let new : Status = AheadInFirst (op j) (transition t (op j) p).0 in
          record {
            status = put z.status j new;
            moves = k;
            holds = (subst (EachMove t (HoldsWithin t n k) (record {
              first = p;
              second = q;
              status = z.status;
            }) j) m h).0;
            matches = match_first f g z.status j (Some (transition t (op j) p).0) new
                (subst (λ (o : Option ℕ). Matches j (Some (transition t (op j) p).0) o new) (sym e)
                refl) z.matches;
          }
      by_other k h (Some u) e m =
          let both = subst (EachMove t (HoldsWithin t n k) (record {
            first = p;
            second = q;
            status = z.status;
          }) j) m h in
          elim (cases_eq (transition t (op j) p).0 u) [
            | inl same ↦ (let y = both.0 same in record {
              status = put z.status j (Poised y.0);
              moves = k;
              holds = y.2;
              matches = match_first f g z.status j (Some (transition t (op j) p).0) (Poised y.0)
                  (subst (λ (o : Option ℕ). Matches j (Some (transition t (op j) p).0) o
                  (Poised y.0)) (sym e) (λ w. (y.0, y.1, refl))) z.matches;
            })
            | inr apart ↦ record {
              status = put z.status j Lost;
              moves = k;
              holds = both.1 apart;
              matches = match_first f g z.status j (Some (transition t (op j) p).0) Lost
                  (subst (λ (o : Option ℕ). Matches j (Some (transition t (op j) p).0) o
                  Lost) (sym e) (λ w. absurd (apart w))) z.matches;
            }
          ]

      by_moves : (k : ℕ) → HoldsWithin t n k (record {
        first = p;
        second = q;
        status = z.status;
      }) → Stands (put f j (Some (transition t (op j) p).0)) g (transition t (op j) p).1 q
      by_moves zero h = absurd h
      by_moves (suc k) h = by_other k (h j l) (g j) refl
          (subst (λ (o : Option ℕ). Matches j o (g j) (z.status j)) none (z.matches j l))

  step_second : (f g : ℕ → Option ℕ) (p q j : ℕ) → j < n → g j ≡ None → Stands f g p q
      → Stands f (put g j (Some (transition t (op j) q).0)) p (transition t (op j) q).1
  step_second f g p q j l none z = by_moves z.moves z.holds
    where
      by_other : (k : ℕ) → EachMove t (HoldsWithin t n k) (record {
        first = p;
        second = q;
        status = z.status;
      }) j (z.status j) → (o : Option ℕ) → f j ≡ o → Matches j o None (z.status j)
          → Stands f (put g j (Some (transition t (op j) q).0)) p (transition t (op j) q).1
      by_other k h None e m =
          let new : Status = AheadInSecond (op j) (transition t (op j) q).0 in
          record {
            status = put z.status j new;
            moves = k;
            holds = (subst (EachMove t (HoldsWithin t n k) (record {
              first = p;
              second = q;
              status = z.status;
            }) j) m h).1;
            matches = match_second f g z.status j (Some (transition t (op j) q).0) new
                (subst (λ (o : Option ℕ). Matches j o (Some (transition t (op j) q).0) new) (sym e)
                refl) z.matches;
          }
      by_other k h (Some u) e m =
          let both = subst (EachMove t (HoldsWithin t n k) (record {
            first = p;
            second = q;
            status = z.status;
          }) j) m h in
          elim (cases_eq (transition t (op j) q).0 u) [
            | inl same ↦ (let y = both.0 same in record {
              status = put z.status j (Poised y.0);
              moves = k;
              holds = y.2;
              matches = match_second f g z.status j (Some (transition t (op j) q).0) (Poised y.0)
                  (subst (λ (o : Option ℕ). Matches j o (Some (transition t (op j) q).0)
                  (Poised y.0)) (sym e) (λ w. (y.0, y.1, refl))) z.matches;
            })
            | inr apart ↦ record {
              status = put z.status j Lost;
              moves = k;
              holds = both.1 apart;
              matches = match_second f g z.status j (Some (transition t (op j) q).0) Lost
                  (subst (λ (o : Option ℕ). Matches j o (Some (transition t (op j) q).0)
                  Lost) (sym e) (λ w. absurd (apart (sym w)))) z.matches;
            }
          ]

      by_moves : (k : ℕ) → HoldsWithin t n k (record {
        first = p;
        second = q;
        status = z.status;
      }) → Stands f (put g j (Some (transition t (op j) q).0)) p (transition t (op j) q).1
      by_moves zero h = absurd h
      by_moves (suc k) h = by_other k (h j l) (f j) refl
          (subst (λ (o : Option ℕ). Matches j (f j) o (z.status j)) none (z.matches j l))

  -- the responses after the processes of a list have moved, from those before
  abbrev then_all : (ℕ → Option ℕ) → ℕ → List ℕ → ℕ → Option ℕ
  then_all f p ps i = first_some (response_of i ps (responses_along t p (map op ps))) (f i)

  out_of : (p : ℕ) (ps : List ℕ) → Differ (p ∷ ps) → IsIn p ps → ⊥
  out_of p ps apart i = each_at (λ y. p ≢ y) ps p apart.0 i refl

  none_put : (f : ℕ → Option ℕ) (p : ℕ) (o : Option ℕ) (ps : List ℕ) → Differ (p ∷ ps)
      → ((i : ℕ) → IsIn i ps → f i ≡ None) → (i : ℕ) → IsIn i ps → put f p o i ≡ None
  none_put f p o ps apart none i h =
      put-other f p o i (λ e. each_at (λ y. p ≢ y) ps i apart.0 h (sym e)) ∙ none i h

  play_first : (ps : List ℕ) → Differ ps → AllByRecursion (λ p. p < n) ps
      → (f g : ℕ → Option ℕ) (p q : ℕ) → ((i : ℕ) → IsIn i ps → f i ≡ None) → Stands f g p q
      → Stands (then_all f p ps) g (state_after t p (map op ps)) q
  play_first [] apart known f g p q none z = z
  play_first (j ∷ ps) apart known f g p q none z =
      restated (then_all (put f j (Some (transition t (op j) p).0)) (transition t (op j) p).1 ps) g
      (then_all f p (j ∷ ps)) g (state_after t (transition t (op j) p).1 (map op ps)) q
      (λ i. first_response f j (transition t (op j) p).0 i ps
      (responses_along t (transition t (op j) p).1 (map op ps)) (out_of j ps apart)) (λ i. refl)
      (play_first ps apart.1 known.1 (put f j (Some (transition t (op j) p).0)) g
      (transition t (op j) p).1 q (none_put f j (Some (transition t (op j) p).0) ps apart
      (λ i h. none i (inr h))) (step_first f g p q j known.0 (none j (inl refl)) z))

  play_second : (qs : List ℕ) → Differ qs → AllByRecursion (λ p. p < n) qs
      → (f g : ℕ → Option ℕ) (p q : ℕ) → ((i : ℕ) → IsIn i qs → g i ≡ None) → Stands f g p q
      → Stands f (then_all g q qs) p (state_after t q (map op qs))
  play_second [] apart known f g p q none z = z
  play_second (j ∷ qs) apart known f g p q none z =
      restated f (then_all (put g j (Some (transition t (op j) q).0)) (transition t (op j) q).1 qs)
      f (then_all g q (j ∷ qs)) p (state_after t (transition t (op j) q).1 (map op qs)) (λ i. refl)
      (λ i. first_response g j (transition t (op j) q).0 i qs
      (responses_along t (transition t (op j) q).1 (map op qs)) (out_of j qs apart))
      (play_second qs apart.1 known.1 f (put g j (Some (transition t (op j) q).0)) p
      (transition t (op j) q).1 (none_put g j (Some (transition t (op j) q).0) qs apart
      (λ i h. none i (inr h))) (step_second f g p q j known.0 (none j (inl refl)) z))

  -- ---- the whole play

  abbrev nobody : ℕ → Option ℕ
  nobody i = None

  module _ (d : IsDefended t c) (a b : ℕ) (la : a < n) (lb : b < n)
      (in_a : slice_get c.marks a ≡ Some A) (in_b : slice_get c.marks b ≡ Some B) where
    abbrev reply_a : ℕ
    reply_a = (transition t (op a) c.state).0

    abbrev reply_b : ℕ
    reply_b = (transition t (op b) c.state).0

    apart_ab : a ≢ b
    apart_ab e = two_teams (sym in_a ∙ (ap (slice_get c.marks) e ∙ in_b))
      where
        two_teams : Some A ≡ Some B → ⊥
        two_teams s = absurd (cc s)

    begun : Stands (put nobody a (Some reply_a)) (put nobody b (Some reply_b))
        (transition t (op a) c.state).1 (transition t (op b) c.state).1
    begun =
        let h = d a b la lb in_a in_b in
        record {
          status = (start t c a b).status;
          moves = h.0;
          holds = h.1;
          matches = match_second (put nobody a (Some reply_a)) nobody
              (put (λ j. Poised (op j)) a (AheadInFirst (op a) reply_a)) b (Some reply_b)
              (AheadInSecond (op b) reply_b) (subst (λ (o : Option ℕ). Matches b o (Some reply_b)
              (AheadInSecond (op b) reply_b)) (sym (put-other nobody a (Some reply_a) b
              (λ e. apart_ab (sym e)))) refl)
              (match_first nobody nobody (λ j. Poised (op j)) a (Some reply_a)
              (AheadInFirst (op a) reply_a) refl (λ i l. refl));
        }

    module _ (rest_a rest_b : List ℕ) (da : Differ (a ∷ rest_a)) (db : Differ (b ∷ rest_b))
        (ka : AllByRecursion (λ p. p < n) (a ∷ rest_a)) (kb : AllByRecursion (λ p. p < n) (b ∷ rest_b))
      where
        answered : (j r : ℕ) (js rs : List ℕ) → Differ (j ∷ js) → (i : ℕ)
            → response_of i (j ∷ js) (r ∷ rs)
            ≡ first_some (response_of i js rs) (put nobody j (Some r) i)
        answered j r js rs apart i = sym (none_after (response_of i (j ∷ js) (r ∷ rs)))
            ∙ first_response nobody j r i js rs (out_of j js apart)

        played : Stands (answer t c (a ∷ rest_a)) (answer t c (b ∷ rest_b)) (last_state t c (a ∷ rest_a))
            (last_state t c (b ∷ rest_b))
        played =
            let p = (transition t (op a) c.state).1 in
            let q = (transition t (op b) c.state).1 in
            let f = put nobody a (Some reply_a) in
            let g = put nobody b (Some reply_b) in
            let one = play_first rest_a da.1 ka.1 f g p q
            (none_put nobody a (Some reply_a) rest_a da (λ i h. refl)) begun in
            let two = play_second rest_b db.1 kb.1 (then_all f p rest_a) g (state_after t p (map op rest_a)) q
            (none_put nobody b (Some reply_b) rest_b db (λ i h. refl)) one in
            restated (then_all f p rest_a) (then_all g q rest_b) (answer t c (a ∷ rest_a)) (answer t c (b ∷ rest_b))
            (last_state t c (a ∷ rest_a)) (last_state t c (b ∷ rest_b))
            (answered a reply_a rest_a (responses_along t p (map op rest_a)) da)
            (answered b reply_b rest_b (responses_along t q (map op rest_b)) db) two

  -- ---- processes that are poised can be told

  abbrev ArePoised : List ℕ → Position → Type 0
  ArePoised js x =
      (j : ℕ) → IsIn j js → (m : ℕ) × (m < length t.operations) × (x.status j ≡ Poised m)

  abbrev CanBeTold : List ℕ → Type 0
  CanBeTold js = (k : ℕ) (x : Position) → HoldsWithin t n k x → ArePoised js x
      → TellsApart t (length js) x.first x.second

  still_poised : (js : List ℕ) (j : ℕ) → Differ (j ∷ js) → (x y : Position) (new : Status)
      → ((i : ℕ) → y.status i ≡ put x.status j new i) → ArePoised js x → ArePoised js y
  still_poised js j apart x y new e h i m =
      let r = h i m in (
        r.0,
        r.1,
        e i ∙ (put-other x.status j new i (λ f. each_at (λ z. j ≢ z) js i apart.0 m (sym f))
            ∙ r.2),
      )

  two_moves : (j : ℕ) (js : List ℕ) → j < n → Differ (j ∷ js) → CanBeTold js → (k : ℕ)
      → ((y : Position) → HoldsWithin t n k y → ArePoised (j ∷ js) y
      → TellsApart t (suc (length js)) y.first y.second)
      → (x : Position) → HoldsWithin t n (suc (suc k)) x → ArePoised (j ∷ js) x
      → TellsApart t (suc (length js)) x.first x.second
  two_moves j js l apart rest k again x h poised =
      let r = poised j (inl refl) in
      let m = r.0 in
      let p = x.first in
      let q = x.second in
      let two = subst (EachMove t (HoldsWithin t n (suc k)) x j) r.2 (h j l) in
      let ahead : Status = AheadInFirst m (transition t m p).0 in
      let others : ArePoised js x = λ i g. poised i (inr g) in
      let x1 : Position = moved_first t x j m ahead in
      let x2 : Position = moved_second t x j m (AheadInSecond m (transition t m q).0) in
      let others1 : ArePoised js x1 = still_poised js j apart x x1 ahead (λ i. refl) others in
      let others2 : ArePoised js x2 = still_poised js j apart x x2
      (AheadInSecond m (transition t m q).0) (λ i. refl) others in
      let next = subst (EachMove t (HoldsWithin t n k) x1 j) (put-same x.status j ahead)
      (two.0 j l) in
      elim (cases_eq (transition t m q).0 (transition t m p).0) [
        | inl same ↦ (let y = next.0 same in
            let z : Position = moved_second t x1 j m (Poised y.0) in
            let z_poised : ArePoised (j ∷ js) z = with_first j js
            (y.0, y.1, put-same x1.status j (Poised y.0))
            (still_poised js j apart x1 z (Poised y.0) (λ i. refl) others1) in
            let later = again z y.2 z_poised in (
              m ∷ later.0,
              later.1,
              (r.1, later.2),
              later.3,
              quiet_more t p q m later.0 (sym same) later.4,
              later.5,
              later.6,
              later.7,
              later.8,
            ))
        | inr differ ↦ (
          [],
          m,
          tt,
          r.1,
          refl,
          λ e. differ (sym e),
          rest k (moved_second t x1 j m Lost) (next.1 differ)
              (still_poised js j apart x1 (moved_second t x1 j m Lost) Lost (λ i. refl) others1),
          rest (suc k) x1 two.0 others1,
          rest (suc k) x2 two.1 others2,
        )
      ]
    where
      with_first : {S : ℕ → Type 0} (j : ℕ) (js : List ℕ) → S j → ((i : ℕ) → IsIn i js → S i)
          → (i : ℕ) → IsIn i (j ∷ js) → S i
      with_first {S} j js here others i (inl e) = subst S e here
      with_first {S} j js here others i (inr g) = others i g

  told_one : (j : ℕ) (js : List ℕ) → j < n → Differ (j ∷ js) → CanBeTold js → CanBeTold (j ∷ js)
  told_one j js l apart rest zero x h poised = absurd h
  told_one j js l apart rest (suc zero) x h poised = absurd
      (subst (EachMove t (HoldsWithin t n zero) x j) (poised j (inl refl)).2 (h j l)).0
  told_one j js l apart rest (suc (suc k)) x h poised = two_moves j js l apart rest k
      (λ y. told_one j js l apart rest k y) x h poised

  told_all : (js : List ℕ) → Differ js → AllByRecursion (λ p. p < n) js → CanBeTold js
  told_all [] apart known k x h poised = tt
  told_all (j ∷ js) apart known k x h poised =
      told_one j js known.0 apart (told_all js apart.1 known.1) k x h poised

  -- ---- a choice that is defended is a witness without reads

  module _ (m : ℕ) (is : IsRawChoice t m c) (d : IsDefended t c) where
    poised_at : (j : ℕ) → j < n → (o u : Option ℕ) (s : Status) → o ≡ u → Matches j o u s
        → (i : ℕ) × (i < length t.operations) × (s ≡ Poised i)
    poised_at j l None None s e h = (
      op j,
      All-get_or (λ o. o < length t.operations) c.operations j 0 l is.operations_known,
      h,
    )
    poised_at j l (Some r) None s e h = absurd (cc e)
    poised_at j l None (Some r) s e h = absurd (cc e)
    poised_at j l (Some r) (Some u) s e h = h (cc e)

    by_heads : (alpha beta js : List ℕ) → IsOrder n alpha → IsOrder n beta → BeginsIn c A alpha
        → BeginsIn c B beta → AreUndisturbed t c alpha beta js
        → TellsApart t (length js) (last_state t c alpha) (last_state t c beta)
    by_heads [] beta js o v begins begins_too u = absurd (cc begins.1)
    by_heads (a ∷ rest_a) [] js o v begins begins_too u = absurd (cc begins_too.1)
    by_heads (a ∷ rest_a) (b ∷ rest_b) js o v begins begins_too u =
        let same_a : begins.0 ≡ a = cc begins.1 in
        let same_b : begins_too.0 ≡ b = cc begins_too.1 in
        let ka = recursion_from_All (λ p. p < n) (a ∷ rest_a) o.known in
        let kb = recursion_from_All (λ p. p < n) (b ∷ rest_b) v.known in
        let kj = recursion_from_All (λ p. p < n) js u.known in
        let z = played d a b ka.0 kb.0
        (subst (λ (p : ℕ). slice_get c.marks p ≡ Some A) same_a begins.2)
        (subst (λ (p : ℕ). slice_get c.marks p ≡ Some B) same_b begins_too.2) rest_a rest_b
        (differ_from (a ∷ rest_a) o.distinct) (differ_from (b ∷ rest_b) v.distinct) ka kb in
        told_all js (differ_from js u.distinct) kj z.moves (record {
          first = last_state t c (a ∷ rest_a);
          second = last_state t c (b ∷ rest_b);
          status = z.status;
        }) z.holds (λ j i. (let l = each_at (λ p. p < n) js j kj i in
        poised_at j l (answer t c (a ∷ rest_a) j) (answer t c (b ∷ rest_b) j) (z.status j)
        (each_at (λ p. answer t c (a ∷ rest_a) p ≡ answer t c (b ∷ rest_b) p) js j
        (recursion_from_All (λ p. answer t c (a ∷ rest_a) p ≡ answer t c (b ∷ rest_b) p) js u.same) i)
        (z.matches j l)))

    pub defended_is_unread_witness : IsUnreadWitness t c
    defended_is_unread_witness = by_heads

pub unread_from_defended : (t : TypeTable) (n : ℕ) → IsDefendedFor t n → IsUnreadDiscerning t n
unread_from_defended t n d = (d.0, d.1, defended_is_unread_witness t d.0 n d.1 d.2)

-- ---- a witness without reads is a witness

pub told_apart : (t : TypeTable) (p q : ℕ) → p ≡ q → TellsApart t 1 p q → ⊥
told_apart t p q e h = h.5 (ap (λ (s : ℕ). (transition t h.1 (state_after t s h.0)).0) e)

pub witness_from_unread : (t : TypeTable) (c : RawChoice) → IsUnreadWitness t c → IsWitness t c
witness_from_unread t c w j pair (alpha, o, begins, seen) (beta, u, begins_too, seen_too) =
    let f = pair_parts t c alpha j pair seen in
    let g = pair_parts t c beta j pair seen_too in
    let l = pair_takes_part t c (length c.operations) alpha j pair o.known seen in
    told_apart t (last_state t c alpha) (last_state t c beta) (f.1 ∙ sym g.1)
    (w alpha beta (j ∷ []) o u begins begins_too (record {
      known = All-from_recursion (λ p. p < length c.operations) (j ∷ []) (l, tt);
      distinct = distinct_from (j ∷ []) (tt, tt);
      same = All-from_recursion (λ p. answer t c alpha p ≡ answer t c beta p) (j ∷ [])
          (f.0 ∙ sym g.0, tt);
    }))

pub discerning_from_unread : (t : TypeTable) (n : ℕ) → IsUnreadDiscerning t n → IsDiscerning t n
discerning_from_unread t n b = (b.0, b.1, witness_from_unread t b.0 b.2)
