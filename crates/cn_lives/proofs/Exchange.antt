-- A choice with its teams exchanged.
use Rattle.std.proofs.Common.{◌≡◌, ℕ, ◌+◌, ◌-◌, ◌<◌, ◌≤◌, ◌⊎◌, inl, inr, List, ◌++◌, length, map}
use Rattle.std.proofs.Common.{length-append, refl, sym, ap, ◌∙◌, subst, arith, Option, Some, None}
use Rattle.std.proofs.Common.{get_or, replicate}
use Rattle.std.specs.Prelude.{slice_get}
use Rattle.std.specs.Option.{option_map}
use Rattle.std.proofs.lemmas.Bool.{cases_lt}
use Rattle.std.proofs.lemmas.List.{get_or-append-add, get_or-append_right, get_or-map}
use Rattle.std.proofs.lemmas.List.{get_or-replicate, get_or_append_left, length-map}
use Rattle.std.proofs.lemmas.List.{length-replicate}
use Rattle.std.proofs.lemmas.List.Elements.{recursion_from_All}
use Rattle.std.proofs.lemmas.Option.{slice_get-get_or, slice_get-map}
use Rattle.cn_table.specs.Run.{state_after}
use Rattle.cn_table.specs.TypeTable.{TypeTable}
use Rattle.cn_choice.specs.Canonical.{Choice, FitsTable, raw_choice_of}
use Rattle.cn_choice.specs.RawChoices.{RawChoice}
use Rattle.cn_choice.specs.Renumbering.{Embeds, other, with_other_teams}
use Rattle.cn_choice.specs.declared.team.Team.{Team}
use Rattle.cn_choice.specs.declared.team.Team.TheVariants.{A, B}
use Rattle.cn_choice.proofs.ChoiceLemmas.CanonicalForms.{IsRawChoice-choice, choice-IsRawChoice}
use Rattle.cn_choice.proofs.ChoiceLemmas.Embeddings.{begins_embeds, operations_embed, order_embeds}
use Rattle.cn_outcomes.specs.LeftStates.{LeavesIn}
use Rattle.cn_recover.specs.Recording.{IsRecordingWitness}
use Rattle.cn_lives.specs.Plans.{exchanged}

-- the place among m and then k processes of process i of the k and then the m
by_part : (m k i : ℕ) → (i < k) ⊎ (k ≤ i) → ℕ
by_part m k i (inl l) = m + i
by_part m k i (inr g) = i - k

part_inside : (m k i : ℕ) (s : (i < k) ⊎ (k ≤ i)) → i < k + m → by_part m k i s < m + k
unfolding by_part
part_inside m k i (inl l) h = omega (arith, l)
part_inside m k i (inr g) h = omega (arith, g, h)

part_apart : (m k i j : ℕ) (s : (i < k) ⊎ (k ≤ i)) (r : (j < k) ⊎ (k ≤ j)) → i < k + m → j < k + m
    → by_part m k i s ≡ by_part m k j r → i ≡ j
unfolding by_part
part_apart m k i j (inl l) (inl u) h g e = omega (arith, e)
part_apart m k i j (inl l) (inr u) h g e = absurd (omega (arith, u, g, e))
part_apart m k i j (inr l) (inl u) h g e = absurd (omega (arith, l, h, e))
part_apart m k i j (inr l) (inr u) h g e = omega (arith, l, u, e)

part_operation : (xs ys : List ℕ) (i : ℕ) (s : (i < length ys) ⊎ (length ys ≤ i))
    → i < length ys + length xs
    → get_or (ys ++ xs) i 0 ≡ get_or (xs ++ ys) (by_part (length xs) (length ys) i s) 0
unfolding by_part
part_operation xs ys i (inl l) h =
    get_or_append_left ys xs 0 i l ∙ sym (get_or-append-add xs ys i 0)
part_operation xs ys i (inr g) h =
    get_or-append_right ys xs (length ys) i 0 refl g
    ∙ sym (get_or_append_left xs ys 0 (i - length ys) (omega (arith, g, h)))

marks : ℕ → ℕ → List Team
marks m k = replicate m A ++ replicate k B

marks_first : (m k i : ℕ) → i < m → get_or (marks m k) i A ≡ A
unfolding marks
marks_first m k i l =
    get_or_append_left (replicate m A) (replicate k B) A i
    (subst (λ (n : ℕ). i < n) (sym (length-replicate m A)) l) ∙ get_or-replicate m i A A l

marks_second : (m k i : ℕ) → m ≤ i → i < m + k → get_or (marks m k) i A ≡ B
unfolding marks
marks_second m k i g l =
    get_or-append_right (replicate m A) (replicate k B) m i A (length-replicate m A) g
    ∙ get_or-replicate k (i - m) B A (omega (arith, g, l))

marks_are : (m k : ℕ) → length (marks m k) ≡ m + k
unfolding marks
marks_are m k =
    length-append (replicate m A) (replicate k B)
    ∙ (ap (λ (n : ℕ). n + length (replicate k B)) (length-replicate m A)
    ∙ ap (λ (n : ℕ). m + n) (length-replicate k B))

part_team : (m k i : ℕ) (s : (i < k) ⊎ (k ≤ i)) → i < k + m
    → get_or (marks k m) i A ≡ other (get_or (marks m k) (by_part m k i s) A)
unfolding by_part
part_team m k i (inl l) h =
    marks_first k m i l
    ∙ ap other (sym (marks_second m k (m + i) (omega arith) (omega (arith, l))))
part_team m k i (inr g) h =
    marks_second k m i g h
    ∙ ap other (sym (marks_first m k (i - k) (omega (arith, g, h))))

other_back : (o : Option Team) → option_map other o ≡ Some A → o ≡ Some B
other_back None e = absurd (cc e)
other_back (Some A) e = absurd (cc e)
other_back (Some B) e = refl

module _ (c : Choice) where
  abbrev m : ℕ
  m = length c.a

  abbrev k : ℕ
  k = length c.b

  abbrev place : ℕ → ℕ
  place i = by_part m k i (cases_lt i k)

  abbrev d : RawChoice
  d = raw_choice_of (exchanged c)

  abbrev e : RawChoice
  e = with_other_teams (raw_choice_of c)

  within : (i : ℕ) → i < length d.operations → i < k + m
  within i l = subst (λ (n : ℕ). i < n) (length-append c.b c.a) l

  team_at : (i : ℕ) → i < k + m → slice_get (marks k m) i
      ≡ slice_get (map other (marks m k)) (place i)
  team_at i l =
      let there : place i < m + k = part_inside m k i (cases_lt i k) l in
      let in_marks : place i < length (marks m k) =
      subst (λ (n : ℕ). place i < n) (sym (marks_are m k)) there in
      slice_get-get_or (marks k m) i A (subst (λ (n : ℕ). i < n) (sym (marks_are k m)) l)
      ∙ (ap Some (part_team m k i (cases_lt i k) l
      ∙ sym (get_or-map other (marks m k) (place i) A A in_marks))
      ∙ sym (slice_get-get_or (map other (marks m k)) (place i) A
      (subst (λ (n : ℕ). place i < n) (sym (length-map (marks m k) other)) in_marks)))

  embeds : Embeds place d e
  unfolding marks
  embeds = record {
    same_state = refl;
    inside = λ i l. subst (λ (n : ℕ). place i < n) (sym (length-append c.a c.b))
        (part_inside m k i (cases_lt i k) (within i l));
    apart = λ i j l u g.
        part_apart m k i j (cases_lt i k) (cases_lt j k) (within i l) (within j u) g;
    operation = λ i l. part_operation c.a c.b i (cases_lt i k) (within i l);
    team = λ i l. team_at i (within i l);
  }

  -- what orders of team A leave after the exchange, orders of team B have left before
  left_before : (t : TypeTable) (q : ℕ) → LeavesIn t d A q → LeavesIn t (raw_choice_of c) B q
  left_before t q o =
      let known = recursion_from_All (λ p. p < length d.operations) o.0 o.1.known in
      let begins = begins_embeds place d e embeds A o.0 known o.2 in (
        map place o.0,
        order_embeds place d e embeds o.0 o.1,
        (
          begins.0,
          begins.1,
          other_back (slice_get (raw_choice_of c).marks begins.0)
              (sym (slice_get-map other (raw_choice_of c).marks begins.0) ∙ begins.2),
        ),
        ap (state_after t c.state) (sym (operations_embed place d e embeds o.0 known)) ∙ o.3,
      )

  pub exchanged_fits : (t : TypeTable) → FitsTable t c → FitsTable t (exchanged c)
  exchanged_fits t fits =
      let parts = choice-IsRawChoice t (m + k) c fits.fits in
      record {
        fits = IsRawChoice-choice t (k + m) (exchanged c) (record {
          known_state = parts.known_state;
          a_known = parts.b_known;
          b_known = parts.a_known;
          someone_in_a = parts.someone_in_b;
          someone_in_b = parts.someone_in_a;
          all = refl;
        });
        some = omega (arith, fits.some);
        few = omega (arith, fits.few);
      }

  pub exchanged_records : (t : TypeTable)
      → ((f : ℕ → ℕ) (x y : RawChoice) → Embeds f x y → IsRecordingWitness t y
      → IsRecordingWitness t x)
      → IsRecordingWitness t e → IsRecordingWitness t d
  exchanged_records t some w = some place d e embeds w

  pub exchanged_home : (t : TypeTable) → IsRecordingWitness t (raw_choice_of c)
      → LeavesIn t (raw_choice_of c) A c.state → LeavesIn t d A c.state → ⊥
  exchanged_home t w back h = w.apart c.state back (left_before t c.state h)
