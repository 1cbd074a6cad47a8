-- Renumbering its processes, and perhaps exchanging the teams, makes every choice a canonical one.
use Rattle.std.proofs.Common.{◌≡◌, ◌≢◌, ℕ, suc, ◌+◌, ◌<◌, ◌≤◌, ◌⊎◌, inl, inr, List, [], ◌∷◌, ◌++◌, length, map, refl, sym, ap, ◌∙◌, subst, arith, Option, replicate, ◌↔◌, length-append, Ordering, Less, Equal, Greater}
use Rattle.std.specs.Prelude.{slice_get, unwrap_or}
use Rattle.std.specs.List.{zip}
use Rattle.std.specs.Option.{option_map}
use Rattle.std.specs.Ordering.{nat_cmp, ordering_reverse}
use Rattle.std.proofs.lemmas.Cmp.{nat_list_cmp_total}
use Rattle.std.specs.Cmp.Lexicographic.{slice_cmp}
use Rattle.std.proofs.lemmas.Bool.{cases_order}
use Rattle.std.proofs.lemmas.Option.{slice_get-map, unwrap_or-slice_get}
use Rattle.std.proofs.lemmas.List.{map-append, length-map}
use Rattle.cn_table.specs.TypeTable.{TypeTable}
use Rattle.cn_choice.specs.Canonical.{Choice, IsCanonical, raw_choice_of}
use Rattle.cn_choice.specs.Discerning.{IsWitness}
use Rattle.cn_choice.specs.RawChoices.{IsRawChoice, RawChoice}
use Rattle.cn_choice.specs.Renumbering.{Embeds, with_other_teams, other}
use Rattle.cn_choice.specs.OutcomeSets.{InOutcomeSet, pair_of}
use Rattle.cn_choice.specs.declared.team.Team.{Team}
use Rattle.cn_choice.specs.declared.team.Team.TheVariants.{A, B}
use Rattle.cn_choice.proofs.ListLemmas.DrawnPlaces.{drawn_apart, drawn_at, drawn_inside}
use Rattle.cn_choice.proofs.ChoiceLemmas.Embeddings.{IsWitness-embeds}
use Rattle.cn_choice.proofs.ChoiceLemmas.Inverses.{embeds_back, first_place, places}
use Rattle.cn_choice.proofs.ListLemmas.Members.{IsIn, IsIn-from_Contains, IsIn-map}
use Rattle.cn_choice.proofs.ListLemmas.NonDecreasingLists.{is_non_decreasing}
use Rattle.cn_choice.proofs.ListLemmas.SortedTeams.{Drawn, drawn_from, first_in_order, first_team, members, members_drawn, placed, placed_is, second_in_order, second_team}

firsts : (os : List ℕ) (ms : List Team) → length os ≡ length ms → map (λ (p : ℕ × Team). p.0) (zip os ms) ≡ os
firsts [] ms e = refl
firsts (o ∷ os) [] e = absurd (omega (arith, e))
firsts (o ∷ os) (m ∷ ms) e = ap (λ l. o ∷ l) (firsts os ms (omega (arith, e)))

seconds : (os : List ℕ) (ms : List Team) → length os ≡ length ms → map (λ (p : ℕ × Team). p.1) (zip os ms) ≡ ms
seconds [] [] e = refl
seconds [] (m ∷ ms) e = absurd (omega (arith, e))
seconds (o ∷ os) [] e = absurd (omega (arith, e))
seconds (o ∷ os) (m ∷ ms) e = ap (λ l. m ∷ l) (seconds os ms (omega (arith, e)))

of_one : (m : Team) (xs : List ℕ)
    → (map (λ (p : ℕ × Team). p.0) (map (λ o. let q : ℕ × Team = (o, m) in q) xs) ≡ xs) × (map (λ (p : ℕ × Team). p.1) (map (λ o. let q : ℕ × Team = (o, m) in q) xs) ≡ replicate (length xs) m)
of_one m [] = (refl, refl)
of_one m (x ∷ xs) = let r = of_one m xs in (ap (λ l. x ∷ l) r.0, ap (λ l. m ∷ l) r.1)

member_operations : (xs ys : List ℕ) → map (λ (p : ℕ × Team). p.0) (members xs ys) ≡ xs ++ ys
member_operations xs ys = map-append (λ (p : ℕ × Team). p.0) (map (λ o. let q : ℕ × Team = (o, A) in q) xs) (map (λ o. let q : ℕ × Team = (o, B) in q) ys) ∙ rw ((of_one A xs).0, (of_one B ys).0) refl

member_teams : (xs ys : List ℕ) → map (λ (p : ℕ × Team). p.1) (members xs ys) ≡ replicate (length xs) A ++ replicate (length ys) B
member_teams xs ys = map-append (λ (p : ℕ × Team). p.1) (map (λ o. let q : ℕ × Team = (o, A) in q) xs) (map (λ o. let q : ℕ × Team = (o, B) in q) ys) ∙ rw ((of_one A xs).1, (of_one B ys).1) refl

-- the teams of a choice, each in the order of its operations
abbrev pub teams_of : RawChoice → Choice
teams_of c = record { state = c.state; a = first_team c.operations c.marks; b = second_team c.operations c.marks }

-- the process of the choice that each member is
abbrev pub place_of_member : (c : RawChoice) → length c.operations ≡ length c.marks → ℕ → ℕ
place_of_member c e = drawn_from (zip c.operations c.marks) (members (first_team c.operations c.marks) (second_team c.operations c.marks)) (members_drawn c.operations c.marks e)

pub teams_embed : (c : RawChoice) (e : length c.operations ≡ length c.marks) → Embeds (place_of_member c e) (raw_choice_of (teams_of c)) c
teams_embed c e =
    let xs : List ℕ = first_team c.operations c.marks in
    let ys : List ℕ = second_team c.operations c.marks in
    let h : Drawn (zip c.operations c.marks) (members xs ys) = members_drawn c.operations c.marks e in
    let f : ℕ → ℕ = place_of_member c e in
    let long : length (members xs ys) ≡ length (xs ++ ys) = sym (length-map (members xs ys) (λ (p : ℕ × Team). p.0)) ∙ ap length (member_operations xs ys) in
    let zipped : length (zip c.operations c.marks) ≡ length c.operations = sym (length-map (zip c.operations c.marks) (λ (p : ℕ × Team). p.0)) ∙ ap length (firsts c.operations c.marks e) in
    let operation_at : (i : ℕ) → i < length (xs ++ ys) → slice_get (xs ++ ys) i ≡ slice_get c.operations (f i) = λ i l.
    ap (λ (zs : List ℕ). slice_get zs i) (sym (member_operations xs ys))
    ∙ (slice_get-map (λ (p : ℕ × Team). p.0) (members xs ys) i
    ∙ (ap (option_map (λ (p : ℕ × Team). p.0)) (drawn_at (zip c.operations c.marks) (members xs ys) h i (omega (arith, l, long)))
    ∙ (sym (slice_get-map (λ (p : ℕ × Team). p.0) (zip c.operations c.marks) (f i))
    ∙ ap (λ (zs : List ℕ). slice_get zs (f i)) (firsts c.operations c.marks e)))) in
    record {
      same_state = refl;
      inside = λ i l. omega (arith, zipped, drawn_inside (zip c.operations c.marks) (members xs ys) h i (omega (arith, l, long)));
      apart = λ i j l u g. drawn_apart (zip c.operations c.marks) (members xs ys) h i j (omega (arith, l, long)) (omega (arith, u, long)) g;
      operation = λ i l. sym (unwrap_or-slice_get (xs ++ ys) i 0) ∙ (ap (λ (o : Option ℕ). unwrap_or o 0) (operation_at i l) ∙ unwrap_or-slice_get c.operations (f i) 0);
      team = λ i l.
          ap (λ (zs : List Team). slice_get zs i) (sym (member_teams xs ys))
          ∙ (slice_get-map (λ (p : ℕ × Team). p.1) (members xs ys) i
          ∙ (ap (option_map (λ (p : ℕ × Team). p.1)) (drawn_at (zip c.operations c.marks) (members xs ys) h i (omega (arith, l, long)))
          ∙ (sym (slice_get-map (λ (p : ℕ × Team). p.1) (zip c.operations c.marks) (f i))
          ∙ ap (λ (zs : List Team). slice_get zs (f i)) (seconds c.operations c.marks e))));
    }

-- ---- the teams exchanged

other_twice : (m : Team) → other (other m) ≡ m
other_twice A = refl
other_twice B = refl

pub others_twice : (ms : List Team) → map other (map other ms) ≡ ms
others_twice [] = refl
others_twice (m ∷ ms) = rw (other_twice m, others_twice ms) refl

result_exchanged : (t : TypeTable) (c : RawChoice) (team : Team) (j : ℕ) (pair : ℕ × ℕ) → InOutcomeSet t c team j pair → InOutcomeSet t (with_other_teams c) (other team) j pair
unfolding pair_of
result_exchanged t c team j pair o =
    (o.0, o.1, (o.2.0, o.2.1, slice_get-map other c.marks o.2.0 ∙ ap (option_map other) o.2.2), o.3)

pub witness_exchanged : (t : TypeTable) (c : RawChoice) → IsWitness t (with_other_teams c) → IsWitness t c
witness_exchanged t c w j pair a b = w j pair (result_exchanged t c B j pair b) (result_exchanged t c A j pair a)

pub witness_to_exchanged : (t : TypeTable) (c : RawChoice) → IsWitness t c → IsWitness t (with_other_teams c)
witness_to_exchanged t c w =
    witness_exchanged t (with_other_teams c) (subst (λ (ms : List Team). IsWitness t (record { state = c.state; operations = c.operations; marks = ms })) (sym (others_twice c.marks)) w)

-- ---- the law

first_exchanged : (os : List ℕ) (ms : List Team) → first_team os (map other ms) ≡ second_team os ms
first_exchanged [] ms = refl
first_exchanged (o ∷ os) [] = refl
first_exchanged (o ∷ os) (A ∷ ms) = first_exchanged os ms
first_exchanged (o ∷ os) (B ∷ ms) = ap (placed o) (first_exchanged os ms)

second_exchanged : (os : List ℕ) (ms : List Team) → second_team os (map other ms) ≡ first_team os ms
second_exchanged [] ms = refl
second_exchanged (o ∷ os) [] = refl
second_exchanged (o ∷ os) (A ∷ ms) = ap (placed o) (second_exchanged os ms)
second_exchanged (o ∷ os) (B ∷ ms) = second_exchanged os ms

length_placed : (x : ℕ) (xs : List ℕ) → length (placed x xs) ≡ suc (length xs)
length_placed x xs = let p = placed_is x xs in omega (arith, ap length p.is, ap length p.was, length-append p.before (x ∷ p.after), length-append p.before p.after)

someone_first : (os : List ℕ) (ms : List Team) → length os ≡ length ms → IsIn A ms → 1 ≤ length (first_team os ms)
someone_first [] [] e h = absurd h
someone_first [] (m ∷ ms) e h = absurd (omega (arith, e))
someone_first (o ∷ os) [] e h = absurd h
someone_first (o ∷ os) (A ∷ ms) e h = omega (arith, length_placed o (first_team os ms))
someone_first (o ∷ os) (B ∷ ms) e h = elim h [ inl g ↦ absurd (cc g) | inr i ↦ someone_first os ms (omega (arith, e)) i ]

-- d is a canonical choice with the processes of c under other numbers, perhaps with the teams exchanged
pub record Covers (t : TypeTable) (d : Choice) (c : RawChoice) : Type 0 where
  pub canonical : IsCanonical d
  pub renumbered : ((f : ℕ → ℕ) × Embeds f (raw_choice_of d) c) ⊎ ((f : ℕ → ℕ) × Embeds f (raw_choice_of d) (with_other_teams c))
  pub long : length (d.a ++ d.b) ≡ length c.operations
  pub same : IsWitness t c ↔ IsWitness t (raw_choice_of d)

-- the first of two lists does not come after the second
abbrev pub First : List ℕ → List ℕ → Type 0
First xs ys = (length xs ≤ length ys) × (length xs ≡ length ys → slice_cmp nat_cmp xs ys ≢ Greater)

reversed : (o p : Ordering) → p ≡ ordering_reverse o → (o ≢ Greater) ⊎ (p ≢ Greater)
reversed Less p e = inl (λ h. cc h)
reversed Equal p e = inl (λ h. cc h)
reversed Greater p e = inr (λ h. cc (e, h))

which : (xs ys : List ℕ) → First xs ys ⊎ First ys xs
which xs ys =
    elim (cases_order (length xs) (length ys)) [
      | inl e ↦ elim (reversed (slice_cmp nat_cmp xs ys) (slice_cmp nat_cmp ys xs) (nat_list_cmp_total.antisymm ys xs)) [
        | inl n ↦ inl (omega (arith, e), λ g. n)
        | inr n ↦ inr (omega (arith, e), λ g. n)
      ]
      | inr r ↦ elim r [
        | inl l ↦ inl (omega (arith, l), λ e. absurd (omega (arith, l, e)))
        | inr g ↦ inr (omega (arith, g), λ e. absurd (omega (arith, g, e)))
      ]
    ]

both_long : (os : List ℕ) (ms : List Team) → length os ≡ length ms → length (first_team os ms ++ second_team os ms) ≡ length os
both_long os ms e = length-append (first_team os ms) (second_team os ms) ∙ go os ms e
  where
    go : (os : List ℕ) (ms : List Team) → length os ≡ length ms → length (first_team os ms) + length (second_team os ms) ≡ length os
    go [] ms e = omega arith
    go (o ∷ os) [] e = absurd (omega (arith, e))
    go (o ∷ os) (A ∷ ms) e = omega (arith, length_placed o (first_team os ms), go os ms (omega (arith, e)))
    go (o ∷ os) (B ∷ ms) e = omega (arith, length_placed o (second_team os ms), go os ms (omega (arith, e)))

-- if the first team comes first, the choice with each team in order is canonical
sorted_teams : (t : TypeTable) (c : RawChoice) (e : length c.operations ≡ length c.marks) → IsIn A c.marks → IsIn B c.marks → First (first_team c.operations c.marks) (second_team c.operations c.marks)
    → IsCanonical (teams_of c) × (IsWitness t c ↔ IsWitness t (raw_choice_of (teams_of c)))
sorted_teams t c e ia ib h =
    let f = place_of_member c e in
    let embeds = teams_embed c e in
    let long = both_long c.operations c.marks e in (
      record {
        a_in_order = is_non_decreasing (first_team c.operations c.marks) (first_in_order c.operations c.marks);
        b_in_order = is_non_decreasing (second_team c.operations c.marks) (second_in_order c.operations c.marks);
        someone_in_a = someone_first c.operations c.marks e ia;
        a_not_longer = h.0;
        a_not_above = h.1;
      },
      (
        λ w. IsWitness-embeds f (raw_choice_of (teams_of c)) c embeds t w,
        λ w. IsWitness-embeds (λ k. first_place k (places f (length (first_team c.operations c.marks ++ second_team c.operations c.marks)))) c (raw_choice_of (teams_of c))
            (embeds_back f (raw_choice_of (teams_of c)) c long embeds) t w,
      ),
    )

pub covered : (t : TypeTable) (n : ℕ) (c : RawChoice) → IsRawChoice t n c → (d : Choice) × Covers t d c
covered t n c is =
    let e : length c.operations ≡ length c.marks = is.one_operation_each ∙ sym is.one_team_each in
    let ia = IsIn-from_Contains A c.marks is.someone_in_a in
    let ib = IsIn-from_Contains B c.marks is.someone_in_b in
    let e' : length c.operations ≡ length (map other c.marks) = e ∙ sym (length-map c.marks other) in
    elim (which (first_team c.operations c.marks) (second_team c.operations c.marks)) [
      | inl h ↦
          (let r = sorted_teams t c e ia ib h in
          (teams_of c, record { canonical = r.0; renumbered = inl (place_of_member c e, teams_embed c e); long = both_long c.operations c.marks e; same = r.1 }))
      | inr h ↦
          (let r = sorted_teams t (with_other_teams c) e' (IsIn-map other B c.marks ib) (IsIn-map other A c.marks ia)
          (rw (first_exchanged c.operations c.marks, second_exchanged c.operations c.marks) h) in (
            teams_of (with_other_teams c),
            record {
              canonical = r.0;
              renumbered = inr (place_of_member (with_other_teams c) e', teams_embed (with_other_teams c) e');
              long = both_long c.operations (map other c.marks) e';
              same = (λ w. r.1.0 (witness_to_exchanged t c w), λ w. witness_exchanged t c (r.1.1 w));
            },
          ))
    ]
