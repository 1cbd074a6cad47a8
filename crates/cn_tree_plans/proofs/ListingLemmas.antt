-- Lists of what the teams of a node show, entry by entry.
use Rattle.std.proofs.Common.{ℕ, ◌≡◌, ◌⊎◌, inl, inr, ◌+◌, ◌<◌, List, [], ◌∷◌, ◌++◌, length, slice_index, slice_index_or, Contains, refl, sym, ap, ◌∙◌, subst, arith, get_or}
use Rattle.std.proofs.lemmas.List.Elements.{Contains-append_left, Contains-get_or, Contains-push, Contains-push_cases}
use Rattle.std.proofs.lemmas.List.Quantifiers.{all_pairs_push}
use Rattle.cn_table.specs.TypeTable.{TypeTable}
use Rattle.cn_choice.specs.Canonical.{raw_choice_of}
use Rattle.cn_choice.specs.declared.team.Team.TheVariants.{A}
use Rattle.cn_meetings.specs.Sights.{sight_of}
use Rattle.cn_outcomes.specs.PairSets.{Has}
use Rattle.cn_proto.proofs.Reachable.{pair_known}
use Rattle.cn_tree_plans.specs.Listing.{AreEntries, AreListed, AreShown, ComesBefore, IsNodeMeeting, IsOf, SomeMeet, SomeShowSame, TeamShows, start_of}
use Rattle.cn_tree_plans.specs.Plan.{JudgedBefore, NodeMeeting}
use Rattle.cn_tree_plans.specs.Sights.{seen_count}
use Rattle.cn_tree_plans.specs.Turned.{role_of, turned}
use Rattle.cn_tree_plans.specs.declared.judged.Judged.{Judged}
use Rattle.cn_tree_plans.proofs.Known.{seen_known}

abbrev pub entry : ℕ → ℕ → ℕ → Judged
entry r q g = record { response = record { 0 = r }; saw = q; team = g }

same_entry : (a b c r q g : ℕ) → a ≡ r → b ≡ q → c ≡ g → entry a b c ≡ entry r q g
same_entry a b c r q g e f h = ap (λ (x : ℕ). entry x b c) e ∙ (ap (λ (x : ℕ). entry r x c) f ∙ ap (entry r q) h)

pub either : (a b : ℕ) → (a < b) ⊎ (a ≡ b) ⊎ (b < a)
either a b = grind arith

-- ---- entry by entry
module _ (sets : List (List ℕ)) (limit r q : ℕ) (judged : List Judged) (listed : AreListed sets limit r q judged) where
  before_next : (x : Judged) → ComesBefore x r (q + 1) → ComesBefore x r q ⊎ ((x.response.0 ≡ r) × (x.saw ≡ q))
  before_next x (inl h) = inl (inl h)
  before_next x (inr h) = elim (cases x.saw q (omega (arith, h.1))) [ inl l ↦ inl (inr (h.0, l)) | inr e ↦ inr (h.0, e) ]
    where
      cases : (y q : ℕ) → y < q + 1 → (y < q) ⊎ (y ≡ q)
      cases y q l = grind arith

  next_before : (x : Judged) → ComesBefore x r q → ComesBefore x r (q + 1)
  next_before x (inl h) = inl h
  next_before x (inr h) = inr (h.0, omega (arith, h.1))

  pub AreListed-without : ((g : ℕ) → g < length sets → ¬ Has (slice_index_or sets g []) r q) → AreListed sets limit r (q + 1) judged
  AreListed-without out = record {
    exact = λ x. (
      λ c. let h = (listed.exact x).0 c in (h.0, h.1, next_before x h.2),
      λ h. elim (before_next x h.2) [
        | inl b ↦ (listed.exact x).1 (h.0, h.1, b)
        | inr e ↦ absurd (out x.team h.0.0 (rw e.0 at (rw e.1 at h.0.1)))
      ],
    );
    in_order = listed.in_order;
  }

  pub AreListed-push : (g : ℕ) → g < length sets → Has (slice_index_or sets g []) r q → q < limit → ¬ SomeMeet sets → AreListed sets limit r (q + 1) (judged ++ entry r q g ∷ [])
  AreListed-push g lg has l apart = record {
    exact = λ x. (
      λ c. elim (Contains-push_cases judged (entry r q g) x c) [
        | inl before ↦ (let h = (listed.exact x).0 before in (h.0, h.1, next_before x h.2))
        | inr e ↦ subst (λ (y : Judged). IsOf sets y × (y.saw < limit) × ComesBefore y r (q + 1)) e ((lg, has), l, inr (refl, omega arith))
      ],
      λ h. elim (before_next x h.2) [
        | inl b ↦ Contains-append_left judged (entry r q g ∷ []) x ((listed.exact x).1 (h.0, h.1, b))
        | inr e ↦ subst (Contains (judged ++ entry r q g ∷ [])) (sym (same_entry x.response.0 x.saw x.team r q g e.0 e.1 (one x.team h.0.0 (rw e.0 at (rw e.1 at h.0.1))))) (Contains-push judged (entry r q g))
      ],
    );
    in_order = all_pairs_push JudgedBefore judged (entry r q g) listed.in_order (λ k d l. ((listed.exact (get_or judged k d)).0 (Contains-get_or judged k d l)).2);
  }
    where
      one : (h : ℕ) → h < length sets → Has (slice_index_or sets h []) r q → h ≡ g
      one h lh too = elim (either h g) [
        | inl l ↦ absurd (apart (h, g, l, lg, (r, q, too, has)))
        | inr m ↦ elim m [ inl e ↦ e | inr l ↦ absurd (apart (g, h, l, lh, (r, q, has, too))) ]
      ]

pub AreListed-end : (sets : List (List ℕ)) (limit r q : ℕ) (judged : List Judged) → q ≡ limit → AreListed sets limit r q judged → AreListed sets limit (r + 1) 0 judged
AreListed-end sets limit r q judged e listed = record {
  exact = λ x. (
    λ c. let h = (listed.exact x).0 c in (h.0, h.1, up x h.2),
    λ h. (listed.exact x).1 (h.0, h.1, down x h.1 h.2),
  );
  in_order = listed.in_order;
}
  where
    up : (x : Judged) → ComesBefore x r q → ComesBefore x (r + 1) 0
    up x (inl h) = inl (omega (arith, h))
    up x (inr h) = inl (omega (arith, h.0))

    cases : (x r : ℕ) → x < r + 1 → (x < r) ⊎ (x ≡ r)
    cases x r l = grind arith

    down : (x : Judged) → x.saw < limit → ComesBefore x (r + 1) 0 → ComesBefore x r q
    down x l (inl h) = elim (cases x.response.0 r h) [ inl b ↦ inl b | inr s ↦ inr (s, omega arith) ]
    down x l (inr h) = absurd (omega (arith, h.1))

-- ---- all entries
module _ (t : TypeTable) (m : NodeMeeting) (sizes : List ℕ) (k : ℕ) (is : IsNodeMeeting t m) (sets : List (List ℕ)) (shown : AreShown t m sizes k (length sizes) sets) where
  shown_known : (g r saw : ℕ) → TeamShows t m sizes k g r saw → (r < length t.responses) × (saw < seen_count t (sight_of m.sight))
  shown_known g r saw h =
      let low : ℕ = start_of sizes g in
      let high : ℕ = start_of sizes g + slice_index sizes g in
      let known = pair_known t is.table (raw_choice_of (turned m low high)) A (role_of low high k) (r, h.0) is.start h.1 in
      (known.0, subst (λ (x : ℕ). x < seen_count t (sight_of m.sight)) h.2 (seen_known t is.table (sight_of m.sight) h.0 known.1))

  pub meets_shown : SomeMeet sets → SomeShowSame t m sizes k
  meets_shown h = record {
    team = h.0;
    other = h.1;
    response = h.4.0;
    saw = h.4.1;
    before = h.2;
    known = (let l = h.3 in omega (arith, shown.count));
    shows = (shown.exact h.0 h.4.0 h.4.1 (let a = h.2 in let b = h.3 in omega (arith, shown.count))).0 h.4.2;
    shows_too = (shown.exact h.1 h.4.0 h.4.1 (let b = h.3 in omega (arith, shown.count))).0 h.4.3;
  }

  pub shown_meets : SomeShowSame t m sizes k → SomeMeet sets
  shown_meets h = (
    h.team,
    h.other,
    h.before,
    (let l = h.known in omega (arith, shown.count)),
    (
      h.response,
      h.saw,
      (shown.exact h.team h.response h.saw (let a = h.before in let b = h.known in omega arith)).1 h.shows,
      (shown.exact h.other h.response h.saw h.known).1 h.shows_too,
    ),
  )

  pub entries_are : (responses limit : ℕ) (judged : List Judged) → responses ≡ length t.responses → limit ≡ seen_count t (sight_of m.sight) → ¬ SomeMeet sets → AreListed sets limit responses 0 judged → AreEntries t m sizes k judged
  entries_are responses limit judged er es apart listed = record {
    exact = λ x. (
      λ c. (let h = (listed.exact x).0 c in let l : x.team < length sizes = omega (arith, h.0.0, shown.count) in (l, (shown.exact x.team x.response.0 x.saw l).0 h.0.1)),
      λ h. (let known = shown_known x.team x.response.0 x.saw h.1 in
          (listed.exact x).1 ((omega (arith, h.0, shown.count), (shown.exact x.team x.response.0 x.saw h.0).1 h.1), omega (arith, known.1, es), inl (omega (arith, known.0, er)))),
    );
    in_order = listed.in_order;
    apart = λ h. apart (shown_meets h);
  }
