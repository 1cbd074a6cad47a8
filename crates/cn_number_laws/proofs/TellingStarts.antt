-- A stock that tells has fewer operations than states are reached from its start state, where no two
-- operations last from there.
use Rattle.std.proofs.Common.{◌≡◌, ◌≢◌, ℕ, zero, suc, ◌+◌, ◌<◌, ◌≤◌, ◌⊎◌, inl, inr, List, [], ◌∷◌, ◌++◌, length, refl, sym, ap, ◌∙◌, subst, arith, Bool, true, false, not, true≢false, Contains}
use Rattle.std.specs.Prelude.{replicate}
use Rattle.cn_table.specs.TypeTable.{TypeTable, transition}
use Rattle.cn_table.specs.Run.{state_after}
use Rattle.cn_outcomes.proofs.LastProcess.{state_last}
use Rattle.cn_stocks.specs.Lasting.{ManyFirst}
use Rattle.cn_stocks.specs.Words.{EndsIn, IsKnown, IsWithin, times}
use Rattle.cn_stocks.proofs.LastingLemmas.Counts.{less_or_not}
use Rattle.cn_stocks.proofs.LastingLemmas.Forms.{state_join}
use Rattle.cn_stocks.proofs.Times.{one, one_else, times_append, times_at, times_cons, times_last, times_none}
use Rattle.cn_telling.specs.Telling.{Tells}
use Rattle.cn_number_laws.specs.LastingStarts.{NoneLastFrom}
use Rattle.cn_number_laws.specs.ReachedStates.{HasReached}
use Rattle.cn_number_laws.proofs.Lists.{Without, each_more, each_of, few, new_distinct, none_distinct, one_le, without}
use Rattle.cn_number_laws.proofs.Settling.{Found, Settled, settle}

bool_case : (a b : Bool) → (a ≡ b) ⊎ (a ≡ not b)
bool_case true true = inl refl
bool_case true false = inr refl
bool_case false true = inr refl
bool_case false false = inl refl

not_same : (b : Bool) → b ≡ not b → ⊥
not_same true e = true≢false e
not_same false e = true≢false (sym e)

-- a word that begins in the part leads to the state, and leaves the pool in the stock
record Reached (t : TypeTable) (start : ℕ) (stock : List ℕ) (chosen : ℕ → Bool) (part : Bool) (pool : List ℕ) (state : ℕ) : Type 0 where
  first : ℕ
  rest : List ℕ
  part_is : chosen first ≡ part
  within : (o : ℕ) → times o (first ∷ rest) + times o pool ≤ times o stock
  ends : state_after t start (first ∷ rest) ≡ state

module _ (t : TypeTable) (start : ℕ) (stock : List ℕ) (s : Tells t start stock) where
  abbrev next : ℕ → ℕ → ℕ
  next z q = (transition t z q).1

  abbrev To : Bool → List ℕ → ℕ → Type 0
  To part pool q = Reached t start stock s.chosen part pool q

  after : (part : Bool) (pool less : List ℕ) (q z : ℕ) → ((o : ℕ) → one o z + times o less ≤ times o pool) → To part pool q → To part less (next z q)
  after part pool less q z room h = record {
    first = h.first;
    rest = h.rest ++ z ∷ [];
    part_is = h.part_is;
    within = λ o. omega (arith, h.within o, room o, times_last o z (h.first ∷ h.rest));
    ends = state_last t start (h.first ∷ h.rest) z ∙ ap (next z) h.ends;
  }

  fewer : (part : Bool) (pool less : List ℕ) (q : ℕ) → IsWithin pool less → To part pool q → To part less q
  fewer part pool less q room h = record {
    first = h.first;
    rest = h.rest;
    part_is = h.part_is;
    within = λ o. omega (arith, h.within o, room o);
    ends = h.ends;
  }

  begin : (part : Bool) (z : ℕ) (pool : List ℕ) → s.chosen z ≡ part → ((o : ℕ) → one o z + times o pool ≤ times o stock) → To part pool (next z start)
  begin part z pool e room = record {
    first = z;
    rest = [];
    part_is = e;
    within = λ o. omega (arith, room o, times_cons o z [], times_none o);
    ends = refl;
  }

  ends_in : (part : Bool) (pool : List ℕ) (q : ℕ) (h : To part pool q) → EndsIn t start stock h.first q
  ends_in part pool q h = (h.rest, (λ o. omega (arith, h.within o)), h.ends)

  -- no state is reached from both parts
  collide : (part : Bool) (a b : List ℕ) (q : ℕ) → To part a q → To (not part) b q → ⊥
  collide true a b q h k = s.apart h.first k.first q h.part_is k.part_is (ends_in true a q h) (ends_in false b q k)
  collide false a b q h k = s.apart k.first h.first q k.part_is h.part_is (ends_in true b q k) (ends_in false a q h)

  -- nor does the start state come back while an operation of the other part is left
  no_return : (part : Bool) (pool : List ℕ) (z : ℕ) → s.chosen z ≡ part → 1 ≤ times z pool → To (not part) pool start → ⊥
  no_return part pool z e some h =
      collide part [] [] (next z start)
      (begin part z [] e (λ o. omega (arith, one_le z pool some o, h.within o, times_none o)))
      (after (not part) pool [] start z (λ o. omega (arith, one_le z pool some o, times_none o)) h)

  -- ---- a settled pool: its operations stay in their part

  module _ (aside : Bool → List ℕ) where
    abbrev Owned : List ℕ → ℕ → Type 0
    Owned pool q = (b : Bool) × To b (aside b ++ pool) q

    less_aside : (b : Bool) (pool less : List ℕ) → IsWithin pool less → IsWithin (aside b ++ pool) (aside b ++ less)
    less_aside b pool less w o = omega (arith, w o, times_append o (aside b) pool, times_append o (aside b) less)

    owned_more : (pool less : List ℕ) (q : ℕ) → IsWithin pool less → Owned pool q → Owned less q
    owned_more pool less q w h = (h.0, fewer h.0 (aside h.0 ++ pool) (aside h.0 ++ less) q (less_aside h.0 pool less w) h.1)

    module _ (pool : List ℕ) (settled : Settled Owned owned_more pool) (z : ℕ) (some : 1 ≤ times z pool) where
      less : (less : List ℕ) × Without pool z less
      less = without z pool some

      room : (b : Bool) (o : ℕ) → one o z + times o (aside b ++ less.0) ≤ times o (aside b ++ pool)
      room b o = omega (arith, less.1.same o, times_cons o z less.0, times_append o (aside b) pool, times_append o (aside b) less.0)

      own_part : (b : Bool) (q : ℕ) → To b (aside b ++ less.0) q → ¬ To b (aside b ++ pool) q → ⊥
      own_part b q h deny = settled z less.0 less.1 q (b, h) (λ w. by_owner w.0 w.1 (bool_case w.0 b))
        where
          by_owner : (a : Bool) → To a (aside a ++ pool) q → (a ≡ b) ⊎ (a ≡ not b) → ⊥
          by_owner a w (inl e) = deny (subst (λ (x : Bool). Reached t start stock s.chosen x (aside x ++ pool) q) e w)
          by_owner a w (inr e) = collide b (aside b ++ less.0) (aside (not b) ++ pool) q h (subst (λ (x : Bool). Reached t start stock s.chosen x (aside x ++ pool) q) e w)

      stay : (b : Bool) (q : ℕ) → To b (aside b ++ pool) q → ¬ To b (aside b ++ pool) (next z q) → ⊥
      stay b q h deny = own_part b (next z q) (after b (aside b ++ pool) (aside b ++ less.0) q z (room b) h) deny

      stay_first : (b : Bool) → s.chosen z ≡ b → IsWithin stock (aside b ++ pool) → ¬ To b (aside b ++ pool) (next z start) → ⊥
      stay_first b e w deny = own_part b (next z start) (begin b z (aside b ++ less.0) e (λ o. omega (arith, room b o, w o))) deny

  repeated : (z : ℕ) (P : ℕ → Type 0) → ((q : ℕ) → P q → ¬ P (next z q) → ⊥) → (k q : ℕ) → P q → ¬ P (state_after t q (replicate k z)) → ⊥
  repeated z P step zero q h deny = deny h
  repeated z P step (suc k) q h deny = step q h (λ g. repeated z P step k (next z q) g deny)

  -- ---- an operation of each part is put aside

  abbrev star : Bool → ℕ
  star true = s.inside.0
  star false = s.outside.0

  star_in : (b : Bool) → 1 ≤ times (star b) stock
  star_in true = s.inside.1
  star_in false = s.outside.1

  star_is : (b : Bool) → s.chosen (star b) ≡ b
  star_is true = s.inside.2
  star_is false = s.outside.2

  apart_ops : (z : ℕ) (b : Bool) → s.chosen z ≡ b → z ≢ star (not b)
  apart_ops z b e same = not_same b (sym e ∙ (ap s.chosen same ∙ star_is (not b)))

  abbrev other : Bool → List ℕ
  other b = star (not b) ∷ []

  abbrev nothing : Bool → List ℕ
  nothing b = []

  -- the pool and the two that are put aside are in the stock
  abbrev HasRoom : List ℕ → Type 0
  HasRoom pool = (b : Bool) (o : ℕ) → one o (star b) + times o (other b ++ pool) ≤ times o stock

  module _ (none : NoneLastFrom t start) (known : IsKnown (length t.operations) stock) (pool : List ℕ) (settled : Settled (Owned other) (owned_more other) pool) (room : HasRoom pool) where
    -- where an operation of a smaller pool stays in its part, it lasts with the one of the other part that is put aside
    module _ (less : List ℕ) (within : IsWithin pool less) (z : ℕ) (some : 1 ≤ times z less) (stays : (b : Bool) (q : ℕ) → To b less q → ¬ To b less (next z q) → ⊥) where
      abbrev part : Bool
      part = s.chosen z

      abbrev single : ℕ
      single = star (not part)

      some_first : 1 ≤ times z pool
      some_first = omega (arith, some, within z)

      in_stock : (b : Bool) → IsWithin stock (other b ++ pool)
      in_stock b o = omega (arith, room b o)

      single_left : IsWithin (other part ++ pool) (single ∷ less)
      single_left o = omega (arith, within o, times_cons o single pool, times_cons o single less)

      from_single : (k : ℕ) → ¬ To (not part) less (state_after t start (single ∷ replicate k z)) → ⊥
      from_single k deny =
          repeated z (To (not part) less) (stays (not part)) k (next single start)
          (begin (not part) single less (star_is (not part)) (λ o. omega (arith, room (not part) o, times_cons o (star (not (not part))) pool, within o))) deny

      alone : (i : ℕ) → ¬ To part (other part ++ pool) (state_after t start (z ∷ replicate i z)) → ⊥
      alone i deny = stay_first other pool settled z some_first part refl (in_stock part)
          (λ h. repeated z (To part (other part ++ pool)) (stay other pool settled z some_first part) i (next z start) h deny)

      meets_alone : (q k : ℕ) → state_after t start (replicate k z) ≡ q → To (not part) less q → ⊥
      meets_alone q zero e h = no_return part less z refl some (subst (λ (x : ℕ). Reached t start stock s.chosen (not part) less x) (sym e) h)
      meets_alone q (suc i) e h = alone i (λ a. collide part (other part ++ pool) less q (subst (λ (x : ℕ). Reached t start stock s.chosen part (other part ++ pool) x) e a) h)

      meets_mixed : (q i k : ℕ) → state_after t start (z ∷ replicate i z ++ single ∷ replicate k z) ≡ q → To (not part) less q → ⊥
      meets_mixed q i k e h = alone i (λ a.
          let r : ℕ = state_after t start (z ∷ replicate i z) in
          let led : To part less (next single r) = after part (other part ++ pool) less r single (λ o. omega (arith, single_left o, times_cons o single less)) a in
          let ends : state_after t (next single r) (replicate k z) ≡ q = sym (state_join t start (z ∷ replicate i z) (single ∷ replicate k z)) ∙ e in
          repeated z (To part less) (stays part) k (next single r) led (λ m. collide part less less q (subst (λ (x : ℕ). Reached t start stock s.chosen part less x) ends m) h))

      by_first : (q : ℕ) → ManyFirst t start z single q → To (not part) less q → ⊥
      by_first q (inl r) h = meets_alone q r.0 r.1 h
      by_first q (inr r) h = meets_mixed q r.0 r.1 r.2 h

      z_known : z < length t.operations
      z_known = known z (omega (arith, some_first, in_stock true z, times_cons z (star false) pool))

      ended : ⊥
      ended =
          let m = none z z_known single (known single (star_in (not part))) (apart_ops z part refl) in
          from_single m.2.0 (λ h. by_first m.0 m.1 (subst (λ (x : ℕ). Reached t start stock s.chosen (not part) less x) m.2.1 h))

    -- ---- two pools, one after the other

    module _ (states reached : List ℕ) (has : HasReached t start reached) (found : Found (Owned other) (owned_more other) pool states) (many : length reached ≤ length pool + length states) where
      led : (b : Bool) (left : List ℕ) (q : ℕ) → To b left q → Contains reached q
      led b left q h = has q (record {
        operations = h.first ∷ h.rest;
        known = each_of (λ o. o < length t.operations) (h.first ∷ h.rest) (λ o l. known o (omega (arith, l, h.within o)));
        last = h.ends;
      })

      some_left : (left : List ℕ) → 1 ≤ length left → (z : ℕ) × (1 ≤ times z left)
      some_left [] l = absurd (omega arith)
      some_left (x ∷ xs) l = (x, times_at x xs)

      fresh : ¬ Owned other pool start
      fresh h = elim (bool_case h.0 true) [
        | inl e ↦ no_return false (star false ∷ pool) (star false) (star_is false) (times_at (star false) pool) (subst (λ (x : Bool). Reached t start stock s.chosen x (other x ++ pool) start) e h.1)
        | inr e ↦ no_return true (star true ∷ pool) (star true) (star_is true) (times_at (star true) pool) (subst (λ (x : Bool). Reached t start stock s.chosen x (other x ++ pool) start) e h.1)
      ]

      -- the start state is not among these
      start_too : length states + 1 ≤ length reached
      start_too =
          let most = few (start ∷ states) reached (new_distinct (Owned other pool) start states fresh found.kinds found.distinct)
          (has start (record { operations = []; known = tt; last = refl }), each_more (Owned other pool) (λ q. Contains reached q) states (λ q h. led h.0 (other h.0 ++ pool) q h.1) found.kinds) in
          omega (arith, most)

      less_other : (b : Bool) → IsWithin (other b ++ pool) pool
      less_other b o = omega (arith, times_cons o (star (not b)) pool)

      free : (q : ℕ) → Owned other pool q → Owned nothing pool q
      free q h = (h.0, fewer h.0 (other h.0 ++ pool) pool q (less_other h.0) h.1)

      -- no state is new without the operations that are put aside
      nothing_new : (q : ℕ) → Owned nothing pool q → ¬ Owned other pool q → ⊥
      nothing_new q h new =
          settle (Owned nothing) (owned_more nothing) (length pool) pool (q ∷ states) refl (record {
            distinct = new_distinct (Owned other pool) q states new found.kinds found.distinct;
            kinds = (h, each_more (Owned other pool) (Owned nothing pool) states free found.kinds);
          })
          (λ less more f w c st.
          let most = few more reached f.distinct (each_more (Owned nothing less) (λ q. Contains reached q) more (λ q h. led h.0 less q h.1) f.kinds) in
          let z = some_left less (omega (arith, most, c, many)) in
          ended less w z.0 z.1 (stay nothing less st z.0 z.1))

      too_many : ⊥
      too_many =
          let z = some_left pool (omega (arith, start_too, many)) in
          ended pool (λ o. omega arith) z.0 z.1 (λ b q h deny. nothing_new q (b, h) (λ w. by_owner z.0 z.1 b q h deny w.0 w.1 (bool_case w.0 b)))
        where
          by_owner : (z : ℕ) → 1 ≤ times z pool → (b : Bool) (q : ℕ) → To b pool q → ¬ To b pool (next z q) → (a : Bool) → To a (other a ++ pool) q → (a ≡ b) ⊎ (a ≡ not b) → ⊥
          by_owner z l b q h deny a w (inl e) =
              stay other pool settled z l b q (subst (λ (x : Bool). Reached t start stock s.chosen x (other x ++ pool) q) e w)
              (λ g. deny (fewer b (other b ++ pool) pool (next z q) (less_other b) g))
          by_owner z l b q h deny a w (inr e) = collide b pool (other (not b) ++ pool) q h (subst (λ (x : Bool). Reached t start stock s.chosen x (other x ++ pool) q) e w)

  module _ (none : NoneLastFrom t start) (known : IsKnown (length t.operations) stock) (reached : List ℕ) (has : HasReached t start reached) where
    pub fewer_than_reached : length stock < length reached
    fewer_than_reached = elim (less_or_not (length stock) (length reached)) [
      | inl l ↦ l
      | inr many ↦ absurd (from_stars many)
    ]
      where
        first_left : (rest : List ℕ) × Without stock (star true) rest
        first_left = without (star true) stock (star_in true)

        second_in : 1 ≤ times (star false) first_left.0
        second_in = omega (arith, star_in false, first_left.1.same (star false), times_cons (star false) (star true) first_left.0, one_else (star false) (star true) (apart_ops (star true) true (star_is true)))

        both_left : (rest : List ℕ) × Without first_left.0 (star false) rest
        both_left = without (star false) first_left.0 second_in

        room : HasRoom both_left.0
        room true o = omega (arith, first_left.1.same o, both_left.1.same o, times_cons o (star true) first_left.0, times_cons o (star false) both_left.0)
        room false o = omega (arith, first_left.1.same o, both_left.1.same o, times_cons o (star true) first_left.0, times_cons o (star false) both_left.0, times_cons o (star true) both_left.0)

        root : (b : Bool) → To b (other b ++ both_left.0) (next (star b) start)
        root b = begin b (star b) (other b ++ both_left.0) (star_is b) (room b)

        roots : Found (Owned other) (owned_more other) both_left.0 (next (star true) start ∷ next (star false) start ∷ [])
        roots = record {
          distinct = new_distinct (λ q. To false (other false ++ both_left.0) q) (next (star true) start) (next (star false) start ∷ [])
              (λ h. collide true (other true ++ both_left.0) (other false ++ both_left.0) (next (star true) start) (root true) h)
              (root false, tt) (new_distinct (λ q. ⊥) (next (star false) start) [] (λ h. h) tt none_distinct);
          kinds = ((true, root true), ((false, root false), tt));
        }

        from_stars : length reached ≤ length stock → ⊥
        from_stars many =
            settle (Owned other) (owned_more other) (length both_left.0) both_left.0 (next (star true) start ∷ next (star false) start ∷ []) refl roots
            (λ pool states f w c st.
            too_many none known pool st (λ b o. omega (arith, room b o, less_aside other b both_left.0 pool w o)) states reached has f (omega (arith, many, c, first_left.1.long, both_left.1.long)))
