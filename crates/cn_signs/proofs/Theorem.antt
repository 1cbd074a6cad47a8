-- A choice has signs exactly if the responses that come in states of the side alone are signs.
use Rattle.std.proofs.Common.{◌≡◌, ◌≢◌, ℕ, ◌<◌, ◌⊎◌, ◌↔◌, inl, inr, List, length, refl, sym, ap, ◌∙◌, Bool, true, true≢false}
use Rattle.std.specs.Prelude.{IsBitSet, slice_index}
use Rattle.std.proofs.lemmas.Bool.{false_from_ne_true}
use Rattle.std.proofs.lemmas.List.Elements.{All-get_or}
use Rattle.cn_table.specs.TypeTable.{TypeTable, transition}
use Rattle.cn_choice.specs.Renumbering.{other}
use Rattle.cn_choice.specs.declared.team.Team.{Team}
use Rattle.cn_unread.specs.Signs.{AreSigns, Signs, StatesOf}
use Rattle.cn_unread.specs.Signs.Leads.{ByFurther}
use Rattle.cn_choice.specs.declared.team.Team.TheVariants.{A, B}
use Rattle.cn_signs.specs.SignChecks.{AllTell, AreSignRows, HasRanks, Shows}
use Rattle.cn_signs.specs.SignChoices.{HasSigns, IsKnownChoice, signs_with}
use Rattle.cn_signs.specs.StateSets.{AreStatesFor, InTeam, unsigned}
use Rattle.cn_signs.specs.declared.sign_choice.SignChoice.{SignChoice}
use Rattle.cn_signs.specs.declared.states.SignStates.{SignStates}
use Rattle.cn_signs.proofs.Sets.{has, has_exact, has_not}
use Rattle.cn_signs.proofs.Walks.{same_states}

-- further operations do not lead out of the states of a team
further_stays : (t : TypeTable) (w : Signs) (team : Team) (q i : ℕ) → i < length w.further → StatesOf t w team q → StatesOf t w team (transition t (slice_index w.further i) q).1
further_stays t w A q i l s = ByFurther q i l s
further_stays t w B q i l (inl s) = inl (ByFurther q i l s)
further_stays t w B q i l (inr s) = inr (s.0, s.1, ByFurther q i l s.2)

module _ (t : TypeTable) (c : SignChoice) (s : SignStates) (are : AreStatesFor t c s) where
  states_too : (sign : ℕ → ℕ → Bool) (rank : ℕ → ℕ) (height : ℕ) (team : Team) (q : ℕ) → InTeam s team q → StatesOf t (signs_with c sign rank height) team q
  states_too sign rank height team q h = same_states t (unsigned c) (signs_with c sign rank height) refl refl refl refl team q ((are team q).0 h)

  in_team : (sign : ℕ → ℕ → Bool) (rank : ℕ → ℕ) (height : ℕ) (team : Team) (q : ℕ) → StatesOf t (signs_with c sign rank height) team q → InTeam s team q
  in_team sign rank height team q h = (are team q).1 (same_states t (signs_with c sign rank height) (unsigned c) refl refl refl refl team q h)

  pub stays : (team : Team) (q i : ℕ) → i < length c.further.items → InTeam s team q → InTeam s team (transition t (slice_index c.further.items i) q).1
  stays team q i l h = (are team (transition t (slice_index c.further.items i) q).1).1 (further_stays t (unsigned c) team q i l ((are team q).0 h))

  module _ (known : IsKnownChoice t c) (rows : List ℕ) (exact : AreSignRows t s c.side rows) (own : ℕ) (same : (q : ℕ) → IsBitSet own q ↔ InTeam s c.side q) where
    abbrev op : ℕ → ℕ
    op i = slice_index c.further.items i

    abbrev got : ℕ → ℕ → ℕ
    got i q = (transition t (op i) q).0

    op_known : (i : ℕ) → i < length c.further.items → op i < length t.operations
    op_known i l = All-get_or (λ o. o < length t.operations) c.further.items i 0 l known.3

    -- ---- what is found is signs

    abbrev sign_by : ℕ → ℕ → Bool
    sign_by o r = has (slice_index rows o) r

    found : 0 < length c.further.items → AllTell t c.further.items rows own → HasRanks t c.further.items rows own → HasSigns t c
    found some tells ranks = (
      sign_by,
      ranks.rank,
      ranks.height,
      record {
        state_known = known.0;
        single_known = known.1;
        many_known = known.2;
        further_known = op_known;
        some = some;
        of_team = λ q i h l. has_not (slice_index rows (op i)) (got i q) (λ shown. ((exact (op i) (op_known i l) (got i q)).0 shown).1 (q, in_team sign_by ranks.rank ranks.height (other c.side) q h, refl));
        falls = λ q i h l unseen changes. ranks.falls q i ((same q).1 (in_team sign_by ranks.rank ranks.height c.side q h)) l
            (λ shown. true≢false (sym ((has_exact (slice_index rows (op i)) (got i q)).1 shown) ∙ unseen)) changes;
        low = λ q h. ranks.low q ((same q).1 (in_team sign_by ranks.rank ranks.height c.side q h));
        seen = λ q h. (let r = tells q ((same q).1 (in_team sign_by ranks.rank ranks.height c.side q h)) in (r.0, r.1, seen_by q r.0 r.2));
      },
    )
      where
        seen_by : (q i : ℕ) → Shows t rows (op i) q ⊎ ((transition t (op i) q).1 ≢ q) → (has (slice_index rows (op i)) (got i q) ≡ true) ⊎ ((transition t (op i) q).1 ≢ q)
        seen_by q i (inl shown) = inl ((has_exact (slice_index rows (op i)) (got i q)).1 shown)
        seen_by q i (inr changes) = inr changes

    -- ---- signs are found

    module _ (sign : ℕ → ℕ → Bool) (rank : ℕ → ℕ) (height : ℕ) (w : AreSigns t (signs_with c sign rank height)) where
      shown : (q i : ℕ) → IsBitSet own q → i < length c.further.items → sign (op i) (got i q) ≡ true → Shows t rows (op i) q
      shown q i here l e = (exact (op i) (op_known i l) (got i q)).1 (
        (q, (same q).0 here, refl),
        λ a. true≢false (sym e ∙ (ap (sign (op i)) (sym a.2) ∙ w.of_team a.0 i (states_too sign rank height (other c.side) a.0 a.1) l)),
      )

      all_tell : AllTell t c.further.items rows own
      all_tell q here = (let r = w.seen q (states_too sign rank height c.side q ((same q).0 here)) in (r.0, r.1, by_kind r.0 r.1 r.2))
        where
          by_kind : (i : ℕ) → i < length c.further.items → (sign (op i) (got i q) ≡ true) ⊎ ((transition t (op i) q).1 ≢ q) → Shows t rows (op i) q ⊎ ((transition t (op i) q).1 ≢ q)
          by_kind i l (inl e) = inl (shown q i here l e)
          by_kind i l (inr changes) = inr changes

      has_ranks : HasRanks t c.further.items rows own
      has_ranks = record {
        rank = rank;
        height = height;
        low = λ q here. w.low q (states_too sign rank height c.side q ((same q).0 here));
        falls = λ q i here l unseen changes. w.falls q i (states_too sign rank height c.side q ((same q).0 here)) l
            (false_from_ne_true (sign (op i) (got i q)) (λ e. unseen (shown q i here l e))) changes;
      }

    pub signs_exact : 0 < length c.further.items → (AllTell t c.further.items rows own × HasRanks t c.further.items rows own) ↔ HasSigns t c
    signs_exact some = (λ h. found some h.0 h.1, λ h. (all_tell h.0 h.1 h.2 h.3, has_ranks h.0 h.1 h.2 h.3))
