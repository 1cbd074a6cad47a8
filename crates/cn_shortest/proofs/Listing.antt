-- The sights of each way to look, in a list.
use Rattle.std.proofs.Common.{ℕ, zero, suc, ◌≡◌, ◌+◌, ◌<◌, ◌≤◌, ◌↔◌, true, false, true≢false, List, [], ◌∷◌, ◌++◌, get_or, length, map, take, refl, sym, ap, ◌∙◌, subst, arith, Some}
use Rattle.std.specs.Prelude.{All, Contains, option_map, slice_get}
use Rattle.std.proofs.lemmas.List.Elements.{All-cons, All-nil}
use Rattle.std.proofs.lemmas.Option.{slice_get-get_or, slice_get-map}
use Rattle.cn_meetings.specs.Sights.{sight_of}
use Rattle.cn_meetings.specs.declared.sight.Sight as sights
use Rattle.cn_meetings.specs.declared.sight.Sight.TheVariants.{Nothing as Nobody, State as Reading}
use Rattle.cn_meetings.specs.Meeting.{IsSightOf, Sight}
use Rattle.cn_meetings.specs.Meeting.Sight.{Nothing, Response, State}
use Rattle.cn_table.specs.TypeTable.{TypeTable}
use Rattle.cn_unread.specs.Views.{IsSilent}
use Rattle.cn_shortest.specs.Looks.{AreResponses, AreSights, allowed, by_response}
use Rattle.cn_shortest.specs.declared.looks.Looks.TheVariants.{AtNothing, AtResponses, AtStates}
use Rattle.cn_shortest.proofs.Elements.{contains_at, contains_later}

-- ---- the first responses
pub mapped_taken : (xs : List ℕ) (k : ℕ) → k < length xs → map by_response (take (suc k) xs) ≡ map by_response (take k xs) ++ by_response (get_or xs k 0) ∷ []
mapped_taken [] k l = absurd (omega (arith, l))
mapped_taken (x ∷ xs) zero l = refl
mapped_taken (x ∷ xs) (suc k) l = ap (λ ys. by_response x ∷ ys) (mapped_taken xs k (omega (arith, l)))

pub mapped_all : (xs : List ℕ) (k : ℕ) → length xs ≤ k → map by_response (take k xs) ≡ map by_response xs
mapped_all [] zero l = refl
mapped_all [] (suc k) l = refl
mapped_all (x ∷ xs) zero l = absurd (omega (arith, l))
mapped_all (x ∷ xs) (suc k) l = ap (λ ys. by_response x ∷ ys) (mapped_all xs k (omega (arith, l)))

all_mapped : (P : sights.Sight → Type 0) (silent : List ℕ) → ((o : ℕ) → Contains silent o → P (by_response o)) → All P (map by_response silent)
all_mapped P [] each = All-nil P
all_mapped P (o ∷ silent) each =
    All-cons P (by_response o) (map by_response silent) (each o (contains_at (o ∷ silent) 0 o refl)) (all_mapped P silent (λ q h. each q (contains_later (o ∷ []) silent q h)))

response_at : (silent : List ℕ) (o : ℕ) → Contains silent o → (i : ℕ) × (slice_get (map by_response silent) i ≡ Some (by_response o))
response_at silent o h =
    (h.0, slice_get-map by_response silent h.0 ∙ ap (option_map by_response) (slice_get-get_or silent h.0 o h.1 ∙ ap Some h.2))

-- ---- the lists
module _ (t : TypeTable) where
  pub states_listed : (list : List sights.Sight) → list ≡ Nobody ∷ Reading ∷ [] → AreSights t AtStates list
  states_listed list e = subst (AreSights t AtStates) (sym e) (record {
    of_type = All-cons (λ s. IsSightOf t (sight_of s)) Nobody (Reading ∷ []) tt (All-cons (λ s. IsSightOf t (sight_of s)) Reading [] tt (All-nil (λ s. IsSightOf t (sight_of s))));
    are_allowed = All-cons (λ s. allowed AtStates (sight_of s) ≡ true) Nobody (Reading ∷ []) refl (All-cons (λ s. allowed AtStates (sight_of s) ≡ true) Reading [] refl (All-nil (λ s. allowed AtStates (sight_of s) ≡ true)));
    all = each;
  })
    where
      each : (sight : Sight) → allowed AtStates sight ≡ true → IsSightOf t sight → (i : ℕ) × (s : sights.Sight) × (slice_get (Nobody ∷ Reading ∷ []) i ≡ Some s) × (sight_of s ≡ sight)
      each State may known = (1, Reading, refl, refl)
      each Nothing may known = (0, Nobody, refl, refl)
      each (Response o) may known = absurd (true≢false (sym may))

  pub nothing_listed : (list : List sights.Sight) → list ≡ Nobody ∷ [] → AreSights t AtNothing list
  nothing_listed list e = subst (AreSights t AtNothing) (sym e) (record {
    of_type = All-cons (λ s. IsSightOf t (sight_of s)) Nobody [] tt (All-nil (λ s. IsSightOf t (sight_of s)));
    are_allowed = All-cons (λ s. allowed AtNothing (sight_of s) ≡ true) Nobody [] refl (All-nil (λ s. allowed AtNothing (sight_of s) ≡ true));
    all = each;
  })
    where
      each : (sight : Sight) → allowed AtNothing sight ≡ true → IsSightOf t sight → (i : ℕ) × (s : sights.Sight) × (slice_get (Nobody ∷ []) i ≡ Some s) × (sight_of s ≡ sight)
      each State may known = absurd (true≢false (sym may))
      each Nothing may known = (0, Nobody, refl, refl)
      each (Response o) may known = absurd (true≢false (sym may))

  pub responses_listed : (old list : List sights.Sight) → old ≡ Nobody ∷ [] → AreResponses t old list → AreSights t AtResponses list
  responses_listed old list e are = subst (AreSights t AtResponses) (sym same) (record {
    of_type = All-cons (λ s. IsSightOf t (sight_of s)) Nobody responses tt (all_mapped (λ s. IsSightOf t (sight_of s)) silent (λ o h. (are.1 o).0 h));
    are_allowed = All-cons (λ s. allowed AtResponses (sight_of s) ≡ true) Nobody responses refl (all_mapped (λ s. allowed AtResponses (sight_of s) ≡ true) silent (λ o h. refl));
    all = each;
  })
    where
      silent : List ℕ
      silent = are.0

      responses : List sights.Sight
      responses = map by_response silent

      same : list ≡ Nobody ∷ responses
      same = are.2 ∙ ap (λ xs. xs ++ responses) e

      each : (sight : Sight) → allowed AtResponses sight ≡ true → IsSightOf t sight → (i : ℕ) × (s : sights.Sight) × (slice_get (Nobody ∷ responses) i ≡ Some s) × (sight_of s ≡ sight)
      each State may known = absurd (true≢false (sym may))
      each Nothing may known = (0, Nobody, refl, refl)
      each (Response o) may known = (let at = response_at silent o ((are.1 o).1 known) in (suc at.0, by_response o, at.1, refl))
