-- Entries that are spelled one after the other.
use Rattle.std.proofs.Common.{◌≡◌, ℕ, ◌+◌, ◌<◌, ◌≤◌, ◌↔◌, List, [], ◌∷◌, ◌++◌, length, append_assoc, refl, sym, ap, ◌∙◌, subst, arith, All, true, false, ◌&&◌}
use Rattle.std.specs.List.{AllZip, flat_map}
use Rattle.std.proofs.lemmas.List.Elements.{filter-append}
use Rattle.std.proofs.lemmas.List.Folds.{list_all-append}
use Rattle.serde_json.specs.Written.{compact_text}
use Rattle.cn_table.specs.TypeTable.{TypeTable}
use Rattle.cn_choice.specs.Canonical.{Choice, FitsTable, IsChoiceFor, raw_choice_of}
use Rattle.cn_choice.specs.RawChoices.{IsRawChoice}
use Rattle.cn_choice.specs.declared.limits.TheConstants.{MOST_PROCESSES}
use Rattle.cn_choice.specs.Collisions.{Collision}
use Rattle.cn_cert.specs.CertificateText.{collision_data}
use Rattle.cn_cert.specs.Ranges.{is_collision_in_range}
use Rattle.cn_check.specs.Conditions.{Refutes}
use Rattle.cn_check.specs.EntryTexts.{AreSpelled, HavePassed}
use Rattle.cn_cert.specs.Entries.{listed_text, with_comma}
use Rattle.cn_check.specs.Refutations.{all_count, counting}
use Rattle.cn_check.proofs.RefutationLemmas.{beside, one_counts, one_does_not}

zip_append : {A B : Type 0} (R : A → B → Type 0) (cs ds : List A) (xs ys : List B) → AllZip R cs xs → AllZip R ds ys → AllZip R (cs ++ ds) (xs ++ ys)
zip_append R [] ds [] ys h k = k
zip_append R [] ds (x ∷ xs) ys h k = absurd h
zip_append R (c ∷ cs) ds [] ys h k = absurd h
zip_append R (c ∷ cs) ds (x ∷ xs) ys h k = (h.0, zip_append R cs ds xs ys h.1 k)

listed_append : (xs ys : List Collision) → listed_text (xs ++ ys) ≡ listed_text xs ++ listed_text ys
listed_append [] ys = refl
listed_append (x ∷ xs) ys = ap (λ (v : List ℕ). (compact_text (collision_data x) ++ 44 ∷ []) ++ v) (listed_append xs ys)
    ∙ sym (append_assoc (compact_text (collision_data x) ++ 44 ∷ []) (listed_text xs) (listed_text ys))

module _ (t : TypeTable) where
  spelled_none : (bytes : List ℕ) → AreSpelled t [] bytes bytes
  spelled_none bytes = ([], tt, refl, refl)

  spelled_append : (choices others : List Choice) (bytes middle rest : List ℕ) → AreSpelled t choices bytes middle → AreSpelled t others middle rest → AreSpelled t (choices ++ others) bytes rest
  spelled_append choices others bytes middle rest h k = (
    h.0 ++ k.0,
    zip_append (Refutes t) choices others h.0 k.0 h.1 k.1,
    rw (list_all-append is_collision_in_range h.0 k.0, h.2, k.2) refl,
    h.3 ∙ (ap (λ (v : List ℕ). listed_text h.0 ++ v) k.3
        ∙ (sym (append_assoc (listed_text h.0) (listed_text k.0) (with_comma rest)) ∙ ap (λ (v : List ℕ). v ++ with_comma rest) (sym (listed_append h.0 k.0)))),
  )

  module _ (all : List Choice) (start : List ℕ) where
    pub pass_first : (left : List Choice) → all ≡ left → HavePassed t all start left start
    pass_first left same rest h = subst (λ (cs : List Choice). AreSpelled t cs start rest) (sym same) h

    pub pass_as : (left other : List Choice) (here : List ℕ) → left ≡ other → HavePassed t all start left here → HavePassed t all start other here
    pass_as left other here same come rest h = come rest (subst (λ (cs : List Choice). AreSpelled t cs here rest) (sym same) h)

    pub pass_part : (now left : List Choice) (here there : List ℕ) → HavePassed t all start (now ++ left) here → AreSpelled t now here there → HavePassed t all start left there
    pass_part now left here there come spelled rest h = come rest (spelled_append now left here there rest spelled h)

    pub pass_end : (here : List ℕ) → HavePassed t all start [] here → AreSpelled t all start here
    pass_end here come = come here (spelled_none here)

    -- one part of the choices after the other
    module _ {X : Type 0} (version : ℕ) (f : X → List Choice) (x : X) (xs : List X) (here : List ℕ) (come : HavePassed t all start (counting version t (flat_map f (x ∷ xs))) here) where
      in_parts : HavePassed t all start (counting version t (f x) ++ counting version t (flat_map f xs)) here
      in_parts = pass_as _ _ here (filter-append (λ c. all_count version t c.state c.a && all_count version t c.state c.b) (f x) (flat_map f xs)) come

      pub flat_past : (there : List ℕ) → AreSpelled t (counting version t (f x)) here there → HavePassed t all start (counting version t (flat_map f xs)) there
      flat_past there spelled = pass_part (counting version t (f x)) (counting version t (flat_map f xs)) here there in_parts spelled

      pub flat_over : counting version t (f x) ≡ [] → HavePassed t all start (counting version t (flat_map f xs)) here
      flat_over none = pass_as _ _ here (ap (λ (cs : List Choice). cs ++ counting version t (flat_map f xs)) none) in_parts

    -- one list of team B after the other
    module _ (version state : ℕ) (a b : List ℕ) (bs : List (List ℕ)) (here : List ℕ) (come : HavePassed t all start (counting version t (beside version t state a (b ∷ bs))) here) where
      pub list_past : (there : List ℕ) → all_count version t state a ≡ true → all_count version t state b ≡ true → AreSpelled t ((record { state = state; a = a; b = b }) ∷ []) here there
          → HavePassed t all start (counting version t (beside version t state a bs)) there
      list_past there e f spelled =
          let now : Choice = record { state = state; a = a; b = b } in
          pass_part (now ∷ []) (counting version t (beside version t state a bs)) here there (pass_as _ _ here (one_counts version t state a b bs e f) come) spelled

      pub list_over : all_count version t state b ≡ false → HavePassed t all start (counting version t (beside version t state a bs)) here
      list_over f = pass_as _ _ here (one_does_not version t state a b bs f) come

-- ---- a choice that comes next

-- a choice of this state and these teams is one of the table
pub fits_table : ((t : TypeTable) (n : ℕ) (c : Choice) → IsRawChoice t n (raw_choice_of c) ↔ IsChoiceFor t n c) → (t : TypeTable) (n state : ℕ) (a b : List ℕ) → state < length t.states
    → All (λ o. o < length t.operations) a → All (λ o. o < length t.operations) b → 1 ≤ length a → length a + length a ≤ n → length a + length b ≡ n → n ≤ MOST_PROCESSES
    → FitsTable t (record { state = state; a = a; b = b })
fits_table by_teams t n state a b known a_known b_known some half all few =
    let c : Choice = record { state = state; a = a; b = b } in
    let is : IsChoiceFor t (length a + length b) c =
    record { known_state = known; a_known = a_known; b_known = b_known; someone_in_a = some; someone_in_b = omega (arith, some, half, all); all = refl } in
    record { fits = (by_teams t (length a + length b) c).1 is; some = omega (arith, some, half, all); few = omega (arith, all, few) }
