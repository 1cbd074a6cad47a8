-- What some silent operations tell apart, all of them do.
use Rattle.std.proofs.Common.{◌≡◌, ℕ, ◌<◌, ◌↔◌, List, length, get_or, refl, subst, sym, ◌∙◌, All}
use Rattle.std.specs.Prelude.{slice_index}
use Rattle.std.proofs.lemmas.List.{get_or_default}
use Rattle.std.proofs.lemmas.List.Elements.{Contains-get_or}
use Rattle.cn_table.specs.TypeTable.{TypeTable, transition}
use Rattle.cn_choice.specs.Discerning.{IsWitness}
use Rattle.cn_choice.specs.RawChoices.{RawChoice}
use Rattle.cn_unread.specs.Collects.{AreLooks, IsVisible, LookAlike}
use Rattle.cn_views.specs.SilentOperations.{AreSilentOperations}
use Rattle.cn_views.specs.VisibleChoices.{SomeLooksTell}

-- only a witness is visible, since a state looks like itself
pub only_witnesses : (t : TypeTable) (looks : List ℕ) (c : RawChoice) → IsVisible t looks c → IsWitness t c
only_witnesses t looks c visible j pair a b = visible j pair.0 pair.1 pair.1 a b (λ i l. refl)

module _ (t : TypeTable) (all : List ℕ) (are : AreSilentOperations t all) where
  pub all_known : All (λ o. o < length t.operations) all
  all_known k d l = ((are.listed (get_or all k d)).0 (Contains-get_or all k d l)).known

  pub all_look : AreLooks t all
  all_look i l = (are.listed (slice_index all i)).0 (Contains-get_or all i 0 l)

  pub some_alike : (looks : List ℕ) → AreLooks t looks → (p q : ℕ) → LookAlike t all p q → LookAlike t looks p q
  some_alike looks silent p q same i l =
      let o : ℕ = slice_index looks i in
      let place = (are.listed o).1 (silent i l) in
      let e : slice_index all place.0 ≡ o = sym (get_or_default all place.0 o 0 place.1) ∙ place.2 in
      subst (λ (v : ℕ). (transition t v p).0 ≡ (transition t v q).0) e (same place.0 place.1)

  pub all_tell : (c : RawChoice) → IsVisible t all c ↔ SomeLooksTell t c
  all_tell c = (
    λ visible. (all, all_look, visible),
    λ some j r p q a b same. some.2 j r p q a b (some_alike some.0 some.1 p q same),
  )
