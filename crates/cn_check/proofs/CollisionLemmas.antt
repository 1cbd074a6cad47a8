-- Collisions, by what two orders show.
use Rattle.std.proofs.Common.{◌≡◌, ◌≢◌, ℕ, ◌∙◌, sym, refl, ◌↔◌, List, Option, Some, None}
use Rattle.std.proofs.lemmas.Option.{none-some}
use Rattle.cn_table.specs.TypeTable.{TypeTable}
use Rattle.cn_choice.specs.declared.team.Team.TheVariants.{A, B}
use Rattle.cn_choice.specs.RawChoices.{RawChoice}
use Rattle.cn_choice.specs.Collisions.{IsCollision}
use Rattle.cn_check.specs.ShownPairs.{Shows}

-- both orders show one pair
abbrev pub ShowOnePair : Option (ℕ × ℕ) → Option (ℕ × ℕ) → Type 0
ShowOnePair o u = (pair : ℕ × ℕ) × (o ≡ Some pair) × (u ≡ Some pair)

-- a process that takes part gets a pair
the_pair : (o : Option (ℕ × ℕ)) → o ≢ None → (pair : ℕ × ℕ) × (o ≡ Some pair)
the_pair None some = absurd (some refl)
the_pair (Some pair) some = (pair, refl)

pub collision_shown : (t : TypeTable) (c : RawChoice) (j : ℕ) (alpha beta : List ℕ) (o u : Option (ℕ × ℕ))
    → ((pair : ℕ × ℕ) → (o ≡ Some pair) ↔ Shows t c A j pair alpha)
    → ((pair : ℕ × ℕ) → (u ≡ Some pair) ↔ Shows t c B j pair beta)
    → ShowOnePair o u ↔ IsCollision t c j alpha beta
collision_shown t c j alpha beta o u a b = (
  λ h.
      let first = (a h.0).0 h.1 in
      let second = (b h.0).0 h.2 in
      record {
        alpha_order = first.0;
        beta_order = second.0;
        alpha_in_a = first.1;
        beta_in_b = second.1;
        takes_part = λ e. none-some h.0 (sym e ∙ first.2);
        same = first.2 ∙ sym second.2;
      },
  λ k.
      let p = the_pair _ k.takes_part in
      (p.0, (a p.0).1 (k.alpha_order, k.alpha_in_a, p.1), (b p.0).1 (k.beta_order, k.beta_in_b, sym k.same ∙ p.1)),
)
