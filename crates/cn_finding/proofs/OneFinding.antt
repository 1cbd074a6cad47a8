-- There is only one finding for a type and a limit.
use Rattle.std.proofs.Common.{◌≡◌, ℕ, List, [], ◌∷◌, ◌++◌, Option, Some, None, MatchOption, IsSomeAnd, refl, sym, ap, subst, ◌∙◌}
use Rattle.std.specs.List.{AllZip}
use Rattle.std.proofs.lemmas.List.Elements.{All-head, All-tail}
use Rattle.cn_table.specs.TypeTable.{TypeTable}
use Rattle.cn_choice.specs.Canonical.{Choice, raw_choice_of}
use Rattle.cn_choice.specs.Collisions.{Collision, IsRecordedCollision}
use Rattle.cn_choice.specs.Discerning.{IsNumberUpTo, IsWitness}
use Rattle.cn_choice.specs.RawChoices.{RawChoice}
use Rattle.cn_finding.specs.Evidence.{IsFindingFor, IsFirstWitness, IsRecordedFor, NoneIsWitness, choices_to_refute}
use Rattle.cn_choice.specs.Live.{live_choices}
use Rattle.cn_finding.specs.Finding.{Finding}

same_collision : (c d : Choice) (i j : ℕ) (x v y w : List ℕ) → c ≡ d → i ≡ j → x ≡ v → y ≡ w
    → (let a : Collision = record { choice = c; process = i; alpha = x; beta = y } in let b : Collision = record { choice = d; process = j; alpha = v; beta = w } in a ≡ b)
same_collision c d i j x v y w e f g h = rw (e, f, g, h) refl

same_finding : (l m : ℕ) (n o : Option ℕ) (w v : Option Choice) (xs ys : List Collision) → l ≡ m → n ≡ o → w ≡ v → xs ≡ ys
    → (let a : Finding = record { limit = l; number = n; witness = w; collisions = xs } in let b : Finding = record { limit = m; number = o; witness = v; collisions = ys } in a ≡ b)
same_finding l m n o w v xs ys e f g h = rw (e, f, g, h) refl

-- of two first witnesses of one list neither stands before the other
same_first : (t : TypeTable) (before earlier : List Choice) (w v : Choice) (after later : List Choice) → before ++ w ∷ after ≡ earlier ++ v ∷ later
    → NoneIsWitness t before → NoneIsWitness t earlier → IsWitness t (raw_choice_of w) → IsWitness t (raw_choice_of v) → w ≡ v
same_first t [] [] w v after later e none no_other is_w is_v = cc
same_first t [] (c ∷ earlier) w v after later e none no_other is_w is_v =
    let same : w ≡ c = cc in
    absurd (All-head (λ x. ¬ IsWitness t (raw_choice_of x)) c earlier no_other (subst (λ (x : Choice). IsWitness t (raw_choice_of x)) same is_w))
same_first t (c ∷ before) [] w v after later e none no_other is_w is_v =
    let same : v ≡ c = cc in
    absurd (All-head (λ x. ¬ IsWitness t (raw_choice_of x)) c before none (subst (λ (x : Choice). IsWitness t (raw_choice_of x)) same is_v))
same_first t (c ∷ before) (d ∷ earlier) w v after later e none no_other is_w is_v =
    same_first t before earlier w v after later (cc)
    (All-tail (λ x. ¬ IsWitness t (raw_choice_of x)) c before none) (All-tail (λ x. ¬ IsWitness t (raw_choice_of x)) d earlier no_other) is_w is_v

one_first_witness : (t : TypeTable) (choices : List Choice) (w v : Choice) → IsFirstWitness t choices w → IsFirstWitness t choices v → w ≡ v
one_first_witness t choices w v f g = same_first t f.before g.before w v f.after g.after (sym f.listed ∙ g.listed) f.earlier g.earlier f.witness g.witness

one_witness : (t : TypeTable) (number : Option ℕ) (w v : Option Choice)
    → MatchOption number (w ≡ None) (λ n. IsSomeAnd w (IsFirstWitness t (live_choices t n))) → MatchOption number (v ≡ None) (λ n. IsSomeAnd v (IsFirstWitness t (live_choices t n))) → w ≡ v
one_witness t None w v f g = f ∙ sym g
one_witness t (Some n) None v f g = absurd f
one_witness t (Some n) (Some w) None f g = absurd g
one_witness t (Some n) (Some w) (Some v) f g = ap Some (one_first_witness t (live_choices t n) w v f g)

-- a type, and what is known of its numbers and of its recorded collisions
module _ (t : TypeTable)
    (one_number : (limit : ℕ) (m n : Option ℕ) → IsNumberUpTo t limit m → IsNumberUpTo t limit n → m ≡ n)
    (one_recorded : (c : RawChoice) (i j : ℕ) (x y v w : List ℕ) → IsRecordedCollision t c i x y → IsRecordedCollision t c j v w → (i ≡ j) × (x ≡ v) × (y ≡ w)) where
  one_for_choice : (c : Choice) (x y : Collision) → IsRecordedFor t c x → IsRecordedFor t c y → x ≡ y
  one_for_choice c x y f g =
      let e = one_recorded (raw_choice_of c) x.process y.process x.alpha x.beta y.alpha y.beta f.1 g.1 in
      same_collision x.choice y.choice x.process y.process x.alpha y.alpha x.beta y.beta (f.0 ∙ sym g.0) e.0 e.1 e.2

  one_for_choices : (choices : List Choice) (xs ys : List Collision) → AllZip (IsRecordedFor t) choices xs → AllZip (IsRecordedFor t) choices ys → xs ≡ ys
  one_for_choices [] [] [] f g = refl
  one_for_choices [] [] (y ∷ ys) f g = absurd g
  one_for_choices [] (x ∷ xs) ys f g = absurd f
  one_for_choices (c ∷ choices) [] ys f g = absurd f
  one_for_choices (c ∷ choices) (x ∷ xs) [] f g = absurd g
  one_for_choices (c ∷ choices) (x ∷ xs) (y ∷ ys) f g =
      let first = one_for_choice c x y f.0 g.0 in
      let rest = one_for_choices choices xs ys f.1 g.1 in
      cc

  pub one_finding : (limit : ℕ) (f g : Finding) → IsFindingFor t limit f → IsFindingFor t limit g → f ≡ g
  one_finding limit f g is_f is_g =
      let number = one_number limit f.number g.number is_f.number is_g.number in
      let witness = one_witness t f.number f.witness g.witness is_f.witness
      (subst (λ (n : Option ℕ). MatchOption n (g.witness ≡ None) (λ m. IsSomeAnd g.witness (IsFirstWitness t (live_choices t m)))) (sym number) is_g.witness) in
      let collisions = one_for_choices (choices_to_refute t limit f.number) f.collisions g.collisions is_f.collisions
      (subst (λ (n : Option ℕ). AllZip (IsRecordedFor t) (choices_to_refute t limit n) g.collisions) (sym number) is_g.collisions) in
      same_finding f.limit g.limit f.number g.number f.witness g.witness f.collisions g.collisions (is_f.same_limit ∙ sym is_g.same_limit) number witness collisions
