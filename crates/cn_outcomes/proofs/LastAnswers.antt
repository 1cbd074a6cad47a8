-- The law of the last process for the pairs of a process, and the union over the subsets.
use Rattle.std.proofs.Common.{◌≡◌, ◌≢◌, ℕ, ◌^◌, ◌<◌, ◌⊎◌, inl, inr, ◌↔◌, List, [], ◌∷◌, ◌++◌, length, refl, sym, ap, ◌∙◌, subst, arith, Bool, true, false, cond, nat_eq, Option, Some, None}
use Rattle.std.specs.Prelude.{IsBitSet}
use Rattle.std.specs.Int.{bit_at}
use Rattle.std.specs.Int.Bits.{bit_or}
use Rattle.std.specs.Option.{option_map}
use Rattle.std.proofs.lemmas.Bool.{ne_eqb, eqb-true}
use Rattle.std.proofs.lemmas.Nat.{or_lt, pow_below, pow_pos}
use Rattle.std.proofs.lemmas.Nat.Bits.{bit_at_or, bit_at-pow_same, bit_at-pow_other, bit_at-lt, bit_at-zero}
use Rattle.cn_choice.specs.declared.team.Team.{Team}
use Rattle.cn_table.specs.TypeTable.{TypeTable}
use Rattle.cn_table.specs.Run.{responses_along}
use Rattle.cn_choice.specs.RawChoices.{RawChoice}
use Rattle.cn_choice.specs.OutcomeSets.{BeginsIn, InOutcomeSet, operations_of, pair_of}
use Rattle.cn_outcomes.specs.Subsets.{GivesPair, IsWithout, GivesLast}
use Rattle.cn_choice.specs.Moves.{answer_of, next_of}
use Rattle.cn_choice.proofs.ListLemmas.Members.{IsIn}
use Rattle.cn_choice.proofs.OrderLemmas.Walks.{first_some, pair_of-response_of}
use Rattle.cn_choice.specs.OutcomeSets.{response_of}
use Rattle.cn_outcomes.proofs.LastProcess.{Exactly, ending, with_last, alone, order_before, begins_more, state_along, finds_from, exactly_from, exactly_to, known_from, same_or_not, bit_from, set_from}
use Rattle.cn_choice.proofs.OrderLemmas.LastMoves.{Known, after, along, last_self, pair_whole, response_along_last}

map_some : {X Y : Type 0} (f : X → Y) (k : Option X) (y : Y) → option_map f k ≡ Some y → (x : X) × (k ≡ Some x) × (f x ≡ y)
map_some f None y e = absurd (cc e)
map_some f (Some x) y e = (x, refl, cc e)

pub pair_parts : (t : TypeTable) (c : RawChoice) (j : ℕ) (ps : List ℕ) (r q : ℕ) → pair_of t c ps j ≡ Some (r, q) → (along t c j ps ≡ Some r) × (after t c ps ≡ q)
pair_parts t c j ps r q e =
    let m = map_some (λ (r : ℕ). (r, after t c ps)) (along t c j ps) (r, q) (sym (pair_of-response_of t c ps j) ∙ e) in
    (m.1 ∙ ap Some (ap (λ (p : ℕ × ℕ). p.0) m.2), ap (λ (p : ℕ × ℕ). p.1) m.2)

-- another process moved last
pub last_other : (t : TypeTable) (c : RawChoice) (j p : ℕ) (ps : List ℕ) → p ≢ j → along t c j (ps ++ p ∷ []) ≡ along t c j ps
last_other t c j p ps n = response_along_last t c j ps p ∙ rw (ne_eqb p j n) (none_more (along t c j ps))
  where
    none_more : (k : Option ℕ) → first_some k None ≡ k
    none_more None = refl
    none_more (Some x) = refl

not_last : (rest : ℕ) (ps : List ℕ) (subset j : ℕ) → Exactly rest ps → IsWithout subset j rest → IsIn j ps → ⊥
not_last rest ps subset j e w i = ((w j).0 ((e j).0 i)).1 refl

pub gives_to : (t : TypeTable) (c : RawChoice) (team : Team) (j subset : ℕ) (rest : ℕ → ℕ) (r q : ℕ) → ((p : ℕ) → IsBitSet subset p → IsWithout subset p (rest p))
    → GivesPair t c team j subset r q → (p : ℕ) × IsBitSet subset p × (p < length c.operations) × GivesLast t c team j p (rest p) r q
gives_to t c team j subset rest r q w h =
    let e = ending (length c.operations) subset rest h.0 w h.1 in
    let parts = pair_parts t c j (e.before ++ e.last ∷ []) r q (ap (λ (o : List ℕ). pair_of t c o j) (sym e.is) ∙ h.3) in
    let begins = subst (BeginsIn c team) e.is h.2 in
    let next : next_of t c e.last (after t c e.before) ≡ q = sym (state_along t c e.before e.last) ∙ parts.1 in (
      e.last,
      e.in_subset,
      e.below,
      elim (same_or_not e.last j) [
        | inl s ↦ inl (
          s,
          (
            after t c e.before,
            finds_from t c team (rest e.last) e.last e.before e.known e.exactly begins,
            self e.last s e.before (λ i. e.apart e.last i refl) parts.0,
            next,
          ),
        )
        | inr n ↦ inr (n, (after t c e.before, gives_before (rest e.last) e.last e.before e.known e.exactly begins (sym (last_other t c j e.last e.before n) ∙ parts.0), next))
      ],
    )
  where
    self : (p : ℕ) → p ≡ j → (ps : List ℕ) → (IsIn p ps → ⊥) → along t c j (ps ++ p ∷ []) ≡ Some r → answer_of t c p (after t c ps) ≡ r
    self p s ps n f = let g = subst (λ (k : ℕ). along t c k (ps ++ p ∷ []) ≡ Some r) (sym s) f in let both = sym (last_self t c p ps n) ∙ g in cc both

    gives_before : (rest p : ℕ) (ps : List ℕ) → Known (length c.operations) ps → Exactly rest ps → BeginsIn c team (ps ++ p ∷ []) → along t c j ps ≡ Some r → GivesPair t c team j rest r (after t c ps)
    gives_before rest p [] k e b f = absurd (cc f)
    gives_before rest p (x ∷ xs) k e b f = (x ∷ xs, order_before (length c.operations) rest x xs k e, b, pair_whole t c j (x ∷ xs) r (after t c (x ∷ xs)) f refl)

pub gives_from : (t : TypeTable) (c : RawChoice) (team : Team) (j subset rest p r q : ℕ) → IsBitSet subset p → p < length c.operations → IsWithout subset p rest
    → GivesLast t c team j p rest r q → GivesPair t c team j subset r q
gives_from t c team j subset rest p r q s l w h = elim h [
  | inl a ↦ subst (λ (k : ℕ). GivesPair t c team k subset r q) a.0 (elim a.1.1 [
    | inl e ↦ (
      p ∷ [],
      alone (length c.operations) subset rest p s l w e.0,
      (p, refl, e.1),
      pair_whole t c p (p ∷ []) r q (last_self t c p [] (λ i. absurd i) ∙ ap Some (ap (answer_of t c p) e.2 ∙ a.1.2)) (ap (next_of t c p) e.2 ∙ a.1.3),
    )
    | inr b ↦ (
      b.0 ++ p ∷ [],
      with_last (length c.operations) subset rest p b.0 s l w b.1,
      begins_more c team b.0 p b.2,
      pair_whole t c p (b.0 ++ p ∷ []) r q
          (last_self t c p b.0 (not_last rest b.0 subset p (exactly_from rest b.0 b.1.exactly) w) ∙ ap Some (ap (answer_of t c p) b.3 ∙ a.1.2))
          (state_along t c b.0 p ∙ (ap (next_of t c p) b.3 ∙ a.1.3)),
    )
  ])
  | inr a ↦ (
      let b = a.1.1 in
      let parts = pair_parts t c j b.0 r a.1.0 b.3 in (
        b.0 ++ p ∷ [],
        with_last (length c.operations) subset rest p b.0 s l w b.1,
        begins_more c team b.0 p b.2,
        pair_whole t c j (b.0 ++ p ∷ []) r q (last_other t c j p b.0 a.0 ∙ parts.0) (state_along t c b.0 p ∙ (ap (next_of t c p) parts.1 ∙ a.1.2)),
      )
      )
]

-- ---- the union over the subsets

-- the subset of an order
abbrev pub subset_of : List ℕ → ℕ
subset_of [] = 0
subset_of (p ∷ ps) = bit_or (subset_of ps) (2 ^ p)

pub exactly_subset : (ps : List ℕ) → Exactly (subset_of ps) ps
exactly_subset [] p = (λ i. absurd i, λ s. absurd (omega (arith, bit_from 0 p s, bit_at-zero p)))
exactly_subset (x ∷ ps) p = (
  λ i. elim i [
    | inl e ↦ set_from (bit_or (subset_of ps) (2 ^ x)) p (omega (arith, bit_at_or (subset_of ps) (2 ^ x) p, same p e, bit_at-lt (subset_of ps) p))
    | inr j ↦ set_from (bit_or (subset_of ps) (2 ^ x)) p (omega (arith, bit_at_or (subset_of ps) (2 ^ x) p, bit_from (subset_of ps) p ((exactly_subset ps p).0 j), bit_at-lt (2 ^ x) p))
  ],
  λ s. elim (same_or_not x p) [
    | inl e ↦ inl e
    | inr n ↦ inr ((exactly_subset ps p).1
        (set_from (subset_of ps) p (omega (arith, bit_at_or (subset_of ps) (2 ^ x) p, bit_at-pow_other x p (λ e. n (sym e)), bit_from (bit_or (subset_of ps) (2 ^ x)) p s))))
  ],
)
  where
    same : (p : ℕ) → x ≡ p → bit_at (2 ^ x) p ≡ 1
    same p e = subst (λ (k : ℕ). bit_at (2 ^ x) k ≡ 1) e (bit_at-pow_same x)

pub subset_below : (n : ℕ) (ps : List ℕ) → ((p : ℕ) → IsIn p ps → p < n) → subset_of ps < 2 ^ n
subset_below n [] h = pow_pos n
subset_below n (p ∷ ps) h = or_lt n (subset_of ps) (2 ^ p) (subset_below n ps (λ q i. h q (inr i))) (pow_below p n (h p (inl refl)))

-- a process with a response is in the order
gets_in : (t : TypeTable) (c : RawChoice) (j : ℕ) (ps rs : List ℕ) (r : ℕ) → response_of j ps rs ≡ Some r → IsIn j ps
gets_in t c j [] rs r e = absurd (cc e)
gets_in t c j (p ∷ ps) [] r e = absurd (cc e)
gets_in t c j (p ∷ ps) (s ∷ rs) r e = by_test (nat_eq p j) refl (gets_in t c j ps rs r) e
  where
    by_test : (b : Bool) → nat_eq p j ≡ b → (response_of j ps rs ≡ Some r → IsIn j ps) → cond b (Some s) (response_of j ps rs) ≡ Some r → (p ≡ j) ⊎ IsIn j ps
    by_test true f later g = inl (eqb-true p j f)
    by_test false f later g = inr (later g)

-- a pair is in the outcome set exactly if some subset that contains j gives it
pub outcome_subset : (t : TypeTable) (c : RawChoice) (team : Team) (j r q : ℕ)
    → InOutcomeSet t c team j (r, q) ↔ ((subset : ℕ) × (subset < 2 ^ length c.operations) × IsBitSet subset j × GivesPair t c team j subset r q)
outcome_subset t c team j r q = (
  λ o. (
    subset_of o.0,
    subset_below (length c.operations) o.0 (known_from (length c.operations) o.0 o.1).below,
    (exactly_subset o.0 j).0 (gets_in t c j o.0 (responses_along t c.state (operations_of c o.0)) r (pair_parts t c j o.0 r q o.3).0),
    (o.0, record { ordered = o.1; exactly = exactly_to (subset_of o.0) o.0 (exactly_subset o.0) }, o.2, o.3),
  ),
  λ g. (g.3.0, g.3.1.ordered, g.3.2, g.3.3),
)

-- a subset that gives j a pair contains j
pub gives_member : (t : TypeTable) (c : RawChoice) (team : Team) (j subset r q : ℕ) → GivesPair t c team j subset r q → IsBitSet subset j
gives_member t c team j subset r q g = (exactly_from subset g.0 g.1.exactly j).0 (gets_in t c j g.0 (responses_along t c.state (operations_of c g.0)) r (pair_parts t c j g.0 r q g.3).0)
