-- Live choices, one after the other, and the law that only live choices can be witnesses.
use Rattle.std.proofs.Common.{◌≡◌, ◌≢◌, ℕ, ◌<◌, ◌≤◌, ◌↔◌, List, [], ◌∷◌, ◌++◌, length, map, get_or, refl, sym, ap, ◌∙◌, subst, arith, Bool, true, false, cond, nat_eq, All, AllPairs, Contains, Some, true≢false}
use Rattle.std.specs.Prelude.{not, slice_get}
use Rattle.std.specs.List.{AllByRecursion, filter, flat_map}
use Rattle.std.proofs.lemmas.Bool.{and_from, and_parts, eqb-true, eq-eqb}
use Rattle.std.proofs.lemmas.List.Elements.{All-from_get_or, All-from_recursion, filter-append, recursion_from_All}
use Rattle.std.proofs.lemmas.Option.{slice_get-get_or}
use Rattle.cn_table.specs.TypeTable.{TypeTable, transition}
use Rattle.cn_choice.specs.declared.team.Team.{Team}
use Rattle.cn_choice.specs.declared.team.Team.TheVariants.{A, B}
use Rattle.cn_choice.specs.Blocks.{Block, BlockComesBefore, IsBlockOf, canonical_blocks, choices_of_block}
use Rattle.cn_choice.specs.Canonical.{Choice, ChoiceComesBefore, IsCanonical, canonical_choices, raw_choice_of, second_lists}
use Rattle.cn_choice.specs.Discerning.{IsDiscerning, IsWitness}
use Rattle.cn_choice.specs.Live.{IsLive, IsLiveBlock, IsLiveIn, all_move, is_live, live_blocks, live_choices, live_in}
use Rattle.cn_choice.specs.RawChoices.{IsRawChoice, RawChoice}
use Rattle.cn_choice.specs.OutcomeSets.{InOutcomeSet}
use Rattle.cn_choice.specs.Moves.{answer_of, next_of}
use Rattle.cn_choice.proofs.ChoiceLemmas.ListOrder.{blocks_ascend, canonical_ascend, in_with_first, with_first_ascends}
use Rattle.cn_choice.proofs.ChoiceLemmas.Blocks.{blocks_are, blocks_cover, blocks_listed, to_blocks}
use Rattle.cn_choice.proofs.ChoiceLemmas.BlockWalk.{choice_of}
use Rattle.cn_choice.proofs.ChoiceLemmas.CanonicalForms.{canonical_listed, choice-IsRawChoice, coverage}
use Rattle.cn_choice.proofs.OrderLemmas.ShortOrders.{alone_gets, second_gets}
use Rattle.cn_choice.proofs.ListLemmas.Filters.{kept, pairs_kept, was_in}
use Rattle.cn_choice.proofs.ChoiceLemmas.ListedChoices.{IsRising, above_zero, to_second}
use Rattle.cn_choice.proofs.ListLemmas.Members.{AllPairs-from_Pairs, Contains-from_IsIn, IsIn, IsIn-from_Contains, IsIn-map, each_at}
use Rattle.cn_choice.proofs.ListLemmas.NonDecreasingLists.{never_falls}

-- ---- the test

moves_from : (t : TypeTable) (q o : ℕ) → not (nat_eq (transition t o q).1 q) ≡ true → (transition t o q).1 ≢ q
moves_from t q o e same = true≢false (sym e ∙ ap not (eq-eqb _ _ same))

moves_to : (t : TypeTable) (q o : ℕ) → (transition t o q).1 ≢ q → not (nat_eq (transition t o q).1 q) ≡ true
moves_to t q o h = by_test (nat_eq (transition t o q).1 q) refl
  where
    by_test : (b : Bool) → nat_eq (transition t o q).1 q ≡ b → not b ≡ true
    by_test true e = absurd (h (eqb-true _ _ e))
    by_test false e = refl

all_from : (t : TypeTable) (q : ℕ) (os : List ℕ) → all_move t q os ≡ true → AllByRecursion (λ o. (transition t o q).1 ≢ q) os
all_from t q [] e = tt
all_from t q (o ∷ os) e = let p = and_parts _ _ e in (moves_from t q o p.0, all_from t q os p.1)

all_to : (t : TypeTable) (q : ℕ) (os : List ℕ) → AllByRecursion (λ o. (transition t o q).1 ≢ q) os → all_move t q os ≡ true
all_to t q [] h = refl
all_to t q (o ∷ os) h = and_from _ _ (moves_to t q o h.0) (all_to t q os h.1)

both : {X : Type 0} (P : X → Type 0) (xs ys : List X) → AllByRecursion P xs → AllByRecursion P ys → AllByRecursion P (xs ++ ys)
both P [] ys h k = k
both P (x ∷ xs) ys h k = (h.0, both P xs ys h.1 k)

parts : {X : Type 0} (P : X → Type 0) (xs ys : List X) → AllByRecursion P (xs ++ ys) → AllByRecursion P xs × AllByRecursion P ys
parts P [] ys h = (tt, h)
parts P (x ∷ xs) ys h = let r = parts P xs ys h.1 in ((h.0, r.0), r.1)

pub live_from : (t : TypeTable) (c : Choice) → is_live t c ≡ true → IsLive t (raw_choice_of c)
live_from t c e =
    let p = and_parts _ _ e in
    All-from_recursion (λ o. (transition t o c.state).1 ≢ c.state) (c.a ++ c.b) (both (λ o. (transition t o c.state).1 ≢ c.state) c.a c.b (all_from t c.state c.a p.0) (all_from t c.state c.b p.1))

pub live_to : (t : TypeTable) (c : Choice) → IsLive t (raw_choice_of c) → is_live t c ≡ true
live_to t c h =
    let p = parts (λ o. (transition t o c.state).1 ≢ c.state) c.a c.b (recursion_from_All (λ o. (transition t o c.state).1 ≢ c.state) (c.a ++ c.b) h) in
    and_from _ _ (all_to t c.state c.a p.0) (all_to t c.state c.b p.1)

-- ---- an operation that keeps the start state tells a process of the other team nothing

-- if process i keeps the start state, a process k of the other team gets the same pair alone and after i
shared : (t : TypeTable) (c : RawChoice) (i k : ℕ) (own other : Team) → i < length c.operations → k < length c.operations → i ≢ k → slice_get c.marks i ≡ Some other → slice_get c.marks k ≡ Some own
    → next_of t c i c.state ≡ c.state → (pair : ℕ × ℕ) × InOutcomeSet t c own k pair × InOutcomeSet t c other k pair
shared t c i k own other l u apart m n same = (
  (answer_of t c k c.state, next_of t c k c.state),
  alone_gets t c own k u n,
  subst (λ (q : ℕ). InOutcomeSet t c other k (answer_of t c k q, next_of t c k q)) same (second_gets t c other k u i l apart m),
)

keeper : (t : TypeTable) (n : ℕ) (c : RawChoice) → IsRawChoice t n c → IsWitness t c → (i : ℕ) (team : Team) → i < length c.operations → slice_get c.marks i ≡ Some team
    → next_of t c i c.state ≢ c.state
keeper t n c is w i A l m same =
    let k = is.someone_in_b in
    let mark : slice_get c.marks k.0 ≡ Some B = slice_get-get_or c.marks k.0 B k.1 ∙ ap Some k.2 in
    let h = shared t c i k.0 B A l (omega (arith, k.1, is.one_operation_each, is.one_team_each))
    (λ e. let two : Some A ≡ Some B = sym m ∙ (ap (slice_get c.marks) e ∙ mark) in absurd (cc two)) m mark same in
    w k.0 h.0 h.2 h.1
keeper t n c is w i B l m same =
    let k = is.someone_in_a in
    let mark : slice_get c.marks k.0 ≡ Some A = slice_get-get_or c.marks k.0 A k.1 ∙ ap Some k.2 in
    let h = shared t c i k.0 A B l (omega (arith, k.1, is.one_operation_each, is.one_team_each))
    (λ e. let two : Some B ≡ Some A = sym m ∙ (ap (slice_get c.marks) e ∙ mark) in absurd (cc two)) m mark same in
    w k.0 h.0 h.1 h.2

pub witness_is_live : (t : TypeTable) (n : ℕ) (c : RawChoice) → IsRawChoice t n c → IsWitness t c → IsLive t c
witness_is_live t n c is w = All-from_get_or (λ o. (transition t o c.state).1 ≢ c.state) c.operations 0
    (λ i l. keeper t n c is w i (get_or c.marks i A) l (slice_get-get_or c.marks i A (omega (arith, l, is.one_operation_each, is.one_team_each))))

-- ---- the live choices of a table

-- they are exactly the live canonical choices
pub live_listed : (t : TypeTable) (n : ℕ) (d : Choice) → Contains (live_choices t n) d ↔ (IsCanonical d × IsRawChoice t n (raw_choice_of d) × IsLive t (raw_choice_of d))
unfolding live_choices
live_listed t n d = (
  λ h.
      let r = was_in (is_live t) d all (IsIn-from_Contains d _ h) in
      let is = (canonical_listed t n d).0 (Contains-from_IsIn d all r.0) in
      (is.0, is.1, live_from t d r.1),
  λ h. Contains-from_IsIn d _ (kept (is_live t) d all (IsIn-from_Contains d all ((canonical_listed t n d).1 (h.0, h.1))) (live_to t d h.2)),
)
  where
    all : List Choice
    all = canonical_choices (length t.states) (length t.operations) n

pub live_ascend : (t : TypeTable) (n : ℕ) → AllPairs ChoiceComesBefore (live_choices t n)
unfolding live_choices
live_ascend t n = AllPairs-from_Pairs ChoiceComesBefore _ (pairs_kept (is_live t) ChoiceComesBefore _ (canonical_ascend (length t.states) (length t.operations) n))

-- if no live choice is a witness, no choice is one
pub live_not_discerning : (t : TypeTable) (n : ℕ) → All (λ d. ¬ IsWitness t (raw_choice_of d)) (live_choices t n) → ¬ IsDiscerning t n
live_not_discerning t n none w =
    let cs : List Choice = live_choices t n in
    let r = coverage t n w.0 w.1 in
    let is_witness = r.1.same_witness.0 w.2 in
    let listed = IsIn-from_Contains r.0 cs ((live_listed t n r.0).1 (r.1.canonical, r.1.for_n, witness_is_live t n (raw_choice_of r.0) r.1.for_n is_witness)) in
    each_at (λ d. ¬ IsWitness t (raw_choice_of d)) cs r.0 (recursion_from_All (λ d. ¬ IsWitness t (raw_choice_of d)) cs none) listed is_witness

pub live_discerning : (t : TypeTable) (n : ℕ) (d : Choice) → Contains (live_choices t n) d → IsWitness t (raw_choice_of d) → IsDiscerning t n
live_discerning t n d h w = (raw_choice_of d, ((live_listed t n d).0 h).1, w)

-- ---- block by block

filter_flat : {X Y : Type 0} (p : Y → Bool) (f : X → List Y) (xs : List X) → filter p (flat_map f xs) ≡ flat_map (λ x. filter p (f x)) xs
filter_flat p f [] = refl
filter_flat p f (x ∷ xs) = filter-append p (f x) (flat_map f xs) ∙ ap (λ l. filter p (f x) ++ l) (filter_flat p f xs)

filter_none : {X Y : Type 0} (p : Y → Bool) (h : X → Y) (xs : List X) → ((x : X) → p (h x) ≡ false) → filter p (map h xs) ≡ []
filter_none p h [] none = refl
filter_none p h (x ∷ xs) none = rw (none x) (filter_none p h xs none)

-- the filter drops only elements that give nothing
passed : {X Y : Type 0} (q : X → Bool) (g : X → List Y) (xs : List X) → ((x : X) → q x ≡ false → g x ≡ []) → flat_map g (filter q xs) ≡ flat_map g xs
passed q g [] none = refl
passed q g (x ∷ xs) none = by_test (q x) refl (passed q g xs none)
  where
    by_test : (b : Bool) → q x ≡ b → flat_map g (filter q xs) ≡ flat_map g xs → flat_map g (cond b (x ∷ filter q xs) (filter q xs)) ≡ g x ++ flat_map g xs
    by_test true e rest = ap (λ l. g x ++ l) rest
    by_test false e rest = rest ∙ ap (λ l. l ++ flat_map g xs) (sym (none x e))

none_live : (t : TypeTable) (k : Block) → all_move t k.state k.a ≡ false → live_in t k ≡ []
none_live t k e = filter_none (is_live t) (λ b. let c : Choice = record { state = k.state; a = k.a; b = b } in c) (second_lists (length t.operations) k.n k.a) (λ b. rw e refl)

-- the live choices of all blocks are all live choices
pub live_cover : (t : TypeTable) (n : ℕ) → flat_map (live_in t) (live_blocks t n) ≡ live_choices t n
unfolding live_blocks live_choices
live_cover t n =
    passed (λ (k : Block). all_move t k.state k.a) (live_in t) (canonical_blocks (length t.states) (length t.operations) n) (none_live t)
    ∙ sym (filter_flat (is_live t) (choices_of_block (length t.operations)) (canonical_blocks (length t.states) (length t.operations) n))
    ∙ ap (filter (is_live t)) (blocks_cover (length t.states) (length t.operations) n)

was_block : (t : TypeTable) (n : ℕ) (k : Block) → Contains (live_blocks t n) k → IsIn k (canonical_blocks (length t.states) (length t.operations) n)
unfolding live_blocks
was_block t n k h = (was_in (λ (k : Block). all_move t k.state k.a) k (canonical_blocks (length t.states) (length t.operations) n) (IsIn-from_Contains k _ h)).0

pub live_blocks_are : (t : TypeTable) (n : ℕ) (k : Block) → n ≤ 8 → Contains (live_blocks t n) k → IsBlockOf t k × (k.n ≡ n)
live_blocks_are t n k few h = blocks_are (length t.states) (length t.operations) n k few (was_block t n k h)

pub live_blocks_fit : (t : TypeTable) (n : ℕ) (k : Block) (d : Choice) → Contains (live_blocks t n) k → Contains (live_in t k) d → IsRawChoice t n (raw_choice_of d)
live_blocks_fit t n k d h i =
    let r = was_in (is_live t) d (choices_of_block (length t.operations) k) (IsIn-from_Contains d _ i) in
    ((canonical_listed t n d).0 (Contains-from_IsIn d _ (blocks_listed (length t.states) (length t.operations) n k d (was_block t n k h) r.0))).1

-- these blocks are exactly the live ones
pub live_blocks_listed : (t : TypeTable) (n : ℕ) (k : Block) → n ≤ 8 → Contains (live_blocks t n) k ↔ IsLiveBlock t n k
unfolding live_blocks
live_blocks_listed t n k few = (
  λ h.
      let r = was_in (λ (k : Block). all_move t k.state k.a) k all (IsIn-from_Contains k _ h) in
      let is = blocks_are (length t.states) (length t.operations) n k few r.0 in
      record {
        block = is.0;
        for_n = is.1;
        moves = All-from_recursion (λ o. (transition t o k.state).1 ≢ k.state) k.a (all_from t k.state k.a r.1);
      },
  λ h. Contains-from_IsIn k _ (kept (λ (k : Block). all_move t k.state k.a) k all
      (to_blocks (length t.states) (length t.operations) n k h.block h.for_n)
      (all_to t k.state k.a (recursion_from_All (λ o. (transition t o k.state).1 ≢ k.state) k.a h.moves))),
)
  where
    all : List Block
    all = canonical_blocks (length t.states) (length t.operations) n

pub live_blocks_ascend : (t : TypeTable) (n : ℕ) → AllPairs BlockComesBefore (live_blocks t n)
unfolding live_blocks
live_blocks_ascend t n =
    AllPairs-from_Pairs BlockComesBefore _ (pairs_kept (λ (k : Block). all_move t k.state k.a) BlockComesBefore _ (blocks_ascend (length t.states) (length t.operations) n))

-- ---- the live choices of one block

-- a canonical choice with the state and the list of team A of the block is one of its choices
in_block : (t : TypeTable) (k : Block) (c : Choice) → IsLiveIn t k c
    → IsIn c (choices_of_block (length t.operations) k)
in_block t k c h =
    let m : ℕ = length t.operations in
    let can = h.canonical in
    let parts = choice-IsRawChoice t k.n c h.for_n in
    let second = to_second m k.n c.a c.b parts.all can.a_not_longer (record {
      long = refl;
      above = above_zero c.b;
      below = recursion_from_All (λ o. o < m) c.b parts.b_known;
      in_order = never_falls c.b can.b_in_order;
    }) can.a_not_above in
    let own : IsIn c.b (second_lists m k.n k.a) =
    subst (λ (a : List ℕ). IsIn c.b (second_lists m k.n a)) h.same_a second in
    let same : choice_of k.state k.a c.b ≡ c = rw (sym h.same_state, sym h.same_a) refl in
    subst (λ (d : Choice). IsIn d (choices_of_block m k)) same
    (IsIn-map (choice_of k.state k.a) c.b (second_lists m k.n k.a) own)

-- they are exactly the live canonical choices with its start state and its list of team A
pub live_in_listed : (t : TypeTable) (k : Block) (c : Choice) → IsBlockOf t k
    → Contains (live_in t k) c ↔ IsLiveIn t k c
live_in_listed t k c is = (
  λ h.
      let r = was_in (is_live t) c (choices_of_block (length t.operations) k) (IsIn-from_Contains c _ h) in
      let block = to_blocks (length t.states) (length t.operations) k.n k is refl in
      let listed = blocks_listed (length t.states) (length t.operations) k.n k c block r.0 in
      let fits = (canonical_listed t k.n c).0 (Contains-from_IsIn c _ listed) in
      let own = in_with_first (length t.operations) k.n k.state k.a c r.0 in
      record {
        canonical = fits.0;
        for_n = fits.1;
        live = live_from t c r.1;
        same_state = own.0;
        same_a = own.1;
      },
  λ h. Contains-from_IsIn c _ (kept (is_live t) c (choices_of_block (length t.operations) k)
      (in_block t k c h) (live_to t c h.live)),
)

pub live_in_ascends : (t : TypeTable) (k : Block) → IsBlockOf t k
    → AllPairs ChoiceComesBefore (live_in t k)
live_in_ascends t k is =
    let m : ℕ = length t.operations in
    let rising : IsRising 0 m (length k.a) k.a = record {
      long = refl;
      above = above_zero k.a;
      below = recursion_from_All (λ o. o < m) k.a is.known;
      in_order = never_falls k.a is.in_order;
    } in
    AllPairs-from_Pairs ChoiceComesBefore _ (pairs_kept (is_live t) ChoiceComesBefore _
    (with_first_ascends m k.n k.state k.a rising))
