-- The answers of blocks, one after the other.
use Rattle.std.proofs.Common.{ℕ, ◌≡◌, ◌<◌, ◌≤◌, arith, length, List, [], ◌∷◌, ◌++◌, slice_index_or, true, false, Option, Some, None, is_some, All, Contains, refl, sym, ap, ◌∙◌, subst, append_assoc, append-nil, true≢false}
use Rattle.std.specs.List.{AllByRecursion, AllZip, flat_map}
use Rattle.std.proofs.lemmas.Grind.{flat_map-append}
use Rattle.std.proofs.lemmas.List.Elements.{All-append, All-from_recursion, recursion_from_All}
use Rattle.std.proofs.lemmas.List.{get_or_default}
use Rattle.rayon.proofs.ListFacts.{AllZip-append}
use Rattle.cn_table.specs.TypeTable.{TypeTable}
use Rattle.cn_choice.specs.Blocks.{Block, IsBlockOf}
use Rattle.cn_choice.specs.Canonical.{Choice, raw_choice_of}
use Rattle.cn_choice.specs.Collisions.{Collision}
use Rattle.cn_choice.specs.Discerning.{IsWitness}
use Rattle.cn_choice.specs.RawChoices.{RawChoice}
use Rattle.cn_finding.specs.Evidence.{AreRecordedFor, IsFirst, IsFirstAmong, IsRecordedFor, NoneIs, NoneIsWitness}
use Rattle.cn_search.specs.Search.{IsListedBlock, IsRefutedBlock, choices_of_all}
use Rattle.cn_choice.specs.Live.{live_blocks, live_in}
use Rattle.cn_collisions.specs.declared.sets.Sets.{Sets}
use Rattle.cn_collisions.specs.Levels.{AreSetsFor}
use Rattle.cn_search.specs.Kept.{KeepsFor}
use Rattle.cn_search.specs.Refuted.{IsRefutedWith}

module _ (t : TypeTable) (P : RawChoice → Type 0) where
  abbrev Fails : Choice → Type 0
  Fails c = ¬ P (raw_choice_of c)

  -- behind choices none of which has the property, and before others
  pub behind : (xs ys : List Choice) (found : Option Choice) → NoneIs P xs → IsFirstAmong P ys found → IsFirstAmong P (xs ++ ys) found
  behind xs ys None none h = All-append Fails xs ys none h
  behind xs ys (Some w) none h = record {
    before = xs ++ h.before;
    after = h.after;
    listed = ap (λ l. xs ++ l) h.listed ∙ sym (append_assoc xs h.before (w ∷ h.after));
    witness = h.witness;
    earlier = All-append Fails xs h.before none h.earlier;
  }

  pub ahead : (xs ys : List Choice) (w : Choice) → IsFirst P xs w → IsFirst P (xs ++ ys) w
  ahead xs ys w h = record { before = h.before; after = h.after ++ ys; listed = ap (λ l. l ++ ys) h.listed ∙ append_assoc h.before (w ∷ h.after) ys; witness = h.witness; earlier = h.earlier }

  -- some blocks have no choice with the property, and these are behind them
  pub record IsSearched (blocks : List Block) (left : List Block) : Type 0 where
    pub before : List Block
    pub all : blocks ≡ before ++ left
    pub none : NoneIs P (choices_of_all t before)

  pub search_start : (blocks : List Block) → IsSearched blocks blocks
  search_start blocks = record { before = []; all = refl; none = λ k d less. absurd (let l : k < 0 = less in omega (arith, l)) }

  pub search_on : (blocks left batch rest : List Block) → IsSearched blocks left → left ≡ batch ++ rest → NoneIs P (choices_of_all t batch) → IsSearched blocks rest
  search_on blocks left batch rest s parts none = record {
    before = s.before ++ batch;
    all = s.all ∙ ap (λ l. s.before ++ l) parts ∙ sym (append_assoc s.before batch rest);
    none = subst (NoneIs P) (sym (flat_map-append (live_in t) s.before batch)) (All-append Fails (choices_of_all t s.before) (choices_of_all t batch) s.none none);
  }

  pub search_found : (blocks left batch rest : List Block) (w : Choice) → IsSearched blocks left → left ≡ batch ++ rest → IsFirst P (choices_of_all t batch) w → IsFirst P (choices_of_all t blocks) w
  search_found blocks left batch rest w s parts first =
      let whole : choices_of_all t blocks ≡ choices_of_all t s.before ++ (choices_of_all t batch ++ choices_of_all t rest) =
      ap (flat_map (live_in t)) (s.all ∙ ap (λ l. s.before ++ l) parts) ∙ flat_map-append (live_in t) s.before (batch ++ rest)
      ∙ ap (λ l. choices_of_all t s.before ++ l) (flat_map-append (live_in t) batch rest) in
      subst (λ l. IsFirst P l w) (sym whole)
      (behind (choices_of_all t s.before) (choices_of_all t batch ++ choices_of_all t rest) (Some w) s.none (ahead (choices_of_all t batch) (choices_of_all t rest) w first))

  pub search_done : (blocks : List Block) → IsSearched blocks [] → NoneIs P (choices_of_all t blocks)
  search_done blocks s = subst (λ l. NoneIs P (choices_of_all t l)) (sym (s.all ∙ append-nil s.before)) s.none

  -- the answers of the blocks that are left
  pub record IsJoining (blocks : List Block) (left : List (Option Choice)) : Type 0 where
    pub after : List Block
    pub searched : IsSearched blocks after
    pub answers : AllZip (λ k o. IsFirstAmong P (live_in t k) o) after left

  pub join_start : (blocks : List Block) (found : List (Option Choice)) → AllZip (λ k o. IsFirstAmong P (live_in t k) o) blocks found → IsJoining blocks found
  join_start blocks found h = record { after = blocks; searched = search_start blocks; answers = h }

  one_block : (k : Block) → choices_of_all t (k ∷ []) ≡ live_in t k
  one_block k = append-nil (live_in t k)

  pub join_on : (blocks : List Block) (left rest : List (Option Choice)) (o : Option Choice) → IsJoining blocks left → left ≡ o ∷ rest → is_some o ≡ false → IsJoining blocks rest
  join_on blocks left rest o j e none = go j.after j.searched (subst (λ l. AllZip (λ k o. IsFirstAmong P (live_in t k) o) j.after l) e j.answers)
    where
      no : (p : Option Choice) (k : Block) → is_some p ≡ false → IsFirstAmong P (live_in t k) p → NoneIs P (live_in t k)
      no None k n h = h
      no (Some w) k n h = absurd (true≢false n)

      go : (after : List Block) → IsSearched blocks after → AllZip (λ k o. IsFirstAmong P (live_in t k) o) after (o ∷ rest) → IsJoining blocks rest
      go [] s h = absurd h
      go (k ∷ after) s h = record { after = after; searched = search_on blocks (k ∷ after) (k ∷ []) after s refl (subst (NoneIs P) (sym (one_block k)) (no o k none h.0)); answers = h.1 }

  pub join_found : (blocks : List Block) (left rest : List (Option Choice)) (o : Option Choice) → IsJoining blocks left → left ≡ o ∷ rest → is_some o ≡ true
      → IsFirstAmong P (choices_of_all t blocks) o
  join_found blocks left rest o j e some = go j.after j.searched (subst (λ l. AllZip (λ k o. IsFirstAmong P (live_in t k) o) j.after l) e j.answers)
    where
      by : (o : Option Choice) (k : Block) (after : List Block) → is_some o ≡ true → IsSearched blocks (k ∷ after) → IsFirstAmong P (live_in t k) o → IsFirstAmong P (choices_of_all t blocks) o
      by None k after n s h = absurd (true≢false (sym n))
      by (Some w) k after n s h = search_found blocks (k ∷ after) (k ∷ []) after w s refl (subst (λ l. IsFirst P l w) (sym (one_block k)) h)

      go : (after : List Block) → IsSearched blocks after → AllZip (λ k o. IsFirstAmong P (live_in t k) o) after (o ∷ rest) → IsFirstAmong P (choices_of_all t blocks) o
      go [] s h = absurd h
      go (k ∷ after) s h = by o k after some s h.0

  pub join_done : (blocks : List Block) (left : List (Option Choice)) → IsJoining blocks left → left ≡ [] → NoneIs P (choices_of_all t blocks)
  join_done blocks left j e = go j.after j.searched (subst (λ l. AllZip (λ k o. IsFirstAmong P (live_in t k) o) j.after l) e j.answers)
    where
      go : (after : List Block) → IsSearched blocks after → AllZip (λ k o. IsFirstAmong P (live_in t k) o) after [] → NoneIs P (choices_of_all t blocks)
      go [] s h = search_done blocks s
      go (k ∷ after) s h = absurd h

module _ (t : TypeTable) where
  -- the choices of one block more
  pub choices_more : (before : List Block) (k : Block) → choices_of_all t before ++ live_in t k ≡ choices_of_all t (before ++ k ∷ [])
  choices_more before k = sym (flat_map-append (live_in t) before (k ∷ []) ∙ ap (λ l. choices_of_all t before ++ l) (append-nil (live_in t k)))

  module _ {E : Type 0} (keeps : E → List Collision → Type 0) where
    -- a form that keeps no collision
    pub keeps_none : (form : E) → keeps form [] → KeepsFor keeps t [] form
    keeps_none form k = record { kept = []; keeps_these = k; recorded = tt }

    module _ {X : Type 0} (choices : X → List Choice) where
      -- the collisions of one item more
      pub keeps_more : (before : List X) (x : X) (form part next : E) → ((kept more : List Collision) → keeps form kept → keeps part more → keeps next (kept ++ more))
          → KeepsFor keeps t (flat_map choices before) form → KeepsFor keeps t (choices x) part → KeepsFor keeps t (flat_map choices (before ++ x ∷ [])) next
      keeps_more before x form part next joins done here = record {
        kept = done.kept ++ here.kept;
        keeps_these = joins done.kept here.kept done.keeps_these here.keeps_these;
        recorded =
            subst (λ l. AreRecordedFor t l (done.kept ++ here.kept)) (sym (flat_map-append choices before (x ∷ []) ∙ ap (λ l. flat_map choices before ++ l) (append-nil (choices x))))
            (AllZip-append (IsRecordedFor t) (flat_map choices before) (choices x) done.kept here.kept done.recorded here.recorded);
      }

-- an empty list
pub nil_from_length : {X : Type 0} (xs : List X) → length xs ≡ 0 → xs ≡ []
nil_from_length [] e = refl
nil_from_length (x ∷ xs) e = absurd (omega arith)

pub parts_of : {X : Type 0} (P : X → Type 0) (xs ys : List X) → AllByRecursion P (xs ++ ys) → AllByRecursion P xs × AllByRecursion P ys
parts_of P [] ys h = (tt, h)
parts_of P (x ∷ xs) ys h = let r = parts_of P xs ys h.1 in ((h.0, r.0), r.1)

-- each block is listed, and where no choice is a witness each is refuted
pub all_listed : (t : TypeTable) (n : ℕ) → 2 ≤ n → n ≤ 8 → ((k : Block) → n ≤ 8 → Contains (live_blocks t n) k → IsBlockOf t k × (k.n ≡ n)) → (blocks : List Block)
    → blocks ≡ live_blocks t n → All (IsListedBlock t) blocks
all_listed t n some few law blocks e = λ i d less.
    (let k : Block = slice_index_or blocks i d in
    let there : Contains blocks k = (i, less, get_or_default blocks i k d less) in
    let listed : Contains (live_blocks t n) k = subst (λ (l : List Block). Contains l k) e there in
    let same : k.n ≡ n = (law k few listed).1 in
    record { some = omega (arith, same); few = omega (arith, same); listed = subst (λ m. Contains (live_blocks t m) k) (sym same) listed })

all_refuted : (t : TypeTable) (blocks : List Block) → All (IsListedBlock t) blocks → NoneIsWitness t (choices_of_all t blocks) → All (IsRefutedBlock t) blocks
all_refuted t blocks listed none = All-from_recursion (IsRefutedBlock t) blocks
    (go blocks (recursion_from_All (IsListedBlock t) blocks listed) (recursion_from_All (Fails t (IsWitness t)) (choices_of_all t blocks) none))
  where
    go : (blocks : List Block) → AllByRecursion (IsListedBlock t) blocks → AllByRecursion (Fails t (IsWitness t)) (choices_of_all t blocks) → AllByRecursion (IsRefutedBlock t) blocks
    go [] l n = tt
    go (k ∷ blocks) l n =
        let p = parts_of (Fails t (IsWitness t)) (live_in t k) (choices_of_all t blocks) n in
        (record { block = l.0; none = All-from_recursion (Fails t (IsWitness t)) (live_in t k) p.0 }, go blocks l.1 p.1)

-- each is refuted, and the sets for n processes are those for it
pub all_refuted_with : (t : TypeTable) (n : ℕ) (s : Sets) → AreSetsFor t n s → 2 ≤ n → n ≤ 8 → ((k : Block) → n ≤ 8 → Contains (live_blocks t n) k → IsBlockOf t k × (k.n ≡ n))
    → (blocks : List Block) → blocks ≡ live_blocks t n
    → NoneIsWitness t (choices_of_all t blocks) → All (IsRefutedWith t s) blocks
all_refuted_with t n s sets some few law blocks e none = λ i d less.
    (let k : Block = slice_index_or blocks i d in
    let there : Contains blocks k = (i, less, get_or_default blocks i k d less) in
    let same : k.n ≡ n = (law k few (subst (λ (l : List Block). Contains l k) e there)).1 in
    record { block = all_refuted t blocks (all_listed t n some few law blocks e) none i d less; sets = subst (λ m. AreSetsFor t m s) (sym same) sets })
