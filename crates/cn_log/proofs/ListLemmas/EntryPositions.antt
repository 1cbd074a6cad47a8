-- The places of the entries of batches.
use Rattle.std.proofs.Common.{ℕ, zero, suc, ◌≡◌, ◌⊎◌, inl, inr, ◌+◌, ◌*◌, ◌<◌, ◌≤◌, List, [], ◌∷◌, ◌++◌, length, map, take, slice_get, Option, Some, None, refl, sym, ap, ◌∙◌, arith, length-append, append_assoc}
use Rattle.std.proofs.lemmas.List.{length-map}
use Rattle.cn_log.specs.declared.entry.Entry.{Entry}
use Rattle.cn_table.proofs.Lists.{get_front}
use Rattle.cn_log.specs.declared.batch.Batch.{Batch}
use Rattle.cn_log.specs.Batches.{each_slot, entry_at, and_entry, members, entries_in, slots_from}

pub get_right : {A : Type 0} (xs ys : List A) (k : ℕ) → slice_get (xs ++ ys) (length xs + k) ≡ slice_get ys k
get_right [] ys k = let z : 0 + k ≡ k = omega arith in ap (slice_get ys) z
get_right (x ∷ xs) ys k = let z : suc (length xs) + k ≡ suc (length xs + k) = omega arith in rw z (get_right xs ys k)

get_cases : {A : Type 0} (xs ys : List A) (i : ℕ) (x : A) → slice_get (xs ++ ys) i ≡ Some x → (slice_get xs i ≡ Some x) ⊎ ((j : ℕ) × (i ≡ length xs + j) × (slice_get ys j ≡ Some x))
get_cases [] ys i x h = inr (i, omega arith, h)
get_cases (z ∷ xs) ys zero x h = inl h
get_cases (z ∷ xs) ys (suc i) x h = elim (get_cases xs ys i x h) [ inl a ↦ inl a | inr b ↦ inr (b.0, (let e = b.1 in omega (arith, e)), b.2) ]

-- an entry among the members of a batch: its process, and the number of entries before it
pub of_members : (many q : ℕ) (b : Batch) (i : ℕ) (e : Entry) → slice_get (members many q b) i ≡ Some e → (j : ℕ) × (j < many) × (entry_at b (q + j) ≡ Some e) × (i ≡ length (members j q b))
of_members zero q b i e h = absurd cc
of_members (suc many) q b i e h = go (entry_at b q) refl i h (λ i h. of_members many (suc q) b i e h)
  where
    go : (o : Option Entry) → entry_at b q ≡ o → (i : ℕ) → slice_get (and_entry o (members many (suc q) b)) i ≡ Some e
        → ((i : ℕ) → slice_get (members many (suc q) b) i ≡ Some e → (j : ℕ) × (j < many) × (entry_at b (suc q + j) ≡ Some e) × (i ≡ length (members j (suc q) b)))
        → (j : ℕ) × (j < suc many) × (entry_at b (q + j) ≡ Some e) × (i ≡ length (members j q b))
    go None is i h rest = let r = rest i h in let s : q + suc r.0 ≡ suc q + r.0 = omega arith in (suc r.0, (let l = r.1 in omega arith), rw s r.2, rw is r.3)
    go (Some x) is zero h rest = let z : q + 0 ≡ q = omega arith in (zero, omega arith, rw z (is ∙ h), refl)
    go (Some x) is (suc i) h rest = let r = rest i h in let s : q + suc r.0 ≡ suc q + r.0 = omega arith in (suc r.0, (let l = r.1 in omega arith), rw s r.2, rw is (ap suc r.3))

-- the entry of a process stands behind those of the earlier processes
split_members : (many q : ℕ) (b : Batch) (j : ℕ) (e : Entry) → j < many → entry_at b (q + j) ≡ Some e → (rest : List Entry) × (members many q b ≡ members j q b ++ e ∷ rest)
split_members zero q b j e less h = absurd (omega arith)
split_members (suc many) q b zero e less h = let z : q + 0 ≡ q = omega arith in let g : entry_at b q ≡ Some e = rw z at h in (members many (suc q) b, rw g refl)
split_members (suc many) q b (suc j) e less h = go (entry_at b q) refl (let s : q + suc j ≡ suc q + j = omega arith in split_members many (suc q) b j e (omega arith) (rw s at h))
  where
    go : (o : Option Entry) → entry_at b q ≡ o → (rest : List Entry) × (members many (suc q) b ≡ members j (suc q) b ++ e ∷ rest)
        → (rest : List Entry) × (members (suc many) q b ≡ members (suc j) q b ++ e ∷ rest)
    go None is r = (r.0, rw is r.1)
    go (Some x) is r = (r.0, rw is (ap (λ l. x ∷ l) r.1))

pub members_few : (many q : ℕ) (b : Batch) → length (members many q b) ≤ many
members_few zero q b = omega arith
members_few (suc many) q b = go (entry_at b q) (members_few many (suc q) b)
  where
    go : (o : Option Entry) → length (members many (suc q) b) ≤ many → length (and_entry o (members many (suc q) b)) ≤ suc many
    go None l = omega arith
    go (Some x) l = omega arith

-- n processes have at most n entries in each batch
pub entries_few_in : (n : ℕ) (bs : List Batch) → length (entries_in n bs) ≤ n * length bs
entries_few_in n [] = omega arith
entries_few_in n (b ∷ bs) =
    let a = members_few n 0 b in
    let r = entries_few_in n bs in
    let l : length (members n 0 b ++ entries_in n bs) ≡ length (members n 0 b) + length (entries_in n bs) = length-append (members n 0 b) (entries_in n bs) in
    omega (arith, a, r, l)

split_entries : (n : ℕ) (bs : List Batch) (k : ℕ) (b : Batch) → slice_get bs k ≡ Some b → (rest : List Entry) × (entries_in n bs ≡ entries_in n (take k bs) ++ (members n 0 b ++ rest))
split_entries n [] k b h = absurd cc
split_entries n (c ∷ bs) zero b h = let same : c ≡ b = cc in (entries_in n bs, ap (λ (z : Batch). members n 0 z ++ entries_in n bs) same)
split_entries n (c ∷ bs) (suc k) b h = let r = split_entries n bs k b h in
    (r.0, ap (λ l. members n 0 c ++ l) r.1 ∙ sym (append_assoc (members n 0 c) (entries_in n (take k bs)) (members n 0 b ++ r.0)))

-- the entry has this place among those of the batches
pub record IsPlaced (n : ℕ) (bs : List Batch) (place : ℕ) (e : Entry) : Type 0 where
  pub slot : ℕ
  pub batch : Batch
  pub process : ℕ
  pub there : slice_get bs slot ≡ Some batch
  pub low : process < n
  pub at : entry_at batch process ≡ Some e
  pub place_is : place ≡ length (entries_in n (take slot bs)) + length (members process 0 batch)

pub of_entries : (n : ℕ) (bs : List Batch) (place : ℕ) (e : Entry) → slice_get (entries_in n bs) place ≡ Some e → IsPlaced n bs place e
of_entries n [] place e h = absurd cc
of_entries n (b ∷ bs) place e h = elim (get_cases (members n 0 b) (entries_in n bs) place e h) [
  | inl now ↦ (let m = of_members n 0 b place e now in
      record { slot = 0; batch = b; process = m.0; there = refl; low = m.1; at = (let z : 0 + m.0 ≡ m.0 = omega arith in rw z at m.2); place_is = (let p = m.3 in omega (arith, p)) })
  | inr later ↦ (let r = of_entries n bs later.0 e later.2 in record {
    slot = suc r.slot;
    batch = r.batch;
    process = r.process;
    there = r.there;
    low = r.low;
    at = r.at;
    place_is = (let l : length (members n 0 b ++ entries_in n (take r.slot bs)) ≡ length (members n 0 b) + length (entries_in n (take r.slot bs)) =
        length-append (members n 0 b) (entries_in n (take r.slot bs)) in let p = r.place_is in let q = later.1 in omega (arith, l, p, q));
  })
]

module _ (n : ℕ) (bs : List Batch) (k : ℕ) (b : Batch) (q : ℕ) (e : Entry) (there : slice_get bs k ≡ Some b) (low : q < n) (at : entry_at b q ≡ Some e) where
  -- the entries before that of process q in slot k
  abbrev pub before : List Entry
  before = entries_in n (take k bs) ++ members q 0 b

  pub split : (rest : List Entry) × (entries_in n bs ≡ before ++ e ∷ rest)
  split =
      let s = split_entries n bs k b there in
      let z : 0 + q ≡ q = omega arith in
      let m = split_members n 0 b q e low (rw z at) in
      let f = entries_in n (take k bs) in
      (m.0 ++ s.0, s.1 ∙ ap (λ l. f ++ (l ++ s.0)) m.1 ∙ ap (λ l. f ++ l) (append_assoc (members q 0 b) (e ∷ m.0) s.0) ∙ sym (append_assoc f (members q 0 b) (e ∷ (m.0 ++ s.0))))

  before_many : length before ≡ length (entries_in n (take k bs)) + length (members q 0 b)
  before_many = length-append (entries_in n (take k bs)) (members q 0 b)

  pub in_entries : slice_get (entries_in n bs) (length (entries_in n (take k bs)) + length (members q 0 b)) ≡ Some e
  in_entries =
      let r = get_right before (e ∷ split.0) 0 in
      let z : length before + 0 ≡ length (entries_in n (take k bs)) + length (members q 0 b) = (let m = before_many in omega (arith, m)) in
      ap (λ l. slice_get l (length (entries_in n (take k bs)) + length (members q 0 b))) split.1 ∙ ap (slice_get (before ++ e ∷ split.0)) (sym z) ∙ r

  pub front : (j : ℕ) (x : Entry) → slice_get before j ≡ Some x → slice_get (entries_in n bs) j ≡ Some x
  front j x h = ap (λ l. slice_get l j) split.1 ∙ get_front before (e ∷ split.0) j x h

-- the place of an entry is before that of an entry in a later slot
pub slots_in_order : (n : ℕ) (bs : List Batch) (j k : ℕ) (b c : Batch) (p q : ℕ) (e : Entry) → slice_get bs j ≡ Some b → slice_get bs k ≡ Some c → j < k → p < n → entry_at b p ≡ Some e
    → length (entries_in n (take j bs)) + length (members p 0 b) < length (entries_in n (take k bs)) + length (members q 0 c)
slots_in_order n [] j k b c p q e hj hk less low at = absurd cc
slots_in_order n (d ∷ bs) j zero b c p q e hj hk less low at = absurd (omega arith)
slots_in_order n (d ∷ bs) zero (suc k) b c p q e hj hk less low at =
    let same : d ≡ b = cc in
    let z : 0 + p ≡ p = omega arith in
    let m = split_members n 0 b p e low (rw z at) in
    let a : length (members n 0 b) ≡ length (members p 0 b) + length (e ∷ m.0) = ap length m.1 ∙ length-append (members p 0 b) (e ∷ m.0) in
    let l : length (members n 0 d ++ entries_in n (take k bs)) ≡ length (members n 0 d) + length (entries_in n (take k bs)) = length-append (members n 0 d) (entries_in n (take k bs)) in
    let s : length (members n 0 d) ≡ length (members n 0 b) = ap (λ (x : Batch). length (members n 0 x)) same in
    omega (arith, a, l, s)
slots_in_order n (d ∷ bs) (suc j) (suc k) b c p q e hj hk less low at =
    let r = slots_in_order n bs j k b c p q e hj hk (omega arith) low at in
    let l : length (members n 0 d ++ entries_in n (take j bs)) ≡ length (members n 0 d) + length (entries_in n (take j bs)) = length-append (members n 0 d) (entries_in n (take j bs)) in
    let m : length (members n 0 d ++ entries_in n (take k bs)) ≡ length (members n 0 d) + length (entries_in n (take k bs)) = length-append (members n 0 d) (entries_in n (take k bs)) in
    omega (arith, r, l, m)

-- in a slot, the place of an entry is before that of a later process
pub members_in_order : (b : Batch) (p q : ℕ) (e : Entry) → p < q → entry_at b p ≡ Some e → length (members p 0 b) < length (members q 0 b)
members_in_order b p q e less at =
    let z : 0 + p ≡ p = omega arith in
    let m = split_members q 0 b p e less (rw z at) in
    let a : length (members q 0 b) ≡ length (members p 0 b) + length (e ∷ m.0) = ap length m.1 ∙ length-append (members p 0 b) (e ∷ m.0) in
    omega (arith, a)

get_map : {A B : Type 0} (f : A → B) (xs : List A) (k : ℕ) (x : A) → slice_get xs k ≡ Some x → slice_get (map f xs) k ≡ Some (f x)
get_map f [] k x h = absurd cc
get_map f (y ∷ xs) zero x h = let same : y ≡ x = cc in ap (λ z. Some (f z)) same
get_map f (y ∷ xs) (suc k) x h = get_map f xs k x h

-- the slot of a place is that of the entry there
pub slot_of : (n base : ℕ) (bs : List Batch) (place : ℕ) (e : Entry) → slice_get (entries_in n bs) place ≡ Some e → (k : ℕ) × (b : Batch) × (q : ℕ) × (slice_get bs k ≡ Some b) × (q < n)
    × (entry_at b q ≡ Some e) × (place ≡ length (entries_in n (take k bs)) + length (members q 0 b)) × (slice_get (slots_from n base bs) place ≡ Some (base + k))
slot_of n base [] place e h = absurd cc
slot_of n base (b ∷ bs) place e h = elim (get_cases (members n 0 b) (entries_in n bs) place e h) [
  | inl now ↦ (let m = of_members n 0 b place e now in let z : 0 + m.0 ≡ m.0 = omega arith in let y : base + 0 ≡ base = omega arith in (
    0,
    b,
    m.0,
    refl,
    m.1,
    rw z at m.2,
    (let p = m.3 in omega (arith, p)),
    get_front (map (λ (x : Entry). base) (members n 0 b)) (slots_from n (suc base) bs) place base
        (get_map (λ (x : Entry). base) (members n 0 b) place e now) ∙ ap Some (sym y),
  ))
  | inr later ↦ (let r = slot_of n (suc base) bs later.0 e later.2 in
      let l : length (members n 0 b ++ entries_in n (take r.0 bs)) ≡ length (members n 0 b) + length (entries_in n (take r.0 bs)) = length-append (members n 0 b) (entries_in n (take r.0 bs)) in
      let many : length (map (λ (x : Entry). base) (members n 0 b)) ≡ length (members n 0 b) = length-map (members n 0 b) (λ (x : Entry). base) in
      let there : place ≡ length (map (λ (x : Entry). base) (members n 0 b)) + later.0 = (let q = later.1 in omega (arith, q, many)) in
      let y : suc base + r.0 ≡ base + suc r.0 = omega arith in (
        suc r.0,
        r.1,
        r.2,
        r.3,
        r.4,
        r.5,
        (let p = r.6 in let q = later.1 in omega (arith, l, p, q)),
        ap (slice_get (slots_from n base (b ∷ bs))) there ∙ get_right (map (λ (x : Entry). base) (members n 0 b)) (slots_from n (suc base) bs) later.0 ∙ r.7 ∙ ap Some y,
      ))
]

-- the entries of more batches
pub entries_put : (n : ℕ) (bs cs : List Batch) → entries_in n (bs ++ cs) ≡ entries_in n bs ++ entries_in n cs
entries_put n [] cs = refl
entries_put n (b ∷ bs) cs = ap (λ l. members n 0 b ++ l) (entries_put n bs cs) ∙ sym (append_assoc (members n 0 b) (entries_in n bs) (entries_in n cs))

pub slots_put : (n base : ℕ) (bs cs : List Batch) → slots_from n base (bs ++ cs) ≡ slots_from n base bs ++ slots_from n (base + length bs) cs
slots_put n base [] cs = let z : base + 0 ≡ base = omega arith in ap (λ i. slots_from n i cs) (sym z)
slots_put n base (b ∷ bs) cs =
    let z : suc base + length bs ≡ base + suc (length bs) = omega arith in
    ap (λ l. each_slot base (members n 0 b) ++ l) (slots_put n (suc base) bs cs ∙ ap (λ i. slots_from n (suc base) bs ++ slots_from n i cs) z)
    ∙ sym (append_assoc (each_slot base (members n 0 b)) (slots_from n (suc base) bs) (slots_from n (base + suc (length bs)) cs))

pub slots_as_many : (n base : ℕ) (bs : List Batch) → length (slots_from n base bs) ≡ length (entries_in n bs)
slots_as_many n base [] = refl
slots_as_many n base (b ∷ bs) =
    let l = length-append (each_slot base (members n 0 b)) (slots_from n (suc base) bs) in
    let m : length (each_slot base (members n 0 b)) ≡ length (members n 0 b) = length-map (members n 0 b) (λ (x : Entry). base) in
    let r = slots_as_many n (suc base) bs in
    let k : length (members n 0 b ++ entries_in n bs) ≡ length (members n 0 b) + length (entries_in n bs) = length-append (members n 0 b) (entries_in n bs) in
    omega (arith, l, m, r, k)
