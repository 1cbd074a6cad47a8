use Rattle.std.proofs.Common.{ℕ, suc, ◌≡◌, ◌+◌, ◌-◌, ◌≤◌, ◌++◌, List, append-nil, append_assoc, arith, sym, ap, ◌∙◌, length, length-append, replicate}
use Rattle.std.specs.Prelude.{slice_index}
use Rattle.std.proofs.lemmas.List.{length-replicate}
use Rattle.cn_shortest.specs.Sizes.{sizes_from, sizes_of}
use Rattle.cn_shortest.proofs.building.list_of.Goals as goal

abbrev here : List ℕ → ℕ → List ℕ
here counts k = replicate (slice_index counts k) k

-- what is left begins with the next size
next_size : (counts : List ℕ) (i : ℕ) (list : List ℕ) → i + 1 ≤ 8 → list ++ sizes_from counts (8 - i) ≡ sizes_of counts
    → (list ++ here counts (8 - i)) ++ sizes_from counts (8 - (i + 1)) ≡ sizes_of counts
next_size counts i list l e =
    let k = 8 - (i + 1) in
    let next : 8 - i ≡ suc k = omega (arith, l) in
    let split : sizes_from counts (8 - i) ≡ here counts (8 - i) ++ sizes_from counts k = ap (sizes_from counts) next ∙ ap (λ j. here counts j ++ sizes_from counts k) (sym next) in
    append_assoc list (here counts (8 - i)) (sizes_from counts k) ∙ (ap (λ xs. list ++ xs) (sym split) ∙ e)

next_room : (counts : List ℕ) (i : ℕ) (list : List ℕ) → length (sizes_of counts) ≤ 8 → i + 1 ≤ 8 → list ++ sizes_from counts (8 - i) ≡ sizes_of counts
    → length list + slice_index counts (8 - i) ≤ 8
next_room counts i list few l e =
    let now = list ++ here counts (8 - i) in
    omega (arith, few, ap length (next_size counts i list l e), length-append now (sizes_from counts (8 - (i + 1))), length-append list (here counts (8 - i)), length-replicate (slice_index counts (8 - i)) (8 - i))

none_left : (counts : List ℕ) (i : ℕ) (list : List ℕ) → 8 ≤ i → list ++ sizes_from counts (8 - i) ≡ sizes_of counts → list ≡ sizes_of counts
none_left counts i list l e =
    let none : 8 - i ≡ 0 = omega (arith, l) in
    sym (append-nil list) ∙ (ap (λ s. list ++ sizes_from counts s) (sym none) ∙ e)

pub add_size-requires : goal.add_size-requires
add_size-requires c =
    next_room c.args.counts.now c.loop-smaller.smaller c.loop-smaller.list.items c.requires (omega (arith, c.loop-smaller-test.true)) c.loop-smaller.invariant

pub loop-smaller-preserved : goal.loop-smaller-preserved
loop-smaller-preserved c =
    let counts = c.args.counts.now in
    ap (λ (xs : List ℕ). xs ++ sizes_from counts (8 - (c.loop-smaller.smaller + 1))) c.add_size.ensures
    ∙ next_size counts c.loop-smaller.smaller c.loop-smaller.list.items (omega (arith, c.loop-smaller-test.true)) c.loop-smaller.invariant

pub returns : goal.returns
returns c = none_left c.args.counts.now c.loop-smaller.smaller c.loop-smaller.list.items (omega (arith, c.loop-smaller-test.false)) c.loop-smaller.invariant
