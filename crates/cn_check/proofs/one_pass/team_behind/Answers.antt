use Rattle.std.proofs.Common.{◌≡◌, ◌∙◌, [], ℕ, List, length, take, ap, arith, sym}
use Rattle.std.specs.List.{refill}
use Rattle.cn_choice.specs.Canonical.{Choice, with_first}
use Rattle.cn_choice.specs.Rising.{rising_after}
use Rattle.cn_check.specs.EntryTexts.{HavePassed, IsKnown}
use Rattle.cn_check.specs.Refutations.{counting}
use Rattle.cn_check.proofs.PassLemmas.{fits_table, list_over, list_past, pass_as, pass_end, pass_first}
use Rattle.cn_check.proofs.RefutationLemmas.{beside}
use Rattle.cn_check.proofs.LineLemmas.{followed, known_room, small_list}
use Rattle.cn_check.proofs.StepLemmas.{written_over}
use Rattle.cn_check.proofs.one_pass.team_behind.Goals as goal
use Rattle.cn_check.proofs.one_pass.team_behind.Goals.{Joined-list_counts, then-list_counts+in_ok-left, else-list_counts}

pub loop-b-init : goal.loop-b-init
loop-b-init c =
    let t = c.args.table.now in
    let v : ℕ = c.args.version in
    let m : ℕ = length t.operations in
    let some = rw c.operations-operations.ensures.number at c.operations-operations.ensures.range.0 in
    let first = c.first_beside-b.ensures.first m some in
    record {
      known = c.first_beside-b.ensures.known m some c.requires.known;
      long = c.first_beside-b.ensures.long;
      right = rw c.new-line.ensures tt;
      passed = pass_first t _ c.args.bytes.now _ (ap (λ (bs : List (List ℕ)). counting v t (beside v t c.args.state.0 c.args.a.now bs)) first);
    }

pub entry_behind-requires-clause-fits : goal.entry_behind-requires-clause-fits
entry_behind-requires-clause-fits c =
    rw c.as_slice-then-list_counts.ensures.value
    (fits_table c.choice_by_teams.ensures c.args.table.now c.args.n c.args.state.0 c.args.a.now c.loop-b.b.items c.requires.state c.requires.known c.loop-b.invariant.known
    c.requires.some c.requires.half
    c.loop-b.invariant.long c.requires.few)

pub entry_behind-requires-clause-known : goal.entry_behind-requires-clause-known
entry_behind-requires-clause-known c = rw c.as_slice-then-list_counts.ensures.value c.loop-b.invariant.right

pub entry_behind-requires-clause-small_b : goal.entry_behind-requires-clause-small_b
entry_behind-requires-clause-small_b c = rw c.as_slice-then-list_counts.ensures.value
    (small_list (length c.args.table.now.operations) c.loop-b.b.items (omega (arith, c.operations-operations.ensures.number, c.operations-operations.ensures.range.1)) c.loop-b.invariant.known)

-- past the choice with this list, whether it counts or not
past : (c : Joined-list_counts) →
    let t = c.args.table.now in
    let m : ℕ = length t.operations in
    HavePassed t (counting c.args.version t (with_first m c.args.n c.args.state.0 c.args.a.now)) c.args.bytes.now
    (counting c.args.version t (beside c.args.version t c.args.state.0 c.args.a.now (rising_after m c.loop-b.b.items))) c.if-list_counts.left.now
past c =
    let t = c.args.table.now in
    let v : ℕ = c.args.version in
    let m : ℕ = length t.operations in
    let s : ℕ = c.args.state.0 in
    let b : List ℕ = c.loop-b.b.items in
    let all : List Choice = counting v t (with_first m c.args.n s c.args.a.now) in
    elim c.if-list_counts.branch [
      | then-list_counts+in_ok-left w ↦
          (let counts = rw c.as_slice.ensures.value at (sym c.list_counts.ensures ∙ w.if-list_counts.true) in
          rw w.left-is (list_past t all c.args.bytes.now v s c.args.a.now b (rising_after m b) _ c.loop-b.invariant.passed _ c.requires.counts counts
          (rw w.as_slice-then-list_counts.ensures.value at w.in_ok-left.ensures.spelled)))
      | else-list_counts w ↦
          (let counts = rw c.as_slice.ensures.value at (sym c.list_counts.ensures ∙ w.if-list_counts.false) in
          rw w.left-is (list_over t all c.args.bytes.now v s c.args.a.now b (rising_after m b) _ c.loop-b.invariant.passed counts))
    ]

-- the line is known for this list
known_here : (c : Joined-list_counts)
    → IsKnown c.args.table.now (record { state = c.args.state.0; a = c.args.a.now; b = c.loop-b.b.items }) c.if-list_counts.line.text.items c.if-list_counts.line.greatest
known_here c = elim c.if-list_counts.branch [
  | then-list_counts+in_ok-left w ↦ rw w.line-is (rw w.as_slice-then-list_counts.ensures.value at w.in_ok-left.ensures.known)
  | else-list_counts w ↦ rw w.line-is c.loop-b.invariant.right
]

pub returns-in-None : goal.returns-in-None
returns-in-None c =
    let t = c.args.table.now in
    let v : ℕ = c.args.version in
    let none = rw (c.operations-operations.ensures.number, c.as_mut_slice.ensures.value) at c.in-None.ensures.last in
    pass_end t _ c.args.bytes.now _
    (pass_as t _ c.args.bytes.now _ [] _ (ap (λ (bs : List (List ℕ)). counting v t (beside v t c.args.state.0 c.args.a.now bs)) none) (past (goal.at.returns-in-None c).Joined-list_counts))

pub loop-b-preserved : goal.loop-b-preserved
loop-b-preserved c =
    let t = c.args.table.now in
    let v : ℕ = c.args.version in
    let s : ℕ = c.args.state.0 in
    let a : List ℕ = c.args.a.now in
    let b : List ℕ = c.loop-b.b.items in
    let next : List ℕ = c.step_from.new.list in
    let more = rw (c.operations-operations.ensures.number, c.as_mut_slice.ensures.value) at c.in-Some.ensures.more in
    let known = rw (c.operations-operations.ensures.number, c.as_mut_slice.ensures.value) at c.in-Some.ensures.known in
    let long : length next ≡ length b = c.in-Some.ensures.long ∙ ap (λ (xs : List ℕ). length xs) c.as_mut_slice.ensures.value in
    let front : take c.in-Some.place next ≡ take c.in-Some.place b = c.in-Some.ensures.front ∙ ap (λ (xs : List ℕ). take c.in-Some.place xs) c.as_mut_slice.ensures.value in
    let same : refill (length b) b next ≡ next = written_over b next long in
    let small = small_list (length t.operations) b (omega (arith, c.operations-operations.ensures.number, c.operations-operations.ensures.range.1)) c.loop-b.invariant.known in
    let joined = (goal.at.loop-b-preserved c).Joined-list_counts in
    rw same (record {
      known = known c.loop-b.invariant.known;
      long = omega (arith, long, c.loop-b.invariant.long);
      right =
          followed t s a b next _ _ _ c.in-Some.place _ _ long front small (ap (λ (v : List ℕ). length v) c.in_ok-head.ensures.text) (known_here joined) c.follow.ensures.same
          (rw (c.as_slice-in-Some.ensures.value, same) at c.follow.ensures.text);
      passed = pass_as t _ c.args.bytes.now _ _ _ (ap (λ (bs : List (List ℕ)). counting v t (beside v t s a bs)) more) (past joined);
    })

pub follow-requires-clause-small : goal.follow-requires-clause-small
follow-requires-clause-small c =
    let t = c.args.table.now in
    let b : List ℕ = c.loop-b.b.items in
    let next : List ℕ = c.step_from.new.list in
    let known = rw (c.operations-operations.ensures.number, c.as_mut_slice.ensures.value) at c.in-Some.ensures.known in
    let long : length next ≡ length b = c.in-Some.ensures.long ∙ ap (λ (xs : List ℕ). length xs) c.as_mut_slice.ensures.value in
    let same : refill (length b) b next ≡ next = written_over b next long in
    rw (c.as_slice-in-Some.ensures.value, same)
    (small_list (length t.operations) next (omega (arith, c.operations-operations.ensures.number, c.operations-operations.ensures.range.1)) (known c.loop-b.invariant.known))

pub follow-requires-clause-room : goal.follow-requires-clause-room
follow-requires-clause-room c =
    let t = c.args.table.now in
    let b : List ℕ = c.loop-b.b.items in
    let next : List ℕ = c.step_from.new.list in
    let long : length next ≡ length b = c.in-Some.ensures.long ∙ ap (λ (xs : List ℕ). length xs) c.as_mut_slice.ensures.value in
    let same : refill (length b) b next ≡ next = written_over b next long in
    let small = small_list (length t.operations) b (omega (arith, c.operations-operations.ensures.number, c.operations-operations.ensures.range.1)) c.loop-b.invariant.known in
    known_room t (record { state = c.args.state.0; a = c.args.a.now; b = b }) _ _ _ _ (known_here (goal.at.follow-requires-clause-room c).Joined-list_counts) small
    (ap (λ (v : List ℕ). length v) c.in_ok-head.ensures.text) (ap (λ (xs : List ℕ). length xs) (c.as_slice-in-Some.ensures.value ∙ same) ∙ long)

pub overflow_add-a : goal.overflow_add-a
overflow_add-a c =
    let inside = rw c.as_mut_slice.ensures.value at c.in-Some.ensures.inside in
    omega (arith, inside, c.loop-b.invariant.long, c.requires.few)
