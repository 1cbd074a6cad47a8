use Rattle.std.proofs.Common.{ℕ, ◌≡◌, ◌<◌, ◌++◌, ◌∙◌, List, ap, append-nil, append_assoc, arith, length, subst, sym, true≢false}
use Rattle.std.specs.Prelude.{IsBitSet}
use Rattle.std.proofs.lemmas.List.Elements.{All-push}
use Rattle.cn_choice.specs.Blocks.{Block}
use Rattle.cn_choice.specs.Live.{live_blocks}
use Rattle.cn_search.specs.Search.{HaveFirstOf, IsListedBlock}
use Rattle.cn_search.proofs.ListLemmas.{Contains-between}
use Rattle.cn_search.proofs.StartLemmas.{first_with, first_without, has_splitting, listed_block, none_from_state}
use Rattle.cn_search.proofs.starts.blocks_with_starts.Goals as goal

pub contains-requires : goal.contains-requires
contains-requires g c =
    let t = c.args.table.now in
    let n = c.args.n in
    let k = c.in-Some.block in
    let listed = Contains-between (live_blocks t n) c.loop-block.yielded c.next.new.self k (rw c.in-Some.ensures.steps at c.loop-block.invariant.all) in
    let known : k.state < length t.states = (c.block_list.ensures.blocks t n k c.requires.few listed).0.known_state in
    let state : c.block.inside.state.0 ≡ k.state = ap (λ (k : Block). k.state) c.block.view_is in
    omega (arith, known, state, c.states-states.ensures.number, c.states-states.ensures.range.1)

pub loop-block-preserved-in-Continue-branch-2 : goal.loop-block-preserved-in-Continue-branch-2
loop-block-preserved-in-Continue-branch-2 g c =
    let t = c.args.table.now in
    let n = c.args.n in
    let k = c.in-Some.block in
    let i = c.loop-block.invariant in
    let listed = Contains-between (live_blocks t n) c.loop-block.yielded c.next.new.self k (rw c.in-Some.ensures.steps at i.all) in
    let is = listed_block t n k (omega (arith, c.requires.some)) c.requires.few (c.block_list.ensures.blocks t n k c.requires.few listed).1 listed in record {
      can_next = tt;
      is_finite = tt;
      all = rw append_assoc (rw c.in-Some.ensures.steps at i.all);
      listed = rw c.in_ok-push.ensures.items (All-push (IsListedBlock t) c.loop-block.blocks.items k i.listed is);
      first = rw c.in_ok-push.ensures.items (first_with t c.loop-block.yielded c.loop-block.blocks.items k i.first);
    }

pub loop-block-preserved : goal.loop-block-preserved
loop-block-preserved g c =
    let t = c.args.table.now in
    let n = c.args.n in
    let k = c.in-Some.block in
    let i = c.loop-block.invariant in
    let listed = Contains-between (live_blocks t n) c.loop-block.yielded c.next.new.self k (rw c.in-Some.ensures.steps at i.all) in
    let is = c.block_list.ensures.blocks t n k c.requires.few listed in
    let has = has_splitting t n c.in_ok-starts.starts (λ choice is w. c.starts_of_witnesses.ensures t n choice c.requires.some is w) c.in_ok-starts.ensures in
    let state : c.block.inside.state.0 ≡ k.state = ap (λ (k : Block). k.state) c.block.view_is in
    let out : IsBitSet c.in_ok-starts.starts k.state
    → ⊥ = λ b. true≢false (sym (c.contains.ensures.1 (subst (λ (q : ℕ). IsBitSet c.in_ok-starts.starts q) (sym state) b)) ∙ c.if-contains.false) in record {
      can_next = tt;
      is_finite = tt;
      all = rw append_assoc (rw c.in-Some.ensures.steps at i.all);
      listed = i.listed;
      first = first_without t c.loop-block.yielded c.loop-block.blocks.items k
          (none_from_state t n c.in_ok-starts.starts k has is.1 (λ choice there. (c.choices_of_block.ensures.listed t k choice is.0).0 there) out) i.first;
    }

pub returns-clause-first : goal.returns-clause-first
returns-clause-first g c =
    let t = c.args.table.now in
    let done = c.loop-block.yielded in
    let all : done ≡ live_blocks t c.args.n = sym (append-nil done) ∙ (ap (λ (ks : List Block). done ++ ks) (sym c.in-None.ensures.steps.0) ∙ c.loop-block.invariant.all) in
    subst (λ (ks : List Block). HaveFirstOf t ks c.loop-block.blocks.items) all c.loop-block.invariant.first
