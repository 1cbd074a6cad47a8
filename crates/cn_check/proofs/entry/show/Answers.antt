use Rattle.std.proofs.Common.{◌≡◌, ◌≤◌, ◌++◌, ◌-◌, ◌∙◌, ℕ, List, All, ap, arith, le-leb, refl, sym}
use Rattle.std.proofs.lemmas.List.Elements.{All-weaker}
use Rattle.cn_choice.specs.Collisions.{Collision}
use Rattle.cn_choice.specs.declared.limits.TheConstants.{MOST_PROCESSES}
use Rattle.cn_check.specs.EntryTexts.{evidence_text}
use Rattle.cn_check.proofs.EntryTextLemmas.{evidence_spelled}
use Rattle.cn_check.proofs.PieceLemmas.{rest_fits}
use Rattle.cn_check.proofs.entry.show.Goals as goal

pub front_of-text-requires : goal.front_of-text-requires
front_of-text-requires c =
    let x : Collision = record {
      choice = record { state = c.args.state.0; a = c.args.a.now; b = c.args.b.now };
      process = c.in_ok-process.process;
      alpha = c.in_ok-alpha.alpha.items;
      beta = c.in_ok-beta.beta.items;
    } in
    rest_fits c.args.bytes.now (evidence_text x) c.in_ok-rest.rest.now
    (evidence_spelled x c.args.bytes.now _ _ _ _ _ c.in_ok-rest.rest.now c.in_ok-process.ensures.text c.in_ok-second.ensures c.in_ok-alpha.ensures.text c.in_ok-third.ensures
    c.in_ok-beta.ensures.text c.in_ok-rest.ensures)

pub returns-clause-text : goal.returns-clause-text
returns-clause-text c =
    let rest : List ℕ = c.in_ok-rest.rest.now in
    let x : Collision = record {
      choice = record { state = c.args.state.0; a = c.args.a.now; b = c.args.b.now };
      process = c.in_ok-process.process;
      alpha = c.in_ok-alpha.alpha.items;
      beta = c.in_ok-beta.beta.items;
    } in
    let spelled : c.args.bytes.now ≡ evidence_text x ++ rest =
    evidence_spelled x c.args.bytes.now _ _ _ _ _ rest c.in_ok-process.ensures.text c.in_ok-second.ensures c.in_ok-alpha.ensures.text c.in_ok-third.ensures
    c.in_ok-beta.ensures.text c.in_ok-rest.ensures in
    spelled ∙ ap (λ (v : List ℕ). v ++ rest) (sym (c.front_of-text.ensures (evidence_text x) spelled))

pub returns-clause-shown : goal.returns-clause-shown
returns-clause-shown c =
    let rest : List ℕ = c.in_ok-rest.rest.now in
    let x : Collision = record {
      choice = record { state = c.args.state.0; a = c.args.a.now; b = c.args.b.now };
      process = c.in_ok-process.process;
      alpha = c.in_ok-alpha.alpha.items;
      beta = c.in_ok-beta.beta.items;
    } in
    let spelled : c.args.bytes.now ≡ evidence_text x ++ rest =
    evidence_spelled x c.args.bytes.now _ _ _ _ _ rest c.in_ok-process.ensures.text c.in_ok-second.ensures c.in_ok-alpha.ensures.text c.in_ok-third.ensures
    c.in_ok-beta.ensures.text c.in_ok-rest.ensures in
    let up_to : (low : ℕ) (list : List ℕ) → low ≤ c.greater-greatest.result → All (λ p. p ≤ low) list → All (λ p. p ≤ c.greater-greatest.result) list =
    λ low list l all. All-weaker (λ p. p ≤ low) (λ p. p ≤ c.greater-greatest.result) (λ p h. omega (arith, h, l)) list all in
    record {
      entry = x;
      of_choice = refl;
      collides = rw (c.as_slice-alpha_order.ensures.value, c.as_slice-beta_order.ensures.value) at (c.collide.ensures.0 c.if-not-collide.false);
      process_small = le-leb x.process (MOST_PROCESSES - 1) (omega (arith, c.in_ok-process.ensures.small));
      alpha_short = c.in_ok-alpha.ensures.short;
      beta_short = c.in_ok-beta.ensures.short;
      spelled = c.front_of-text.ensures (evidence_text x) spelled;
      alpha_up_to = up_to _ x.alpha c.greater-greatest.ensures.0 c.in_ok-alpha.ensures.greatest;
      beta_up_to = up_to _ x.beta c.greater-greatest.ensures.1 c.in_ok-beta.ensures.greatest;
    }
