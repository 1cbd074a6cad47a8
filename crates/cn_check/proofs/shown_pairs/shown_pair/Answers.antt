use Rattle.std.proofs.Common.{ℕ, length-append, refl, subst, sym}
use Rattle.std.proofs.lemmas.Option.{none-some}
use Rattle.cn_choice.specs.Orders.{IsOrder}
use Rattle.cn_check.proofs.shown_pairs.shown_pair.Goals as goal

pub returns-in_err-pair-clause-pair : goal.returns-in_err-pair-clause-pair
returns-in_err-pair-clause-pair c pair =
    let both = length-append c.args.teams.0.now c.args.teams.1.now in
    rw c.from_residual.ensures (
      λ e. absurd (none-some pair e),
      λ shows. absurd (none-some pair ((c.in_err-pair.ensures.pair pair).1 (subst (λ (k : ℕ). IsOrder k c.args.list.now) both shows.0, shows.2))),
    )

pub begins_in-requires : goal.begins_in-requires
begins_in-requires c = record { known = ((c.in_ok-pair.ensures.pair c.in_ok-pair.pair).0 refl).0.known }

pub returns-then-begins_in-clause-pair : goal.returns-then-begins_in-clause-pair
returns-then-begins_in-clause-pair c pair =
    let both = length-append c.args.teams.0.now c.args.teams.1.now in (
      λ e.
          let found = (c.in_ok-pair.ensures.pair pair).0 e in
          (subst (λ (k : ℕ). IsOrder k c.args.list.now) (sym both) found.0, c.begins_in.ensures.0 c.if-begins_in.true, found.1),
      λ shows. (c.in_ok-pair.ensures.pair pair).1 (subst (λ (k : ℕ). IsOrder k c.args.list.now) both shows.0, shows.2),
    )
