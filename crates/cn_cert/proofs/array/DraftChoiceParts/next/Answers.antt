use Rattle.std.proofs.Common.{option_map, sym, ap, ◌∙◌}
use Rattle.cn_cert.specs.Tokens.{with_value, rest_at}
use Rattle.cn_cert.proofs.ArrayWalks.{choice_steps}
use Rattle.cn_cert.proofs.array.DraftChoiceParts.next.Goals as goal

pub returns-clause-ok : goal.returns-clause-ok
returns-clause-ok c =
    choice_steps _ _ _ _ c.in_ok-state.state (option_map (λ v. v.items) c.in_ok-a.a) (option_map (λ v. v.items) c.in_ok-b.b) c.in_ok-state.ensures.ok c.in_ok-a.ensures.ok c.in_ok-b.ensures.ok
    ∙ ap (λ o. with_value (λ ds. (o, ds)) (rest_at c.next_naturals-2.new.more c.args.depth c.next_naturals-2.new.reader)) (sym c.choice_of_parts.ensures)
