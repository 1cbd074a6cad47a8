use Rattle.std.proofs.Common.{◌==◌, ap, sym, ◌∙◌, false}
use Rattle.std.specs.Option.{option_map_or}
use Rattle.cn_cert.specs.Document.{members_len}
use Rattle.cn_stock_cert.proofs.Values.{members_counted}
use Rattle.cn_stock_cert.proofs.shape.has_keys.Goals as goal

pub returns-in-Some : goal.returns-in-Some
returns-in-Some c =
    ap (λ k. k == c.args.count) (c.len.ensures.len ∙ sym (members_counted c.in-Some.members.now.entries))
    ∙ ap (λ o. option_map_or (λ ms. members_len ms == c.args.count) o false) c.in-Some.ensures
