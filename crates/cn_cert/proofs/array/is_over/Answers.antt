use Rattle.std.proofs.Common.{◌≡◌, true, Some, None, sym, ap, ◌∙◌, arith}
use Rattle.json.specs.Json.{after_end_array}
use Rattle.cn_cert.specs.Tokens.{items_at, rest_at, with_value, nothing, is_over}
use Rattle.cn_cert.proofs.ArrayWalks.{not_over}
use Rattle.cn_cert.proofs.array.is_over.Goals as goal

pub returns-in_ok-rest_of_items-clause-ok : goal.returns-in_ok-rest_of_items-clause-ok
returns-in_ok-rest_of_items-clause-ok c =
    let more : (c.args.more.now ≡ true) × (after_end_array c.args.reader.now ≡ None) × (c.has_next.new.reader ≡ c.args.reader.now) = grind arith in
    let rest : with_value nothing (items_at c.args.depth c.has_next.new.reader) ≡ Some (tt, c.rest_of_items.new.reader) = grind arith in
    ap (λ b. with_value is_over (rest_at b c.args.depth c.args.reader.now)) more.0
    ∙ not_over c.args.depth c.args.reader.now c.rest_of_items.new.reader more.1 (ap (λ ts. with_value nothing (items_at c.args.depth ts)) (sym more.2) ∙ rest)
