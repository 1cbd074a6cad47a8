use Rattle.std.proofs.Common.{◌≡◌, true, None, option_map, arith}
use Rattle.json.specs.Json.{after_end_array}
use Rattle.cn_cert.specs.Values.{naturals_of}
use Rattle.cn_cert.proofs.ArrayWalks.{next_ok, next_err}
use Rattle.cn_cert.proofs.array.next_naturals.Goals as goal

pub returns-then-has_next-clause-ok : goal.returns-then-has_next-clause-ok
returns-then-has_next-clause-ok c =
    let more : (c.args.more.now ≡ true) × (after_end_array c.args.reader.now ≡ None) × (c.has_next.new.reader ≡ c.args.reader.now) = grind arith in
    let still : c.has_next.new.more ≡ true = grind arith in
    next_ok naturals_of c.args.depth (option_map (λ v. v.items)) c.args.more.now c.has_next.new.more c.args.reader.now c.has_next.new.reader c.list.new.reader more.0 more.2 more.1
    c.list.result still c.list.ensures.ok

pub returns-then-has_next-clause-err : goal.returns-then-has_next-clause-err
returns-then-has_next-clause-err c =
    let more : (c.args.more.now ≡ true) × (after_end_array c.args.reader.now ≡ None) × (c.has_next.new.reader ≡ c.args.reader.now) = grind arith in
    next_err naturals_of c.args.depth (option_map (λ v. v.items)) c.args.more.now c.has_next.new.more c.args.reader.now c.has_next.new.reader c.list.new.reader more.0 more.2 more.1
    c.list.result c.list.ensures.err
