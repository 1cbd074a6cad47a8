use Rattle.std.proofs.Common.{map, string_bytes}
use Rattle.cn_table.specs.Names.{number_of}
use Rattle.cn_table.proofs.Lists.{front_first}
use Rattle.cn_table.proofs.resolve.numbers.Goals as goal

pub loop-text-init : goal.loop-text-init
loop-text-init c = rw c.new-out.ensures.items (front_first (number_of (map (λ s. string_bytes s) c.args.names.now)) (λ s. string_bytes s) c.args.texts.now)
