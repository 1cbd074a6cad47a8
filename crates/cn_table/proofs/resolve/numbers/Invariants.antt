use Rattle.std.proofs.Common.{◌≡◌, map, drop, string_bytes}
use Rattle.cn_table.specs.Draft.{all_some}
use Rattle.cn_table.specs.Names.{number_of}
use Rattle.cn_table.specs.Numbering.{numbers_of}
use Rattle.cn_table.proofs.Lists.{with_front}
use Rattle.cn_table.proofs.resolve.numbers.Given as goal

abbrev pub invariant-loop-text : goal.invariant-loop-text
invariant-loop-text l =
    with_front l.out.items (all_some (map (λ t. number_of (map (λ s. string_bytes s) l.names) (string_bytes t)) (drop l.text-index l.texts)))
    ≡ numbers_of (map (λ s. string_bytes s) l.names) (map (λ s. string_bytes s) l.texts)
