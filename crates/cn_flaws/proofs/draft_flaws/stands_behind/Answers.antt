use Rattle.std.proofs.Common.{◌≡◌, ◌∙◌, ◌+◌, arith, drop, rules, string_bytes}
use Rattle.std.specs.List.{list_any}
use Rattle.std.specs.Str.{bytes_eq}
use Rattle.std.proofs.lemmas.Grind.{common_steps}
use Rattle.cn_flaws.proofs.FlawLemmas.{stands_behind}
use Rattle.cn_flaws.proofs.draft_flaws.stands_behind.Goals as goal

pub returns : goal.returns
returns c =
    let is : c.has_namesake.result ≡ list_any (λ s. bytes_eq (string_bytes s) c.args.name.now) (drop (c.args.i + 1) c.args.names.now) = first_of (search rules, cc, grind (arith, common_steps)) in
    is ∙ stands_behind (λ s. string_bytes s) c.args.names.now (c.args.i + 1) c.args.name.now
