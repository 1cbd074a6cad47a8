use Rattle.std.proofs.Common.{◌∙◌, sym}
use Rattle.std.specs.Str.{bytes_eq}
use Rattle.cn_table.proofs.ListLemmas.{position-map}
use Rattle.cn_table.proofs.names.number_of.Goals as goal

pub returns-clause-number : goal.returns-clause-number
returns-clause-number g c = c.position_of.ensures ∙ sym (position-map (λ n. bytes_eq n c.args.name.now) g.T.HasName.name_of c.args.things.now)
