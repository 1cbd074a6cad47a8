-- What the sets of states of two operations that last have to be, in two parts.
use Rattle.std.specs.Prelude.{All, Contains}
use Rattle.cn_table.specs.TypeTable.{TypeTable, transition}
use Rattle.cn_stock_cert.specs.LastingSets.{LastingSets, LeadsInto}

-- the states while the single operation was not first
abbrev pub AreLaterRight : TypeTable → LastingSets → Type 0
AreLaterRight t s = Contains s.alone s.start × LeadsInto t s.many s.alone s.alone
    × All (λ q. Contains s.behind (transition t s.single (transition t s.many q).1).1) s.alone
    × LeadsInto t s.many s.behind s.behind

-- those once it was first
abbrev pub AreFirstRight : TypeTable → LastingSets → Type 0
AreFirstRight t s = Contains s.first (transition t s.single s.start).1
    × LeadsInto t s.many s.first s.first
    × All (λ q. ¬ Contains s.alone q × ¬ Contains s.behind q) s.first
