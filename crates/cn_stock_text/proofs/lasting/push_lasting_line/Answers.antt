use Rattle.std.proofs.Common.{refl}
use Rattle.cn_pieces.proofs.Ends.{as_wanted}
use Rattle.cn_stock_text.proofs.lasting.push_lasting_line.Goals as goal

pub returns : goal.returns
returns c = as_wanted _ _ _ _ c.push_pieces.ensures (rw (c.state_name-start.ensures, c.operation_name-single.ensures, c.operation_name-many.ensures) refl)
