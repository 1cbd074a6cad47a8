use Rattle.std.proofs.Common.{length}
use Rattle.cn_divisions.proofs.Extending.{meeting_known}
use Rattle.cn_divisions.proofs.SameSizes.{same_sizes}
use Rattle.cn_divisions.proofs.laws.stocks_have_sizes.Goals as goal

pub returns : goal.returns
returns c t sight n M N team other sizes many m k start same finest its are =
    same_sizes t sight n M N team other sizes many m.looks k.looks start same (length t.operations) (meeting_known t sight n N k) finest its are
