use Rattle.cn_play_laws.proofs.Told.{a_kept, b_kept, is_protocol, take_both}
use Rattle.cn_play_laws.proofs.laws.told_runs_have_a_protocol.Goals as goal

pub returns-clause-takes : goal.returns-clause-takes
returns-clause-takes g c t choice a b end held rest inputs h =
    take_both t choice a b end h held rest inputs

pub returns-clause-a_first : goal.returns-clause-a_first
returns-clause-a_first g c t choice a b end held rest inputs h =
    a_kept t choice a b end h held rest inputs

pub returns-clause-b_first : goal.returns-clause-b_first
returns-clause-b_first g c t choice a b end held rest inputs h =
    b_kept t choice a b end h held rest inputs

pub returns-clause-protocol : goal.returns-clause-protocol
returns-clause-protocol g c t choice a b end held rest h k r =
    is_protocol t choice a b end h k held rest r
