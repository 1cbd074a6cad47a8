use Rattle.cn_unread.proofs.LastingViews.{lasting_views}
use Rattle.cn_unread.proofs.laws.lasting_responses_tell_any_number.Goals as goal

pub returns : goal.returns
returns c = lasting_views
