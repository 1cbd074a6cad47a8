use Rattle.cn_telling.proofs.NextLemmas.{last_serves}
use Rattle.cn_telling.proofs.laws.searches_serve_other_responses.Goals as goal

pub returns : goal.returns
returns c t u most last h is = last_serves t u most last h is
