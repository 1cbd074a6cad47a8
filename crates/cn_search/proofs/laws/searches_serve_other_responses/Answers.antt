use Rattle.cn_search.proofs.NextLemmas.{serves}
use Rattle.cn_search.proofs.laws.searches_serve_other_responses.Goals as goal

pub returns : goal.returns
returns c t u searched h is = serves c.searches_serve_other_responses.ensures t u searched h is
