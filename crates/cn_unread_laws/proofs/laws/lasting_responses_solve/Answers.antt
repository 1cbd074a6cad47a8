use Rattle.cn_unread_laws.proofs.laws.lasting_responses_solve.Goals as goal

pub returns : goal.returns
returns c = λ t start many single closed l n two. c.views_are_enough.ensures t n closed two
    (c.lasting_responses_tell_any_number.ensures t start many single l n two)
