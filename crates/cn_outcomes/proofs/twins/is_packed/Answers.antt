use Rattle.cn_outcomes.proofs.twins.is_packed.Goals as goal

pub returns : goal.returns
returns c =
    let none = c.is_empty.ensures.none in (
      λ t p a s z. none.0 t p ((c.difference.ensures p).1 ((c.common_predecessors.ensures p).1 (a, s), λ m. m z)),
      λ packed. none.1 (λ q s. let x = (c.difference.ensures q).0 s in let y = (c.common_predecessors.ensures q).0 x.0 in x.1 (packed q y.0 y.1)),
    )
