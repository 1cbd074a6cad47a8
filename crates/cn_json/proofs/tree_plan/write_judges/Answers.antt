use Rattle.std.proofs.Common.{◌≡◌, ◌<◌, All, List, ap, codes, length, subst, sym, ◌∙◌}
use Rattle.cn_table.specs.TypeTable.{TypeTable}
use Rattle.cn_meetings.specs.Sights.{sight_of}
use Rattle.cn_meetings.specs.declared.sight.Sight.{Sight}
use Rattle.cn_tree_plans.specs.Sights.{seen_count}
use Rattle.cn_tree_plans.specs.declared.judged.Judged.{Judged}
use Rattle.cn_tree_text.specs.Places.{sight_at}
use Rattle.cn_json.specs.Tokens.{member_tokens}
use Rattle.cn_json.specs.TreePlans.{judged_data}
use Rattle.cn_json.specs.Values.{list_data}
use Rattle.cn_json.proofs.Pieces.{piece, same}
use Rattle.cn_json.proofs.tree_plan.write_judges.Goals as goal

-- equal lists of judgements have equal tokens
same_judges : (t u : TypeTable) (a b : Sight) (xs ys : List Judged) → t ≡ u → a ≡ b → xs ≡ ys
    → member_tokens (codes "judges") (list_data (judged_data t a) xs) ≡ member_tokens (codes "judges") (list_data (judged_data u b) ys)
same_judges t u a b xs ys e f g =
    ap (λ (t : TypeTable). member_tokens (codes "judges") (list_data (judged_data t a) xs)) e
    ∙ (ap (λ (a : Sight). member_tokens (codes "judges") (list_data (judged_data u a) xs)) f
    ∙ ap (λ (xs : List Judged). member_tokens (codes "judges") (list_data (judged_data u b) xs)) g)

-- responses of the type, and behind them what is seen of it
abbrev AreSeen : TypeTable → Sight → List Judged → Type 0
AreSeen t sight xs = All (λ (j : Judged). (j.response.0 < length t.responses) × (j.saw < seen_count t (sight_of sight))) xs

pub write_each_judged-requires : goal.write_each_judged-requires
write_each_judged-requires c =
    let plan = c.args.plan.now in
    let law = c.judgements_are_of_the_type.ensures c.args.node c.args.process c.requires.node c.requires.process in
    let judged : AreSeen plan.table (sight_at plan c.args.node) c.judged-judged.result.now = subst (AreSeen plan.table (sight_at plan c.args.node)) (sym c.judged-judged.ensures) law in
    let sight : AreSeen plan.table c.sight-sight.result c.judged-judged.result.now = subst (λ s. AreSeen plan.table s c.judged-judged.result.now) (sym c.sight-sight.ensures.value) judged in
    subst (λ t. AreSeen t c.sight-sight.result c.judged-judged.result.now) (sym c.table.ensures) sight

pub returns : goal.returns
returns c = same (piece c.in_ok-begin_array_at.ensures c.write_each_judged.ensures) (same_judges _ _ _ _ _ _ c.table.ensures c.sight-sight.ensures.value c.judged-judged.ensures)
