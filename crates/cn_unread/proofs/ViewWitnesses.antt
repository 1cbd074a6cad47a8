-- Choices whose teams are told apart by views: under other numbers, with the teams exchanged, and for
-- fewer processes.
use Rattle.std.proofs.Common.{◌≡◌, ◌-◌, ◌≤◌, ℕ, ◌<◌, List, length, sym, ap, ◌∙◌, subst, Option}
use Rattle.std.specs.Option.{option_map}
use Rattle.std.proofs.lemmas.Option.{slice_get-map}
use Rattle.cn_table.specs.TypeTable.{TypeTable}
use Rattle.cn_choice.specs.declared.team.Team.{Team}
use Rattle.cn_choice.specs.declared.team.Team.TheVariants.{A, B}
use Rattle.cn_choice.specs.OutcomeSets.{InOutcomeSet, pair_of}
use Rattle.cn_choice.specs.RawChoices.{RawChoice}
use Rattle.cn_choice.specs.Renumbering.{Embeds, other, with_other_teams}
use Rattle.cn_choice.proofs.ChoiceLemmas.CanonicalCover.{others_twice}
use Rattle.cn_choice.proofs.ChoiceLemmas.Embeddings.{result_embeds}
use Rattle.cn_choice.proofs.NumberLemmas.FewerProcesses.{one_less}
use Rattle.cn_choice.proofs.OrderLemmas.Walks.{pair_takes_part}
use Rattle.cn_unread.specs.Views.{IsViewDiscerning, IsViewWitness, view}

-- ---- other numbers, other teams

pub takes_part : (t : TypeTable) (c : RawChoice) (team : Team) (j : ℕ) (pair : ℕ × ℕ)
    → InOutcomeSet t c team j pair → j < length c.operations
takes_part t c team j pair o =
    pair_takes_part t c (length c.operations) o.0 j pair o.1.known o.3

pub view_embeds : (f : ℕ → ℕ) (d c : RawChoice) → Embeds f d c → (t : TypeTable)
    (look : ℕ → ℕ → Option ℕ) → IsViewWitness t look c → IsViewWitness t look d
view_embeds f d c e t look w j r p q a b same =
    let o = e.operation j (takes_part t d A j (r, p) a) in
    w (f j) r p q (result_embeds f d c e t A j (r, p) a) (result_embeds f d c e t B j (r, q) b)
    (subst (λ (k : ℕ). view t (look k r) p ≡ view t (look k r) q) o same)

result_exchanged : (t : TypeTable) (c : RawChoice) (team : Team) (j : ℕ) (pair : ℕ × ℕ)
    → InOutcomeSet t c team j pair → InOutcomeSet t (with_other_teams c) (other team) j pair
unfolding pair_of
result_exchanged t c team j pair o = (
  o.0,
  o.1,
  (o.2.0, o.2.1, slice_get-map other c.marks o.2.0 ∙ ap (option_map other) o.2.2),
  o.3,
)

pub result_back : (t : TypeTable) (c : RawChoice) (team : Team) (j : ℕ) (pair : ℕ × ℕ)
    → InOutcomeSet t (with_other_teams c) team j pair → InOutcomeSet t c (other team) j pair
result_back t c team j pair o =
    subst (λ (ms : List Team). InOutcomeSet t (record {
      state = c.state;
      operations = c.operations;
      marks = ms;
    }) (other team) j pair) (others_twice c.marks)
    (result_exchanged t (with_other_teams c) team j pair o)

pub view_exchanged : (t : TypeTable) (look : ℕ → ℕ → Option ℕ) (c : RawChoice) → IsViewWitness t look c
    → IsViewWitness t look (with_other_teams c)
view_exchanged t look c w j r p q a b same = w j r q p (result_back t c B j (r, q) b)
    (result_back t c A j (r, p) a) (sym same)

-- ---- fewer processes

pub views_below : (t : TypeTable) (n : ℕ) → 3 ≤ n → IsViewDiscerning t n
    → IsViewDiscerning t (n - 1)
views_below t n big w =
    let r = one_less (IsViewWitness t w.0) (λ f d c e. view_embeds f d c e t w.0) t n big
    (w.2, w.3, w.4) in
    (w.0, w.1, r.0, r.1, r.2)
