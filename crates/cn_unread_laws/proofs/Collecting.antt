-- A visible choice, in canonical form, has a node.
use Rattle.std.proofs.Common.{◌≡◌, ℕ, ◌+◌, ◌<◌, ◌≤◌, ◌⊎◌, inl, inr, List, length, length-append}
use Rattle.std.proofs.Common.{sym, ◌∙◌, subst, arith}
use Rattle.std.specs.Prelude.{slice_index}
use Rattle.std.proofs.lemmas.List.Elements.{All-get_or}
use Rattle.cn_table.specs.TypeTable.{IsClosed, TypeTable, transition}
use Rattle.cn_choice.specs.Canonical.{Choice, IsCanonicalForm, raw_choice_of}
use Rattle.cn_choice.specs.RawChoices.{IsRawChoice, RawChoice}
use Rattle.cn_choice.specs.Renumbering.{Embeds, IsRenumbering, with_other_teams}
use Rattle.cn_choice.specs.declared.team.Team.TheVariants.{A, B}
use Rattle.cn_choice.proofs.ChoiceLemmas.Embeddings.{result_embeds}
use Rattle.cn_proto.specs.Order.{IsAnswered, IsRun, after}
use Rattle.cn_proto.specs.Tournament.{team_of}
use Rattle.cn_proto.proofs.PlanLemmas.{some_a, some_b}
use Rattle.cn_proto.proofs.WitnessTournaments.{run_outcome}
use Rattle.cn_unread_laws.specs.Solving.{SolvesWithoutReads}
use Rattle.cn_unread.proofs.ViewWitnesses.{result_back}
use Rattle.cn_unread.specs.Collects.{AreLooks, IsVisible, IsVisibleFor, LookAlike}
use Rattle.cn_unread.specs.Nodes.{IsTellingNode, Node}
use Rattle.cn_unread_laws.proofs.CollectNodes.{collect_node, collect_telling}

visible_embeds : (f : ℕ → ℕ) (d c : RawChoice) → Embeds f d c → (t : TypeTable) (looks : List ℕ)
    → IsVisible t looks c → IsVisible t looks d
visible_embeds f d c e t looks v j r p q a b same = v (f j) r p q
    (result_embeds f d c e t A j (r, p) a) (result_embeds f d c e t B j (r, q) b) same

visible_exchanged : (t : TypeTable) (looks : List ℕ) (c : RawChoice) → IsVisible t looks c
    → IsVisible t looks (with_other_teams c)
visible_exchanged t looks c v j r p q a b same = v j r q p (result_back t c B j (r, q) b)
    (result_back t c A j (r, p) a) (λ i l. sym (same i l))

-- what laws say
pub record LawsForCollects : Type 0 where
  pub canonical : (t : TypeTable) (n : ℕ) (c : RawChoice) → IsRawChoice t n c
      → (d : Choice) × IsCanonicalForm t n d c
  pub telling : (t : TypeTable) (a b : ℕ) (node : Node) (n : ℕ) → IsClosed t → 1 ≤ a → 1 ≤ b
      → IsTellingNode t a b node → 1 ≤ n → n ≤ a + b → SolvesWithoutReads t n

module _ (laws : LawsForCollects) (t : TypeTable) (closed : IsClosed t) (n : ℕ) (two : 2 ≤ n)
    (looks : List ℕ) (silent : AreLooks t looks) (d : Choice)
    (is : IsRawChoice t n (raw_choice_of d)) (v : IsVisible t looks (raw_choice_of d)) where
  sides : length d.a + length d.b ≡ n
  sides = sym (length-append d.a d.b) ∙ is.one_operation_each

  abbrev op : ℕ → ℕ
  op role = slice_index (raw_choice_of d).operations role

  op_known : (j : ℕ) → j < length d.a + length d.b → op j < length t.operations
  op_known j l = All-get_or (λ o. o < length t.operations) (raw_choice_of d).operations j 0
      (subst (λ (k : ℕ). j < k) (sym (length-append d.a d.b)) l) is.operations_known

  seen : (j r : ℕ) (o u : List ℕ) → IsRun (length d.a + length d.b) (team_of (length d.a)) A o
      → IsRun (length d.a + length d.b) (team_of (length d.a)) B u
      → IsAnswered (λ role q. transition t (op role) q) d.state o j r
      → IsAnswered (λ role q. transition t (op role) q) d.state u j r
      → LookAlike t looks (after (λ role q. transition t (op role) q) d.state o)
      (after (λ role q. transition t (op role) q) d.state u) → ⊥
  seen j r o u x y f g same = v j r _ _ (run_outcome t d A o j r x f) (run_outcome t d B u j r y g)
      same

  solved : SolvesWithoutReads t n
  solved = laws.telling t (length d.a) (length d.b)
      (collect_node t closed looks silent (length d.a) (length d.b) d.state op is.state_known
      op_known seen) n closed (some_a (length d.a) (length d.b) is.someone_in_a)
      (some_b (length d.a) (length d.b) is.someone_in_b)
      (collect_telling t closed looks silent (length d.a) (length d.b) d.state op is.state_known
      op_known seen) (omega (arith, two)) (omega (arith, sides))

pub visible_solves : LawsForCollects → (t : TypeTable) (n : ℕ) → IsClosed t → 2 ≤ n
    → IsVisibleFor t n → SolvesWithoutReads t n
visible_solves laws t n closed two w =
    let f = laws.canonical t n w.2 w.3 in
    solved laws t closed n two w.0 w.1 f.0 f.1.for_n (by_form w.0 w.2 w.4 f.0 f.1.renumbered)
  where
    by_form : (looks : List ℕ) (c : RawChoice) → IsVisible t looks c → (d : Choice)
        → IsRenumbering (raw_choice_of d) c ⊎ IsRenumbering (raw_choice_of d) (with_other_teams c)
        → IsVisible t looks (raw_choice_of d)
    by_form looks c v d (inl r) = visible_embeds r.0 (raw_choice_of d) c r.1 t looks v
    by_form looks c v d (inr r) = visible_embeds r.0 (raw_choice_of d) (with_other_teams c) r.1 t
        looks (visible_exchanged t looks c v)
