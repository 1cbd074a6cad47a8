-- An example whose processes stand in the order of their teams is a node.
use Rattle.std.proofs.Common.{ℕ, ◌≡◌, ◌<◌, inl, inr, Bool, true, List, length, map, get_or, sym, ap, ◌∙◌, subst, arith}
use Rattle.std.specs.Prelude.{slice_index, sum}
use Rattle.std.proofs.Math.ListN.{get_or-eq_default}
use Rattle.std.proofs.Math.Path.{fun_ext}
use Rattle.std.proofs.lemmas.Bool.{cases_lt}
use Rattle.std.proofs.lemmas.Bool.Decides.{nat_tests}
use Rattle.std.proofs.lemmas.List.{get_or-map, length-map}
use Rattle.cn_divisions.specs.Divisions.{first, meeting_of}
use Rattle.cn_meetings.specs.Meeting.{IsSightOf, Meeting, Sight}
use Rattle.cn_meetings.specs.Witness.{Has, IsTeamWitness}
use Rattle.cn_meetings.proofs.Renaming.{renaming}
use Rattle.cn_table.specs.TypeTable.{TypeTable}
use Rattle.cn_tree_costs.specs.Sizes.{block, team_size}
use Rattle.cn_tree_plans.specs.Plan.{NodeMeeting}
use Rattle.cn_shortest.specs.Examples.{IsExample}
use Rattle.cn_shortest.specs.Nodes.{IsNode, sight_in}
use Rattle.cn_shortest.specs.Ordering.{ordered, ordered_operations, teams_below}
use Rattle.cn_shortest.specs.Sizes.{AreOf, sizes_of}
use Rattle.cn_shortest.specs.declared.examples.Example.{Example}
use Rattle.cn_shortest.proofs.ExampleTeams.{same_witness}
use Rattle.cn_shortest.proofs.OrderedTeams.{order_apart, order_known, order_long, same_block, sizes_below}

module _ (t : TypeTable) (sight : Sight) (n : ℕ) (counts : List ℕ) (e : Example) (is : IsExample t sight n counts e) (of : AreOf n counts) where
  abbrev team : ℕ → ℕ
  team p = slice_index e.teams p

  abbrev order : List ℕ
  order = ordered team n

  -- behind the processes of the example no operation stands
  abbrev beyond : ℕ
  beyond = length e.operations

  abbrev role : ℕ → ℕ
  role p = get_or order p beyond

  sizes_are : map (team_size team n) (teams_below team n 8) ≡ sizes_of counts
  sizes_are = sizes_below team n counts is.counted 8 (omega arith)

  long : length order ≡ n
  long = order_long team n ∙ (ap sum sizes_are ∙ of.division.whole)

  none_beyond : slice_index e.operations beyond ≡ 0
  none_beyond = get_or-eq_default e.operations 0 (omega arith)

  does : (p : ℕ) → slice_index (ordered_operations e n) p ≡ slice_index e.operations (role p)
  does p = elim (cases_lt p (length order)) [
    | inl l ↦ get_or-map (λ q. slice_index e.operations q) order p beyond 0 l
    | inr l ↦ get_or-eq_default (ordered_operations e n) 0 (omega (arith, l, length-map order (λ (q : ℕ). slice_index e.operations q)))
        ∙ (sym none_beyond ∙ ap (λ q. slice_index e.operations q) (sym (get_or-eq_default order beyond l)))
  ]

  inside : (p : ℕ) → p < n → p < length order
  inside p l = omega (arith, l, long)

  known : (p : ℕ) → p < n → role p < n
  known p l = order_known team n p beyond (inside p l)

  below : (p : ℕ) → Has (first n) p → p < n
  below p h = grind (arith, nat_tests)

  among : (p : ℕ) → p < n → Has (first n) p
  among p l = grind (arith, nat_tests)

  abbrev M : Meeting
  M = meeting_of e.start.0 e.operations sight

  abbrev R : Meeting
  R = meeting_of e.start.0 (ordered_operations e n) sight

  renamed_witness : IsTeamWitness t (record { start = e.start.0; operation = λ p. slice_index e.operations (role p); sight = λ p. sight }) (first n) (λ p. team (role p))
  renamed_witness =
      renaming t M (first n) (first n) role (λ p h. among (role p) (known p (below p h)))
      (λ p q hp hq s. order_apart team n beyond p q (inside p (below p hp)) (inside q (below q hq)) s) team is.witness

  ordered_witness : IsTeamWitness t R (first n) (λ p. team (role p))
  ordered_witness =
      subst (λ (o : ℕ → ℕ). IsTeamWitness t (record { start = e.start.0; operation = o; sight = λ p. sight }) (first n) (λ p. team (role p))) (fun_ext (λ p. sym (does p))) renamed_witness

  block_witness : IsTeamWitness t R (first n) (block (sizes_of counts))
  block_witness =
      subst (λ (sizes : List ℕ). IsTeamWitness t R (first n) (block sizes)) sizes_are
      (same_witness t R n (λ p. team (role p)) (block (map (team_size team n) (teams_below team n 8)))
      (λ p q lp lq s. same_block team n beyond p q (inside p lp) (inside q lq) s) ordered_witness)

  pub node_of_example : (allowed : Sight → Bool) → allowed sight ≡ true → IsSightOf t sight → (m : NodeMeeting) → m.start ≡ e.start.0 → m.operations ≡ ordered_operations e n → sight_in m ≡ sight → IsNode t allowed (sizes_of counts) m
  node_of_example allowed may known_sight m start operations looks =
      let whole : sum (sizes_of counts) ≡ n = of.division.whole in
      record {
        is_allowed = ap allowed looks ∙ may;
        of_type = subst (IsSightOf t) (sym looks) known_sight;
        start = (let l = is.start in omega (arith, l, start));
        long = ap length operations ∙ (length-map order (λ (q : ℕ). slice_index e.operations q) ∙ (long ∙ sym whole));
        operations = λ p l. (
            let lp : p < n = omega (arith, l, whole) in
            let l = is.operations (role p) (known p lp) in
            omega (arith, l, does p, ap (λ (os : List ℕ). slice_index os p) operations));
        several = of.division.several;
        witness = rw (start, operations, looks, whole) block_witness;
      }
