-- Recording witnesses: they are witnesses, and stay recording witnesses under other numbers and with the teams exchanged; the live canonical choices decide.
use Rattle.std.proofs.Common.{ℕ, ◌<◌, ◌≤◌, ◌-◌, inl, inr, ◌↔◌, List, length, map, sym, ap, ◌∙◌, subst, All, Contains}
use Rattle.std.specs.Option.{option_map}
use Rattle.std.proofs.lemmas.List.Elements.{recursion_from_All}
use Rattle.std.proofs.lemmas.Option.{slice_get-map}
use Rattle.cn_table.specs.Run.{state_after}
use Rattle.cn_table.specs.TypeTable.{TypeTable}
use Rattle.cn_choice.specs.declared.team.Team.{Team}
use Rattle.cn_choice.specs.declared.team.Team.TheVariants.{A, B}
use Rattle.cn_choice.specs.RawChoices.{IsRawChoice, RawChoice}
use Rattle.cn_choice.specs.Canonical.{Choice, IsCanonical, IsCanonicalForm, raw_choice_of}
use Rattle.cn_choice.specs.Discerning.{IsDiscerning, IsWitness}
use Rattle.cn_choice.specs.Live.{IsLive, live_choices}
use Rattle.cn_choice.specs.OutcomeSets.{operations_of}
use Rattle.cn_choice.specs.Renumbering.{Embeds, other, with_other_teams}
use Rattle.cn_choice.proofs.ChoiceLemmas.CanonicalCover.{others_twice}
use Rattle.cn_choice.proofs.ChoiceLemmas.Embeddings.{begins_embeds, operations_embed, order_embeds}
use Rattle.cn_choice.proofs.ListLemmas.Members.{IsIn-from_Contains, each_at}
use Rattle.cn_choice.proofs.NumberLemmas.FewerProcesses.{one_less}
use Rattle.cn_outcomes.specs.LeftStates.{LeavesIn}
use Rattle.cn_outcomes.proofs.LastAnswers.{pair_parts}
use Rattle.cn_recover.specs.Recording.{HasTwo, IsRecording, IsRecordingWitness}

-- ---- they are witnesses

pub is_a_witness : (t : TypeTable) (c : RawChoice) → IsRecordingWitness t c → IsWitness t c
is_a_witness t c w j pair a b = w.apart pair.1 (a.0, a.1, a.2, (pair_parts t c j a.0 pair.0 pair.1 a.3).1) (b.0, b.1, b.2, (pair_parts t c j b.0 pair.0 pair.1 b.3).1)

pub recording_discerns : (t : TypeTable) (n : ℕ) → IsRecording t n → IsDiscerning t n
recording_discerns t n w = (w.0, w.1, is_a_witness t w.0 w.2)

-- ---- under other numbers

module _ (t : TypeTable) (f : ℕ → ℕ) (d c : RawChoice) (e : Embeds f d c) where
  left_embeds : (team : Team) (q : ℕ) → LeavesIn t d team q → LeavesIn t c team q
  left_embeds team q o =
      let known = recursion_from_All (λ p. p < length d.operations) o.0 o.1.known in (
        map f o.0,
        order_embeds f d c e o.0 o.1,
        begins_embeds f d c e team o.0 known o.2,
        ap (state_after t c.state) (sym (operations_embed f d c e o.0 known)) ∙ (ap (λ (s : ℕ). state_after t s (operations_of d o.0)) (sym e.same_state) ∙ o.3),
      )

  two_embed : (team : Team) → HasTwo d team → HasTwo c team
  two_embed team h = (f h.0, f h.1, (λ g. h.2 (e.apart h.0 h.1 h.3 h.4 g)), e.inside h.0 h.3, e.inside h.1 h.4, sym (e.team h.0 h.3) ∙ h.5, sym (e.team h.1 h.4) ∙ h.6)

  pub recording_embeds : IsRecordingWitness t c → IsRecordingWitness t d
  recording_embeds w = record {
    apart = λ q a b. w.apart q (left_embeds A q a) (left_embeds B q b);
    no_way_back_a = λ h o. w.no_way_back_a (two_embed B h) (subst (LeavesIn t c A) e.same_state (left_embeds A d.state o));
    no_way_back_b = λ h o. w.no_way_back_b (two_embed A h) (subst (LeavesIn t c B) e.same_state (left_embeds B d.state o));
  }

-- ---- with the teams exchanged

left_exchanged : (t : TypeTable) (c : RawChoice) (team : Team) (q : ℕ) → LeavesIn t c team q → LeavesIn t (with_other_teams c) (other team) q
left_exchanged t c team q o = (o.0, o.1, (o.2.0, o.2.1, slice_get-map other c.marks o.2.0 ∙ ap (option_map other) o.2.2), o.3)

two_exchanged : (c : RawChoice) (team : Team) → HasTwo c team → HasTwo (with_other_teams c) (other team)
two_exchanged c team h = (h.0, h.1, h.2, h.3, h.4, slice_get-map other c.marks h.0 ∙ ap (option_map other) h.5, slice_get-map other c.marks h.1 ∙ ap (option_map other) h.6)

exchanged_back : (t : TypeTable) (c : RawChoice) → IsRecordingWitness t (with_other_teams c) → IsRecordingWitness t c
exchanged_back t c w = record {
  apart = λ q a b. w.apart q (left_exchanged t c B q b) (left_exchanged t c A q a);
  no_way_back_a = λ h o. w.no_way_back_b (two_exchanged c B h) (left_exchanged t c A c.state o);
  no_way_back_b = λ h o. w.no_way_back_a (two_exchanged c A h) (left_exchanged t c B c.state o);
}

pub recording_exchanged : (t : TypeTable) (c : RawChoice) → IsRecordingWitness t c → IsRecordingWitness t (with_other_teams c)
recording_exchanged t c w =
    exchanged_back t (with_other_teams c) (subst (λ (ms : List Team). IsRecordingWitness t (record { state = c.state; operations = c.operations; marks = ms })) (sym (others_twice c.marks)) w)

-- ---- for fewer processes

pub recording_below : (t : TypeTable) (n : ℕ) → 3 ≤ n → IsRecording t n → IsRecording t (n - 1)
recording_below t = one_less (IsRecordingWitness t) (recording_embeds t) t

-- ---- the live canonical choices decide

module _ (t : TypeTable) (n : ℕ)
    (coverage : (c : RawChoice) → IsRawChoice t n c → (d : Choice) × IsCanonicalForm t n d c)
    (listed : (c : Choice) → Contains (live_choices t n) c ↔ (IsCanonical c × IsRawChoice t n (raw_choice_of c) × IsLive t (raw_choice_of c)))
    (not_live : (c : RawChoice) → IsRawChoice t n c → ¬ IsLive t c → ¬ IsWitness t c) where
  pub live_not_recording : All (λ d. ¬ IsRecordingWitness t (raw_choice_of d)) (live_choices t n) → ¬ IsRecording t n
  live_not_recording none w =
      let cs : List Choice = live_choices t n in
      let r = coverage w.0 w.1 in
      let recorded : IsRecordingWitness t (raw_choice_of r.0) = elim r.1.renumbered [
        | inl f ↦ recording_embeds t f.0 (raw_choice_of r.0) w.0 f.1 w.2
        | inr f ↦ recording_embeds t f.0 (raw_choice_of r.0) (with_other_teams w.0) f.1 (recording_exchanged t w.0 w.2)
      ] in
      not_live (raw_choice_of r.0) r.1.for_n
      (λ live.
      let at = IsIn-from_Contains r.0 cs ((listed r.0).1 (r.1.canonical, r.1.for_n, live)) in
      each_at (λ d. ¬ IsRecordingWitness t (raw_choice_of d)) cs r.0 (recursion_from_All (λ d. ¬ IsRecordingWitness t (raw_choice_of d)) cs none) at recorded)
      (is_a_witness t (raw_choice_of r.0) recorded)

  pub live_recording : (d : Choice) → Contains (live_choices t n) d → IsRecordingWitness t (raw_choice_of d) → IsRecording t n
  live_recording d h w = (raw_choice_of d, ((listed d).0 h).1, w)
