use Rattle.std.proofs.Common.{ℕ, List, ◌∙◌, ◌≡◌, ap, length, refl, slice_index, subst, sym, true≢false}
use Rattle.cn_divisions.specs.Counts.{AreTeams}
use Rattle.cn_divisions.specs.Divisions.{AreParted, IsFinestOf, IsMeetingOf, meeting_of}
use Rattle.cn_meetings.specs.Sights.{sight_of}
use Rattle.cn_divisions.specs.Sizes.{AreSizes}
use Rattle.cn_divisions.proofs.Finding.{is_meeting, none_parted, none_split, sizes_move}
use Rattle.cn_divisions.proofs.divisions.finest.Goals as goal

pub sizes-sizes-requires-clause-teams : goal.sizes-sizes-requires-clause-teams
sizes-sizes-requires-clause-teams c = subst AreTeams (sym c.as_slice.ensures.value) c.process_teams-teams.ensures.teams

pub returns-then-not-is_parted-clause-all : goal.returns-then-not-is_parted-clause-all
returns-then-not-is_parted-clause-all c M team is begins same its parted =
    let s = c.args.setting.now in
    let items = s.stock.now.operations.items in
    let teams = c.process_teams-teams.result.items in
    let value = c.as_slice-2.ensures.value in
    let are = subst (λ (xs : List ℕ). AreSizes xs c.sizes-sizes.result.items) c.as_slice.ensures.value c.sizes-sizes.ensures in
    let e : length c.as_slice-2.result.now ≡ length items = ap length value ∙ c.process_teams-teams.ensures.long in
    let not_parted : ¬ AreParted (length items) (λ p. slice_index teams p) = λ h. true≢false (sym (c.is_parted.ensures.1
    (subst (λ (n : ℕ). AreParted n (λ p. slice_index c.as_slice-2.result.now p)) (sym e) (subst (λ (xs : List ℕ). AreParted (length items) (λ p. slice_index xs p)) (sym value) h))) ∙ c.if-not-is_parted.true) in
    absurd (none_parted s.table.now (sight_of c.args.look.now.sight) c.args.start (length s.table.now.operations) items teams c.sizes-sizes.result.items c.requires.setting.stock_is.known c.requires.many
    c.process_teams-teams.ensures.long c.process_teams-teams.ensures.finest are not_parted M team is begins same its parted)

pub returns-then-not-is_parted-clause-split : goal.returns-then-not-is_parted-clause-split
returns-then-not-is_parted-clause-split c split =
    let s = c.args.setting.now in
    let items = s.stock.now.operations.items in
    let teams = c.process_teams-teams.result.items in
    let value = c.as_slice-2.ensures.value in
    let are = subst (λ (xs : List ℕ). AreSizes xs c.sizes-sizes.result.items) c.as_slice.ensures.value c.sizes-sizes.ensures in
    let e : length c.as_slice-2.result.now ≡ length items = ap length value ∙ c.process_teams-teams.ensures.long in
    let not_parted : ¬ AreParted (length items) (λ p. slice_index teams p) = λ h. true≢false (sym (c.is_parted.ensures.1
    (subst (λ (n : ℕ). AreParted n (λ p. slice_index c.as_slice-2.result.now p)) (sym e) (subst (λ (xs : List ℕ). AreParted (length items) (λ p. slice_index xs p)) (sym value) h))) ∙ c.if-not-is_parted.true) in
    absurd (none_split s.table.now (sight_of c.args.look.now.sight) c.args.start (length s.table.now.operations) items teams c.sizes-sizes.result.items c.requires.setting.stock_is.known c.requires.many
    c.process_teams-teams.ensures.long c.process_teams-teams.ensures.finest are not_parted split)

pub returns-clause-is : goal.returns-clause-is
returns-clause-is c =
    let s = c.args.setting.now in
    let t = s.table.now in
    let items = s.stock.now.operations.items in
    let teams = c.process_teams-teams.result.items in
    let value = c.as_slice-2.ensures.value in
    let are = subst (λ (xs : List ℕ). AreSizes xs c.sizes-sizes.result.items) c.as_slice.ensures.value c.sizes-sizes.ensures in
    let e : length c.as_slice-2.result.now ≡ length items = ap length value ∙ c.process_teams-teams.ensures.long in
    let ops : c.list_of.result.items ≡ items = c.list_of.ensures ∙ c.as_slice-3.ensures.value in
    record {
      meeting = subst (λ (xs : List ℕ). IsMeetingOf t (sight_of c.args.look.now.sight) (length items) (meeting_of c.args.start xs (sight_of c.args.look.now.sight))) (sym ops)
          (is_meeting t (sight_of c.args.look.now.sight) c.args.start (length t.operations) items teams c.sizes-sizes.result.items c.requires.setting.stock_is.known c.requires.many
          c.process_teams-teams.ensures.long c.process_teams-teams.ensures.finest are refl c.requires.start);
      processes = ap length ops;
      members = c.process_teams-teams.ensures.long;
      finest = subst (λ (xs : List ℕ). IsFinestOf t (meeting_of c.args.start xs (sight_of c.args.look.now.sight)) (length items) (λ p. slice_index teams p)) (sym ops) c.process_teams-teams.ensures.finest;
      parted = subst (λ (xs : List ℕ). AreParted (length items) (λ p. slice_index xs p)) value (subst (λ (n : ℕ). AreParted n (λ p. slice_index c.as_slice-2.result.now p)) e (c.is_parted.ensures.0 c.if-not-is_parted.false));
      sizes = are;
    }

pub returns-clause-all : goal.returns-clause-all
returns-clause-all c M team is begins same its parted =
    let s = c.args.setting.now in
    let items = s.stock.now.operations.items in
    let teams = c.process_teams-teams.result.items in
    let are = subst (λ (xs : List ℕ). AreSizes xs c.sizes-sizes.result.items) c.as_slice.ensures.value c.sizes-sizes.ensures in (
      _,
      refl,
      sizes_move s.table.now (sight_of c.args.look.now.sight) c.args.start (length s.table.now.operations) items teams c.sizes-sizes.result.items c.requires.setting.stock_is.known c.requires.many
          c.process_teams-teams.ensures.long c.process_teams-teams.ensures.finest are M team is begins same its,
    )
