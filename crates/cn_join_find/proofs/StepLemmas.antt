-- Steps of words within stocks.
use Rattle.std.proofs.Common.{◌≡◌, ◌≢◌, ℕ, zero, suc, ◌<◌, List, [], ◌∷◌, ◌++◌, length, get_or, refl, ap, ◌∙◌, subst, arith, Some, None}
use Rattle.std.specs.Prelude.{slice_get, slice_index_or}
use Rattle.std.proofs.lemmas.Option.{slice_get-get_or, slice_get_within}
use Rattle.cn_table.specs.TypeTable.{transition}
use Rattle.cn_joins.specs.Joins.{PlacedWord}
use Rattle.cn_stocks.specs.declared.stocks.Stock.{Stock}
use Rattle.cn_stocks.specs.Reach.{AreEnds, ArePairsTo, EndsWithin, ShowsWithin}
use Rattle.cn_stocks.specs.Stocks.{items_at}
use Rattle.cn_stocks.specs.Words.{HaveSame, times}
use Rattle.cn_stocks.proofs.StockLemmas.{items_of, items_within, no_less, same_items, stock_at}
use Rattle.cn_telling.specs.declared.ends.Ends.{Ends}
use Rattle.cn_telling.specs.declared.shown.Shown.{Shown}
use Rattle.cn_join_find.specs.declared.steps.Cells.{Cells}
use Rattle.cn_join_find.specs.declared.steps.Step.{Step}
use Rattle.cn_join_find.specs.declared.steps.Views.{Views}
use Rattle.cn_join_find.specs.Steps.{AreCells, AreViews, IsEndsStep, IsShowing, IsShownStep, IsStep, LeadsTo, LeadsToShow, StandsAt}
use Rattle.cn_join_find.proofs.WordLemmas.{first_at_once, first_shown, shown_at_once, shown_on, way_on}

-- some operations stand at each place
pub stands : (stocks : List Stock) (place : ℕ) → place < length stocks → (items : List ℕ) × (items_at stocks place ≡ Some items)
stands [] place l = absurd (omega arith)
stands (s ∷ stocks) zero l = (s.operations.items, refl)
stands (s ∷ stocks) (suc place) l = stands stocks place (omega arith)

-- ---- one operation less

pub record LessAt (c : Cells) (place operation j : ℕ) : Type 0 where
  pub rest : List ℕ
  pub at : StandsAt c j rest
  pub earlier : j < place
  pub inside : j < length c.ends.now
  pub less : (items : List ℕ) → StandsAt c place items → HaveSame items (operation ∷ rest)
  pub ends : AreEnds c.table.now rest (length c.table.now.states) (get_or c.ends.now j (record { states = [] })).states

pub less_at : (c : Cells) → AreCells c → (place operation j : ℕ) (s : Stock) → slice_get c.stocks.now place ≡ Some s → slice_index_or s.less operation None ≡ Some j → LessAt c place operation j
less_at c are place operation j s here link =
    let is = are.over.stocks place s here in
    let h = is.smaller.some operation j link in
    let r = stock_at c.stocks.now j h.0 h.1 in
    let inside : j < length c.ends.now = omega (arith, are.count, slice_get_within c.stocks.now j r.0 r.1) in
    let none : Ends = record { states = [] } in record {
      rest = h.0;
      at = h.1;
      earlier = are.over.back place s here operation j link;
      inside = inside;
      less = λ items at. subst (λ (l : List ℕ). HaveSame l (operation ∷ h.0)) (same_items c.stocks.now place s.operations.items items (items_of c.stocks.now place s here) at) h.2;
      ends = subst (λ (l : List ℕ). AreEnds c.table.now l (length c.table.now.states) (get_or c.ends.now j none).states) r.2
          (are.ends j r.0 (get_or c.ends.now j none) r.1 (slice_get-get_or c.ends.now j none inside));
    }

-- where there is no link the operation does not stand there
pub none_at : (c : Cells) → AreCells c → (place operation : ℕ) (s : Stock) (items : List ℕ) → slice_get c.stocks.now place ≡ Some s → StandsAt c place items
    → ((j : ℕ) → slice_index_or s.less operation None ≢ Some j) → times operation items ≡ 0
none_at c are place operation s items here at none =
    subst (λ (l : List ℕ). times operation l ≡ 0) (same_items c.stocks.now place s.operations.items items (items_of c.stocks.now place s here) at)
    (no_less c.stocks.now s.operations.items s.less (are.over.stocks place s here).smaller operation none)

-- the pairs that words within what is left show
pub shown_at : (v : Views) → AreViews v → (j : ℕ) (rest : List ℕ) → StandsAt v.cells j rest
    → (j < length v.shown.now) × ArePairsTo v.cells.table.now rest v.asked (get_or v.shown.now j (record { pairs = [] })).pairs
shown_at v are j rest at =
    let r = stock_at v.cells.stocks.now j rest at in
    let none : Shown = record { pairs = [] } in
    let inside : j < length v.shown.now = omega (arith, are.count, slice_get_within v.cells.stocks.now j r.0 r.1) in (
      inside,
      subst (λ (l : List ℕ). ArePairsTo v.cells.table.now l v.asked (get_or v.shown.now j none).pairs) r.2
          (are.shown j r.0 (get_or v.shown.now j none) r.1 (slice_get-get_or v.shown.now j none inside)),
    )

-- ---- steps

module _ (c : Cells) (place o start : ℕ) (step : Step) where
  pub place_known : IsStep c place o start step → step.place < length c.stocks.now
  place_known s = items_within c.stocks.now step.place s.rest s.at

  pushed_by : IsStep c place o start step → (old mid : List ℕ) → mid ≡ old ++ step.operation ∷ [] → mid ≡ old ++ o ∷ []
  pushed_by s old mid e = e ∙ ap (λ (x : ℕ). old ++ x ∷ []) s.is_by

  pub ends_behind : (goal : ℕ) → IsEndsStep c place o start goal step → (items : List ℕ) → StandsAt c step.place items → EndsWithin c.table.now step.state items goal
  ends_behind goal s items at =
      subst (λ (l : List ℕ). EndsWithin c.table.now step.state l goal) (same_items c.stocks.now step.place s.is_step.rest items s.is_step.at at) s.ends

  leads_behind : (goal : ℕ) (s : IsStep c place o start step) (mid new : List ℕ) → ((items : List ℕ) → StandsAt c step.place items → LeadsTo c.table.now step.state items goal mid new)
      → LeadsTo c.table.now (transition c.table.now o start).1 s.rest goal mid new
  leads_behind goal s mid new h = subst (λ (q : ℕ). LeadsTo c.table.now q s.rest goal mid new) s.state (h s.rest s.at)

  pub way_by_step : (goal : ℕ) → IsEndsStep c place o start goal step → (old mid new : List ℕ) → mid ≡ old ++ step.operation ∷ []
      → ((items : List ℕ) → StandsAt c step.place items → LeadsTo c.table.now step.state items goal mid new) → (items : List ℕ) → StandsAt c place items → LeadsTo c.table.now start items goal old new
  way_by_step goal s old mid new e h items at =
      way_on c.table.now start items o s.is_step.rest goal old mid new (s.is_step.less items at) (pushed_by s.is_step old mid e) (leads_behind goal s.is_step mid new h)

  pub show_by_asked : (r q : ℕ) → (transition c.table.now o start).0 ≡ r → IsEndsStep c place o start q step → (old mid new : List ℕ) (at_place : ℕ) → at_place ≡ length old → mid ≡ old ++ step.operation ∷ []
      → ((items : List ℕ) → StandsAt c step.place items → LeadsTo c.table.now step.state items q mid new)
      → (items : List ℕ) → StandsAt c place items → LeadsToShow c.table.now start items o r q old new at_place
  show_by_asked r q answer s old mid new at_place here e h items at =
      shown_at_once c.table.now start items o r q s.is_step.rest old mid new at_place (s.is_step.less items at) answer (pushed_by s.is_step old mid e) here (leads_behind q s.is_step mid new h)

  pub first_by_asked : (f r q : ℕ) → f ≡ o → (transition c.table.now o start).0 ≡ r → IsEndsStep c place o start q step → (word : List ℕ) (w : PlacedWord)
      → ((items : List ℕ) → StandsAt c step.place items → LeadsTo c.table.now step.state items q (f ∷ []) word) → w.word ≡ word → w.place ≡ 0
      → (items : List ℕ) → StandsAt c place items → IsShowing c.table.now start items f o r q w
  first_by_asked f r q same answer s word w h is zero_place items at =
      first_at_once c.table.now start items f o r q s.is_step.rest word w same (s.is_step.less items at) answer (leads_behind q s.is_step (f ∷ []) word h) is zero_place

module _ (v : Views) (place o start r q : ℕ) (step : Step) (s : IsShownStep v place o start r q step) where
  pub shows_behind : (items : List ℕ) → StandsAt v.cells step.place items → ShowsWithin v.cells.table.now step.state items v.asked r q
  shows_behind items at =
      subst (λ (l : List ℕ). ShowsWithin v.cells.table.now step.state l v.asked r q) (same_items v.cells.stocks.now step.place s.is_step.rest items s.is_step.at at) s.shows

  show_behind : (mid new : List ℕ) (at_place : ℕ) → ((items : List ℕ) → StandsAt v.cells step.place items → LeadsToShow v.cells.table.now step.state items v.asked r q mid new at_place)
      → LeadsToShow v.cells.table.now (transition v.cells.table.now o start).1 s.is_step.rest v.asked r q mid new at_place
  show_behind mid new at_place h = subst (λ (p : ℕ). LeadsToShow v.cells.table.now p s.is_step.rest v.asked r q mid new at_place) s.is_step.state (h s.is_step.rest s.is_step.at)

  pub show_by_step : (old mid new : List ℕ) (at_place : ℕ) → mid ≡ old ++ step.operation ∷ []
      → ((items : List ℕ) → StandsAt v.cells step.place items → LeadsToShow v.cells.table.now step.state items v.asked r q mid new at_place)
      → (items : List ℕ) → StandsAt v.cells place items → LeadsToShow v.cells.table.now start items v.asked r q old new at_place
  show_by_step old mid new at_place e h items at =
      shown_on v.cells.table.now start items o s.is_step.rest v.asked r q old mid new at_place (s.is_step.less items at) (e ∙ ap (λ (x : ℕ). old ++ x ∷ []) s.is_step.is_by) (show_behind mid new at_place h)

  pub first_by_step : (word : List ℕ) (at_place : ℕ) (w : PlacedWord)
      → ((items : List ℕ) → StandsAt v.cells step.place items → LeadsToShow v.cells.table.now step.state items v.asked r q (o ∷ []) word at_place) → w.word ≡ word → w.place ≡ at_place
      → (items : List ℕ) → StandsAt v.cells place items → IsShowing v.cells.table.now start items o v.asked r q w
  first_by_step word at_place w h is same_place items at =
      first_shown v.cells.table.now start items o v.asked r q s.is_step.rest word at_place w (s.is_step.less items at) (show_behind (o ∷ []) word at_place h) is same_place
