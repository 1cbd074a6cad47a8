-- Whether some stock has what is asked for, from what was found for each stock.
use Rattle.std.proofs.Common.{◌≡◌, ◌≢◌, ◌↔◌, ℕ, ◌^◌, ◌<◌, ◌≤◌, Bool, inl, inr, List, [], ◌∷◌, length, get_or, sym, ap, ◌∙◌, subst, arith, All, Contains, map, Result, Ok, Err, IfOk, MatchResult, Option, Some, None}
use Rattle.std.specs.List.{AllZip}
use Rattle.std.specs.Prelude.{IsBitSet, IsTrue}
use Rattle.std.proofs.lemmas.Option.{get_or_from_slice_get, slice_get-get_or, slice_get_within}
use Rattle.cn_table.specs.TypeTable.{TypeTable}
use Rattle.cn_outcomes.proofs.LastProcess.{zero_has_none}
use Rattle.cn_stocks.specs.declared.levels.Level.{Level}
use Rattle.cn_stocks.specs.declared.search.Search.{Search}
use Rattle.cn_stocks.specs.declared.stocks.Stock.{Stock}
use Rattle.cn_stocks.specs.Greatest.{IsGreatestRecord}
use Rattle.cn_stocks.specs.Records.{SomeRecords}
use Rattle.cn_stocks.specs.Levels.{AreStarts, IsLevel, IsNext, IsSearch, IsSearchFor, IsSomeNext}
use Rattle.cn_stocks.specs.declared.question.Question.{Question}
use Rattle.cn_stocks.specs.Questions.{AreStartsOfSome, HoldsFrom, SomeHolds}
use Rattle.cn_stocks.specs.Stocks.{AreStocks}
use Rattle.cn_stocks.specs.Words.{HaveSame, times}
use Rattle.cn_stocks.proofs.PairLemmas.{some_bit}
use Rattle.cn_stocks.proofs.Fewer.{holds_same}
use Rattle.cn_stocks.proofs.StockLemmas.{before_or_behind, items_of, stock_at}
use Rattle.cn_stocks.proofs.Zips.{zip_at, zip_back, zip_none}

-- ---- all stocks of one number of operations

pub all_next : (question : Question) (t : TypeTable) (level : Level) (list : List Stock) → IsLevel question t level → AreStocks (length t.operations) level.stocks.list.items list
    → All (IsNext question t level) list
all_next question t level list is are k d l = record { level_is = is; stock_is = are k (get_or list k d) (slice_get-get_or list k d l) }

pub all_some_next : (question : Question) (t : TypeTable) (level : Level) (list : List Stock) → All (IsNext question t level) list → All (IsSomeNext t level) list
all_some_next question t level list all k d l = record { question = question; next = all k d l }

-- the stock at the place has it from the state
pub holds_at : (t : TypeTable) (n : ℕ) (s : Search) (i q : ℕ) → IsSearch t n s → i < length s.starts.items → IsBitSet (get_or s.starts.items i 0) q → (q < length t.states) × HoldsFrom s.question t n q
holds_at t n s i q is l b =
    let starts = get_or s.starts.items i 0 in
    let fit : Stock → ℕ → Type 0 = λ stock starts. AreStarts s.question t stock.operations.items starts in
    let here = zip_back fit s.stocks.list.items s.starts.items is.starts i starts (slice_get-get_or s.starts.items i 0 l) in
    let holds = (here.2 q).0 b in
    (holds.0, (here.0.operations.items, (is.stocks.stocks i here.0 here.1).known, is.stocks.long i here.0.operations.items (items_of s.stocks.list.items i here.0 here.1), holds.1))

-- at some place stands a stock that has it from the state
pub place_of : (t : TypeTable) (n : ℕ) (s : Search) (q : ℕ) → IsSearch t n s → q < length t.states → HoldsFrom s.question t n q
    → (i : ℕ) × (i < length s.starts.items) × IsBitSet (get_or s.starts.items i 0) q
place_of t n s q is l found =
    let fit : Stock → ℕ → Type 0 = λ stock starts. AreStarts s.question t stock.operations.items starts in
    let here = is.stocks.all found.0 found.1 found.2 in
    let stock = stock_at s.stocks.list.items here.0 here.1.0 here.1.1 in
    let starts = zip_at fit s.stocks.list.items s.starts.items is.starts here.0 stock.0 stock.1 in
    let same : HaveSame found.0 stock.0.operations.items = λ o. sym (here.1.2 o) ∙ ap (times o) (sym stock.2) in
    let bit = (starts.2 q).1 (l, holds_same s.question t q found.0 stock.0.operations.items same found.3) in
    (here.0, slice_get_within s.starts.items here.0 starts.0 starts.1, subst (λ (x : ℕ). IsBitSet x q) (sym (get_or_from_slice_get s.starts.items here.0 starts.0 0 starts.1)) bit)

-- a stock that has a start state
pub some_start : (t : TypeTable) (n : ℕ) (s : Search) (i : ℕ) → IsSearch t n s → i < length s.starts.items → get_or s.starts.items i 0 < 2 ^ 16 → get_or s.starts.items i 0 ≢ 0
    → SomeHolds s.question t n
some_start t n s i is l small some =
    let q = some_bit (get_or s.starts.items i 0) small some in
    let holds = holds_at t n s i q.0 is l q.1 in
    (q.0, holds.0, holds.1)

pub none_starts : (t : TypeTable) (n : ℕ) (s : Search) → IsSearch t n s → ((i : ℕ) → i < length s.starts.items → get_or s.starts.items i 0 ≡ 0) → ¬ SomeHolds s.question t n
none_starts t n s is none h =
    let at = place_of t n s h.0 is h.1 h.2 in
    zero_has_none h.0 (subst (λ (x : ℕ). IsBitSet x h.0) (none at.0 at.1) at.2)

-- the states of all stocks are those from which some stock has it
pub starts_of_some : (t : TypeTable) (n set : ℕ) (s : Search) → IsSearch t n s
    → ((q : ℕ) → IsBitSet set q ↔ ((i : ℕ) × (i < length s.starts.items) × IsBitSet (get_or s.starts.items i 0) q)) → AreStartsOfSome s.question t n set
starts_of_some t n set s is all q = (
  λ b. (let at = (all q).0 b in holds_at t n s at.0 q is at.1 at.2),
  λ h. (all q).1 (place_of t n s q is h.0 h.1),
)

-- ---- what several threads collect

-- what is collected of results that are all there
AllZip-of_oks : {X Y : Type 0} (E : Type 0) (R : X → Y → Type 0) (xs : List X) (ys : List Y) → AllZip (λ x (r : Result Y E). IfOk r (R x)) xs (map Ok ys) → AllZip R xs ys
AllZip-of_oks E R [] [] h = tt
AllZip-of_oks E R [] (y ∷ ys) h = absurd h
AllZip-of_oks E R (x ∷ xs) [] h = absurd h
AllZip-of_oks E R (x ∷ xs) (y ∷ ys) h = (h.0, AllZip-of_oks E R xs ys h.1)

pub collected : {X Y V : Type 0} (E : Type 0) (R : X → Y → Type 0) (items : V → List Y) (xs : List X) (rs : List (Result Y E)) (r : Result V E) → AllZip (λ x (r : Result Y E). IfOk r (R x)) xs rs
    → MatchResult r (λ v. (ys : List Y) × (rs ≡ map Ok ys) × (items v ≡ ys)) (λ e. Contains rs (Err e)) → IfOk r (λ v. AllZip R xs (items v))
collected {Y = Y} E R items xs rs (Ok v) h m = subst (λ ys. AllZip R xs ys) (sym m.2) (AllZip-of_oks E R xs m.0 (subst (λ rs. AllZip (λ x (r : Result Y E). IfOk r (R x)) xs rs) m.1 h))
collected E R items xs rs (Err e) h m = tt

pub no_level_is : (question : Question) (t : TypeTable) (level : Level) → level.stocks.list.items ≡ [] → level.starts.items ≡ [] → level.ends.items ≡ [] → level.shown.items ≡ []
    → IsLevel question t level
no_level_is question t level stocks starts ends shown = record {
  starts = zip_none _ level.stocks.list.items level.starts.items stocks starts;
  ends = zip_none _ level.stocks.list.items level.ends.items stocks ends;
  shown = λ e. zip_none _ level.stocks.list.items level.shown.items stocks shown;
}

-- what a search for a question says of it
pub next_for : (question asked : Question) (t : TypeTable) (n : ℕ) (s : Search) → asked ≡ question → IsSearchFor asked t n s → IsSearchFor question t n s
next_for question asked t n s e is = (is.0 ∙ e, is.1)

pub found_by : (question : Question) (t : TypeTable) (n : ℕ) (s : Search) → IsSearchFor question t n s → (found : Bool)
    → ((t : TypeTable) (n : ℕ) → IsSearch t n s → IsTrue found ↔ SomeHolds s.question t n) → IsTrue found ↔ SomeHolds question t n
found_by question t n s is found says = subst (λ (asked : Question). IsTrue found ↔ SomeHolds asked t n) is.0 (says t n is.1)

pub starts_by : (question : Question) (t : TypeTable) (n set : ℕ) (s : Search) → IsSearchFor question t n s
    → ((t : TypeTable) (n : ℕ) → IsSearch t n s → AreStartsOfSome s.question t n set) → AreStartsOfSome question t n set
starts_by question t n set s is says = subst (λ (asked : Question). AreStartsOfSome asked t n set) is.0 (says t n is.1)

-- what is found where no larger stock records
pub record_up_to : (t : TypeTable) (most n : ℕ) (greatest : Option ℕ) → n ≤ most → (2 ≤ n → (greatest ≡ Some n) × SomeRecords t n) → (n ≤ 1 → greatest ≡ None)
    → ((m : ℕ) → n < m → m ≤ most → ¬ SomeRecords t m) → IsGreatestRecord t most greatest
record_up_to t most n greatest l found none above = elim (before_or_behind 1 n) [
  | inl two ↦ (let f = found (omega (arith, two)) in subst (IsGreatestRecord t most) (sym f.0) (omega (arith, two), l, f.1, above))
  | inr few ↦ subst (IsGreatestRecord t most) (sym (none few)) (λ m two u. above m (omega (arith, two, few)) u)
]
