-- The text of an entry, in which a list is spelled anew.
use Rattle.std.proofs.Common.{◌≡◌, ◌≢◌, ℕ, zero, suc, ◌+◌, ◌*◌, ◌-◌, ◌<◌, ◌≤◌, List, [], ◌∷◌, ◌++◌, length, length-append, length-take-le, append_assoc, append-nil, codes, take, drop, drop-cons, set, get_or, refl, sym, ap, ◌∙◌, subst, arith, All, Option, Some, None, IfSome, decimal, map, true, nat_le, le-leb}
use Rattle.std.specs.List.{AllByRecursion, list_all}
use Rattle.std.proofs.lemmas.Fmt.{decimal_digit}
use Rattle.std.proofs.lemmas.List.{drop_all, set-append_right, take-append-drop, take_all, take_more}
use Rattle.std.proofs.lemmas.List.Elements.{All-append, All-drop, All-get_or, All-take, All-weaker, recursion_from_All}
use Rattle.serde_json.specs.Data.{Items}
use Rattle.serde_json.specs.View.{items_of}
use Rattle.serde_json.specs.Written.{compact_text, items_text}
use Rattle.cn_table.specs.TypeTable.{TypeTable}
use Rattle.cn_choice.specs.Canonical.{Choice}
use Rattle.cn_choice.specs.declared.limits.TheConstants.{MOST_PROCESSES}
use Rattle.cn_cert.specs.CertificateText.{number_data, numbers_data}
use Rattle.cn_check.specs.EntryTexts.{BeginsWithEntry, IsKnown, IsLine, IsRespelled, IsShown, AreSpelled, head_text}
use Rattle.cn_cert.specs.Entries.{with_comma}
use Rattle.cn_cert.specs.Ranges.{is_short}
use Rattle.cn_table.specs.declared.limits.TheConstants.{MOST_STATES}
use Rattle.cn_check.proofs.EntryTextLemmas.{one_spelled}
use Rattle.cn_check.proofs.ShownLemmas.{shown_still}

abbrev numbers : List ℕ → Items
numbers ns = items_of (map number_data ns)

abbrev AreSmall : List ℕ → Type 0
AreSmall ns = AllByRecursion (λ n. n < MOST_PROCESSES) ns

digit : (n : ℕ) → n < MOST_PROCESSES → decimal n ≡ (48 + n) ∷ []
digit n small = decimal_digit n (omega (arith, small))

-- ---- one number of a text is written anew

set_later : (ns behind : List ℕ) (i n : ℕ) → i < length ns → AreSmall ns → n < MOST_PROCESSES
    → set (items_text true (items_of (map number_data ns)) ++ behind) (suc (i + i)) (48 + n) ≡ items_text true (items_of (map number_data (set ns i n))) ++ behind
set_later [] behind i n inside small low = absurd (omega (arith, inside))
set_later (m ∷ ns) behind zero n inside small low = rw (digit m small.0, digit n low) refl
set_later (m ∷ ns) behind (suc i) n inside small low =
    let place : suc (suc i + suc i) ≡ suc (suc (suc (i + i))) = omega arith in
    ap (λ (k : ℕ). set (items_text true (items_of (map number_data (m ∷ ns))) ++ behind) k (48 + n)) place
    ∙ rw (digit m small.0) (ap (λ (v : List ℕ). 44 ∷ (48 + m) ∷ v) (set_later ns behind i n (omega (arith, inside)) small.1 low))

set_in_list : (ns behind : List ℕ) (i n : ℕ) → i < length ns → AreSmall ns → n < MOST_PROCESSES
    → set (compact_text (numbers_data ns) ++ behind) (suc (i + i)) (48 + n) ≡ compact_text (numbers_data (set ns i n)) ++ behind
set_in_list [] behind i n inside small low = absurd (omega (arith, inside))
set_in_list (m ∷ ns) behind zero n inside small low = rw (digit m small.0, digit n low) refl
set_in_list (m ∷ ns) behind (suc i) n inside small low =
    let place : suc (suc i + suc i) ≡ suc (suc (suc (i + i))) = omega arith in
    ap (λ (k : ℕ). set (compact_text (numbers_data (m ∷ ns)) ++ behind) k (48 + n)) place
    ∙ rw (digit m small.0) (ap (λ (v : List ℕ). 91 ∷ (48 + m) ∷ v) (set_later ns behind i n (omega (arith, inside)) small.1 low))

set_in_line : (front ns behind : List ℕ) (first i n : ℕ) → length front ≡ first → i < length ns → AreSmall ns → n < MOST_PROCESSES
    → set (front ++ (compact_text (numbers_data ns) ++ behind)) (first + 1 + 2 * i) (48 + n) ≡ front ++ (compact_text (numbers_data (set ns i n)) ++ behind)
set_in_line front ns behind first i n long inside small low =
    let place : first + 1 + 2 * i - first ≡ suc (i + i) = omega arith in
    set-append_right front (compact_text (numbers_data ns) ++ behind) first (first + 1 + 2 * i) (48 + n) long (omega arith)
    ∙ ap (λ (v : List ℕ). front ++ v) (ap (λ (k : ℕ). set (compact_text (numbers_data ns) ++ behind) k (48 + n)) place ∙ set_in_list ns behind i n inside small low)

-- ---- the numbers from a place on are written anew

-- the first numbers are those of the list, the others are as before
abbrev mixed : List ℕ → List ℕ → ℕ → List ℕ
mixed list before i = take i list ++ drop i before

mixed_more : (list before : List ℕ) (i : ℕ) → i < length list → length before ≡ length list → set (take i list ++ drop i before) i (get_or list i 0) ≡ take (i + 1) list ++ drop (i + 1) before
mixed_more list before i inside long =
    let n : ℕ = get_or list i 0 in
    let front : length (take i list) ≡ i = length-take-le i list (omega (arith, inside)) in
    let none : i - i ≡ 0 = omega arith in
    let next : suc i ≡ i + 1 = omega arith in
    set-append_right (take i list) (drop i before) i i n front (omega arith)
    ∙ (ap (λ (k : ℕ). take i list ++ set (drop i before) k n) none
    ∙ (ap (λ (v : List ℕ). take i list ++ set v 0 n) (drop-cons before i 0 (omega (arith, inside, long)))
    ∙ (ap (λ (k : ℕ). take i list ++ n ∷ drop k before) next
    ∙ (sym (append_assoc (take i list) (n ∷ []) (drop (i + 1) before)) ∙ ap (λ (v : List ℕ). v ++ drop (i + 1) before) (sym (take_more list i 0 inside))))))

mixed_long : (list before : List ℕ) (i : ℕ) → i < length list → length before ≡ length list → i < length (take i list ++ drop i before)
mixed_long list before i inside long =
    let front : length (take i list) ≡ i = length-take-le i list (omega (arith, inside)) in
    let more = length-append (take i list) (drop i before) in
    let one = ap (λ (v : List ℕ). length v) (drop-cons before i 0 (omega (arith, inside, long))) in
    omega (arith, front, more, one)

-- the numbers up to a place have been written
abbrev pub AreSpelledTo : ℕ → List ℕ → ℕ → ℕ → List ℕ → List ℕ → Type 0
AreSpelledTo first list place i old new = (front before behind : List ℕ) → length front ≡ first → length before ≡ length list → All (λ n. n < MOST_PROCESSES) before
    → take place before ≡ take place list → old ≡ front ++ (compact_text (numbers_data before) ++ behind) → new ≡ front ++ (compact_text (numbers_data (take i list ++ drop i before)) ++ behind)

pub none_spelled : (first : ℕ) (list : List ℕ) (place : ℕ) (old : List ℕ) → AreSpelledTo first list place place old old
none_spelled first list place old front before behind long same small front_same is =
    is ∙ ap (λ (ns : List ℕ). front ++ (compact_text (numbers_data ns) ++ behind)) (sym (take-append-drop place before) ∙ ap (λ (ns : List ℕ). ns ++ drop place before) front_same)

pub one_spelled_anew : (first : ℕ) (list : List ℕ) (place i : ℕ) (old now : List ℕ) → All (λ n. n < MOST_PROCESSES) list → i < length list → AreSpelledTo first list place i old now
    → AreSpelledTo first list place (i + 1) old (set now (first + 1 + 2 * i) (48 + get_or list i 0))
one_spelled_anew first list place i old now list_small inside so_far front before behind long same small front_same is =
    let n : ℕ = get_or list i 0 in
    let mix_small = recursion_from_All (λ n. n < MOST_PROCESSES) (take i list ++ drop i before)
    (All-append (λ n. n < MOST_PROCESSES) (take i list) (drop i before) (All-take (λ n. n < MOST_PROCESSES) i list list_small) (All-drop (λ n. n < MOST_PROCESSES) i before small)) in
    ap (λ (v : List ℕ). set v (first + 1 + 2 * i) (48 + n)) (so_far front before behind long same small front_same is)
    ∙ (set_in_line front (take i list ++ drop i before) behind first i n long (mixed_long list before i inside same) mix_small (All-get_or (λ n. n < MOST_PROCESSES) list i 0 inside list_small)
    ∙ ap (λ (ns : List ℕ). front ++ (compact_text (numbers_data ns) ++ behind)) (mixed_more list before i inside same))

pub all_spelled_anew : (first : ℕ) (list : List ℕ) (place i : ℕ) (old now : List ℕ) → length list ≤ i → AreSpelledTo first list place i old now → IsRespelled first list place old now
all_spelled_anew first list place i old now end so_far front before behind long same small front_same is =
    so_far front before behind long same small front_same is
    ∙ ap (λ (ns : List ℕ). front ++ (compact_text (numbers_data ns) ++ behind))
    (ap (λ (v : List ℕ). take i list ++ v) (drop_all i before (omega (arith, end, same))) ∙ (append-nil (take i list) ∙ take_all i list (omega (arith, end))))

-- ---- how long a text is

later_long : (ns : List ℕ) → AreSmall ns → length ns + length ns < length (items_text true (items_of (map number_data ns)))
later_long [] small = omega arith
later_long (n ∷ ns) small = rw (digit n small.0) (omega (arith, later_long ns small.1))

list_long : (ns : List ℕ) → AreSmall ns → length ns + length ns < length (compact_text (numbers_data ns))
list_long [] small = omega arith
list_long (n ∷ ns) small = rw (digit n small.0) (omega (arith, later_long ns small.1))

-- ---- lines

module _ (t : TypeTable) where
  -- the text has room for the list of team B
  pub line_room : (c : Choice) (line : List ℕ) (greatest first : ℕ) → IsLine t c line greatest → All (λ n. n < MOST_PROCESSES) c.b → first ≡ length (head_text c.state c.a)
      → first + (length c.b + length c.b) < length line
  line_room c line greatest first is small long =
      let list : List ℕ = compact_text (numbers_data c.b) in
      let behind : List ℕ = codes "," ++ is.0 in
      let all = ap (λ (v : List ℕ). length v) is.2 ∙ length-append (head_text c.state c.a) (list ++ behind) in
      let room = list_long c.b (recursion_from_All (λ n. n < MOST_PROCESSES) c.b small) in
      omega (arith, all, long, length-append list behind, room)

  -- a line that is spelled anew for a list that changes no operation of its orders is one of the choice with this list
  pub line_still : (state : ℕ) (a b d old new : List ℕ) (greatest first place : ℕ) → length d ≡ length b → take place d ≡ take place b → greatest < length a + place
      → All (λ n. n < MOST_PROCESSES) b → first ≡ length (head_text state a) → IsRespelled first d place old new
      → IsLine t (record { state = state; a = a; b = b }) old greatest → IsLine t (record { state = state; a = a; b = d }) new greatest
  line_still state a b d old new greatest first place long same below small head anew is =
      (is.0, shown_still t state a b d is.0 greatest place long same below is.1, anew (head_text state a) b (codes "," ++ is.0) (sym head) (sym long) small (sym same) is.2)

  -- bytes that begin with a line that is known
  pub known_begins : (c : Choice) (line bytes rest : List ℕ) (greatest : Option ℕ) → IsKnown t c line greatest → greatest ≢ None → bytes ≡ line ++ rest → BeginsWithEntry t c bytes rest
  known_begins c line bytes rest None is some e = absurd (some refl)
  known_begins c line bytes rest (Some g) is some e = (line, g, is, e)

  -- a line that is shown, piece by piece
  pub line_shown : (c : Choice) (bytes after left middle text rest : List ℕ) → bytes ≡ head_text c.state c.a ++ after → after ≡ compact_text (numbers_data c.b) ++ left
      → left ≡ 44 ∷ middle → middle ≡ text ++ rest → bytes ≡ (head_text c.state c.a ++ (compact_text (numbers_data c.b) ++ (codes "," ++ text))) ++ rest
  line_shown c bytes after left middle text rest e f g h =
      let head : List ℕ = head_text c.state c.a in
      let list : List ℕ = compact_text (numbers_data c.b) in
      e ∙ (ap (λ (v : List ℕ). head ++ v) (f ∙ (ap (λ (v : List ℕ). list ++ v) (g ∙ ap (λ (v : List ℕ). 44 ∷ v) h) ∙ sym (append_assoc list (44 ∷ text) rest)))
      ∙ sym (append_assoc head (list ++ 44 ∷ text) rest))

  -- what is spelled by bytes that begin with a right entry
  pub line_spelled : (c : Choice) (bytes here rest : List ℕ) → c.state < MOST_STATES → is_short c.a ≡ true → is_short c.b ≡ true → BeginsWithEntry t c bytes here
      → here ++ codes "," ≡ codes "," ++ with_comma rest → AreSpelled t (c ∷ []) bytes rest
  line_spelled c bytes here rest state a b is next =
      let text : List ℕ = is.2.0 in
      let head : List ℕ = head_text c.state c.a in
      let list : List ℕ = compact_text (numbers_data c.b) in
      let begun : bytes ≡ head ++ (list ++ 44 ∷ (text ++ here)) =
      is.3 ∙ (ap (λ (v : List ℕ). v ++ here) is.2.2 ∙ (append_assoc head (list ++ 44 ∷ text) here ∙ ap (λ (v : List ℕ). head ++ v) (append_assoc list (44 ∷ text) here))) in
      one_spelled t c text bytes _ _ here rest is.1 state a b is.2.1 begun refl refl next

  -- a line that is kept
  pub kept_line : (c : Choice) (text line kept : List ℕ) (greatest : ℕ) (own : Option ℕ) → IsShown t c text greatest → line ≡ head_text c.state c.a ++ (compact_text (numbers_data c.b) ++ (codes "," ++ text))
      → IfSome own (λ g. (g ≡ greatest) × (kept ≡ line)) → IsKnown t c kept own
  kept_line c text line kept greatest None is e h = tt
  kept_line c text line kept greatest (Some g) is e h = (text, subst (λ (k : ℕ). IsShown t c text k) (sym h.0) is, h.1 ∙ e)

  -- a line that follows a list
  pub followed : (state : ℕ) (a b d old new : List ℕ) (first place : ℕ) (before after : Option ℕ) → length d ≡ length b → take place d ≡ take place b → All (λ n. n < MOST_PROCESSES) b
      → first ≡ length (head_text state a) → IsKnown t (record { state = state; a = a; b = b }) old before → IfSome after (λ g. (before ≡ Some g) × (g < length a + place))
      → IfSome after (λ _. IsRespelled first d place old new) → IsKnown t (record { state = state; a = a; b = d }) new after
  followed state a b d old new first place before None long same small head known is anew = tt
  followed state a b d old new first place before (Some g) long same small head known is anew =
      line_still state a b d old new g first place long same is.1 small head anew
      (subst (λ (o : Option ℕ). IsKnown t (record { state = state; a = a; b = b }) old o) is.0 known)

  -- where a line is known, it has room for the list of team B
  pub known_room : (c : Choice) (line : List ℕ) (greatest : Option ℕ) (first size : ℕ) → IsKnown t c line greatest → All (λ n. n < MOST_PROCESSES) c.b → first ≡ length (head_text c.state c.a) → size ≡ length c.b
      → IfSome greatest (λ _. first + (size + size) < length line)
  known_room c line None first size known small head same = tt
  known_room c line (Some g) first size known small head same = omega (arith, line_room c line g first known small head, same)

-- numbers below a limit are small
pub small_list : (m : ℕ) (ns : List ℕ) → m ≤ MOST_PROCESSES → All (λ n. n < m) ns → All (λ n. n < MOST_PROCESSES) ns
small_list m ns few h = All-weaker (λ n. n < m) (λ n. n < MOST_PROCESSES) (λ n l. omega (arith, l, few)) ns h

pub small_tested : (ns : List ℕ) → AllByRecursion (λ n. n < MOST_PROCESSES) ns → list_all (λ n. nat_le n (MOST_PROCESSES - 1)) ns ≡ true
small_tested [] h = refl
small_tested (n ∷ ns) h = rw (le-leb n (MOST_PROCESSES - 1) (omega (arith, h.0)), small_tested ns h.1) refl
