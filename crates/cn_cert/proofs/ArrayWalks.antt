-- Arrays, an item after another, and values of other kinds than the wanted one.
use Rattle.std.proofs.Common.{◌≡◌, ℕ, zero, suc, append-nil, ◌<◌, List, [], ◌∷◌, ◌++◌, length, Bool, true, false, Option, Some, None, Result, Ok, Err, IfOk, IfErr, option_map, option_and_then, refl, sym, ap, ◌∙◌, subst, arith, inl, inr, ◌==◌, Bor}
use Rattle.json.specs.Json.{after_end_array, value}
use Rattle.json.specs.Token.{Token}
use Rattle.serde_json.specs.Data.{Num, Data, null, boolean, number, string, array, object, Items, no_items, item}
use Rattle.serde_json.specs.Find.{as_u64, as_array}
use Rattle.serde_json.specs.Read.{number_of}
use Rattle.cn_table.specs.Draft.{◌>>=◌}
use Rattle.cn_table.proofs.Lists.{with_front, front_one}
use Rattle.cn_choice.specs.Canonical.{Choice}
use Rattle.cn_choice.specs.Collisions.{Collision}
use Rattle.cn_cert.specs.Document.{list_of}
use Rattle.cn_cert.specs.Draft.{choice_from, choice_of, collision_from, collision_of}
use Rattle.cn_cert.specs.Reads.{Reads, Refuses}
use Rattle.cn_cert.specs.Values.{items_of_len, natural_of, naturals_of}
use Rattle.cn_cert.specs.Tokens.{data_at, items_at, rest_at, with_value, nothing, next_item, next_choice, first_item, later_items, choice_parts, next_collision, sole_thing, in_array, collision_parts, is_over, all_items}
use Rattle.cn_cert.specs.declared.fault.CertFault.{CertFault}
use Rattle.cn_cert.specs.declared.fault.CertFault.TheVariants.{NotJson}
use Rattle.std.proofs.lemmas.Bool.{eqb-true}
use Rattle.json.specs.Reads.{token_of}
use Rattle.json.specs.declared.token.Token.{Token as ReadToken}
use Rattle.json.specs.declared.token.Token.TheVariants as read
use Rattle.cn_cert.proofs.Conversions.{items_over}
use Rattle.cn_cert.proofs.Walks.{told_of, told_none, told_twice, item_step, item_none, items_done, array_told, object_told, array_too_deep, object_too_deep, string_told, boolean_told, null_told, number_told, none_told, refuse_more}

-- ---- the sort of a value, by its first token

abbrev pub sort : Data → ℕ
sort null = 0
sort (boolean b) = 1
sort (number n) = 2
sort (string s) = 3
sort (array ds) = 4
sort (object ms) = 5

abbrev pub token_sort : Token → ℕ
token_sort Token.begin_object = 5
token_sort Token.end_object = 9
token_sort Token.begin_array = 4
token_sort Token.end_array = 9
token_sort (Token.key s) = 9
token_sort (Token.string s) = 3
token_sort (Token.number s) = 2
token_sort (Token.boolean b) = 1
token_sort Token.null = 0
token_sort Token.bad = 9

abbrev front_of : Option (ℕ × List Token) → ℕ
front_of None = 7
front_of (Some p) = p.0

constant : {A : Type 0} (n k : ℕ) (there : Option (A × List Token)) (r : List Token) → with_value (λ _. n) there ≡ Some (k, r) → k ≡ n
constant n k there r e = sym (told_of (λ _. n) there k r e).2

impossible : {P : Type 0} {A : Type 0} (there : Option A) (a : A) → there ≡ None → there ≡ Some a → P
impossible there a none some = let same : Some a ≡ None = sym some ∙ none in absurd cc

pub sorted : (depth : ℕ) (t : Token) (ts : List Token) (k : ℕ) (r : List Token) → with_value sort (data_at depth (t ∷ ts)) ≡ Some (k, r) → k ≡ token_sort t
sorted zero Token.begin_object ts k r e = impossible _ _ (object_too_deep sort ts) e
sorted (suc d) Token.begin_object ts k r e = constant 5 k _ r (sym (object_told sort (suc d) ts (omega arith)) ∙ e)
sorted depth Token.end_object ts k r e = impossible _ _ (none_told sort depth Token.end_object ts refl) e
sorted zero Token.begin_array ts k r e = impossible _ _ (array_too_deep sort ts) e
sorted (suc d) Token.begin_array ts k r e = constant 4 k _ r (sym (array_told sort (suc d) ts (omega arith)) ∙ e)
sorted depth Token.end_array ts k r e = impossible _ _ (none_told sort depth Token.end_array ts refl) e
sorted depth (Token.key s) ts k r e = impossible _ _ (none_told sort depth (Token.key s) ts refl) e
sorted depth (Token.string s) ts k r e = ap front_of (sym e ∙ string_told sort depth s ts)
sorted depth (Token.number s) ts k r e = of_number (number_of s) (sym (number_told sort depth s ts) ∙ e)
  where
    of_number : (n : Option Num) → option_map {U = ℕ × List Token} (λ x. (2, ts)) n ≡ Some (k, r) → k ≡ 2
    of_number None f = absurd cc
    of_number (Some n) f = ap front_of (sym f)
sorted depth (Token.boolean b) ts k r e = ap front_of (sym e ∙ boolean_told sort depth b ts)
sorted depth Token.null ts k r e = ap front_of (sym e ∙ null_told sort depth ts)
sorted depth Token.bad ts k r e = impossible _ _ (none_told sort depth Token.bad ts refl) e

-- what is told of a value that was passed over
pub else_told : {A : Type 0} (K : Data → A) (a : A) (depth : ℕ) (t : Token) (ts r : List Token) → ((d : Data) → sort d ≡ token_sort t → K d ≡ a)
    → with_value nothing (data_at depth (t ∷ ts)) ≡ Some (tt, r) → with_value K (data_at depth (t ∷ ts)) ≡ Some (a, r)
else_told K a depth t ts r each e =
    let d = told_of nothing (data_at depth (t ∷ ts)) tt r e in
    ap (with_value K) d.1 ∙ ap (λ x. Some (x, r)) (each d.0 (sorted depth t ts (sort d.0) r (ap (with_value sort) d.1)))

pub else_none : {A B C : Type 0} (K : A → B) (L : A → C) (there : Option (A × List Token)) → with_value L there ≡ None → with_value K there ≡ None
else_none K L there e = ap (with_value K) (told_none L there e)

pub not_natural : (d : Data) → (sort d ≡ 2 → ⊥) → natural_of d ≡ None
not_natural null h = refl
not_natural (boolean b) h = refl
not_natural (number n) h = absurd (h refl)
not_natural (string s) h = refl
not_natural (array ds) h = refl
not_natural (object ms) h = refl

pub not_array : (d : Data) → (sort d ≡ 4 → ⊥) → as_array d ≡ None
not_array null h = refl
not_array (boolean b) h = refl
not_array (number n) h = refl
not_array (string s) h = refl
not_array (array ds) h = absurd (h refl)
not_array (object ms) h = refl

-- what a token of this sort is
abbrev IsOfSort : ℕ → ReadToken → Type 0
IsOfSort zero k = k ≡ read.Null
IsOfSort (suc zero) k = Unit {0}
IsOfSort (suc (suc zero)) k = (s : Bor (List ℕ)) × (k ≡ read.Number s)
IsOfSort (suc (suc (suc zero))) k = (s : Bor (List ℕ)) × (k ≡ read.String s)
IsOfSort (suc (suc (suc (suc zero)))) k = k ≡ read.BeginArray
IsOfSort (suc (suc (suc (suc (suc zero))))) k = k ≡ read.BeginObject
IsOfSort _ k = Unit {0}

of_its_sort : (k : ReadToken) → IsOfSort (token_sort (token_of k)) k
of_its_sort read.BeginObject = refl
of_its_sort read.EndObject = tt
of_its_sort read.BeginArray = refl
of_its_sort read.EndArray = tt
of_its_sort (read.Key s) = tt
of_its_sort (read.String s) = (s, refl)
of_its_sort (read.Number s) = (s, refl)
of_its_sort (read.Bool b) = tt
of_its_sort read.Null = refl
of_its_sort read.Bad = tt

pub null_token : (k : ReadToken) → token_sort (token_of k) ≡ 0 → k ≡ read.Null
null_token k e = subst (λ (n : ℕ). IsOfSort n k) e (of_its_sort k)

pub number_token : (k : ReadToken) → token_sort (token_of k) ≡ 2 → (s : Bor (List ℕ)) × (k ≡ read.Number s)
number_token k e = subst (λ (n : ℕ). IsOfSort n k) e (of_its_sort k)

pub string_token : (k : ReadToken) → token_sort (token_of k) ≡ 3 → (s : Bor (List ℕ)) × (k ≡ read.String s)
string_token k e = subst (λ (n : ℕ). IsOfSort n k) e (of_its_sort k)

pub array_token : (k : ReadToken) → token_sort (token_of k) ≡ 4 → k ≡ read.BeginArray
array_token k e = subst (λ (n : ℕ). IsOfSort n k) e (of_its_sort k)

pub object_token : (k : ReadToken) → token_sort (token_of k) ≡ 5 → k ≡ read.BeginObject
object_token k e = subst (λ (n : ℕ). IsOfSort n k) e (of_its_sort k)

-- ---- a number's token

pub number_read : (r : Result (Option ℕ) CertFault) (n : Option Num) (ts : List Token) → Reads NotJson (λ o. o) r (option_map as_u64 n)
    → IfOk r (λ o. option_map {U = Option ℕ × List Token} (λ x. (as_u64 x, ts)) n ≡ Some (o, ts)) × IfErr r (λ e. Refuses e (option_map {U = Option ℕ × List Token} (λ x. (as_u64 x, ts)) n))
number_read (Ok o) None ts e = absurd cc
number_read (Ok o) (Some x) ts e = (ap (option_map (λ k. (k, ts))) e, tt)
number_read (Err e) None ts (inl full) = (tt, inl full)
number_read (Err e) None ts (inr is) = (tt, inr (is.0, refl))
number_read (Err e) (Some x) ts (inl full) = (tt, inl full)
number_read (Err e) (Some x) ts (inr is) = let never = is.1 in absurd cc

-- ---- lists of items of a kind

pub items_over_at : (depth : ℕ) (ts r : List Token) → after_end_array ts ≡ Some r → items_at depth ts ≡ Some (no_items, r)
items_over_at depth ts r e = items_over (value depth) (length ts) ts r (omega arith) e

pub const_told : {A C : Type 0} (c : C) (there : Option (A × List Token)) (r : List Token) → with_value nothing there ≡ Some (tt, r) → with_value (λ _. c) there ≡ Some (c, r)
const_told c there r e = let d = told_of nothing there tt r e in ap (with_value (λ _. c)) d.1

module _ {X : Type 0} (kind : Data → Option X) (depth : ℕ) where
  abbrev pub behind : List X → List Token → Option (Option (List X) × List Token)
  behind front ts = with_value (λ ds. with_front front (all_items kind ds)) (items_at depth ts)

  module _ (front : List X) (ts : List Token) where
    pub list_next : (r : List Token) (x : X) → after_end_array ts ≡ None → with_value kind (data_at depth ts) ≡ Some (Some x, r) → behind front ts ≡ behind (front ++ x ∷ []) r
    list_next r x going e = item_step kind depth ts going (λ ds. with_front front (all_items kind ds)) (λ ds. with_front (front ++ x ∷ []) (all_items kind ds)) r (Some x) e
        (λ d ds is. ap (λ o. with_front front (o >>= (λ y. all_items kind ds >>= (λ ys. Some (y ∷ ys))))) is ∙ front_one front x (all_items kind ds))

    pub list_stops : (s r : List Token) → after_end_array ts ≡ None → with_value kind (data_at depth ts) ≡ Some (None, s) → with_value nothing (items_at depth s) ≡ Some (tt, r)
        → behind front ts ≡ Some (None, r)
    list_stops s r going e rest = item_step kind depth ts going (λ ds. with_front front (all_items kind ds)) (λ ds. None) s None e
        (λ d ds is. ap (λ o. with_front front (o >>= (λ y. all_items kind ds >>= (λ ys. Some (y ∷ ys))))) is) ∙ const_told None (items_at depth s) r rest

    pub list_refused : after_end_array ts ≡ None → with_value kind (data_at depth ts) ≡ None → behind front ts ≡ None
    list_refused going e = item_none kind depth ts going (λ ds. with_front front (all_items kind ds)) e

    pub list_cut : (s : List Token) → after_end_array ts ≡ None → with_value kind (data_at depth ts) ≡ Some (None, s) → with_value nothing (items_at depth s) ≡ None → behind front ts ≡ None
    list_cut s going e rest = item_step kind depth ts going (λ ds. with_front front (all_items kind ds)) (λ ds. None) s None e
        (λ d ds is. ap (λ o. with_front front (o >>= (λ y. all_items kind ds >>= (λ ys. Some (y ∷ ys))))) is) ∙ else_none (λ _. None) nothing (items_at depth s) rest

    pub list_over : (r : List Token) → after_end_array ts ≡ Some r → behind front ts ≡ Some (Some front, r)
    list_over r e = items_done (λ ds. with_front front (all_items kind ds)) depth ts r e ∙ ap (λ xs. Some (Some xs, r)) (append-nil front)

-- ---- arrays of a fixed length

not_so_many : (n k : ℕ) → k < n → (n == k) ≡ false
not_so_many n k less = from (n == k) refl
  where
    from : (b : Bool) → (n == k) ≡ b → (n == k) ≡ false
    from true e = let same = eqb-true n k e in absurd (omega (arith, same, less))
    from false e = e

parts_short : (s : Option ℕ) (a : Option (List ℕ)) → choice_parts s a None ≡ None
parts_short None a = refl
parts_short (Some s) None = refl
parts_short (Some s) (Some a) = refl

orders_none : (c : Option Choice) → collision_parts c None ≡ None
orders_none None = refl
orders_none (Some c) = refl

abbrev made : Choice → ℕ → List ℕ → List ℕ → Collision
made c p a b = record { choice = c; process = p; alpha = a; beta = b }

all_parts : (c : Option Choice) (p : Option ℕ) (a b : Option (List ℕ))
    → (c >>= (λ x. p >>= (λ y. a >>= (λ z. b >>= (λ w. Some (made x y z w)))))) ≡ collision_parts c (choice_parts p a b)
all_parts None p a b = refl
all_parts (Some c) None a b = refl
all_parts (Some c) (Some p) None b = refl
all_parts (Some c) (Some p) (Some a) None = refl
all_parts (Some c) (Some p) (Some a) (Some b) = refl

choice_is : (ds : Items) → choice_of (array ds) ≡ sole_thing next_choice ds
unfolding choice_from
choice_is no_items = refl
choice_is (item d no_items) = sym (parts_short (natural_of d) None)
choice_is (item d (item e no_items)) = sym (parts_short (natural_of d) (naturals_of e))
choice_is (item d (item e (item f no_items))) = refl
choice_is (item d (item e (item f (item g ds)))) = rw (not_so_many (length (d ∷ e ∷ f ∷ g ∷ list_of ds)) 3 (omega arith)) refl

collision_is : (ds : Items) → collision_of (array ds) ≡ sole_thing next_collision ds
unfolding collision_from choice_from
collision_is no_items = refl
collision_is (item d no_items) = ap (λ c. collision_parts c None) (sym (parts_short (natural_of d) None))
collision_is (item d (item e no_items)) = ap (λ c. collision_parts c None) (sym (parts_short (natural_of d) (naturals_of e)))
collision_is (item d (item e (item f no_items))) = sym (orders_none _)
collision_is (item d (item e (item f (item g no_items)))) = sym (ap (collision_parts _) (parts_short (natural_of g) None) ∙ orders_none _)
collision_is (item d (item e (item f (item g (item h no_items))))) = sym (ap (collision_parts _) (parts_short (natural_of g) (naturals_of h)) ∙ orders_none _)
collision_is (item d (item e (item f (item g (item h (item i no_items)))))) = all_parts (choice_parts (natural_of d) (naturals_of e) (naturals_of f)) (natural_of g) (naturals_of h) (naturals_of i)
collision_is (item d (item e (item f (item g (item h (item i (item j ds))))))) = rw (not_so_many (length (d ∷ e ∷ f ∷ g ∷ h ∷ i ∷ j ∷ list_of ds)) 6 (omega arith)) refl

-- a thing of so many items, read as the parts of an array
in_array_of : {X : Type 0} (len : ℕ) (from : List Data → Option X) (parts : Items → Option X) → ((ds : Items) → option_and_then from (items_of_len len (array ds)) ≡ parts ds)
    → (d : Data) → in_array parts d ≡ option_and_then from (items_of_len len d)
in_array_of len from parts are null = refl
in_array_of len from parts are (boolean b) = refl
in_array_of len from parts are (number n) = refl
in_array_of len from parts are (string s) = refl
in_array_of len from parts are (array ds) = sym (are ds)
in_array_of len from parts are (object ms) = refl

pub choice_in_array : (d : Data) → in_array (sole_thing next_choice) d ≡ choice_of d
choice_in_array = in_array_of 3 choice_from (sole_thing next_choice) choice_is

pub collision_in_array : (d : Data) → in_array (sole_thing next_collision) d ≡ collision_of d
collision_in_array = in_array_of 6 collision_from (sole_thing next_collision) collision_is

-- ---- steps within such an array

-- an item that is there, or is not
pub rest_going : {X : Type 0} (kind : Data → Option X) (depth : ℕ) (ts r : List Token) (o : Option X) → after_end_array ts ≡ None → with_value kind (data_at depth ts) ≡ Some (o, r)
    → with_value (next_item kind) (items_at depth ts) ≡ with_value (λ ds. (o, ds)) (items_at depth r)
rest_going kind depth ts r o going e = item_step kind depth ts going (next_item kind) (λ ds. (o, ds)) r o e (λ d ds is. ap (λ x. (x, ds)) is)

-- what is made of a part, and then of the items behind it
pub then_more : {A C : Type 0} (K : Items → A × Items) (G : A → Items → C) (a : A) (there next : Option (Items × List Token)) → with_value K there ≡ with_value (λ ds. (a, ds)) next
    → with_value (λ ds. G (K ds).0 (K ds).1) there ≡ with_value (G a) next
then_more K G a there next e =
    sym (told_twice K (λ p. G p.0 p.1) (λ ds. G (K ds).0 (K ds).1) (λ _. refl) there) ∙ ap (with_value (λ p. G p.0 p.1)) e ∙ told_twice (λ ds. (a, ds)) (λ p. G p.0 p.1) (G a) (λ _. refl) next

module _ {R X : Type 0} (kind : Data → Option X) (depth : ℕ) (f : Option R → Option X) (was now : Bool) (ts front s : List Token) (opened : was ≡ true) (same : front ≡ ts)
    (going : after_end_array ts ≡ None) where
  pub next_ok : (r : Result (Option R) CertFault) → now ≡ true → IfOk r (λ o. with_value kind (data_at depth front) ≡ Some (f o, s))
      → IfOk r (λ o. with_value (next_item kind) (rest_at was depth ts) ≡ with_value (λ ds. (f o, ds)) (rest_at now depth s))
  next_ok (Ok o) still e =
      ap (λ b. with_value (next_item kind) (rest_at b depth ts)) opened ∙ rest_going kind depth ts s (f o) going (ap (λ x. with_value kind (data_at depth x)) (sym same) ∙ e)
      ∙ ap (λ b. with_value (λ ds. (f o, ds)) (rest_at b depth s)) (sym still)
  next_ok (Err e) still u = u

  pub next_err : (r : Result (Option R) CertFault) → IfErr r (λ e. Refuses e (with_value kind (data_at depth front))) → IfErr r (λ e. Refuses e (with_value (next_item kind) (rest_at was depth ts)))
  next_err (Ok o) u = u
  next_err (Err e) refused = refuse_more e _ _
      (λ none. ap (λ b. with_value (next_item kind) (rest_at b depth ts)) opened
      ∙ item_none kind depth ts going (next_item kind) (ap (λ x. with_value kind (data_at depth x)) (sym same) ∙ none)) refused

-- an array whose end is not next has an item
pub not_over : (depth : ℕ) (ts r : List Token) → after_end_array ts ≡ None → with_value nothing (items_at depth ts) ≡ Some (tt, r) → with_value is_over (items_at depth ts) ≡ Some (false, r)
not_over depth ts r going e = from (data_at depth ts) refl
  where
    from : (o : Option (Data × List Token)) → data_at depth ts ≡ o → with_value is_over (items_at depth ts) ≡ Some (false, r)
    from None n = impossible _ _ (item_none nothing depth ts going nothing (ap (with_value nothing) n)) e
    from (Some p) n =
        let rest = sym (item_step nothing depth ts going nothing nothing p.1 tt (ap (with_value nothing) n) (λ d ds _. refl)) ∙ e in
        item_step nothing depth ts going is_over (λ _. false) p.1 tt (ap (with_value nothing) n) (λ d ds _. refl) ∙ const_told false (items_at depth p.1) r rest

-- ---- arrays that were opened, and other values

-- a state, and two lists, one after another
pub choice_steps : (there one two three : Option (Items × List Token)) (s : Option ℕ) (a b : Option (List ℕ)) → with_value (next_item natural_of) there ≡ with_value (λ ds. (s, ds)) one
    → with_value (next_item naturals_of) one ≡ with_value (λ ds. (a, ds)) two → with_value (next_item naturals_of) two ≡ with_value (λ ds. (b, ds)) three
    → with_value next_choice there ≡ with_value (λ ds. (choice_parts s a b, ds)) three
choice_steps there one two three s a b e f g =
    then_more (next_item natural_of) (λ x ds. (choice_parts x (first_item naturals_of ds) (first_item naturals_of (later_items ds)), later_items (later_items ds))) s there one e
    ∙ then_more (next_item naturals_of) (λ x ds. (choice_parts s x (first_item naturals_of ds), later_items ds)) a one two f
    ∙ then_more (next_item naturals_of) (λ x ds. (choice_parts s a x, ds)) b two three g
