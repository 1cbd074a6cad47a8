-- Walking over the tokens of a text, a value, an item or a member at a time.
use Rattle.std.proofs.Common.{◌≡◌, ℕ, zero, suc, ◌-◌, ◌<◌, ◌≤◌, List, [], ◌∷◌, length, Bool, true, false, true≢false, Option, Some, None, option_map, option_and_then, refl, sym, ap, ◌∙◌, arith, inl, inr, ◌⊎◌, Bor}
use Rattle.json.specs.Token.{Token}
use Rattle.json.specs.Reads.{token_of}
use Rattle.json.specs.declared.token.Token.{Token as ReadToken}
use Rattle.json.specs.declared.token.Token.TheVariants as read
use Rattle.json.specs.Json as json
use Rattle.json.specs.Json.{Json, Parse, parse_map, after_end_array, read_key, items_step, members_step, items, members, value}
use Rattle.json.proofs.Grammar.{left, Takes, skip_value-shorter, value_is, value-begin_array, value-begin_object, read_key-shorter}
use Rattle.serde_json.specs.Data.{Num, Data, null, boolean, number, string, array, object, Items, no_items, item, Members, no_members, put}
use Rattle.serde_json.specs.Read.{of_json, of_items, of_members, converted, number_of}
use Rattle.cn_cert.proofs.Conversions.{converted_some, converted-array, converted-object, item_read, item_refused, items_over, member_read, member_refused, key_refused, members_over, pick}
use Rattle.cn_cert.specs.Reads.{Refuses}
use Rattle.cn_cert.specs.declared.fault.CertFault.{CertFault}
use Rattle.cn_cert.specs.Tokens.{data_at, items_at, members_at, with_value, nothing}

-- ---- what is told of a value

-- the value of which something was told
pub told_of : {A B : Type 0} (f : A → B) (there : Option (A × List Token)) (b : B) (r : List Token) → with_value f there ≡ Some (b, r) → (a : A) × (there ≡ Some (a, r)) × (f a ≡ b)
told_of f None b r e = absurd cc
told_of {A} {B} f (Some p) b r e =
    let same = ap (pick {A = B × List Token} (b, r)) e in
    (p.0, ap (λ s. Some (p.0, s)) (ap (λ q. q.1) same), ap (λ q. q.0) same)

-- nothing is told where nothing stands
pub told_none : {A B : Type 0} (f : A → B) (there : Option (A × List Token)) → with_value f there ≡ None → there ≡ None
told_none f None e = refl
told_none f (Some p) e = absurd cc

pub told_twice : {A B C : Type 0} (f : A → B) (g : B → C) (h : A → C) → ((a : A) → g (f a) ≡ h a) → (there : Option (A × List Token)) → with_value g (with_value f there) ≡ with_value h there
told_twice f g h same None = refl
told_twice f g h same (Some p) = ap (λ c. Some (c, p.1)) (same p.0)

pub told_same : {A B : Type 0} (f g : A → B) → ((a : A) → f a ≡ g a) → (there : Option (A × List Token)) → with_value f there ≡ with_value g there
told_same f g same None = refl
told_same f g same (Some p) = ap (λ b. Some (b, p.1)) (same p.0)

-- ---- the number that bounds the turns does not matter where it is great enough

nothing_of_nothing : (p : Parse Json) → Takes p → p [] ≡ None
nothing_of_nothing p takes = from (p []) refl
  where
    from : (o : Option (Json × List Token)) → p [] ≡ o → p [] ≡ None
    from None e = e
    from (Some q) e = let less = takes [] q.1 (ap left e) in absurd (omega (arith, less))

same_turn : {B C : Type 0} (f : Json → B → C) (a b : Parse B) (o : Option (Json × List Token)) → ((q : Json × List Token) → o ≡ Some q → a q.1 ≡ b q.1)
    → option_and_then (λ q. parse_map (f q.0) (a q.1)) o ≡ option_and_then (λ q. parse_map (f q.0) (b q.1)) o
same_turn f a b None h = refl
same_turn f a b (Some q) h = ap (parse_map (f q.0)) (h q refl)

items_turn : (p : Parse Json) (a b : Parse json.Items) (ts : List Token) (o : Option (List Token)) → ((q : Json × List Token) → p ts ≡ Some q → a q.1 ≡ b q.1)
    → items_step p a ts o ≡ items_step p b ts o
items_turn p a b ts (Some r) h = refl
items_turn p a b ts None h = same_turn json.item a b (p ts) h

members_turn : (p : Parse Json) (a b : Parse json.Members) (ts : List Token) (o : Option (Option (List ℕ) × List Token)) → read_key ts ≡ o
    → ((s : List Token) (q : Json × List Token) → length s < length ts → p s ≡ Some q → a q.1 ≡ b q.1)
    → option_and_then (λ q. members_step p a q.0 q.1) o ≡ option_and_then (λ q. members_step p b q.0 q.1) o
members_turn p a b ts None key h = refl
members_turn p a b ts (Some (None, s)) key h = refl
members_turn p a b ts (Some (Some k, s)) key h = same_turn (json.member k) a b (p s) (λ q e. h s q (read_key-shorter ts (Some k) s key) e)

enough_items : (p : Parse Json) → Takes p → (n m : ℕ) (ts : List Token) → length ts ≤ n → length ts ≤ m → items p n ts ≡ items p m ts
unfolding items
enough_items p takes zero zero ts ln lm = refl
enough_items p takes zero (suc m) [] ln lm = sym (ap (option_and_then (λ q. parse_map (json.item q.0) (items p m q.1))) (nothing_of_nothing p takes))
enough_items p takes zero (suc m) (t ∷ ts) ln lm = absurd (omega (arith, ln))
enough_items p takes (suc n) zero [] ln lm = ap (option_and_then (λ q. parse_map (json.item q.0) (items p n q.1))) (nothing_of_nothing p takes)
enough_items p takes (suc n) zero (t ∷ ts) ln lm = absurd (omega (arith, lm))
enough_items p takes (suc n) (suc m) ts ln lm =
    items_turn p (items p n) (items p m) ts (after_end_array ts)
    (λ q e. let less = takes ts q.1 (ap left e) in enough_items p takes n m q.1 (omega (arith, less, ln)) (omega (arith, less, lm)))

enough_members : (p : Parse Json) → Takes p → (n m : ℕ) (ts : List Token) → length ts ≤ n → length ts ≤ m → members p n ts ≡ members p m ts
unfolding members
enough_members p takes zero zero ts ln lm = refl
enough_members p takes zero (suc m) [] ln lm = refl
enough_members p takes zero (suc m) (t ∷ ts) ln lm = absurd (omega (arith, ln))
enough_members p takes (suc n) zero [] ln lm = refl
enough_members p takes (suc n) zero (t ∷ ts) ln lm = absurd (omega (arith, lm))
enough_members p takes (suc n) (suc m) ts ln lm =
    members_turn p (members p n) (members p m) ts (read_key ts) refl
    (λ s q shorter e. let less = takes s q.1 (ap left e) in enough_members p takes n m q.1 (omega (arith, less, shorter, ln)) (omega (arith, less, shorter, lm)))

-- ---- the tokens behind a value are fewer

data-shorter : (depth : ℕ) (ts r : List Token) (d : Data) → data_at depth ts ≡ Some (d, r) → length r < length ts
data-shorter depth ts r d e = let j = converted_some of_json (value depth ts) d r e in skip_value-shorter depth ts r (ap left j.1)

pub told-shorter : {A : Type 0} (K : Data → A) (depth : ℕ) (ts r : List Token) (a : A) → with_value K (data_at depth ts) ≡ Some (a, r) → length r < length ts
told-shorter K depth ts r a e = let d = told_of K (data_at depth ts) a r e in data-shorter depth ts r d.0 d.1

-- ---- items

module _ {A B : Type 0} (K : Data → A) (depth : ℕ) (ts : List Token) (going : after_end_array ts ≡ None) where
  -- an item of which this is told, and what is told of those behind it
  pub item_step : (H H' : Items → B) (r : List Token) (a : A) → with_value K (data_at depth ts) ≡ Some (a, r) → ((d : Data) (ds : Items) → K d ≡ a → H (item d ds) ≡ H' ds)
      → with_value H (items_at depth ts) ≡ with_value H' (items_at depth r)
  item_step H H' r a e turns =
      let d = told_of K (data_at depth ts) a r e in
      let less = data-shorter depth ts r d.0 d.1 in
      let turn = item_read (value depth) (length ts) ts r d.0 (omega (arith, less)) going d.1 in
      let rest = enough_items (value depth) (skip_value-shorter depth) (length ts - 1) (length r) r (omega (arith, less)) (omega arith) in
      ap (with_value H) (turn ∙ ap (λ o. with_value (item d.0) (converted of_items o)) rest) ∙ told_twice (item d.0) H H' (λ ds. turns d.0 ds d.2) (items_at depth r)

  pub item_none : (H : Items → B) → with_value K (data_at depth ts) ≡ None → with_value H (items_at depth ts) ≡ None
  item_none H e = ap (with_value H) (item_refused (value depth) (length ts) ts going (told_none K (data_at depth ts) e))

pub items_done : {B : Type 0} (H : Items → B) (depth : ℕ) (ts r : List Token) → after_end_array ts ≡ Some r → with_value H (items_at depth ts) ≡ Some (H no_items, r)
items_done H depth ts r e = ap (with_value H) (items_over (value depth) (length ts) ts r (omega arith) e)

-- ---- members

module _ {A B : Type 0} (K : Data → A) (H : Members → B) (depth : ℕ) (found : Members) (k : List ℕ) (ts s : List Token) (named : read_key ts ≡ Some (Some k, s)) where
  -- a member of which this is told, and those behind it
  pub member_step : (r : List Token) (a : A) → with_value K (data_at depth s) ≡ Some (a, r)
      → (d : Data) × (K d ≡ a) × (with_value H (members_at depth found ts) ≡ with_value H (members_at depth (put k d found) r))
  member_step r a e =
      let d = told_of K (data_at depth s) a r e in
      let less = data-shorter depth s r d.0 d.1 in
      let shorter = read_key-shorter ts (Some k) s named in
      let turn = member_read (value depth) found (length ts) k ts s r d.0 (omega (arith, less, shorter)) named d.1 in
      let rest = enough_members (value depth) (skip_value-shorter depth) (length ts - 1) (length r) r (omega (arith, less, shorter)) (omega arith) in
      (d.0, d.2, ap (with_value H) (turn ∙ ap (converted (λ ms. of_members ms (put k d.0 found))) rest))

  pub member_none : with_value K (data_at depth s) ≡ None → with_value H (members_at depth found ts) ≡ None
  member_none e = ap (with_value H) (member_refused (value depth) found (length ts) k ts s named (told_none K (data_at depth s) e))

module _ {B : Type 0} (H : Members → B) (depth : ℕ) (found : Members) (ts : List Token) where
  pub members_done : (r : List Token) → read_key ts ≡ Some (None, r) → with_value H (members_at depth found ts) ≡ Some (H found, r)
  members_done r e = ap (with_value H) (members_over (value depth) found (length ts) ts r (omega arith) e)

  pub no_key : read_key ts ≡ None → with_value H (members_at depth found ts) ≡ None
  no_key e = ap (with_value H) (key_refused (value depth) found (length ts) ts e)

-- ---- values, by their first token

pub array_at : (depth : ℕ) (ts : List Token) → 0 < depth → data_at depth (Token.begin_array ∷ ts) ≡ with_value array (items_at (depth - 1) ts)
array_at depth ts some = ap (converted of_json) (value-begin_array depth ts some) ∙ converted-array (items (value (depth - 1)) (length ts) ts)

pub array_told : {A : Type 0} (K : Data → A) (depth : ℕ) (ts : List Token) → 0 < depth
    → with_value K (data_at depth (Token.begin_array ∷ ts)) ≡ with_value (λ ds. K (array ds)) (items_at (depth - 1) ts)
array_told K depth ts some = ap (with_value K) (ap (converted of_json) (value-begin_array depth ts some) ∙ converted-array (items (value (depth - 1)) (length ts) ts))
    ∙ told_twice array K (λ ds. K (array ds)) (λ _. refl) _

pub object_told : {A : Type 0} (K : Data → A) (depth : ℕ) (ts : List Token) → 0 < depth
    → with_value K (data_at depth (Token.begin_object ∷ ts)) ≡ with_value (λ ms. K (object ms)) (members_at (depth - 1) no_members ts)
object_told K depth ts some = ap (with_value K) (ap (converted of_json) (value-begin_object depth ts some) ∙ converted-object (members (value (depth - 1)) (length ts) ts))
    ∙ told_twice object K (λ ms. K (object ms)) (λ _. refl) _

pub array_too_deep : {A : Type 0} (K : Data → A) (ts : List Token) → with_value K (data_at 0 (Token.begin_array ∷ ts)) ≡ None
unfolding value
array_too_deep K ts = refl

pub too_deep_array : (ts : List Token) → data_at 0 (Token.begin_array ∷ ts) ≡ None
unfolding value
too_deep_array ts = refl

pub object_too_deep : {A : Type 0} (K : Data → A) (ts : List Token) → with_value K (data_at 0 (Token.begin_object ∷ ts)) ≡ None
unfolding value
object_too_deep K ts = refl

pub string_told : {A : Type 0} (K : Data → A) (depth : ℕ) (text : List ℕ) (ts : List Token) → with_value K (data_at depth (Token.string text ∷ ts)) ≡ Some (K (string text), ts)
string_told K depth text ts = ap (λ o. with_value K (converted of_json o)) (value_is depth (Token.string text ∷ ts))

pub boolean_told : {A : Type 0} (K : Data → A) (depth : ℕ) (b : Bool) (ts : List Token) → with_value K (data_at depth (Token.boolean b ∷ ts)) ≡ Some (K (boolean b), ts)
boolean_told K depth b ts = ap (λ o. with_value K (converted of_json o)) (value_is depth (Token.boolean b ∷ ts))

pub null_told : {A : Type 0} (K : Data → A) (depth : ℕ) (ts : List Token) → with_value K (data_at depth (Token.null ∷ ts)) ≡ Some (K null, ts)
null_told K depth ts = ap (λ o. with_value K (converted of_json o)) (value_is depth (Token.null ∷ ts))

number_is : {A : Type 0} (K : Data → A) (ts : List Token) (n : Option Num) → with_value K (option_map (λ d. (d, ts)) (option_map number n)) ≡ option_map (λ x. (K (number x), ts)) n
number_is K ts None = refl
number_is K ts (Some x) = refl

pub number_told : {A : Type 0} (K : Data → A) (depth : ℕ) (text : List ℕ) (ts : List Token)
    → with_value K (data_at depth (Token.number text ∷ ts)) ≡ option_map (λ x. (K (number x), ts)) (number_of text)
number_told K depth text ts = ap (λ o. with_value K (converted of_json o)) (value_is depth (Token.number text ∷ ts)) ∙ number_is K ts (number_of text)

pub empty_told : {A : Type 0} (K : Data → A) (depth : ℕ) → with_value K (data_at depth []) ≡ None
empty_told K depth = ap (λ o. with_value K (converted of_json o)) (value_is depth [])

-- no value begins with such a token
abbrev pub begins_none : Token → Bool
begins_none Token.begin_object = false
begins_none Token.end_object = true
begins_none Token.begin_array = false
begins_none Token.end_array = true
begins_none (Token.key s) = true
begins_none (Token.string s) = false
begins_none (Token.number s) = false
begins_none (Token.boolean b) = false
begins_none Token.null = false
begins_none Token.bad = true

pub none_told : {A : Type 0} (K : Data → A) (depth : ℕ) (t : Token) (ts : List Token) → begins_none t ≡ true → with_value K (data_at depth (t ∷ ts)) ≡ None
none_told K depth Token.begin_object ts is = absurd (true≢false (sym is))
none_told K depth Token.end_object ts is = ap (λ o. with_value K (converted of_json o)) (value_is depth (Token.end_object ∷ ts))
none_told K depth Token.begin_array ts is = absurd (true≢false (sym is))
none_told K depth Token.end_array ts is = ap (λ o. with_value K (converted of_json o)) (value_is depth (Token.end_array ∷ ts))
none_told K depth (Token.key s) ts is = ap (λ o. with_value K (converted of_json o)) (value_is depth (Token.key s ∷ ts))
none_told K depth (Token.string s) ts is = absurd (true≢false (sym is))
none_told K depth (Token.number s) ts is = absurd (true≢false (sym is))
none_told K depth (Token.boolean b) ts is = absurd (true≢false (sym is))
none_told K depth Token.null ts is = absurd (true≢false (sym is))
none_told K depth Token.bad ts is = ap (λ o. with_value K (converted of_json o)) (value_is depth (Token.bad ∷ ts))

-- ---- tokens of the reader

pub passed : (depth : ℕ) (ts : List Token) (k : ReadToken) → ((s : Bor (List ℕ)) × (k ≡ read.String s)) ⊎ ((b : Bool) × (k ≡ read.Bool b)) ⊎ (k ≡ read.Null)
    → with_value nothing (data_at depth (token_of k ∷ ts)) ≡ Some (tt, ts)
passed depth ts k (inl (s, is)) = ap (λ x. with_value nothing (data_at depth (token_of x ∷ ts))) is ∙ string_told nothing depth s.now ts
passed depth ts k (inr (inl (b, is))) = ap (λ x. with_value nothing (data_at depth (token_of x ∷ ts))) is ∙ boolean_told nothing depth b ts
passed depth ts k (inr (inr is)) = ap (λ x. with_value nothing (data_at depth (token_of x ∷ ts))) is ∙ null_told nothing depth ts

-- ---- refusals

pub refuse_more : {A B : Type 0} (e : CertFault) (a : Option A) (b : Option B) → (a ≡ None → b ≡ None) → Refuses e a → Refuses e b
refuse_more e a b f (inl full) = inl full
refuse_more e a b f (inr refused) = inr (refused.0, f refused.1)

pub none_too : {A B C : Type 0} (f : A → B) (g : A → C) (o : Option A) → option_map f o ≡ None → option_map g o ≡ None
none_too f g None e = refl
none_too f g (Some a) e = absurd cc

pub some_too : {A B C : Type 0} (f : A → B) (c : C) (o : Option A) (b : B) → option_map f o ≡ Some b → option_map (λ _. c) o ≡ Some c
some_too f c None b e = absurd cc
some_too f c (Some a) b e = refl
