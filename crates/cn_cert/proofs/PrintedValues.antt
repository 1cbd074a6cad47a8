-- JSON values that are read back from their compact texts.
use Rattle.std.proofs.Common.{◌≡◌, ℕ, suc, ◌^◌, ◌<◌, ◌≤◌, List, [], ◌∷◌, ◌++◌, Bool, true, false, Some, option_map, option_and_then, map, IsUtf8, refl, ap, sym, ◌∙◌, arith, append-nil, decimal}
use Rattle.std.specs.List.{list_all}
use Rattle.std.proofs.lemmas.Bool.{and_parts}
use Rattle.std.proofs.lemmas.Fmt.{IsAscii-decimal}
use Rattle.std.proofs.lemmas.Str.{IsUtf8-append, IsUtf8-from_ascii, IsUtf8-nil}
use Rattle.json.specs.Json as json
use Rattle.json.specs.Lex.{tokens}
use Rattle.json.specs.Tree.{json_tokens, HasNumbers, ItemsHaveNumbers, MembersHaveNumbers, depth, items_depth, members_depth}
use Rattle.json.proofs.Printed.Decimals.{IsNumber-decimal}
use Rattle.json.proofs.Printed.Tokens.{tokens-print}
use Rattle.json.proofs.Printed.Trees.{ArePrintable-json_tokens, value-json_tokens}
use Rattle.json.proofs.Printed.Utf8.{IsUtf8-are_ascii, IsUtf8-quoted}
use Rattle.serde_json.specs.Data.{Data, null, number, unsigned, string, array, Items, no_items, item, Members, no_members, member}
use Rattle.serde_json.specs.Read.{read, of_json, of_items}
use Rattle.serde_json.specs.View.{items_of}
use Rattle.serde_json.specs.Written.{outline, items_outline, members_outline, comma_if, compact_text, items_text, members_text}
use Rattle.serde_json.proofs.Numbers.{number_of-decimal}
use Rattle.serde_json.proofs.Texts.{print-outline}
use Rattle.cn_cert.proofs.LineFeeds.{line_tokens, same_read}

-- the text is UTF-8 and has numbers where it should, the value nests at most so deep, and what was written is the value
pub record IsReadBack (most : ℕ) (d : Data) : Type 0 where
  pub numbers : HasNumbers (outline d)
  pub same : of_json (outline d) ≡ Some d
  pub shallow : depth (outline d) ≤ most
  pub utf8 : IsUtf8 (compact_text d)

-- the same of each item of an array
pub record AreReadBack (most : ℕ) (ds : Items) : Type 0 where
  pub numbers : ItemsHaveNumbers (items_outline ds)
  pub same : of_items (items_outline ds) ≡ Some ds
  pub shallow : items_depth (items_outline ds) ≤ most
  pub utf8 : (later : Bool) → IsUtf8 (items_text later ds)

-- the same of each member of an object, but for what was written, which goes by all the keys
pub record HoldReadBack (most : ℕ) (ms : Members) : Type 0 where
  pub numbers : MembersHaveNumbers (members_outline ms)
  pub shallow : members_depth (members_outline ms) ≤ most
  pub utf8 : (later : Bool) → IsUtf8 (members_text later ms)

-- ---- values

pub null_back : (most : ℕ) → IsReadBack most null
null_back most = record { numbers = tt; same = refl; shallow = omega arith; utf8 = IsUtf8-are_ascii _ refl }

pub number_back : (most n : ℕ) → n < 2 ^ 64 → IsReadBack most (number (unsigned n))
number_back most n small = record {
  numbers = IsNumber-decimal n small;
  same = ap (option_map number) (number_of-decimal n small);
  shallow = omega arith;
  utf8 = IsUtf8-from_ascii (decimal n) (IsAscii-decimal n small);
}

pub string_back : (most : ℕ) (text : List ℕ) → IsUtf8 text → IsReadBack most (string text)
string_back most text utf8 = record { numbers = tt; same = refl; shallow = omega arith; utf8 = IsUtf8-quoted text utf8 }

pub array_back : (most : ℕ) (ds : Items) → AreReadBack most ds → IsReadBack (suc most) (array ds)
array_back most ds items = record {
  numbers = items.numbers;
  same = ap (option_map array) items.same;
  shallow = omega (arith, items.shallow);
  utf8 = IsUtf8-append (91 ∷ []) _ (IsUtf8-are_ascii (91 ∷ []) refl) (items.utf8 false);
}

-- ---- items

comma_utf8 : (later : Bool) → IsUtf8 (comma_if later)
comma_utf8 true = IsUtf8-are_ascii (44 ∷ []) refl
comma_utf8 false = IsUtf8-nil

pub no_more : (most : ℕ) → AreReadBack most no_items
no_more most = record { numbers = tt; same = refl; shallow = omega arith; utf8 = λ later. IsUtf8-are_ascii (93 ∷ []) refl }

pub one_more : (most : ℕ) (d : Data) (ds : Items) → IsReadBack most d → AreReadBack most ds → AreReadBack most (item d ds)
one_more most d ds one rest = record {
  numbers = (one.numbers, rest.numbers);
  same = rw (one.same, rest.same);
  shallow = omega (arith, one.shallow, rest.shallow);
  utf8 = λ later. IsUtf8-append _ _ (comma_utf8 later) (IsUtf8-append _ _ one.utf8 (rest.utf8 true));
}

-- a list of things that pass a test, each of which is read back
pub list_back : {X : Type 0} (most : ℕ) (test : X → Bool) (f : X → Data) → ((x : X) → test x ≡ true → IsReadBack most (f x)) → (xs : List X) → list_all test xs ≡ true
    → AreReadBack most (items_of (map f xs))
list_back most test f each [] pass = no_more most
list_back most test f each (x ∷ xs) pass = let p = and_parts _ _ pass in one_more most _ _ (each x p.0) (list_back most test f each xs p.1)

-- ---- members

pub no_key : (most : ℕ) → HoldReadBack most no_members
no_key most = record { numbers = tt; shallow = omega arith; utf8 = λ later. IsUtf8-are_ascii (125 ∷ []) refl }

pub one_key : (most : ℕ) (k : List ℕ) (d : Data) (ms : Members) → IsUtf8 k → IsReadBack most d → HoldReadBack most ms → HoldReadBack most (member k d ms)
one_key most k d ms key one rest = record {
  numbers = (one.numbers, rest.numbers);
  shallow = omega (arith, one.shallow, rest.shallow);
  utf8 = λ later. IsUtf8-append _ _ (comma_utf8 later) (IsUtf8-append _ _ (IsUtf8-quoted k key)
      (IsUtf8-append (58 ∷ []) _ (IsUtf8-are_ascii (58 ∷ []) refl) (IsUtf8-append _ _ one.utf8 (rest.utf8 true))));
}

-- ---- the text

pub read_back : (most : ℕ) (d : Data) → IsReadBack most d → most ≤ 127 → read (compact_text d) ≡ Some d
read_back most d back few =
    let written = ap tokens (sym (print-outline d)) ∙ tokens-print (json_tokens (outline d)) (ArePrintable-json_tokens (outline d) back.numbers) ∙ sym (append-nil (json_tokens (outline d))) in
    ap (option_and_then of_json) (ap (option_and_then (λ p. json.if_last p.0 p.1))
    (ap (json.value 127) written ∙ value-json_tokens (outline d) 127 [] (omega (arith, back.shallow)))) ∙ back.same

-- a line feed behind it changes nothing
pub line_read_back : (most : ℕ) (d : Data) → IsReadBack most d → most ≤ 127 → read (compact_text d ++ 10 ∷ []) ≡ Some d
line_read_back most d back few =
    let printed = ap (λ t. tokens (t ++ 10 ∷ [])) (sym (print-outline d)) ∙ line_tokens (json_tokens (outline d)) (ArePrintable-json_tokens (outline d) back.numbers) ∙ ap tokens (print-outline d) in
    same_read (compact_text d ++ 10 ∷ []) (compact_text d) printed ∙ read_back most d back few
