-- The texts of flaws have no control character.
use Rattle.std.proofs.Common.{◌≡◌, codes, ℕ, zero, suc, ◌<◌, ◌≤◌, ◌/◌, ◌%◌, List, [], ◌∷◌, ◌++◌, length, Bool, true, false, ◌&&◌, cond, append-nil, arith, refl, subst}
use Rattle.std.specs.Prelude.{flat_map, nat_le, ◌==◌, chars}
use Rattle.std.specs.Char.{encode_utf8, is_control}
use Rattle.std.specs.Fmt.{decimal, digits, digits_onto, digit_glyph}
use Rattle.std.specs.List.{list_all}
use Rattle.std.proofs.Math.Nat.{mod-lt}
use Rattle.std.proofs.lemmas.Bool.{and_parts}
use Rattle.std.proofs.lemmas.Bool.Decides.{nat_tests}
use Rattle.std.proofs.lemmas.Str.{NoCharPasses-nil, NoCharPasses-append, encode_ascii}
use Rattle.cn_table.specs.Names.{is_name, is_name_byte}
use Rattle.cn_table.specs.Texts.{joined_texts}
use Rattle.cn_table.specs.declared.limits.TheConstants.{LONGEST_NAME, MOST_STATES}
use Rattle.cn_flaws.specs.FlawText.{IsPlain, escape, shown_char, in_quotes, operation_text, before_places, places_text, both_or_all, entries_text, states_text, names_in_brackets}

pub empty : IsPlain []
empty = NoCharPasses-nil is_control

pub both : {xs ys : List ℕ} → IsPlain xs → IsPlain ys → IsPlain (xs ++ ys)
both {xs} {ys} a b = NoCharPasses-append is_control xs ys a b

char_plain : (c : ℕ) → is_control c ≡ false → IsPlain (encode_utf8 c)
char_plain c h = (c ∷ [], append-nil (encode_utf8 c), (h, tt))

-- ---- what ASCII prints

abbrev is_printed : ℕ → Bool
is_printed b = nat_le 32 b && nat_le b 126

printed_small : (b : ℕ) → is_printed b ≡ true → b < 128
printed_small b h = grind (arith, nat_tests)

printed_plain : (b : ℕ) → is_printed b ≡ true → is_control b ≡ false
printed_plain b h = grind (arith, nat_tests)

pub printed : (bs : List ℕ) → list_all is_printed bs ≡ true → IsPlain bs
printed [] h = empty
printed (b ∷ bs) h =
    let (here, rest) = and_parts (is_printed b) (list_all is_printed bs) h in
    both {xs = b ∷ []} {ys = bs} (subst IsPlain (encode_ascii b (printed_small b here)) (char_plain b (printed_plain b here))) (printed bs rest)

-- ---- numbers

glyph_printed : (upper : Bool) (d : ℕ) → d < 16 → is_printed (digit_glyph upper d) ≡ true
glyph_printed true d small = grind (arith, nat_tests)
glyph_printed false d small = grind (arith, nat_tests)

digits_printed : (k base : ℕ) (upper : Bool) (n : ℕ) (acc : List ℕ) → 0 < base → base ≤ 16 → list_all is_printed acc ≡ true → list_all is_printed (digits_onto k base upper n acc) ≡ true
digits_printed zero base upper n acc some most h = h
digits_printed (suc k) base upper n acc some most h =
    let less = mod-lt n some in
    let more : list_all is_printed (digit_glyph upper (n % base) ∷ acc) ≡ true = rw (glyph_printed upper (n % base) (omega (arith, less, most))) h in
    by_test (digit_glyph upper (n % base) ∷ acc) _ (n / base == 0) more (digits_printed k base upper (n / base) (digit_glyph upper (n % base) ∷ acc) some most more)
  where
    by_test : (xs ys : List ℕ) (b : Bool) → list_all is_printed xs ≡ true → list_all is_printed ys ≡ true → list_all is_printed (cond b xs ys) ≡ true
    by_test xs ys true x y = x
    by_test xs ys false x y = y

pub number : (n : ℕ) → IsPlain (decimal n)
unfolding digits
number n = printed (digits 10 false n) (digits_printed 64 10 false n [] (omega arith) (omega arith) refl)

hexadecimal : (n : ℕ) → IsPlain (digits 16 true n)
unfolding digits
hexadecimal n = printed (digits 16 true n) (digits_printed 64 16 true n [] (omega arith) (omega arith) refl)

-- ---- names

name_byte_printed : (b : ℕ) → is_name_byte b ≡ true → is_printed b ≡ true
name_byte_printed b h = grind (arith, nat_tests)

name_bytes_printed : (bs : List ℕ) → list_all is_name_byte bs ≡ true → list_all is_printed bs ≡ true
name_bytes_printed [] h = refl
name_bytes_printed (b ∷ bs) h =
    let (here, rest) = and_parts (is_name_byte b) (list_all is_name_byte bs) h in
    rw (name_byte_printed b here) (name_bytes_printed bs rest)

pub name_plain : (name : List ℕ) → is_name name ≡ true → IsPlain name
name_plain name h = printed name (name_bytes_printed name (and_parts (nat_le 1 (length name) && nat_le (length name) LONGEST_NAME) (list_all is_name_byte name) h).1)

joined_plain : (names : List (List ℕ)) → list_all is_name names ≡ true → IsPlain (joined_texts (codes ", ") names)
joined_plain [] h = empty
joined_plain (t ∷ ts) h = let (here, rest) = and_parts (is_name t) (list_all is_name ts) h in both (name_plain t here) (behind ts rest) where
  behind : (names : List (List ℕ)) → list_all is_name names ≡ true → IsPlain (flat_map (λ t. codes ", " ++ t) names)
  behind [] h = empty
  behind (t ∷ ts) h = let (here, rest) = and_parts (is_name t) (list_all is_name ts) h in
      both {xs = codes ", " ++ t} (both (printed (codes ", ") refl) (name_plain t here)) (behind ts rest)

-- ---- what is shown of a text

escape_plain : (c : ℕ) → IsPlain (escape c)
escape_plain c = both (printed (codes "\\u00") refl) (both (hexadecimal (c / 16)) (hexadecimal (c % 16)))

shown_plain : (c : ℕ) → IsPlain (shown_char c)
shown_plain c = of_tests (c == 34) (c == 92) (is_control c) refl where
  of_tests : (a b k : Bool) → is_control c ≡ k → IsPlain (cond a (codes "\\\"") (cond b (codes "\\\\") (cond k (escape c) (encode_utf8 c))))
  of_tests true b k e = printed (codes "\\\"") refl
  of_tests false true k e = printed (codes "\\\\") refl
  of_tests false false true e = escape_plain c
  of_tests false false false e = char_plain c e

all_shown : (cs : List ℕ) → IsPlain (flat_map shown_char cs)
all_shown [] = empty
all_shown (c ∷ cs) = both (shown_plain c) (all_shown cs)

pub quoted : (text : List ℕ) → IsPlain (in_quotes text)
quoted text = both (printed (codes "\"") refl) (both (all_shown (chars text)) (printed (codes "\"") refl))

-- ---- words for operations, places and counts

pub operation_plain : (i : ℕ) (name : List ℕ) → IsPlain (operation_text i name)
operation_plain i name = of_test (is_name name) refl where
  of_test : (b : Bool) → is_name name ≡ b → IsPlain (cond b (codes "operation \"" ++ (name ++ codes "\"")) (codes "operation[" ++ (decimal i ++ codes "]")))
  of_test true e = both (printed (codes "operation \"") refl) (both (name_plain name e) (printed (codes "\"") refl))
  of_test false e = both (printed (codes "operation[") refl) (both (number i) (printed (codes "]") refl))

before_plain : (more : ℕ) → IsPlain (before_places more)
before_plain more = of_tests (more == 0) (more == 1) where
  of_tests : (a b : Bool) → IsPlain (cond a [] (cond b (codes " and ") (codes ", ")))
  of_tests true b = empty
  of_tests false true = printed (codes " and ") refl
  of_tests false false = printed (codes ", ") refl

pub places_plain : (what : List ℕ) (places : List ℕ) → IsPlain what → IsPlain (places_text what places)
places_plain what [] h = empty
places_plain what (i ∷ others) h =
    both h (both (printed (codes "[") refl) (both (number i) (both (printed (codes "]") refl) (both (before_plain (length others)) (places_plain what others h)))))

pub both_plain : (count : ℕ) → IsPlain (both_or_all count)
both_plain count = of_test (count == 2) where
  of_test : (b : Bool) → IsPlain (cond b (codes "both") (codes "all"))
  of_test true = printed (codes "both") refl
  of_test false = printed (codes "all") refl

pub entries_plain : (n : ℕ) → IsPlain (entries_text n)
entries_plain n = of_test (n == 1) where
  of_test : (b : Bool) → IsPlain (cond b (codes "1 entry") (decimal n ++ codes " entries"))
  of_test true = printed (codes "1 entry") refl
  of_test false = both (number n) (printed (codes " entries") refl)

pub states_plain : (n : ℕ) → IsPlain (states_text n)
states_plain n = of_test (n == 1) where
  of_test : (b : Bool) → IsPlain (cond b (codes "there is 1 state") (codes "there are " ++ (decimal n ++ codes " states")))
  of_test true = printed (codes "there is 1 state") refl
  of_test false = both (printed (codes "there are ") refl) (both (number n) (printed (codes " states") refl))

pub brackets_plain : (names : List (List ℕ)) → IsPlain (names_in_brackets names)
brackets_plain names = of_tests (nat_le (length names) MOST_STATES) (list_all is_name names) refl where
  of_tests : (a b : Bool) → list_all is_name names ≡ b → IsPlain (cond (a && b) (codes " (" ++ (joined_texts (codes ", ") names ++ codes ")")) [])
  of_tests true true e = both (printed (codes " (") refl) (both (joined_plain names e) (printed (codes ")") refl))
  of_tests true false e = empty
  of_tests false b e = empty
