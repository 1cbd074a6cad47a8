-- A line feed behind a printed text changes nothing of what is read.
use Rattle.std.proofs.Common.{◌≡◌, ℕ, Bool, true, false, cond, ◌&&◌, List, [], ◌∷◌, ◌++◌, option_and_then, refl, sym, ap, ap₂, ◌∙◌, append_assoc}
use Rattle.json.specs.Json as json
use Rattle.json.specs.Lex.{token, comma, colon, string_token, lex, between, fresh, punctuate, tokens}
use Rattle.json.specs.Print.{escape, quoted, token_text, begins, ends, separator, print_from, print, IsPrintable, ArePrintable}
use Rattle.json.specs.Token.{Token, begin_object, end_object, begin_array, end_array, key, string, number, boolean, null, bad}
use Rattle.json.specs.Word.{ends_word, word}
use Rattle.json.proofs.Printed.Numbers.{lex-number, in_word-ended}
use Rattle.json.proofs.Printed.Strings.{content-escape, lex-escape}
use Rattle.serde_json.specs.Read.{read, of_json}

abbrev line : List ℕ → List ℕ
line text = text ++ 10 ∷ []

quoted_lexed : (s r : List ℕ) → lex between (quoted s ++ r) ≡ token (string s) ∷ lex between r
unfolding lex
quoted_lexed s r =
    ap (λ l. lex between (34 ∷ l)) (append_assoc (escape s) (34 ∷ []) r) ∙ ap₂ (λ o l. token (string_token o) ∷ l) (content-escape s r) (lex-escape s r)

key_lexed : (s r : List ℕ) → lex between (token_text (key s) ++ r) ≡ token (string s) ∷ colon ∷ lex between r
unfolding lex
key_lexed s r = ap (lex between) (append_assoc (quoted s) (58 ∷ []) r) ∙ quoted_lexed s (58 ∷ r)

-- behind a value stands what ends a word
abbrev BothEnd : List ℕ → List ℕ → Type 0
BothEnd r s = (ends_word r ≡ true) × (ends_word s ≡ true)

-- texts with the same lexemes have them behind a token too
same_behind : (t : Token) (r s : List ℕ) → IsPrintable t → (ends t ≡ true → BothEnd r s) → lex between r ≡ lex between s → lex between (token_text t ++ r) ≡ lex between (token_text t ++ s)
unfolding lex word
same_behind begin_object r s h ended e = ap (λ l. token begin_object ∷ l) e
same_behind end_object r s h ended e = ap (λ l. token end_object ∷ l) e
same_behind begin_array r s h ended e = ap (λ l. token begin_array ∷ l) e
same_behind end_array r s h ended e = ap (λ l. token end_array ∷ l) e
same_behind (key k) r s h ended e = key_lexed k r ∙ ap (λ l. token (string k) ∷ colon ∷ l) e ∙ sym (key_lexed k s)
same_behind (string k) r s h ended e = quoted_lexed k r ∙ ap (λ l. token (string k) ∷ l) e ∙ sym (quoted_lexed k s)
same_behind (number n) r s h ended e = lex-number n r h (ended refl).0 ∙ ap (λ l. token (number n) ∷ l) e ∙ sym (lex-number n s h (ended refl).1)
same_behind (boolean true) r s h ended e = ap₂ (λ b l. token (cond b (boolean true) bad) ∷ l) ((ended refl).0 ∙ sym (ended refl).1)
    (in_word-ended r (ended refl).0 ∙ e ∙ sym (in_word-ended s (ended refl).1))
same_behind (boolean false) r s h ended e = ap₂ (λ b l. token (cond b (boolean false) bad) ∷ l) ((ended refl).0 ∙ sym (ended refl).1)
    (in_word-ended r (ended refl).0 ∙ e ∙ sym (in_word-ended s (ended refl).1))
same_behind null r s h ended e = ap₂ (λ b l. token (cond b null bad) ∷ l) ((ended refl).0 ∙ sym (ended refl).1) (in_word-ended r (ended refl).0 ∙ e ∙ sym (in_word-ended s (ended refl).1))
same_behind bad r s h ended e = absurd h

value_ends : (ts : List Token) → BothEnd (line (print_from true ts)) (print_from true ts)
unfolding print_from
value_ends [] = (refl, refl)
value_ends (begin_object ∷ ts) = (refl, refl)
value_ends (end_object ∷ ts) = (refl, refl)
value_ends (begin_array ∷ ts) = (refl, refl)
value_ends (end_array ∷ ts) = (refl, refl)
value_ends (key s ∷ ts) = (refl, refl)
value_ends (string s ∷ ts) = (refl, refl)
value_ends (number s ∷ ts) = (refl, refl)
value_ends (boolean b ∷ ts) = (refl, refl)
value_ends (null ∷ ts) = (refl, refl)
value_ends (bad ∷ ts) = (refl, refl)

comma_before : (b : Bool) (r s : List ℕ) → lex between r ≡ lex between s → lex between (cond b (44 ∷ []) [] ++ r) ≡ lex between (cond b (44 ∷ []) [] ++ s)
unfolding lex
comma_before true r s e = ap (λ l. comma ∷ l) e
comma_before false r s e = e

line_lexed : (c : Bool) (ts : List Token) → ArePrintable ts → lex between (line (print_from c ts)) ≡ lex between (print_from c ts)
unfolding lex print_from ArePrintable
line_lexed c [] h = refl
line_lexed c (t ∷ ts) h =
    let rest = print_from (ends t) ts in
    ap (lex between) (append_assoc (separator c t) (token_text t ++ rest) (10 ∷ []) ∙ ap (λ l. separator c t ++ l) (append_assoc (token_text t) rest (10 ∷ [])))
    ∙ comma_before (c && begins t) _ _ (same_behind t (line rest) rest h.0 (λ e. rw e (value_ends ts)) (line_lexed (ends t) ts h.1))

pub line_tokens : (ts : List Token) → ArePrintable ts → tokens (line (print ts)) ≡ tokens (print ts)
line_tokens ts h = ap (punctuate fresh) (line_lexed false ts h)

pub same_read : (s t : List ℕ) → tokens s ≡ tokens t → read s ≡ read t
same_read s t e = ap (λ ts. option_and_then of_json (option_and_then (λ p. json.if_last p.0 p.1) (json.value 127 ts))) e
