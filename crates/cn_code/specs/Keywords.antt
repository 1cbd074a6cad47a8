-- The keywords of C and of C++, which are no prefix, in order; those with an underscore come last.
use Rattle.std.specs.Prelude.{ℕ, ◌||◌, Bool, List, codes}
use Rattle.std.specs.Str.{bytes_eq}

abbrev pub is_keyword_to_auto : List ℕ → Bool
is_keyword_to_auto text =
    ((((bytes_eq text (codes "alignas")
    || bytes_eq text (codes "alignof"))
    || bytes_eq text (codes "and"))
    || bytes_eq text (codes "and_eq"))
    || bytes_eq text (codes "asm"))
    || bytes_eq text (codes "auto")

abbrev pub is_keyword_to_catch : List ℕ → Bool
is_keyword_to_catch text =
    ((((bytes_eq text (codes "bitand")
    || bytes_eq text (codes "bitor"))
    || bytes_eq text (codes "bool"))
    || bytes_eq text (codes "break"))
    || bytes_eq text (codes "case"))
    || bytes_eq text (codes "catch")

abbrev pub is_keyword_to_co_await : List ℕ → Bool
is_keyword_to_co_await text =
    ((((bytes_eq text (codes "char")
    || bytes_eq text (codes "char16_t"))
    || bytes_eq text (codes "char32_t"))
    || bytes_eq text (codes "char8_t"))
    || bytes_eq text (codes "class"))
    || bytes_eq text (codes "co_await")

abbrev pub is_keyword_to_const_cast : List ℕ → Bool
is_keyword_to_const_cast text =
    ((((bytes_eq text (codes "co_return")
    || bytes_eq text (codes "co_yield"))
    || bytes_eq text (codes "compl"))
    || bytes_eq text (codes "concept"))
    || bytes_eq text (codes "const"))
    || bytes_eq text (codes "const_cast")

abbrev pub is_keyword_to_default : List ℕ → Bool
is_keyword_to_default text =
    ((((bytes_eq text (codes "consteval")
    || bytes_eq text (codes "constexpr"))
    || bytes_eq text (codes "constinit"))
    || bytes_eq text (codes "continue"))
    || bytes_eq text (codes "decltype"))
    || bytes_eq text (codes "default")

abbrev pub is_keyword_to_enum : List ℕ → Bool
is_keyword_to_enum text =
    ((((bytes_eq text (codes "delete")
    || bytes_eq text (codes "do"))
    || bytes_eq text (codes "double"))
    || bytes_eq text (codes "dynamic_cast"))
    || bytes_eq text (codes "else"))
    || bytes_eq text (codes "enum")

abbrev pub is_keyword_to_for : List ℕ → Bool
is_keyword_to_for text =
    ((((bytes_eq text (codes "explicit")
    || bytes_eq text (codes "export"))
    || bytes_eq text (codes "extern"))
    || bytes_eq text (codes "false"))
    || bytes_eq text (codes "float"))
    || bytes_eq text (codes "for")

abbrev pub is_keyword_to_long : List ℕ → Bool
is_keyword_to_long text =
    ((((bytes_eq text (codes "friend")
    || bytes_eq text (codes "goto"))
    || bytes_eq text (codes "if"))
    || bytes_eq text (codes "inline"))
    || bytes_eq text (codes "int"))
    || bytes_eq text (codes "long")

abbrev pub is_keyword_to_not_eq : List ℕ → Bool
is_keyword_to_not_eq text =
    ((((bytes_eq text (codes "mutable")
    || bytes_eq text (codes "namespace"))
    || bytes_eq text (codes "new"))
    || bytes_eq text (codes "noexcept"))
    || bytes_eq text (codes "not"))
    || bytes_eq text (codes "not_eq")

abbrev pub is_keyword_to_protected : List ℕ → Bool
is_keyword_to_protected text =
    ((((bytes_eq text (codes "nullptr")
    || bytes_eq text (codes "operator"))
    || bytes_eq text (codes "or"))
    || bytes_eq text (codes "or_eq"))
    || bytes_eq text (codes "private"))
    || bytes_eq text (codes "protected")

abbrev pub is_keyword_to_return : List ℕ → Bool
is_keyword_to_return text =
    ((((bytes_eq text (codes "public")
    || bytes_eq text (codes "register"))
    || bytes_eq text (codes "reinterpret_cast"))
    || bytes_eq text (codes "requires"))
    || bytes_eq text (codes "restrict"))
    || bytes_eq text (codes "return")

abbrev pub is_keyword_to_static_cast : List ℕ → Bool
is_keyword_to_static_cast text =
    ((((bytes_eq text (codes "short")
    || bytes_eq text (codes "signed"))
    || bytes_eq text (codes "sizeof"))
    || bytes_eq text (codes "static"))
    || bytes_eq text (codes "static_assert"))
    || bytes_eq text (codes "static_cast")

abbrev pub is_keyword_to_throw : List ℕ → Bool
is_keyword_to_throw text =
    ((((bytes_eq text (codes "struct")
    || bytes_eq text (codes "switch"))
    || bytes_eq text (codes "template"))
    || bytes_eq text (codes "this"))
    || bytes_eq text (codes "thread_local"))
    || bytes_eq text (codes "throw")

abbrev pub is_keyword_to_typeof : List ℕ → Bool
is_keyword_to_typeof text =
    ((((bytes_eq text (codes "true")
    || bytes_eq text (codes "try"))
    || bytes_eq text (codes "typedef"))
    || bytes_eq text (codes "typeid"))
    || bytes_eq text (codes "typename"))
    || bytes_eq text (codes "typeof")

abbrev pub is_keyword_to_void : List ℕ → Bool
is_keyword_to_void text =
    ((((bytes_eq text (codes "typeof_unqual")
    || bytes_eq text (codes "union"))
    || bytes_eq text (codes "unsigned"))
    || bytes_eq text (codes "using"))
    || bytes_eq text (codes "virtual"))
    || bytes_eq text (codes "void")

abbrev pub is_keyword_to_alignas : List ℕ → Bool
is_keyword_to_alignas text =
    ((((bytes_eq text (codes "volatile")
    || bytes_eq text (codes "wchar_t"))
    || bytes_eq text (codes "while"))
    || bytes_eq text (codes "xor"))
    || bytes_eq text (codes "xor_eq"))
    || bytes_eq text (codes "_Alignas")

abbrev pub is_keyword_to_decimal128 : List ℕ → Bool
is_keyword_to_decimal128 text =
    ((((bytes_eq text (codes "_Alignof")
    || bytes_eq text (codes "_Atomic"))
    || bytes_eq text (codes "_BitInt"))
    || bytes_eq text (codes "_Bool"))
    || bytes_eq text (codes "_Complex"))
    || bytes_eq text (codes "_Decimal128")

abbrev pub is_keyword_to_static_assert : List ℕ → Bool
is_keyword_to_static_assert text =
    ((((bytes_eq text (codes "_Decimal32")
    || bytes_eq text (codes "_Decimal64"))
    || bytes_eq text (codes "_Generic"))
    || bytes_eq text (codes "_Imaginary"))
    || bytes_eq text (codes "_Noreturn"))
    || bytes_eq text (codes "_Static_assert")

abbrev pub is_keyword_to_thread_local : List ℕ → Bool
is_keyword_to_thread_local text =
    bytes_eq text (codes "_Thread_local")

abbrev pub is_keyword_through_default : List ℕ → Bool
is_keyword_through_default text =
    (((is_keyword_to_auto text
    || is_keyword_to_catch text)
    || is_keyword_to_co_await text)
    || is_keyword_to_const_cast text)
    || is_keyword_to_default text

abbrev pub is_keyword_through_protected : List ℕ → Bool
is_keyword_through_protected text =
    (((is_keyword_to_enum text
    || is_keyword_to_for text)
    || is_keyword_to_long text)
    || is_keyword_to_not_eq text)
    || is_keyword_to_protected text

abbrev pub is_keyword_through_void : List ℕ → Bool
is_keyword_through_void text =
    (((is_keyword_to_return text
    || is_keyword_to_static_cast text)
    || is_keyword_to_throw text)
    || is_keyword_to_typeof text)
    || is_keyword_to_void text

abbrev pub is_keyword_through_thread_local : List ℕ → Bool
is_keyword_through_thread_local text =
    ((is_keyword_to_alignas text
    || is_keyword_to_decimal128 text)
    || is_keyword_to_static_assert text)
    || is_keyword_to_thread_local text

abbrev pub is_keyword : List ℕ → Bool
is_keyword text =
    ((is_keyword_through_default text
    || is_keyword_through_protected text)
    || is_keyword_through_void text)
    || is_keyword_through_thread_local text
