-- The tokens of a text, and the bytes of their texts, are together no more than the bytes of the text.
use Rattle.std.proofs.Common.{◌≤◌, ◌+◌, ◌-◌, ℕ, Bool, true, false, List, [], ◌∷◌, length, arith, cond, drop}
use Rattle.std.proofs.Common.{◌==◌, ◌&&◌, nat_eq, take}
use Rattle.std.specs.List.{starts_with}
use Rattle.json.specs.Ascii as ascii
use Rattle.std.proofs.Common.{Option, Some, None}
use Rattle.json.specs.Token.{Token, begin_object, end_object, begin_array, end_array, key, string}
use Rattle.json.specs.Token.{number, boolean, null, bad}
use Rattle.json.specs.Text.{content, plain}
use Rattle.json.specs.Word.{after_number, ends_word, head, literal, number_before, word}
use Rattle.json.specs.Lex.{Lexeme, comma, colon, token, Class, quote, backslash, operator, space, other, class}
use Rattle.json.specs.Lex.{operator_lexeme, string_token, Mode, between, in_word, in_string, in_escape}
use Rattle.json.specs.Lex.{lex, lex_byte, Place, fresh, after_value, after_comma, after_key, if_allowed}
use Rattle.json.specs.Lex.{place_token, punctuate, tokens, begins_colon, may_begin, may_close}
use Rattle.json.specs.Align.{span, span_byte}
use Rattle.pl_backup.proofs.StringWeights.{AtMost, string_bytes_few}

-- a token counts one, and the bytes of a key or a string
abbrev pub token_weight : Token → ℕ
token_weight begin_object = 1
token_weight end_object = 1
token_weight begin_array = 1
token_weight end_array = 1
token_weight (key s) = 1 + length s
token_weight (string s) = 1 + length s
token_weight (number s) = 1
token_weight (boolean b) = 1
token_weight null = 1
token_weight bad = 0

abbrev pub tokens_weight : List Token → ℕ
tokens_weight [] = 0
tokens_weight (t ∷ ts) = token_weight t + tokens_weight ts

abbrev lexeme_weight : Lexeme → ℕ
lexeme_weight (token t) = token_weight t
lexeme_weight comma = 0
lexeme_weight colon = 0

abbrev lexemes_weight : List Lexeme → ℕ
lexemes_weight [] = 0
lexemes_weight (l ∷ ls) = lexeme_weight l + lexemes_weight ls

-- ---- lexemes

-- a token that is no text
record IsPlain (t : Token) : Type 0 where
  one : token_weight t ≤ 1

either : (v : Bool) (a b : Token) → IsPlain a → IsPlain b → IsPlain (cond v a b)
either true a b first second = first
either false a b first second = second

a_bool : (b : Bool) → IsPlain (boolean b)
a_bool b = record { one = omega arith }

a_null : IsPlain null
a_null = record { one = omega arith }

a_bad : IsPlain bad
a_bad = record { one = omega arith }

number_plain : (text : List ℕ) (rest : Option (List ℕ)) → IsPlain (number_before text rest)
number_plain text None = a_bad
number_plain text (Some rest) =
    either (ends_word rest) (number (take (length text - length rest) text)) bad (record { one = omega arith }) a_bad

literal_plain : (name : List ℕ) (t : Token) (text : List ℕ) → IsPlain t → IsPlain (literal name t text)
literal_plain name t text small =
    either (starts_with nat_eq text name && ends_word (drop (length name) text)) t bad small a_bad

word_plain : (text : List ℕ) → IsPlain (word text)
unfolding word
word_plain text =
    either (head text == ascii.lower_t) _ _ (literal_plain ascii.true_text (boolean true) text (a_bool true))
    (either (head text == ascii.lower_f) _ _ (literal_plain ascii.false_text (boolean false) text (a_bool false))
    (either (head text == ascii.lower_n) _ _ (literal_plain ascii.null_text null text a_null)
    (number_plain text (after_number text))))

operator_weight : (x : ℕ) → lexeme_weight (operator_lexeme x) ≤ 1
operator_weight x = grind arith

string_weight : (n : ℕ) (found : Option (List ℕ)) → AtMost n found → token_weight (string_token found) ≤ 1 + n
string_weight n None small = omega arith
string_weight n (Some s) small = omega arith

module _ (x : ℕ) (xs : List ℕ) (more : Mode → List Lexeme) (spare : Mode → ℕ) (n : ℕ) where
  byte_weight : (mode : Mode) (c : Class) → ((next : Mode) → lexemes_weight (more next) + spare next ≤ n)
      → AtMost (spare in_string) (content plain xs)
      → lexemes_weight (lex_byte mode c x xs more) + span_byte mode c spare ≤ 1 + n
  byte_weight between quote behind inner =
      omega (arith, string_weight (spare in_string) (content plain xs) inner, behind in_string)
  byte_weight between backslash behind inner = omega (arith, behind in_word)
  byte_weight between operator behind inner = omega (arith, operator_weight x, behind between)
  byte_weight between space behind inner = omega (arith, behind between)
  byte_weight between other behind inner = omega (arith, (word_plain (x ∷ xs)).one, behind in_word)
  byte_weight in_word quote behind inner = omega (arith, behind in_word)
  byte_weight in_word backslash behind inner = omega (arith, behind in_word)
  byte_weight in_word operator behind inner = omega (arith, operator_weight x, behind between)
  byte_weight in_word space behind inner = omega (arith, behind between)
  byte_weight in_word other behind inner = omega (arith, behind in_word)
  byte_weight in_string quote behind inner = omega (arith, behind between)
  byte_weight in_string backslash behind inner = omega (arith, behind in_escape)
  byte_weight in_string operator behind inner = omega (arith, behind in_string)
  byte_weight in_string space behind inner = omega (arith, behind in_string)
  byte_weight in_string other behind inner = omega (arith, behind in_string)
  byte_weight in_escape c behind inner = omega (arith, behind in_string)

-- what the lexer gives, with the bytes up to the end of the string that it is in
lex_weight : (mode : Mode) (xs : List ℕ) → lexemes_weight (lex mode xs) + span mode xs ≤ length xs
unfolding lex span
lex_weight mode [] = omega arith
lex_weight mode (x ∷ xs) =
    omega (
      arith,
      byte_weight x xs (λ next. lex next xs) (λ next. span next xs) (length xs) mode (class x)
          (λ next. lex_weight next xs) (string_bytes_few plain xs),
    )

-- ---- tokens

allowed_weight : (v : Bool) (t : Token) (more : Place → List Token) (next : Place) (n : ℕ)
    → ((next : Place) → tokens_weight (more next) ≤ n)
    → tokens_weight (if_allowed v t more next) ≤ token_weight t + n
allowed_weight true t more next n behind = omega (arith, behind next)
allowed_weight false t more next n behind = omega arith

placed_weight : (p : Place) (t : Token) (before_colon : Bool) (more : Place → List Token) (n : ℕ)
    → ((next : Place) → tokens_weight (more next) ≤ n)
    → tokens_weight (place_token p t before_colon more) ≤ token_weight t + n
placed_weight p begin_object c more n behind = allowed_weight (may_begin p) begin_object more fresh n behind
placed_weight p end_object c more n behind = allowed_weight (may_close p) end_object more after_value n behind
placed_weight p begin_array c more n behind = allowed_weight (may_begin p) begin_array more fresh n behind
placed_weight p end_array c more n behind = allowed_weight (may_close p) end_array more after_value n behind
placed_weight p (key s) c more n behind = omega arith
placed_weight p (string s) true more n behind =
    omega (arith, allowed_weight (may_begin p) (key s) more after_key n behind)
placed_weight p (string s) false more n behind =
    allowed_weight (may_begin p) (string s) more after_value n behind
placed_weight p (number s) c more n behind = allowed_weight (may_begin p) (number s) more after_value n behind
placed_weight p (boolean b) c more n behind = allowed_weight (may_begin p) (boolean b) more after_value n behind
placed_weight p null c more n behind = allowed_weight (may_begin p) null more after_value n behind
placed_weight p bad c more n behind = omega arith

punctuated_weight : (p : Place) (ls : List Lexeme) → tokens_weight (punctuate p ls) ≤ lexemes_weight ls
unfolding punctuate
punctuated_weight fresh [] = omega arith
punctuated_weight after_value [] = omega arith
punctuated_weight after_comma [] = omega arith
punctuated_weight after_key [] = omega arith
punctuated_weight fresh (token t ∷ ls) =
    placed_weight fresh t (begins_colon ls) (λ next. punctuate next ls) _ (λ next. punctuated_weight next ls)
punctuated_weight after_value (token t ∷ ls) =
    placed_weight after_value t (begins_colon ls) (λ next. punctuate next ls) _
    (λ next. punctuated_weight next ls)
punctuated_weight after_comma (token t ∷ ls) =
    placed_weight after_comma t (begins_colon ls) (λ next. punctuate next ls) _
    (λ next. punctuated_weight next ls)
punctuated_weight after_key (token t ∷ ls) =
    placed_weight after_key t (begins_colon ls) (λ next. punctuate next ls) _
    (λ next. punctuated_weight next ls)
punctuated_weight fresh (comma ∷ ls) = omega arith
punctuated_weight after_value (comma ∷ ls) = omega (arith, punctuated_weight after_comma ls)
punctuated_weight after_comma (comma ∷ ls) = omega arith
punctuated_weight after_key (comma ∷ ls) = omega arith
punctuated_weight fresh (colon ∷ ls) = omega arith
punctuated_weight after_value (colon ∷ ls) = omega arith
punctuated_weight after_comma (colon ∷ ls) = omega arith
punctuated_weight after_key (colon ∷ ls) = omega (arith, punctuated_weight fresh ls)

-- the tokens of a text weigh no more than it has bytes
pub text_weight : (text : List ℕ) → tokens_weight (tokens text) ≤ length text
text_weight text = omega (arith, punctuated_weight fresh (lex between text), lex_weight between text)
