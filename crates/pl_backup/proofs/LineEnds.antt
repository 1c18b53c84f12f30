-- A line feed behind the text that is printed for tokens gives no token.
use Rattle.std.proofs.Common.{◌≡◌, ◌∙◌, ◌++◌, ◌&&◌, ℕ, Bool, List, [], ◌∷◌, true, false, ap, ap₂, append_assoc, cond}
use Rattle.std.proofs.Common.{refl, sym}
use Rattle.std.specs.Prelude.{codes}
use Rattle.json.specs.Lex.{Lexeme, between, colon, comma, fresh, lex, punctuate, string_token, token, tokens}
use Rattle.json.specs.Print.{ArePrintable, IsPrintable, begins, ends, escape, print, print_from, quoted, separator}
use Rattle.json.specs.Print.{token_text}
use Rattle.json.specs.Token.{Token, bad, begin_array, begin_object, boolean, end_array, end_object, key, null, number}
use Rattle.json.specs.Token.{string}
use Rattle.json.specs.Word.{ends_word, word}
use Rattle.json.proofs.Printed.Numbers.{in_word-ended, lex-number}
use Rattle.json.proofs.Printed.Strings.{content-escape, lex-escape}
use Rattle.json.proofs.Printed.Tokens.{tokens-print}

abbrev lexemes : Token → List Lexeme
lexemes begin_object = token begin_object ∷ []
lexemes end_object = token end_object ∷ []
lexemes begin_array = token begin_array ∷ []
lexemes end_array = token end_array ∷ []
lexemes (key s) = token (string s) ∷ colon ∷ []
lexemes (string s) = token (string s) ∷ []
lexemes (number s) = token (number s) ∷ []
lexemes (boolean b) = token (boolean b) ∷ []
lexemes null = token null ∷ []
lexemes bad = []

-- ---- words end

-- after a value stands a comma, a closing bracket or nothing
value_ends : (ts : List Token) → ends_word (print_from true ts) ≡ true
unfolding print_from
value_ends [] = refl
value_ends (begin_object ∷ ts) = refl
value_ends (end_object ∷ ts) = refl
value_ends (begin_array ∷ ts) = refl
value_ends (end_array ∷ ts) = refl
value_ends (key s ∷ ts) = refl
value_ends (string s ∷ ts) = refl
value_ends (number s ∷ ts) = refl
value_ends (boolean b ∷ ts) = refl
value_ends (null ∷ ts) = refl
value_ends (bad ∷ ts) = refl

line_ends : (text : List ℕ) → ends_word text ≡ true → ends_word (text ++ codes "\n") ≡ true
line_ends [] ended = refl
line_ends (byte ∷ text) ended = ended

-- ---- lexemes

text_lexed : (s rest : List ℕ) → lex between (quoted s ++ rest) ≡ token (string s) ∷ lex between rest
unfolding lex
text_lexed s rest =
    ap (λ (x : List ℕ). lex between (34 ∷ x)) (append_assoc (escape s) (34 ∷ []) rest)
    ∙ ap₂ (λ o (x : List Lexeme). token (string_token o) ∷ x) (content-escape s rest) (lex-escape s rest)

token_lexed : (t : Token) (rest : List ℕ) → IsPrintable t → (ends t ≡ true → ends_word rest ≡ true)
    → lex between (token_text t ++ rest) ≡ lexemes t ++ lex between rest
unfolding lex word
token_lexed begin_object rest fit ended = refl
token_lexed end_object rest fit ended = refl
token_lexed begin_array rest fit ended = refl
token_lexed end_array rest fit ended = refl
token_lexed (key s) rest fit ended =
    ap (lex between) (append_assoc (quoted s) (58 ∷ []) rest) ∙ text_lexed s (58 ∷ rest)
token_lexed (string s) rest fit ended = text_lexed s rest
token_lexed (number s) rest fit ended = lex-number s rest fit (ended refl)
token_lexed (boolean true) rest fit ended =
    ap₂ (λ b (x : List Lexeme). token (cond b (boolean true) bad) ∷ x) (ended refl) (in_word-ended rest (ended refl))
token_lexed (boolean false) rest fit ended =
    ap₂ (λ b (x : List Lexeme). token (cond b (boolean false) bad) ∷ x) (ended refl) (in_word-ended rest (ended refl))
token_lexed null rest fit ended =
    ap₂ (λ b (x : List Lexeme). token (cond b null bad) ∷ x) (ended refl) (in_word-ended rest (ended refl))
token_lexed bad rest fit ended = absurd fit

comma_lexed : (b : Bool) (rest : List ℕ)
    → lex between (cond b (44 ∷ []) [] ++ rest) ≡ cond b (comma ∷ []) [] ++ lex between rest
unfolding lex
comma_lexed true rest = refl
comma_lexed false rest = refl

-- a token and its comma
one_lexed : (after : Bool) (t : Token) (rest : List ℕ) → IsPrintable t → (ends t ≡ true → ends_word rest ≡ true)
    → lex between (separator after t ++ (token_text t ++ rest))
    ≡ cond (after && begins t) (comma ∷ []) [] ++ (lexemes t ++ lex between rest)
one_lexed after t rest fit ended =
    comma_lexed (after && begins t) (token_text t ++ rest)
    ∙ ap (λ (x : List Lexeme). cond (after && begins t) (comma ∷ []) [] ++ x) (token_lexed t rest fit ended)

line_lexed : (after : Bool) (ts : List Token) → ArePrintable ts
    → lex between (print_from after ts ++ codes "\n") ≡ lex between (print_from after ts)
unfolding lex print_from ArePrintable
line_lexed after [] fit = refl
line_lexed after (t ∷ ts) fit =
    let rest : List ℕ = print_from (ends t) ts in
    let ended = λ (e : ends t ≡ true). ap (λ b. ends_word (print_from b ts)) e ∙ value_ends ts in
    ap (lex between)
    (append_assoc (separator after t) (token_text t ++ rest) (codes "\n")
    ∙ ap (λ (x : List ℕ). separator after t ++ x) (append_assoc (token_text t) rest (codes "\n")))
    ∙ one_lexed after t (rest ++ codes "\n") fit.0 (λ e. line_ends rest (ended e))
    ∙ ap (λ (x : List Lexeme). cond (after && begins t) (comma ∷ []) [] ++ (lexemes t ++ x)) (line_lexed (ends t) ts fit.1)
    ∙ sym (one_lexed after t rest fit.0 ended)

-- tokens that are printed and then a line feed are read as these tokens
pub line_read : (ts : List Token) → ArePrintable ts → tokens (print ts ++ codes "\n") ≡ ts
line_read ts fit = ap (punctuate fresh) (line_lexed false ts fit) ∙ tokens-print ts fit
