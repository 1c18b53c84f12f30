-- What stands behind a token is a rest of its text, and the tokens of a text are those at its front
-- and those of that rest.
use Rattle.std.proofs.Common.{◌≡◌, ◌∙◌, ◌+◌, ◌-◌, ◌==◌, ◌<◌, ℕ, zero, suc, Bool, true, false, List, [], ◌∷◌}
use Rattle.std.proofs.Common.{◌++◌, Some, None, ap, arith, drop, length, min, nat_eq, refl, sym}
use Rattle.std.specs.Prelude.{codes, Option}
use Rattle.std.specs.List.{before_first, position_or_len, starts_with}
use Rattle.std.specs.Char.{is_ascii_alphabetic}
use Rattle.std.specs.Option.{IfSome, option_to_list}
use Rattle.std.proofs.Math.Seq.{drop-length, drop-nil}
use Rattle.std.proofs.lemmas.List.{drop_min, length-drop}
use Rattle.pl_words.specs.TagName.{trimmed_front}
use Rattle.pl_nbread.specs.Tokens.{Attribute, Read, Token, attribute_at, attributes, attributes_from}
use Rattle.pl_nbread.specs.Tokens.{behind_comment}
use Rattle.pl_nbread.specs.Tokens.{behind_first, declaration_at, end_at, ends_name, ends_tag_name, from_first}
use Rattle.pl_nbread.specs.Tokens.{front}
use Rattle.pl_nbread.specs.Tokens.{is_greater, is_less, is_quote, is_stray, less_at, tag_at, tag_or_text}
use Rattle.pl_nbread.specs.Tokens.{tag_with, tokens}
use Rattle.pl_nbread.specs.Tokens.{tokens_from, value_at, value_behind, with_attribute, begins_with_letter}
use Rattle.pl_nbread.specs.Tokens.{Close, Open, Text, passed}

-- ---- the definitions, by cases

pub attributes-end : (b : ℕ) (text : List ℕ) → is_greater b ≡ true
    → attributes_from 0 (b ∷ text) ≡ Some (record { what = []; behind = text })
attributes-end b text is = rw (is, attributes_from)

pub attributes-stray : (b : ℕ) (text : List ℕ) → is_greater b ≡ false → is_stray b ≡ true
    → attributes_from 0 (b ∷ text) ≡ attributes_from 0 text
attributes-stray b text is too = rw (is, too, attributes_from)

pub attributes-more : (b : ℕ) (text : List ℕ) → is_greater b ≡ false → is_stray b ≡ false
    → attributes_from 0 (b ∷ text) ≡ with_attribute (attribute_at (b ∷ text)).what
    (attributes_from (length text - length (attribute_at (b ∷ text)).behind) text)
attributes-more b text is too =
    let read : Read Attribute = attribute_at (b ∷ text) in
    let more : Option (Read (List Attribute)) =
    with_attribute read.what (attributes_from (length text - length read.behind) text) in
    let last : Option (Read (List Attribute)) = Some (record { what = []; behind = text }) in
    let stray : Option (Read (List Attribute)) = attributes_from 0 text in
    ap (λ (v : Bool). elim v as (λ _. Option (Read (List Attribute))) [
      | true ↦ last
      | false ↦ elim (is_stray b) as (λ _. Option (Read (List Attribute))) [ true ↦ stray | false ↦ more ]
    ]) is
    ∙ ap (λ (v : Bool). elim v as (λ _. Option (Read (List Attribute))) [ true ↦ stray | false ↦ more ]) too

pub end_at-tag : (text : List ℕ) → begins_with_letter text ≡ true
    → end_at text ≡ tag_at (λ name attributes. Close name) text
end_at-tag text is = rw (is, end_at)

pub end_at-passed : (text : List ℕ) → begins_with_letter text ≡ false
    → end_at text ≡ passed (behind_first is_greater text)
end_at-passed text is = rw (is, end_at)

pub declaration_at-comment : (text : List ℕ) → starts_with nat_eq text (codes "--") ≡ true
    → declaration_at text ≡ passed (behind_comment (drop 2 text))
declaration_at-comment text is = rw (is, declaration_at)

pub declaration_at-other : (text : List ℕ) → starts_with nat_eq text (codes "--") ≡ false
    → declaration_at text ≡ passed (behind_first is_greater text)
declaration_at-other text is = rw (is, declaration_at)

pub less_at-bang : (b : ℕ) (text : List ℕ) → (b == 33) ≡ true → less_at b text ≡ declaration_at text
less_at-bang b text is = rw (is, less_at)

pub less_at-slash : (b : ℕ) (text : List ℕ) → (b == 33) ≡ false → (b == 47) ≡ true → less_at b text ≡ end_at text
less_at-slash b text is too = rw (is, too, less_at)

pub less_at-letter : (b : ℕ) (text : List ℕ) → (b == 33) ≡ false → (b == 47) ≡ false
    → is_ascii_alphabetic b ≡ true → less_at b text ≡ tag_at Open (b ∷ text)
less_at-letter b text is too three =
    let tag : Read (Option Token) = tag_at Open (b ∷ text) in
    let own : Read (Option Token) = record { what = Some (Text (60 ∷ [])); behind = b ∷ text } in
    ap (λ (v : Bool). elim v as (λ _. Read (Option Token)) [
      | true ↦ declaration_at text
      | false ↦ elim (b == 47) as (λ _. Read (Option Token)) [
        | true ↦ end_at text
        | false ↦ elim (is_ascii_alphabetic b) as (λ _. Read (Option Token)) [ true ↦ tag | false ↦ own ]
      ]
    ]) is
    ∙ ap (λ (v : Bool). elim v as (λ _. Read (Option Token)) [
      | true ↦ end_at text
      | false ↦ elim (is_ascii_alphabetic b) as (λ _. Read (Option Token)) [ true ↦ tag | false ↦ own ]
    ]) too
    ∙ ap (λ (v : Bool). elim v as (λ _. Read (Option Token)) [ true ↦ tag | false ↦ own ]) three

pub less_at-text : (b : ℕ) (text : List ℕ) → (b == 33) ≡ false → (b == 47) ≡ false
    → is_ascii_alphabetic b ≡ false
    → less_at b text ≡ record { what = Some (Text (60 ∷ [])); behind = b ∷ text }
less_at-text b text is too three = rw (is, too, three, less_at)

pub front-less : (b : ℕ) (text : List ℕ) → is_less b ≡ true → front b text ≡ tag_or_text text
front-less b text is = rw (is, front)

pub front-text : (b : ℕ) (text : List ℕ) → is_less b ≡ false
    → front b text ≡ record {
      what = Some (Text (before_first is_less (b ∷ text)));
      behind = from_first is_less (b ∷ text);
    }
front-text b text is =
    let run : Read (Option Token) =
    record { what = Some (Text (before_first is_less (b ∷ text))); behind = from_first is_less (b ∷ text) } in
    ap (λ (v : Bool). elim v as (λ _. Read (Option Token)) [ true ↦ tag_or_text text | false ↦ run ]) is

-- ---- rests of a text

-- a text without the first bytes of another
pub record IsRest (behind text : List ℕ) : Type 0 where
  pub count : ℕ
  pub is : behind ≡ drop count text

drop_drop : (m n : ℕ) (text : List ℕ) → drop m (drop n text) ≡ drop (n + m) text
drop_drop m n [] = ap (drop m) (drop-nil n) ∙ drop-nil m ∙ sym (drop-nil (n + m))
drop_drop m zero (b ∷ text) = ap (λ k. drop k (b ∷ text)) (omega arith)
drop_drop m (suc n) (b ∷ text) =
    let more : suc n + m ≡ suc (n + m) = omega arith in
    drop_drop m n text ∙ ap (λ k. drop k (b ∷ text)) (sym more)

pub none_left : (text : List ℕ) → IsRest [] text
none_left text = record { count = length text; is = sym (drop-length text) }

pub all_left : (text : List ℕ) → IsRest text text
all_left text = record { count = 0; is = refl }

pub dropped : (n : ℕ) (text : List ℕ) → IsRest (drop n text) text
dropped n text = record { count = n; is = refl }

pub rest_of_rest : (a b c : List ℕ) → IsRest a b → IsRest b c → IsRest a c
rest_of_rest a b c first second = record {
  count = second.count + first.count;
  is = first.is ∙ ap (drop first.count) second.is ∙ drop_drop first.count second.count c;
}

-- one byte more stands in front
pub rest_behind : (b : ℕ) (behind text : List ℕ) → IsRest behind text → IsRest behind (b ∷ text)
rest_behind b behind text rest = record { count = suc rest.count; is = rest.is }

-- a rest is what is left where as many bytes are dropped as it lacks
pub rest_is : (behind text : List ℕ) → IsRest behind text → behind ≡ drop (length text - length behind) text
rest_is behind text rest =
    let long : length behind ≡ length text - rest.count = ap length rest.is ∙ length-drop rest.count text in
    let count : min rest.count (length text) ≡ length text - length behind = omega (arith, long) in
    rest.is ∙ sym (drop_min rest.count text) ∙ ap (λ k. drop k text) count

-- ---- attributes

value_rest : (text : List ℕ) → IsRest (value_at text).behind text
value_rest [] = all_left []
value_rest (b ∷ text) = choose (is_quote b) refl
  where
    choose : (v : Bool) → is_quote b ≡ v → IsRest (value_at (b ∷ text)).behind (b ∷ text)
    choose true is = rw is (rest_behind b _ text (dropped _ text))
    choose false is = rw is (dropped _ (b ∷ text))

value_behind_rest : (text : List ℕ) → IsRest (value_behind text).behind text
value_behind_rest text = choose (starts_with nat_eq (trimmed_front text) (61 ∷ [])) refl
  where
    front : List ℕ
    front = trimmed_front text

    value : List ℕ
    value = trimmed_front (drop 1 front)

    choose : (v : Bool) → starts_with nat_eq front (61 ∷ []) ≡ v → IsRest (value_behind text).behind text
    choose true is =
        rw is
        (rest_of_rest _ _ text (value_rest value)
        (rest_of_rest _ _ text (dropped _ (drop 1 front)) (rest_of_rest _ _ text (dropped 1 front) (dropped _ text))))
    choose false is = rw is (all_left text)

-- where the first byte does not end it, what is read takes that byte
from_first_shorter : (test : ℕ → Bool) (b : ℕ) (text : List ℕ) → test b ≡ false
    → IsRest (from_first test (b ∷ text)) text
from_first_shorter test b text is =
    let n : ℕ = position_or_len test text in
    let more : 1 + n ≡ suc n = omega arith in
    rw is (record { count = n; is = ap (λ k. drop k (b ∷ text)) more })

pub attribute_shorter : (b : ℕ) (text : List ℕ) → ends_name b ≡ false
    → IsRest (attribute_at (b ∷ text)).behind text
attribute_shorter b text is =
    rest_of_rest _ _ text (value_behind_rest (from_first ends_name (b ∷ text)))
    (from_first_shorter ends_name b text is)

abbrev IsFollowed : Option (Read (List Attribute)) → List ℕ → Type 0
IsFollowed found text = IfSome found (λ (read : Read (List Attribute)). IsRest read.behind text)

followed_behind : (b : ℕ) (found : Option (Read (List Attribute))) (text : List ℕ) → IsFollowed found text
    → IsFollowed found (b ∷ text)
followed_behind b None text rest = tt
followed_behind b (Some read) text rest = rest_behind b read.behind text rest

with_followed : (attribute : Attribute) (found : Option (Read (List Attribute))) (text : List ℕ)
    → IsFollowed found text → IsFollowed (with_attribute attribute found) text
with_followed attribute None text rest = tt
with_followed attribute (Some read) text rest = rest

attributes_rest : (n : ℕ) (text : List ℕ) → IsFollowed (attributes_from n text) text
attributes_rest n [] = tt
attributes_rest (suc n) (b ∷ text) = followed_behind b (attributes_from n text) text (attributes_rest n text)
attributes_rest zero (b ∷ text) = choose (λ n. attributes_rest n text) (is_greater b) refl (is_stray b) refl
  where
    choose : ((n : ℕ) → IsFollowed (attributes_from n text) text) → (greater : Bool) → is_greater b ≡ greater
        → (stray : Bool) → is_stray b ≡ stray → IsFollowed (attributes_from 0 (b ∷ text)) (b ∷ text)
    choose more true is stray _ = rw (attributes-end b text is) (rest_behind b text text (all_left text))
    choose more false is true too =
        rw (attributes-stray b text is too) (followed_behind b (attributes_from 0 text) text (more 0))
    choose more false is false too =
        let n : ℕ = length text - length (attribute_at (b ∷ text)).behind in
        rw (attributes-more b text is too)
        (followed_behind b _ text (with_followed (attribute_at (b ∷ text)).what (attributes_from n text) text (more n)))

pub attributes_dropped : (n : ℕ) (text : List ℕ) → attributes_from n text ≡ attributes (drop n text)
attributes_dropped n [] = ap attributes (sym (drop-nil n))
attributes_dropped zero (b ∷ text) = refl
attributes_dropped (suc n) (b ∷ text) = attributes_dropped n text

-- ---- tokens

with_tag_rest : (tag : List Attribute → Token) (found : Option (Read (List Attribute))) (text : List ℕ)
    → IsFollowed found text → IsRest (tag_with tag found).behind text
with_tag_rest tag None text rest = none_left text
with_tag_rest tag (Some read) text rest = rest

tag_rest : (tag : List ℕ → List Attribute → Token) (text : List ℕ) → IsRest (tag_at tag text).behind text
tag_rest tag text =
    let behind : List ℕ = from_first ends_tag_name text in
    rest_of_rest _ behind text (with_tag_rest _ (attributes behind) behind (attributes_rest 0 behind)) (dropped _ text)

comment_rest : (text : List ℕ) → IsRest (behind_comment text) text
comment_rest [] = all_left []
comment_rest (b ∷ text) = choose (comment_rest text) (starts_with nat_eq (b ∷ text) (codes "-->")) refl
  where
    choose : IsRest (behind_comment text) text → (ends : Bool) → starts_with nat_eq (b ∷ text) (codes "-->") ≡ ends
        → IsRest (behind_comment (b ∷ text)) (b ∷ text)
    choose more true is = rw is (rest_behind b _ text (dropped 2 text))
    choose more false is = rw is (rest_behind b _ text more)

end_rest : (text : List ℕ) → IsRest (end_at text).behind text
end_rest text = choose (begins_with_letter text) refl
  where
    choose : (letter : Bool) → begins_with_letter text ≡ letter → IsRest (end_at text).behind text
    choose true is = rw (end_at-tag text is) (tag_rest (λ name attributes. Close name) text)
    choose false is = rw (end_at-passed text is) (dropped _ text)

declaration_rest : (text : List ℕ) → IsRest (declaration_at text).behind text
declaration_rest text = choose (starts_with nat_eq text (codes "--")) refl
  where
    choose : (comment : Bool) → starts_with nat_eq text (codes "--") ≡ comment
        → IsRest (declaration_at text).behind text
    choose true is =
        rw (declaration_at-comment text is)
        (rest_of_rest _ _ text (comment_rest (drop 2 text)) (dropped 2 text))
    choose false is = rw (declaration_at-other text is) (dropped _ text)

less_rest : (b : ℕ) (text : List ℕ) → IsRest (less_at b text).behind (b ∷ text)
less_rest b text = choose (b == 33) refl (b == 47) refl (is_ascii_alphabetic b) refl
  where
    choose : (bang : Bool) → (b == 33) ≡ bang → (slash : Bool) → (b == 47) ≡ slash → (letter : Bool)
        → is_ascii_alphabetic b ≡ letter → IsRest (less_at b text).behind (b ∷ text)
    choose true is slash _ letter _ =
        rw (less_at-bang b text is) (rest_behind b _ text (declaration_rest text))
    choose false is true too letter _ =
        rw (less_at-slash b text is too) (rest_behind b _ text (end_rest text))
    choose false is false too true three =
        rw (less_at-letter b text is too three) (tag_rest Open (b ∷ text))
    choose false is false too false three = rw (less_at-text b text is too three) (all_left (b ∷ text))

tag_or_text_rest : (text : List ℕ) → IsRest (tag_or_text text).behind text
tag_or_text_rest [] = all_left []
tag_or_text_rest (b ∷ text) = less_rest b text

-- what stands behind what a text begins with is a rest of the bytes behind its first
pub front_rest : (b : ℕ) (text : List ℕ) → IsRest (front b text).behind text
front_rest b text = choose (is_less b) refl
  where
    choose : (less : Bool) → is_less b ≡ less → IsRest (front b text).behind text
    choose true is = rw (front-less b text is) (tag_or_text_rest text)
    choose false is = rw (front-text b text is) (from_first_shorter is_less b text is)

tokens_dropped : (n : ℕ) (text : List ℕ) → tokens_from n text ≡ tokens (drop n text)
tokens_dropped n [] = ap tokens (sym (drop-nil n))
tokens_dropped zero (b ∷ text) = refl
tokens_dropped (suc n) (b ∷ text) = tokens_dropped n text

-- the tokens of a text: what it begins with, and those of what stands behind that
pub tokens-step : (b : ℕ) (bytes : List ℕ)
    → tokens (b ∷ bytes) ≡ option_to_list (front b bytes).what ++ tokens (front b bytes).behind
tokens-step b bytes =
    let behind : List ℕ = (front b bytes).behind in
    ap (λ more. option_to_list (front b bytes).what ++ more)
    (tokens_dropped (length bytes - length behind) bytes
    ∙ ap tokens (sym (rest_is behind bytes (front_rest b bytes))))

-- what stands behind is shorter
pub front_shorter : (b : ℕ) (bytes : List ℕ) → length (front b bytes).behind < length (b ∷ bytes)
front_shorter b bytes =
    let rest : IsRest (front b bytes).behind bytes = front_rest b bytes in
    omega (arith, ap length rest.is, length-drop rest.count bytes)
