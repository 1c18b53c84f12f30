-- The values in the tags of a text are together no longer than the text.
use Rattle.std.proofs.Common.{◌≡◌, ◌≤◌, ◌+◌, ◌-◌, ◌==◌, ◌||◌, ℕ, zero, suc, Bool, true, false, List, [], ◌∷◌}
use Rattle.std.proofs.Common.{◌++◌, arith, cond, drop, length, length-drop, map, refl, take}
use Rattle.std.proofs.Common.{Option, Some, None, if◌then◌else◌}
use Rattle.std.specs.Prelude.{⊤, codes, nat_eq}
use Rattle.std.specs.Char.{is_ascii_alphabetic}
use Rattle.std.specs.List.{AllByRecursion, before_first, find, position_or_len, prefix_len, starts_with}
use Rattle.std.specs.Option.{option_map, option_to_list, unwrap_or}
use Rattle.std.proofs.lemmas.List.{length-take}
use Rattle.pl_base.proofs.ListLaws.{weaker}
use Rattle.pl_base.specs.Good.{is_blank}
use Rattle.pl_words.specs.TagName.{trimmed_front}
use Rattle.pl_nbread.specs.BookmarkTree.{raw}
use Rattle.pl_nbread.specs.Parts.{Part, Heading, Link, ListStart, ListEnd, Rule, TitleEnd, Words}
use Rattle.pl_nbread.specs.Parts.{Other, closed, is_name, opened, part_of}
use Rattle.pl_nbread.specs.Tokens.{Attribute, Read, Token, Open, Close, Text, attribute_at}
use Rattle.pl_nbread.specs.Tokens.{attributes, attributes_from, begins_with_letter, behind_comment}
use Rattle.pl_nbread.specs.Tokens.{behind_first, declaration_at, end_at, ends_bare_value, ends_name}
use Rattle.pl_nbread.specs.Tokens.{ends_tag_name, from_first, front, is_greater, is_less, is_quote}
use Rattle.pl_nbread.specs.Tokens.{is_stray, less_at, passed, tag_at, tag_or_text, tag_with, tokens}
use Rattle.pl_nbread.specs.Tokens.{tokens_from, value_at, value_behind, with_attribute}

-- ---- attributes

shorter : (k : ℕ) (text : List ℕ) → length (drop k text) ≤ length text
shorter k text = omega (arith, length-drop k text)

parted : (k m : ℕ) (text : List ℕ) → k ≤ m → length (take k text) + length (drop m text) ≤ length text
parted k m text within = omega (arith, length-take k text, length-drop m text)

-- a value and what stands behind it
pub record Within (n : ℕ) (read : Read (List ℕ)) : Type 0 where
  pub sum : length read.what + length read.behind ≤ n

either : (v : Bool) (n : ℕ) (x y : Read (List ℕ)) → Within n x → Within n y → Within n (if v then x else y)
either true n x y first second = first
either false n x y first second = second

value_within : (text : List ℕ) → Within (length text) (value_at text)
value_within [] = record { sum = omega arith }
value_within (b ∷ text) =
    either (is_quote b) (length (b ∷ text))
    (record { what = before_first (nat_eq b) text; behind = behind_first (nat_eq b) text })
    (record {
      what = before_first ends_bare_value (b ∷ text);
      behind = from_first ends_bare_value (b ∷ text);
    })
    (record {
      sum =
          let this : length (before_first (nat_eq b) text) + length (behind_first (nat_eq b) text) ≤ length text =
          parted (position_or_len (nat_eq b) text) (position_or_len (nat_eq b) text + 1) text (omega arith) in
          omega arith;
    })
    (record {
      sum =
          parted (position_or_len ends_bare_value (b ∷ text)) (position_or_len ends_bare_value (b ∷ text)) (b ∷ text)
          (omega arith);
    })

behind_within : (text : List ℕ) → Within (length text) (value_behind text)
behind_within text =
    either (starts_with nat_eq (trimmed_front text) (61 ∷ [])) (length text)
    (value_at (trimmed_front (drop 1 (trimmed_front text)))) (record { what = []; behind = text })
    (record {
      sum =
          omega (
            arith,
            (value_within (trimmed_front (drop 1 (trimmed_front text)))).sum,
            shorter (prefix_len is_blank (drop 1 (trimmed_front text))) (drop 1 (trimmed_front text)),
            shorter 1 (trimmed_front text),
            shorter (prefix_len is_blank text) text,
          );
    })
    (record { sum = omega arith })

attribute_within : (text : List ℕ)
    → length (attribute_at text).what.value + length (attribute_at text).behind ≤ length text
attribute_within text =
    omega (arith, (behind_within (from_first ends_name text)).sum, shorter (position_or_len ends_name text) text)

-- each value and what stands behind the tag are within this, and so is that with what was skipped
abbrev Holds : ℕ → ℕ → Option (Read (List Attribute)) → Type 0
Holds skipped n None = ⊤
Holds skipped n (Some read) =
    AllByRecursion (λ (a : Attribute). length a.value + length read.behind ≤ n) read.what
    × (length read.behind + skipped ≤ n)

wider : (s n t m : ℕ) (found : Option (Read (List Attribute))) → n ≤ m → n + t ≤ m + s → Holds s n found
    → Holds t m found
wider s n t m None more less holds = tt
wider s n t m (Some read) more less holds = (
  weaker (λ (a : Attribute). length a.value + length read.behind ≤ n)
      (λ (a : Attribute). length a.value + length read.behind ≤ m) read.what
      (λ a within. omega (arith, within)) holds.0,
  omega (arith, holds.1),
)

one_more : (a : Attribute) (left n : ℕ) (found : Option (Read (List Attribute)))
    → length a.value + left ≤ suc n → Holds (n - left) n found → Holds 0 (suc n) (with_attribute a found)
one_more a left n None within holds = tt
one_more a left n (Some read) within holds = (
  (
    omega (arith, holds.1),
    weaker (λ (b : Attribute). length b.value + length read.behind ≤ n)
        (λ (b : Attribute). length b.value + length read.behind ≤ suc n) read.what
        (λ b fits. omega (arith, fits)) holds.0,
  ),
  omega (arith, holds.1),
)

attributes_hold : (n : ℕ) (text : List ℕ) → Holds n (length text) (attributes_from n text)
attributes_hold n [] = tt
attributes_hold (suc n) (b ∷ text) =
    wider n (length text) (suc n) (suc (length text)) (attributes_from n text) (omega arith) (omega arith)
    (attributes_hold n text)
attributes_hold zero (b ∷ text) =
    choose (is_greater b) (is_stray b) (attributes_hold 0 text)
    (attributes_hold (length text - length (attribute_at (b ∷ text)).behind) text)
  where
    choose : (v w : Bool) → Holds 0 (length text) (attributes_from 0 text)
        → Holds (length text - length (attribute_at (b ∷ text)).behind) (length text)
        (attributes_from (length text - length (attribute_at (b ∷ text)).behind) text)
        → Holds 0 (suc (length text)) (elim v [
          | true ↦ Some (record { what = []; behind = text })
          | false ↦ elim w [
            | true ↦ attributes_from 0 text
            | false ↦ with_attribute (attribute_at (b ∷ text)).what
                (attributes_from (length text - length (attribute_at (b ∷ text)).behind) text)
          ]
        ])
    choose true w next far = (tt, omega arith)
    choose false true next far =
        wider 0 (length text) 0 (suc (length text)) (attributes_from 0 text) (omega arith) (omega arith) next
    choose false false next far =
        one_more (attribute_at (b ∷ text)).what (length (attribute_at (b ∷ text)).behind) (length text)
        (attributes_from (length text - length (attribute_at (b ∷ text)).behind) text)
        (attribute_within (b ∷ text)) far

raw_within : (name : List ℕ) (k n : ℕ) (all : List Attribute)
    → AllByRecursion (λ (a : Attribute). length a.value + k ≤ n) all → k ≤ n
    → length (unwrap_or (raw name all) []) + k ≤ n
raw_within name k n [] fit within = omega arith
raw_within name k n (a ∷ all) fit within =
    choose (is_name name a.name) fit.0 (raw_within name k n all fit.1 within)
  where
    choose : (v : Bool) → length a.value + k ≤ n → length (unwrap_or (raw name all) []) + k ≤ n
        → length (unwrap_or (option_map (λ (a : Attribute). a.value)
        (cond v (Some a) (find (λ (a : Attribute). is_name name a.name) all))) []) + k ≤ n
    choose true this rest = this
    choose false this rest = rest

-- ---- tokens

-- a bookmark's value of tags and one byte more
abbrev pub weight : Part → ℕ
weight (Link a) = 1 + length (unwrap_or (raw (codes "tags") a) [])
weight (Heading a) = 0
weight ListStart = 0
weight ListEnd = 0
weight Rule = 0
weight TitleEnd = 0
weight (Words text) = 0
weight Other = 0

-- all of them
abbrev pub total : List Part → ℕ
total [] = 0
total (part ∷ parts) = weight part + total parts

opened_weight : (name : List ℕ) (a : List Attribute)
    → weight (opened name a) ≤ 1 + length (unwrap_or (raw (codes "tags") a) [])
opened_weight name a =
    choose (is_name (codes "h3") name) (is_name (codes "a") name) (is_name (codes "dl") name)
    (is_name (codes "hr") name) (is_name (codes "dt") name || is_name (codes "dd") name)
  where
    choose : (h3 a_tag dl hr ends : Bool)
        → weight (if h3 then Heading a else if a_tag then Link a else if dl then ListStart else
        if hr then Rule else if ends then TitleEnd else Other) ≤ 1 + length (unwrap_or (raw (codes "tags") a) [])
    choose true a_tag dl hr ends = omega arith
    choose false true dl hr ends = omega arith
    choose false false true hr ends = omega arith
    choose false false false true ends = omega arith
    choose false false false false true = omega arith
    choose false false false false false = omega arith

closed_weight : (name : List ℕ) → weight (closed name) ≡ 0
closed_weight name =
    choose (is_name (codes "dl") name) (is_name (codes "h3") name || is_name (codes "a") name)
  where
    choose : (dl ends : Bool) → weight (if dl then ListEnd else if ends then TitleEnd else Other) ≡ 0
    choose true ends = refl
    choose false true = refl
    choose false false = refl

abbrev token_weight : Option Token → ℕ
token_weight None = 0
token_weight (Some token) = weight (part_of token)

-- what was read and what stands behind it
pub record Spends (n : ℕ) (read : Read (Option Token)) : Type 0 where
  pub sum : token_weight read.what + length read.behind ≤ n

more_spent : (n m : ℕ) (read : Read (Option Token)) → n ≤ m → Spends n read → Spends m read
more_spent n m read within spends = record { sum = omega (arith, spends.sum) }

open_spends : (name : List ℕ) (n : ℕ) (found : Option (Read (List Attribute))) → Holds 0 n found
    → Spends (suc n) (tag_with (Open name) found)
open_spends name n None holds = record { sum = omega arith }
open_spends name n (Some read) holds = record {
  sum =
      omega (
        arith,
        opened_weight name read.what,
        raw_within (codes "tags") (length read.behind) n read.what holds.0 (omega (arith, holds.1)),
      );
}

close_spends : (name : List ℕ) (n : ℕ) (found : Option (Read (List Attribute))) → Holds 0 n found
    → Spends (suc n) (tag_with (λ (a : List Attribute). Close name) found)
close_spends name n None holds = record { sum = omega arith }
close_spends name n (Some read) holds = record { sum = omega (arith, closed_weight name, holds.1) }

passed_spends : (n : ℕ) (behind : List ℕ) → length behind ≤ n → Spends n (passed behind)
passed_spends n behind within = record { sum = omega arith }

behind_shorter : (text : List ℕ) → length (behind_comment text) ≤ length text
behind_shorter [] = omega arith
behind_shorter (b ∷ text) = choose (starts_with nat_eq (b ∷ text) (codes "-->")) (behind_shorter text)
  where
    choose : (v : Bool) → length (behind_comment text) ≤ length text
        → length (if v then drop 2 text else behind_comment text) ≤ suc (length text)
    choose true rest = omega (arith, shorter 2 text)
    choose false rest = omega arith

from_name : (text : List ℕ) → length (from_first ends_tag_name text) ≤ length text
from_name text = shorter (position_or_len ends_tag_name text) text

behind_greater : (text : List ℕ) → length (behind_first is_greater text) ≤ length text
behind_greater text = shorter (position_or_len is_greater text + 1) text

end_spends : (text : List ℕ) → Spends (suc (length text)) (end_at text)
end_spends text = choose (begins_with_letter text)
  where
    choose : (v : Bool) → Spends (suc (length text)) (elim v [
      | true ↦ tag_at (λ name attributes. Close name) text
      | false ↦ passed (behind_first is_greater text)
    ])
    choose true =
        more_spent (suc (length (from_first ends_tag_name text))) (suc (length text)) _ (omega (arith, from_name text))
        (close_spends (before_first ends_tag_name text) (length (from_first ends_tag_name text))
        (attributes (from_first ends_tag_name text)) (attributes_hold 0 (from_first ends_tag_name text)))
    choose false =
        passed_spends (suc (length text)) (behind_first is_greater text) (omega (arith, behind_greater text))

declaration_spends : (text : List ℕ) → Spends (suc (length text)) (declaration_at text)
declaration_spends text = choose (starts_with nat_eq text (codes "--"))
  where
    choose : (v : Bool) → Spends (suc (length text)) (elim v [
      | true ↦ passed (behind_comment (drop 2 text))
      | false ↦ passed (behind_first is_greater text)
    ])
    choose true =
        passed_spends (suc (length text)) (behind_comment (drop 2 text))
        (omega (arith, behind_shorter (drop 2 text), shorter 2 text))
    choose false =
        passed_spends (suc (length text)) (behind_first is_greater text) (omega (arith, behind_greater text))

open_at_spends : (text : List ℕ) → Spends (suc (length text)) (tag_at Open text)
open_at_spends text =
    more_spent (suc (length (from_first ends_tag_name text))) (suc (length text)) (tag_at Open text)
    (omega (arith, from_name text))
    (open_spends (before_first ends_tag_name text) (length (from_first ends_tag_name text))
    (attributes (from_first ends_tag_name text)) (attributes_hold 0 (from_first ends_tag_name text)))

less_spends : (b : ℕ) (text : List ℕ) → Spends (suc (suc (length text))) (less_at b text)
less_spends b text = choose (b == 33) (b == 47) (is_ascii_alphabetic b)
  where
    choose : (u v w : Bool) → Spends (suc (suc (length text))) (elim u [
      | true ↦ declaration_at text
      | false ↦ elim v [
        | true ↦ end_at text
        | false ↦ elim w [
          | true ↦ tag_at Open (b ∷ text)
          | false ↦ record { what = Some (Text (60 ∷ [])); behind = b ∷ text }
        ]
      ]
    ])
    choose true v w =
        more_spent (suc (length text)) (suc (suc (length text))) (declaration_at text) (omega arith)
        (declaration_spends text)
    choose false true w =
        more_spent (suc (length text)) (suc (suc (length text))) (end_at text) (omega arith) (end_spends text)
    choose false false true = open_at_spends (b ∷ text)
    choose false false false = record { sum = omega arith }

tag_spends : (text : List ℕ) → Spends (suc (length text)) (tag_or_text text)
tag_spends [] = record { sum = omega arith }
tag_spends (b ∷ text) = less_spends b text

front_spends : (b : ℕ) (text : List ℕ) → Spends (suc (length text)) (front b text)
front_spends b text = choose (is_less b)
  where
    choose : (v : Bool) → Spends (suc (length text)) (elim v [
      | true ↦ tag_or_text text
      | false ↦ record {
        what = Some (Text (before_first is_less (b ∷ text)));
        behind = from_first is_less (b ∷ text);
      }
    ])
    choose true = tag_spends text
    choose false = record { sum = omega (arith, shorter (position_or_len is_less (b ∷ text)) (b ∷ text)) }

one_first : (token : Option Token) (more : List Token)
    → total (map part_of (option_to_list token ++ more)) ≡ token_weight token + total (map part_of more)
one_first None more = omega arith
one_first (Some token) more = refl

tokens_within : (n : ℕ) (text : List ℕ) → total (map part_of (tokens_from n text)) ≤ length text - n
tokens_within n [] = omega arith
tokens_within (suc n) (b ∷ text) = omega (arith, tokens_within n text)
tokens_within zero (b ∷ text) =
    omega (
      arith,
      one_first (front b text).what (tokens_from (length text - length (front b text).behind) text),
      (front_spends b text).sum,
      tokens_within (length text - length (front b text).behind) text,
    )

-- the values of tags in a text are together no longer than the text
pub total_within : (text : List ℕ) → total (map part_of (tokens text)) ≤ length text
total_within text = omega (arith, tokens_within 0 text)
