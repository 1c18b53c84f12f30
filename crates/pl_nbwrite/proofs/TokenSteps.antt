-- The tokens of a text from its front on, where the text is known.
use Rattle.std.proofs.Common.{◌≡◌, ◌∙◌, ◌-◌, ◌+◌, ◌==◌, ℕ, suc, Bool, true, false, not, List, [], ◌∷◌, ◌++◌}
use Rattle.std.proofs.Common.{Option, Some, ap, append_assoc, arith, cond, drop, length, map, nat_eq, refl, sym, take}
use Rattle.std.specs.Char.{is_ascii_alphabetic}
use Rattle.std.specs.List.{before_first, list_all, position_or_len}
use Rattle.std.specs.Option.{option_to_list}
use Rattle.std.proofs.Math.Seq.{drop-append-add, drop-append_seam, take-append_seam}
use Rattle.std.proofs.lemmas.Bool.{and_parts, not-true}
use Rattle.pl_nbread.specs.BookmarkTree.{Made, menu}
use Rattle.pl_nbread.specs.Building.{made_within, title_ahead}
use Rattle.pl_nbread.specs.Parts.{Part, part_of}
use Rattle.pl_nbread.specs.Tokens.{Attribute, Read, Token, Open, Text, attribute_at, attributes}
use Rattle.pl_nbread.specs.Tokens.{behind_first, ends_name, ends_tag_name, from_first, is_greater, is_less, is_stray}
use Rattle.pl_nbread.specs.Tokens.{tag_with, tokens, value_behind, with_attribute}
use Rattle.pl_nbread.proofs.TokenLaws.{attribute_shorter, attributes-more, attributes-stray, attributes_dropped}
use Rattle.pl_nbread.proofs.TokenLaws.{front-text, less_at-letter, rest_is, tokens-step}
use Rattle.pl_nbwrite.specs.BookmarkText.{attribute}

-- ---- places, which have no name outside of their crate

abbrev of_type : {A : Type 0} → A → Type 0
of_type {A} a = A

abbrev pub Place : Type 0
Place = of_type menu

abbrev pub Root : Type 0
Root = of_type menu.root

-- ---- a text up to a byte

-- no byte of a text passes the test
abbrev pub lacks : (ℕ → Bool) → List ℕ → Bool
lacks test run = list_all (λ c. not (test c)) run

one_more : (n : ℕ) → 1 + n ≡ suc n
one_more n = omega arith

pub found_at : (test : ℕ → Bool) (run : List ℕ) (b : ℕ) (rest : List ℕ) → lacks test run ≡ true → test b ≡ true
    → position_or_len test (run ++ b ∷ rest) ≡ length run
found_at test [] b rest none is =
    ap (λ (v : Bool). cond (not v) (1 + position_or_len test rest) 0) is
found_at test (c ∷ run) b rest none is =
    let parts = and_parts (not (test c)) (lacks test run) none in
    ap (λ (v : Bool). cond v (1 + position_or_len test (run ++ b ∷ rest)) 0) parts.0
    ∙ ap (λ (n : ℕ). 1 + n) (found_at test run b rest parts.1 is) ∙ one_more (length run)

pub cut-before : (test : ℕ → Bool) (run : List ℕ) (b : ℕ) (rest : List ℕ) → lacks test run ≡ true → test b ≡ true
    → before_first test (run ++ b ∷ rest) ≡ run
cut-before test run b rest none is =
    ap (λ (n : ℕ). take n (run ++ b ∷ rest)) (found_at test run b rest none is) ∙ take-append_seam run (b ∷ rest)

pub cut-from : (test : ℕ → Bool) (run : List ℕ) (b : ℕ) (rest : List ℕ) → lacks test run ≡ true → test b ≡ true
    → from_first test (run ++ b ∷ rest) ≡ b ∷ rest
cut-from test run b rest none is =
    ap (λ (n : ℕ). drop n (run ++ b ∷ rest)) (found_at test run b rest none is) ∙ drop-append_seam run (b ∷ rest)

pub cut-behind : (test : ℕ → Bool) (run : List ℕ) (b : ℕ) (rest : List ℕ) → lacks test run ≡ true → test b ≡ true
    → behind_first test (run ++ b ∷ rest) ≡ rest
cut-behind test run b rest none is =
    ap (λ (n : ℕ). drop (n + 1) (run ++ b ∷ rest)) (found_at test run b rest none is)
    ∙ drop-append-add run (b ∷ rest) 1

-- ---- attributes

abbrev value_read : List ℕ → List ℕ → Read (List ℕ)
value_read value rest = record { what = value; behind = rest }

value-quoted : (value rest : List ℕ) → lacks (nat_eq 34) value ≡ true
    → value_behind (61 ∷ 34 ∷ (value ++ 34 ∷ rest)) ≡ value_read value rest
value-quoted value rest none =
    ap (λ (w : List ℕ). value_read w (behind_first (nat_eq 34) (value ++ 34 ∷ rest)))
    (cut-before (nat_eq 34) value 34 rest none refl)
    ∙ ap (value_read value) (cut-behind (nat_eq 34) value 34 rest none refl)

abbrev pub named : List ℕ → List ℕ → Attribute
named name value = record { name = name; value = value }

abbrev whole : List ℕ → Read (List ℕ) → Read Attribute
whole name value = record { what = record { name = name; value = value.what }; behind = value.behind }

attribute-read : (name value rest : List ℕ) → lacks ends_name name ≡ true → lacks (nat_eq 34) value ≡ true
    → attribute_at (name ++ 61 ∷ 34 ∷ (value ++ 34 ∷ rest)) ≡ whole name (value_read value rest)
attribute-read name value rest own none =
    let behind : List ℕ = 34 ∷ (value ++ 34 ∷ rest) in
    ap (λ (r : Read (List ℕ)). whole (before_first ends_name (name ++ 61 ∷ behind)) r)
    (ap value_behind (cut-from ends_name name 61 behind own refl) ∙ value-quoted value rest none)
    ∙ ap (λ (n : List ℕ). whole n (value_read value rest)) (cut-before ends_name name 61 behind own refl)

one_attribute : (b : ℕ) (bytes : List ℕ) → is_greater b ≡ false → is_stray b ≡ false → ends_name b ≡ false
    → attributes (b ∷ bytes)
    ≡ with_attribute (attribute_at (b ∷ bytes)).what (attributes (attribute_at (b ∷ bytes)).behind)
one_attribute b bytes is too own =
    let behind : List ℕ = (attribute_at (b ∷ bytes)).behind in
    attributes-more b bytes is too
    ∙ ap (with_attribute (attribute_at (b ∷ bytes)).what)
    (attributes_dropped (length bytes - length behind) bytes
    ∙ ap attributes (sym (rest_is behind bytes (attribute_shorter b bytes own))))

regrouped : (b : ℕ) (name value rest : List ℕ)
    → attribute (b ∷ name) value ++ rest ≡ 32 ∷ b ∷ (name ++ 61 ∷ 34 ∷ (value ++ 34 ∷ rest))
regrouped b name value rest = simp append_assoc

-- an attribute as it is written, and what stands behind it
pub attribute-step : (b : ℕ) (name value rest : List ℕ) → is_greater b ≡ false → is_stray b ≡ false
    → lacks ends_name (b ∷ name) ≡ true → lacks (nat_eq 34) value ≡ true
    → attributes (attribute (b ∷ name) value ++ rest) ≡ with_attribute (named (b ∷ name) value) (attributes rest)
attribute-step b name value rest is too own none =
    let bytes : List ℕ = name ++ 61 ∷ 34 ∷ (value ++ 34 ∷ rest) in
    let first = and_parts (not (ends_name b)) (lacks ends_name name) own in
    ap attributes (regrouped b name value rest)
    ∙ attributes-stray 32 (b ∷ bytes) refl refl
    ∙ one_attribute b bytes is too (not-true (ends_name b) first.0)
    ∙ ap (λ (r : Read Attribute). with_attribute r.what (attributes r.behind))
    (attribute-read (b ∷ name) value rest own none)

-- ---- tags

abbrev after_front : Read (Option Token) → List Token
after_front read = option_to_list read.what ++ tokens read.behind

abbrev found : List Attribute → List ℕ → Option (Read (List Attribute))
found all rest = Some (record { what = all; behind = rest })

-- a tag with attributes
pub open-tag : (b : ℕ) (name : List ℕ) (e : ℕ) (more : List ℕ) (all : List Attribute) (rest : List ℕ)
    → (b == 33) ≡ false → (b == 47) ≡ false → is_ascii_alphabetic b ≡ true → lacks ends_tag_name (b ∷ name) ≡ true
    → ends_tag_name e ≡ true → attributes (e ∷ more) ≡ Some (record { what = all; behind = rest })
    → tokens (60 ∷ b ∷ (name ++ e ∷ more)) ≡ Open (b ∷ name) all ∷ tokens rest
open-tag b name e more all rest is too three own ends read =
    let bytes : List ℕ = name ++ e ∷ more in
    let from : List ℕ = from_first ends_tag_name (b ∷ bytes) in
    tokens-step 60 (b ∷ bytes)
    ∙ ap after_front
    (less_at-letter b bytes is too three
    ∙ ap (λ (n : List ℕ). tag_with (Open n) (attributes from)) (cut-before ends_tag_name (b ∷ name) e more own ends)
    ∙ ap (tag_with (Open (b ∷ name)))
    (ap attributes (cut-from ends_tag_name (b ∷ name) e more own ends) ∙ read))

-- ---- text

abbrev pub parts_of : List ℕ → List Part
parts_of bytes = map part_of (tokens bytes)

words : (b : ℕ) (bytes : List ℕ) → is_less b ≡ false
    → tokens (b ∷ bytes) ≡ Text (before_first is_less (b ∷ bytes)) ∷ tokens (from_first is_less (b ∷ bytes))
words b bytes is = tokens-step b bytes ∙ ap after_front (front-text b bytes is)

-- a byte that is no `<` is before the first one
front_more : (b : ℕ) (bytes : List ℕ) → is_less b ≡ false
    → from_first is_less (b ∷ bytes) ≡ from_first is_less bytes
front_more b bytes is =
    ap (λ (v : Bool). drop (cond (not v) (1 + position_or_len is_less bytes) 0) (b ∷ bytes)) is
    ∙ ap (λ (n : ℕ). drop n (b ∷ bytes)) (one_more (position_or_len is_less bytes))

before_more : (b : ℕ) (bytes : List ℕ) → is_less b ≡ false
    → before_first is_less (b ∷ bytes) ≡ b ∷ before_first is_less bytes
before_more b bytes is =
    ap (λ (v : Bool). take (cond (not v) (1 + position_or_len is_less bytes) 0) (b ∷ bytes)) is
    ∙ ap (λ (n : ℕ). take n (b ∷ bytes)) (one_more (position_or_len is_less bytes))

module _ (here : Place) (outer : List Place) (pending : Option Place) where
  abbrev made : List Part → List Made
  made parts = made_within here outer pending parts

  made_front : (bytes : List ℕ) → made (parts_of bytes) ≡ made (parts_of (from_first is_less bytes))
  made_front [] = refl
  made_front (b ∷ bytes) = choose (is_less b) refl
    where
      choose : (v : Bool) → is_less b ≡ v
          → made (parts_of (b ∷ bytes)) ≡ made (parts_of (from_first is_less (b ∷ bytes)))
      choose true is =
          ap (λ (v : Bool). made (parts_of (drop (cond (not v) (1 + position_or_len is_less bytes) 0) (b ∷ bytes))))
          (sym is)
      choose false is = ap (λ (all : List Token). made (map part_of all)) (words b bytes is)

  -- text says nothing of what is made
  pub skip : (b : ℕ) (bytes : List ℕ) → is_less b ≡ false → made (parts_of (b ∷ bytes)) ≡ made (parts_of bytes)
  skip b bytes is =
      made_front (b ∷ bytes) ∙ ap (λ (l : List ℕ). made (parts_of l)) (front_more b bytes is) ∙ sym (made_front bytes)

  pub skip_run : (run bytes : List ℕ) → lacks is_less run ≡ true → made (parts_of (run ++ bytes)) ≡ made (parts_of bytes)
  skip_run [] bytes none = refl
  skip_run (b ∷ run) bytes none =
      let parts = and_parts (not (is_less b)) (lacks is_less run) none in
      skip b (run ++ bytes) (not-true (is_less b) parts.0) ∙ skip_run run bytes parts.1

title_front : (bytes : List ℕ)
    → title_ahead (parts_of bytes) ≡ before_first is_less bytes ++ title_ahead (parts_of (from_first is_less bytes))
title_front [] = refl
title_front (b ∷ bytes) = choose (is_less b) refl
  where
    choose : (v : Bool) → is_less b ≡ v → title_ahead (parts_of (b ∷ bytes))
        ≡ before_first is_less (b ∷ bytes) ++ title_ahead (parts_of (from_first is_less (b ∷ bytes)))
    choose true is =
        ap (λ (v : Bool). take (cond (not v) (1 + position_or_len is_less bytes) 0) (b ∷ bytes)
        ++ title_ahead (parts_of (drop (cond (not v) (1 + position_or_len is_less bytes) 0) (b ∷ bytes))))
        (sym is)
    choose false is = ap (λ (all : List Token). title_ahead (map part_of all)) (words b bytes is)

-- text is part of the title that is read
pub ahead : (b : ℕ) (bytes : List ℕ) → is_less b ≡ false
    → title_ahead (parts_of (b ∷ bytes)) ≡ b ∷ title_ahead (parts_of bytes)
ahead b bytes is =
    title_front (b ∷ bytes)
    ∙ ap (λ (l : List ℕ). l ++ title_ahead (parts_of (from_first is_less (b ∷ bytes)))) (before_more b bytes is)
    ∙ ap (λ (l : List ℕ). (b ∷ before_first is_less bytes) ++ title_ahead (parts_of l)) (front_more b bytes is)
    ∙ ap (λ (l : List ℕ). b ∷ l) (sym (title_front bytes))

pub ahead_run : (run bytes : List ℕ) → lacks is_less run ≡ true
    → title_ahead (parts_of (run ++ bytes)) ≡ run ++ title_ahead (parts_of bytes)
ahead_run [] bytes none = refl
ahead_run (b ∷ run) bytes none =
    let parts = and_parts (not (is_less b)) (lacks is_less run) none in
    ahead b (run ++ bytes) (not-true (is_less b) parts.0)
    ∙ ap (λ (l : List ℕ). b ∷ l) (ahead_run run bytes parts.1)
