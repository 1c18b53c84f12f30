-- What attributes say, as they are written.
use Rattle.std.proofs.Common.{◌≡◌, ◌∙◌, ◌*◌, ◌/◌, ◌<◌, ◌≤◌, ◌^◌, ℕ, Bool, true}
use Rattle.std.proofs.Common.{not, List, [], ◌∷◌, Some, ap, arith, decimal}
use Rattle.std.proofs.Common.{nat_eq, refl}
use Rattle.std.specs.Prelude.{codes, unwrap_or}
use Rattle.std.specs.Char.{is_ascii_digit}
use Rattle.std.specs.List.{list_all}
use Rattle.std.specs.Option.{option_and_then}
use Rattle.std.proofs.lemmas.Bool.{and_from, and_parts, cond-true, eqb-true, leb-true, lt-ltb}
use Rattle.std.proofs.lemmas.Bool.Decides.{nat_tests}
use Rattle.std.proofs.lemmas.Fmt.{decimal_is_IsNumeral}
use Rattle.pl_base.specs.declared.date.Micros.{Micros}
use Rattle.pl_base.specs.Tags.{comma_joined}
use Rattle.pl_base.proofs.Numerals.{all_digits, number_back}
use Rattle.pl_words.specs.TagLists.{each_once, is_same_tag}
use Rattle.pl_words.specs.TagName.{is_tag_name}
use Rattle.pl_nbread.specs.BookmarkTree as read
use Rattle.pl_nbread.specs.BookmarkTree.{if_date, micros, seconds_limit, tags_in}
use Rattle.pl_nbread.specs.References.{decoded}
use Rattle.pl_nbread.specs.Tokens.{Attribute, is_less}
use Rattle.pl_nbread.specs.WellFormed.{is_date}
use Rattle.pl_nbread.proofs.TagsRead.{no_tags, tags_read}
use Rattle.pl_nbwrite.specs.BookmarkText.{escaped, seconds}
use Rattle.pl_nbwrite.specs.Plain.{is_whole}
use Rattle.pl_nbwrite.proofs.DecodedBack.{decoded-digits, decoded-escaped, is_calm}
use Rattle.pl_nbwrite.proofs.TokenSteps.{lacks, named}

-- ---- tests of bytes

-- where one test passes each byte, so does a weaker one
pub weaker : (p q : ℕ → Bool) → ((b : ℕ) → p b ≡ true → q b ≡ true) → (text : List ℕ) → list_all p text ≡ true
    → list_all q text ≡ true
weaker p q leads [] all = refl
weaker p q leads (b ∷ text) all =
    let parts = and_parts (p b) (list_all p text) all in
    and_from (q b) (list_all q text) (leads b parts.0) (weaker p q leads text parts.1)

calm_quote : (b : ℕ) → is_calm b ≡ true → not (nat_eq 34 b) ≡ true
calm_quote b calm = grind (arith, nat_tests)

digit_quote : (b : ℕ) → is_ascii_digit b ≡ true → not (nat_eq 34 b) ≡ true
digit_quote b digit = grind (arith, nat_tests)

pub no_quote : (text : List ℕ) → list_all is_calm text ≡ true → lacks (nat_eq 34) text ≡ true
no_quote text calm = weaker is_calm (λ b. not (nat_eq 34 b)) calm_quote text calm

pub no_less : (text : List ℕ) → list_all is_calm text ≡ true → lacks is_less text ≡ true
no_less text calm = weaker is_calm (λ b. not (is_less b)) (λ b own. (and_parts _ _ own).0) text calm

-- ---- numbers

decimal_digits : (n : ℕ) → n < 2 ^ 64 → list_all is_ascii_digit (decimal n) ≡ true
decimal_digits n fits = all_digits (decimal n) (decimal_is_IsNumeral n fits).0.1

-- ---- dates

module _ (date : Micros) (own : is_date date ≡ true) where
  in_range : date.0 ≤ 253_402_300_799_999_999
  in_range = leb-true date.0 253_402_300_799_999_999 own

  few : date.0 / 1_000_000 < 253_402_300_800
  few = let most = in_range in omega arith

  fits : date.0 / 1_000_000 < 2 ^ 64
  fits = let less = few in omega arith

  pub digits_date : list_all is_ascii_digit (seconds date) ≡ true
  digits_date = decimal_digits (date.0 / 1_000_000) fits

  pub no_quote_date : lacks (nat_eq 34) (seconds date) ≡ true
  no_quote_date = weaker is_ascii_digit (λ b. not (nat_eq 34 b)) digit_quote (seconds date) digits_date

  pub seconds_back : read.seconds (decoded (seconds date)) ≡ Some (date.0 / 1_000_000)
  seconds_back =
      ap read.seconds (decoded-digits (seconds date) digits_date)
      ∙ ap (option_and_then if_date) (number_back (date.0 / 1_000_000) fits)
      ∙ cond-true _ _ _ (lt-ltb (date.0 / 1_000_000) seconds_limit few)

  pub date_back : is_whole date ≡ true → micros (date.0 / 1_000_000) ≡ date
  date_back whole = λ i. record { 0 = eqb-true (date.0 / 1_000_000 * 1_000_000) date.0 whole i }

-- ---- tags

-- the attribute of tags, where there are any
abbrev pub tags_said : List (List ℕ) → List Attribute
tags_said [] = []
tags_said (tag ∷ tags) = named (codes "TAGS") (escaped (comma_joined (tag ∷ tags))) ∷ []

-- the tags that are read are those
pub tags_back : (tags : List (List ℕ)) → list_all is_tag_name tags ≡ true → each_once is_same_tag tags ≡ true
    → tags_in (decoded (unwrap_or (read.raw (codes "tags") (tags_said tags)) [])) ≡ tags
tags_back [] own once = no_tags
tags_back (tag ∷ tags) own once =
    ap tags_in (decoded-escaped (comma_joined (tag ∷ tags))) ∙ tags_read (tag ∷ tags) own once
