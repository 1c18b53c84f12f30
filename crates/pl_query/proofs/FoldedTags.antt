-- The fold of a text is cut at its commas where the text is, so tags are told by their folds.
use Rattle.std.proofs.Common.{◌≡◌, ◌∙◌, ◌&&◌, ◌||◌, ◌==◌, ◌++◌, ◌+◌, ◌/◌, ◌%◌, ◌≤◌, ℕ, Bool, true}
use Rattle.std.proofs.Common.{false, not, List, [], ◌∷◌, IsUtf8, ap, arith, bytes_eq, chars}
use Rattle.std.proofs.Common.{if◌then◌else◌, length, length-append, map, nat_lt, refl, subst, sym}
use Rattle.std.proofs.Common.{⊎_elim}
use Rattle.std.specs.List.{AllByRecursion, flat_map, list_all, list_any, onto_first, slice_split}
use Rattle.std.proofs.lemmas.Bool.{and_from, and_parts, cases_lt, eqb-true, ne_eqb, not-true}
use Rattle.std.proofs.lemmas.Bool.Decides.{nat_tests}
use Rattle.std.proofs.lemmas.List.Folds.{list_all-map}
use Rattle.std.proofs.lemmas.Str.{chars-encodes, chars-nil, encode_ascii, encodes-chars}
use Rattle.std.proofs.lemmas.Str.{length-le-encodes, scalars-chars}
use lib.Utf8.{encode, encodes, scalar, scalars}
use Rattle.ucd_table.proofs.RangedFacts.{values_ok, Stepped-at_values}
use Rattle.ucd_table.proofs.Computing.{tables}
use Rattle.ucd_case.specs.CaseFolding.{full_fold, full_folding, or_itself}
use Rattle.ucd_case.proofs.CaseFoldingLemmas.{full_fold-ascii, full_folding_stepped}
use Rattle.caseless.specs.Caseless.{default_case_fold}
use Rattle.caseless.proofs.CaselessLemmas.{default_case_fold-cons, default_case_fold-nil}
use Rattle.pl_base.specs.Fold.{folded}
use Rattle.pl_base.proofs.ListLaws.{list_all-alike, list_any-map}
use Rattle.pl_conditions.proofs.AskedLaws.{none_among}
use Rattle.pl_query.specs.DecidedParts.{are_folds_in, is_fold_in}
use Rattle.pl_query.specs.Decides.{are_tags_in, is_tag_in}
use Rattle.pl_query.proofs.CutTexts.{Cuts, Fails, cut_alike}

abbrev is_comma : ℕ → Bool
is_comma c = c == 44

-- ---- characters

-- no character folds to something with a comma
no_comma_made : (c : ℕ) → list_all (λ x. not (x == 44)) (full_folding c) ≡ true
unfolding tables values_ok full_folding_stepped
no_comma_made c =
    Stepped-at_values full_folding full_folding_stepped (list_all (λ x. not (x == 44))) refl c

none_passes : (xs : List ℕ) → list_all (λ x. not (x == 44)) xs ≡ true
    → AllByRecursion (Fails is_comma) xs
none_passes [] all = tt
none_passes (x ∷ xs) all =
    let parts = and_parts (not (x == 44)) (list_all (λ y. not (y == 44)) xs) all in
    (not-true (x == 44) parts.0, none_passes xs parts.1)

itself_too : (c : ℕ) (table : List ℕ) → AllByRecursion (Fails is_comma) table → Fails is_comma c
    → AllByRecursion (Fails is_comma) (or_itself c table)
itself_too c [] none other = (other, tt)
itself_too c (x ∷ xs) none other = none

fold_cuts : (c : ℕ) → Cuts is_comma is_comma full_fold c
fold_cuts c =
    record {
      there = λ is.
          let same : c ≡ 44 = eqb-true c 44 is in
          (44, ap full_fold same ∙ full_fold-ascii 44 (omega arith), refl);
      elsewhere = λ other.
          itself_too c (full_folding c) (none_passes (full_folding c) (no_comma_made c)) other;
    }

each_fold : (cs : List ℕ) → AllByRecursion (Cuts is_comma is_comma full_fold) cs
each_fold [] = tt
each_fold (c ∷ cs) = (fold_cuts c, each_fold cs)

-- ---- bytes

above : (b : ℕ) → 128 ≤ b → Fails is_comma b
above b high = grind (arith, nat_tests)

high_bytes : (c : ℕ) → 128 ≤ c → AllByRecursion (Fails is_comma) (encode c)
unfolding encode
high_bytes c high =
    choose (nat_lt c 128) (nat_lt c 2048) (nat_lt c 65536) (grind (arith, nat_tests))
  where
    choose : (a b d : Bool) → a ≡ false → AllByRecursion (Fails is_comma)
        (if a then c ∷ [] else
        (if b then (192 + c / 64) ∷ (128 + c % 64) ∷ [] else
        (if d then (224 + c / 4096) ∷ (128 + c / 64 % 64) ∷ (128 + c % 64) ∷ [] else
        (240 + c / 262144) ∷ (128 + c / 4096 % 64) ∷ (128 + c / 64 % 64) ∷ (128 + c % 64) ∷ [])))
    choose true b d is = cc
    choose false true d is = (above _ (omega arith), (above _ (omega arith), tt))
    choose false false true is =
        (above _ (omega arith), (above _ (omega arith), (above _ (omega arith), tt)))
    choose false false false is = (
      above _ (omega arith),
      (above _ (omega arith), (above _ (omega arith), (above _ (omega arith), tt))),
    )

bytes_of : (c : ℕ) → Fails is_comma c → AllByRecursion (Fails is_comma) (encode c)
bytes_of c other =
    ⊎_elim (λ low. subst (AllByRecursion (Fails is_comma)) (sym (encode_ascii c low)) (other, tt))
    (λ high. high_bytes c high) (cases_lt c 128)

encode_cuts : (c : ℕ) → Cuts is_comma is_comma encode c
encode_cuts c =
    record {
      there = λ is.
          let same : c ≡ 44 = eqb-true c 44 is in
          (44, ap encode same ∙ encode_ascii 44 (omega arith), refl);
      elsewhere = λ other. bytes_of c other;
    }

each_encode : (cs : List ℕ) → AllByRecursion (Cuts is_comma is_comma encode) cs
each_encode [] = tt
each_encode (c ∷ cs) = (encode_cuts c, each_encode cs)

encodes_is : (cs : List ℕ) → encodes cs ≡ flat_map encode cs
encodes_is [] = refl
encodes_is (c ∷ cs) = ap (λ bs. encode c ++ bs) (encodes_is cs)

encodes_cut : (cs : List ℕ)
    → slice_split is_comma (encodes cs) ≡ map encodes (slice_split is_comma cs)
encodes_cut cs =
    ap (slice_split is_comma) (encodes_is cs)
    ∙ cut_alike is_comma is_comma encode cs (each_encode cs)
    ∙ map_alike (slice_split is_comma cs)
  where
    map_alike : (parts : List (List ℕ)) → map (flat_map encode) parts ≡ map encodes parts
    map_alike [] = refl
    map_alike (part ∷ parts) = λ i. sym (encodes_is part) i ∷ map_alike parts i

folds_cut : (cs : List ℕ)
    → slice_split is_comma (default_case_fold cs) ≡ map default_case_fold (slice_split is_comma cs)
unfolding default_case_fold
folds_cut cs = cut_alike is_comma is_comma full_fold cs (each_fold cs)

-- ---- texts

abbrev Scalars : List (List ℕ) → Type 0
Scalars parts = AllByRecursion (λ part. scalars part ≡ true) parts

with_first : (c : ℕ) (cs : List ℕ) (parts : List (List ℕ)) (cut : Bool) → scalar c ≡ true
    → Scalars parts
    → Scalars (if cut then [] ∷ parts else onto_first c parts)
with_first c cs parts true one rest = (refl, rest)
with_first c cs [] false one rest = (and_from (scalar c) true one refl, tt)
with_first c cs (part ∷ parts) false one rest =
    (and_from (scalar c) (scalars part) one rest.0, rest.1)

parts_scalar : (cs : List ℕ) → scalars cs ≡ true → Scalars (slice_split is_comma cs)
parts_scalar [] all = (refl, tt)
parts_scalar (c ∷ cs) all =
    let both = and_parts (scalar c) (scalars cs) all in
    with_first c cs (slice_split is_comma cs) (is_comma c) both.0 (parts_scalar cs both.1)

folded_parts : (parts : List (List ℕ)) → Scalars parts
    → map encodes (map default_case_fold parts) ≡ map folded (map encodes parts)
folded_parts [] all = refl
folded_parts (part ∷ parts) all =
    λ i. encodes (default_case_fold (sym (chars-encodes part all.0) i)) ∷ folded_parts parts all.1 i

-- the fold of a text is cut where the text is
pub folded_cut : (text : List ℕ) → IsUtf8 text
    → slice_split is_comma (folded text) ≡ map folded (slice_split is_comma text)
folded_cut text utf8 =
    let cs : List ℕ = chars text in
    let all : scalars cs ≡ true = scalars-chars text utf8 in
    encodes_cut (default_case_fold cs) ∙ ap (map encodes) (folds_cut cs)
    ∙ folded_parts (slice_split is_comma cs) (parts_scalar cs all)
    ∙ ap (map folded) (sym (encodes_cut cs) ∙ ap (slice_split is_comma) (encodes-chars text utf8))

-- ---- tags

some_fold : (c : ℕ) (cs : List ℕ) → 1 ≤ length (default_case_fold (c ∷ cs))
some_fold c cs =
    let table = or_some c (full_folding c) in
    let both = length-append (full_fold c) (default_case_fold cs) in
    omega (arith, ap length (default_case_fold-cons c cs), both, table)
  where
    or_some : (c : ℕ) (table : List ℕ) → 1 ≤ length (or_itself c table)
    or_some c [] = omega arith
    or_some c (x ∷ table) = omega arith

some_chars : (text cs : List ℕ) → encodes cs ≡ text → 1 ≤ length text
    → 1 ≤ length (encodes (default_case_fold cs))
some_chars text [] same some = absurd (omega (arith, ap length same))
some_chars text (c ∷ cs) same some =
    omega (arith, some_fold c cs, length-le-encodes (default_case_fold (c ∷ cs)))

-- a text is empty where its fold is
fold_empty : (text : List ℕ) → IsUtf8 text → (length (folded text) == 0) ≡ (length text == 0)
fold_empty [] utf8 =
    ap (λ cs. length (encodes cs) == 0) (ap default_case_fold chars-nil ∙ default_case_fold-nil)
fold_empty (b ∷ text) utf8 =
    let same = encodes-chars (b ∷ text) utf8 in
    let some = some_chars (b ∷ text) (chars (b ∷ text)) same (omega arith) in
    ne_eqb (length (folded (b ∷ text))) 0 (λ none. omega arith)
    ∙ sym (ne_eqb (length (b ∷ text)) 0 (λ none. omega arith))

-- the fold of a tag is in the fold of a text where the tag is in the text
fold_in : (text : List ℕ) → IsUtf8 text → (name : List ℕ)
    → is_fold_in (folded text) (folded name) ≡ is_tag_in text name
fold_in text utf8 name =
    (λ i. not (fold_empty text utf8 i) && list_any (bytes_eq (folded name))
    (folded_cut text utf8 i))
    ∙ ap (λ (b : Bool). not (length text == 0) && b)
    (list_any-map (bytes_eq (folded name)) folded (slice_split is_comma text))

-- the folds of tags tell of the fold of a text what the tags tell of the text
pub folds_tell : (tags : List (List ℕ)) (not_tags : Bool) (text : List ℕ) → IsUtf8 text
    → are_folds_in (map folded tags) not_tags (folded text) ≡ are_tags_in tags not_tags text
folds_tell tags false text utf8 =
    list_all-map (is_fold_in (folded text)) folded tags
    ∙ list_all-alike (λ name. is_fold_in (folded text) (folded name)) (is_tag_in text) tags
    (fold_in text utf8)
folds_tell tags true text utf8 =
    none_among (is_fold_in (folded text)) (is_tag_in text) tags (fold_in text utf8)
