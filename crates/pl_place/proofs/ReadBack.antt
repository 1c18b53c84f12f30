-- Values that are read back from their texts.
use Rattle.std.proofs.Common.{◌≡◌, ◌≢◌, ◌∙◌, ◌-◌, ◌<◌, ◌^◌, ◌==◌, ◌&&◌, ℕ, ℤ, pos, negsuc, true, false}
use Rattle.std.proofs.Common.{List, [], ◌∷◌, ◌++◌, None, Option, Some, ap, arith, decimal, length, nat_lt}
use Rattle.std.specs.Prelude.{if◌then◌else◌, is_some}
use Rattle.pl_base.specs.Store.{item_id}
use Rattle.std.proofs.Common.{refl, subst, suc, sym, zero, ⊎_elim, FitsSigned, w64}
use Rattle.std.specs.Char.{is_ascii_digit}
use Rattle.std.specs.List.{AllByRecursion as ByRecursion, list_all}
use Rattle.std.specs.Option.{option_and_then, option_map}
use Rattle.std.specs.Prelude.{encode_utf8_all}
use Rattle.std.specs.Str.{IsUtf8, is_utf8}
use Rattle.std.specs.Str.Parse.{digits_value}
use Rattle.std.proofs.lemmas.Bool.{and_left, eqb-true, true≢false, and_parts, cases_Bool, cond-false}
use Rattle.std.proofs.lemmas.Bool.{cond-true, cond_both, le-leb, lt-ltb, ltb-true, ne_eqb}
use Rattle.std.proofs.lemmas.Bool.Decides.{nat_tests}
use Rattle.std.proofs.lemmas.Str.{is_utf8-from_IsUtf8}
use Rattle.std.proofs.lemmas.Option.{none-some}
use Rattle.pl_base.specs.Address.{canon}
use Rattle.pl_base.specs.Good.{IsTagName}
use Rattle.pl_base.specs.NumberText.{if_32_bits, is_numeral, number_32_of, number_of}
use Rattle.pl_base.specs.declared.id.ItemId.{ItemId}
use Rattle.pl_words.specs.TagName.{tag_named}
use Rattle.pl_words.proofs.TagNames.{name_trimmed}
use Rattle.pl_words.proofs.TagTests.{tag_is_named}
use lib.Utf8.{encode, scalar, scalar_cases, scalars}
use Rattle.std.proofs.lemmas.Str.{IsUtf8-from_is_utf8}
use Rattle.pl_base.specs.Transition.{transition_at, transition_number}
use Rattle.pl_base.specs.declared.transition.Transition.{Transition}
use Rattle.pl_base.specs.declared.transition.Transition.TheVariants.{Link}
use Rattle.pl_base.proofs.Numerals.{decimal_numeral, number_back}
use Rattle.pl_place.specs.declared.kinds.QueryType.{QueryType}
use Rattle.pl_place.specs.declared.kinds.QueryType.TheVariants.{History}
use Rattle.pl_place.specs.declared.kinds.ResultType.{ResultType}
use Rattle.pl_place.specs.declared.kinds.ResultType.TheVariants.{Pages}
use Rattle.pl_place.specs.declared.kinds.TimeRef.{TimeRef}
use Rattle.pl_place.specs.declared.kinds.TimeRef.TheVariants.{Epoch}
use Rattle.pl_place.specs.declared.sort.Direction.TheVariants.{Ascending, Descending}
use Rattle.pl_place.specs.declared.sort.Sort.{Sort}
use Rattle.pl_place.specs.declared.sort.Sort.TheVariants.{Unsorted, By}
use Rattle.pl_place.specs.declared.sort.SortKey.{SortKey}
use Rattle.pl_place.specs.declared.sort.SortKey.TheVariants.{Title}
use Rattle.pl_place.specs.Kinds.{query_type_at, query_type_number, result_type_at, result_type_number, sort_at}
use Rattle.pl_place.specs.Kinds.{sort_number}
use Rattle.pl_place.specs.Kinds.{time_ref_at, time_ref_number}
use Rattle.pl_place.specs.Values.{query_type_of, result_type_of, sort_of, time_ref_of, transition_of}
use Rattle.pl_place.specs.Canonical.{ReadsBack, ReadsId, ReadsTime, id_text, itself, transition_text}
use Rattle.pl_place.specs.Values.{negative, parent_of, positive, root_named, signed_of, text_of, uri_of}

-- ---- numbers

pub number_32_back : (n : ℕ) → n < 2 ^ 32 → ReadsBack number_32_of decimal n
number_32_back n fits =
    ap (option_and_then if_32_bits) (number_back n (omega arith)) ∙ cond-true _ _ _ (lt-ltb n (2 ^ 32) fits)

-- a decimal number begins with a digit
first_digit : (b : ℕ) (text : List ℕ) → is_numeral (b ∷ text) ≡ true → is_ascii_digit b ≡ true
first_digit b text is =
    ⊎_elim (λ zero. ap is_ascii_digit (eqb-true b 48 zero))
    (λ other. (and_parts (is_ascii_digit b) (list_all is_ascii_digit text) (sym (cond-false (b == 48) _ _ other)
    ∙ is)).0)
    (cases_Bool (b == 48))

not_minus : (b : ℕ) → is_ascii_digit b ≡ true → (b == 45) ≡ false
not_minus b digit = ne_eqb b 45 (λ is. true≢false (sym digit ∙ ap is_ascii_digit is))

-- a text that is read as a number is read so without a sign
unsigned : (bits n : ℕ) (text : List ℕ) → is_numeral text ≡ true → number_of text ≡ Some n
    → signed_of bits text ≡ positive bits n
unsigned bits n [] numeral is = absurd (true≢false (sym numeral))
unsigned bits n (b ∷ text) numeral is =
    cond-false (b == 45) _ _ (not_minus b (first_digit b text numeral)) ∙ ap (option_and_then (positive bits)) is

pub positive_back : (bits n : ℕ) → n < 2 ^ 64 → n < 2 ^ (bits - 1) → signed_of bits (decimal n) ≡ Some (pos n)
positive_back bits n fits below =
    unsigned bits n (decimal n) (decimal_numeral n fits) (number_back n fits)
    ∙ cond-true _ _ _ (lt-ltb n (2 ^ (bits - 1)) below)

pub time_back : (time : ℤ) → FitsSigned w64 time → ReadsTime time
time_back (pos n) fits = positive_back 64 n (omega (arith, fits.sfits)) (omega (arith, fits.sfits))
time_back (negsuc n) fits =
    ap (option_and_then (negative 64)) (number_back (suc n) (omega (arith, fits.sfits)))
    ∙ cond-true _ _ _ (le-leb (suc n) (2 ^ 63) (omega (arith, fits.sfits)))

-- ---- folders

no_digit : (b letter : ℕ) → is_ascii_digit b ≡ true → is_ascii_digit letter ≡ false → (letter == b) ≡ false
no_digit b letter digit other = ne_eqb letter b (λ is. true≢false (sym digit ∙ ap is_ascii_digit (sym is) ∙ other))

no_root : (text : List ℕ) → is_numeral text ≡ true → root_named text ≡ None
no_root [] numeral = absurd (true≢false (sym numeral))
no_root (b ∷ text) numeral =
    let digit = first_digit b text numeral in
    let r : (114 == b) ≡ false = no_digit b 114 digit refl in
    let m : (109 == b) ≡ false = no_digit b 109 digit refl in
    let t : (116 == b) ≡ false = no_digit b 116 digit refl in
    let u : (117 == b) ≡ false = no_digit b 117 digit refl in
    rw (r, m, t, u) refl

-- an answer that goes on from another had that
pub went_on : {A B : Type 0} (f : A → Option B) (x : Option A) (y : B) → option_and_then f x ≡ Some y → is_some x ≡ true
went_on f None y is = absurd (none-some y is)
went_on f (Some x) y is = refl

-- what is read as a number is of digits
pub numeral_read : (text : List ℕ) → is_some (number_of text) ≡ true → is_numeral text ≡ true
numeral_read text read =
    ⊎_elim (λ numeral. numeral)
    (λ other. absurd (true≢false (sym read
    ∙ ap is_some (cond-false (is_numeral text && nat_lt (digits_value 10 text) (2 ^ 64)) _ _
    (and_left (is_numeral text) (nat_lt (digits_value 10 text) (2 ^ 64)) other)))))
    (cases_Bool (is_numeral text))

pub parent_back : (id : ItemId) → ReadsId id → ReadsBack parent_of id_text id
parent_back id back =
    ap (λ root. if is_some root then root else option_map item_id (number_32_of (decimal id.0)))
    (no_root (decimal id.0) (numeral_read (decimal id.0) (went_on if_32_bits (number_of (decimal id.0)) id.0 back)))
    ∙ ap (option_map item_id) back

-- ---- texts

pub text_back : (text : List ℕ) → IsUtf8 text → ReadsBack text_of itself text
text_back text utf8 = cond-true _ _ _ (is_utf8-from_IsUtf8 text utf8)

pub uri_back : (url : List ℕ) → IsUtf8 url → canon url ≡ Some url → ReadsBack uri_of itself url
uri_back url utf8 own = ap (option_and_then canon) (text_back url utf8) ∙ own

pub tag_back : (name : List ℕ) → IsTagName name → ReadsBack tag_named itself name
tag_back name tag = tag_is_named name name (sym (name_trimmed name tag)) tag

-- ---- codes

pub coded_back : {A : Type 0} (at : ℕ → Option A) (n : ℕ) (a : A) → n < 2 ^ 64 → at n ≡ Some a
    → option_and_then at (number_of (decimal n)) ≡ Some a
coded_back at n a fits is = ap (option_and_then at) (number_back n fits) ∙ is

pub time_ref_back : (r : TimeRef) → ReadsBack time_ref_of (λ r. decimal (time_ref_number r)) r
time_ref_back Epoch = coded_back time_ref_at 0 Epoch (omega arith) refl
time_ref_back r = coded_back time_ref_at (time_ref_number r) r (omega arith) refl

pub transition_back : (t : Transition) → ReadsBack transition_of transition_text t
transition_back Link = coded_back transition_at 1 Link (omega arith) refl
transition_back t = coded_back transition_at (transition_number t) t (omega arith) refl

pub result_type_back : (r : ResultType) → ReadsBack result_type_of (λ r. decimal (result_type_number r)) r
result_type_back Pages = coded_back result_type_at 0 Pages (omega arith) refl
result_type_back r = coded_back result_type_at (result_type_number r) r (omega arith) refl

pub query_type_back : (r : QueryType) → ReadsBack query_type_of (λ r. decimal (query_type_number r)) r
query_type_back History = coded_back query_type_at 0 History (omega arith) refl
query_type_back r = coded_back query_type_at (query_type_number r) r (omega arith) refl

pub sort_back : (s : Sort) → ReadsBack sort_of (λ s. decimal (sort_number s)) s
sort_back Unsorted = coded_back sort_at 0 Unsorted (omega arith) refl
sort_back (By key Ascending) = ascending key
  where
    ascending : (key : SortKey) → ReadsBack sort_of (λ s. decimal (sort_number s)) (By key Ascending)
    ascending Title = coded_back sort_at 1 (By Title Ascending) (omega arith) refl
    ascending key = coded_back sort_at (sort_number (By key Ascending)) (By key Ascending) (omega arith) refl
sort_back (By key Descending) = descending key
  where
    descending : (key : SortKey) → ReadsBack sort_of (λ s. decimal (sort_number s)) (By key Descending)
    descending Title = coded_back sort_at 2 (By Title Descending) (omega arith) refl
    descending key = coded_back sort_at (sort_number (By key Descending)) (By key Descending) (omega arith) refl

-- ---- bytes

abbrev pub AreBytes : List ℕ → Type 0
AreBytes text = ByRecursion (λ b. b < 256) text

joined_bytes : (xs ys : List ℕ) → AreBytes xs → AreBytes ys → AreBytes (xs ++ ys)
joined_bytes [] ys first rest = rest
joined_bytes (x ∷ xs) ys first rest = (first.0, joined_bytes xs ys first.1 rest)

char_bytes : (c : ℕ) → c < 1_114_112 → AreBytes (encode c)
unfolding encode
char_bytes c fits =
    cond_both (nat_lt c 128) _ _ AreBytes (λ one. (omega (arith, ltb-true c 128 one), tt)) (λ more.
    cond_both (nat_lt c 2048) _ _ AreBytes
    (λ two. (omega (arith, ltb-true c 2048 two), (omega arith, tt))) (λ more.
    cond_both (nat_lt c 65536) _ _ AreBytes
    (λ three. (omega (arith, ltb-true c 65536 three), (omega arith, (omega arith, tt))))
    (λ four. (omega arith, (omega arith, (omega arith, (omega arith, tt)))))))

scalar_bound : (c : ℕ) → scalar c ≡ true → c < 1_114_112
scalar_bound c is = ⊎_elim (λ low. omega arith) (λ high. high.1) (scalar_cases c is)

text_bytes : (chars : List ℕ) → scalars chars ≡ true → AreBytes (encode_utf8_all chars)
text_bytes [] are = tt
text_bytes (c ∷ chars) are =
    let both = and_parts (scalar c) (scalars chars) are in
    joined_bytes (encode c) (encode_utf8_all chars) (char_bytes c (scalar_bound c both.0)) (text_bytes chars both.1)

pub utf8_bytes : (text : List ℕ) → is_utf8 text ≡ true → AreBytes text
utf8_bytes text is =
    let chars = IsUtf8-from_is_utf8 text is in
    subst AreBytes chars.1.1 (text_bytes chars.0 chars.1.0)

digit_bytes : (text : List ℕ) → list_all is_ascii_digit text ≡ true → AreBytes text
digit_bytes [] are = tt
digit_bytes (b ∷ text) are =
    let both = and_parts (is_ascii_digit b) (list_all is_ascii_digit text) are in
    (grind (arith, nat_tests), digit_bytes text both.1)

pub numeral_bytes : (text : List ℕ) → is_numeral text ≡ true → AreBytes text
numeral_bytes [] is = tt
numeral_bytes (b ∷ []) is = (grind (arith, nat_tests), tt)
numeral_bytes (b ∷ c ∷ text) is =
    ⊎_elim (λ zero. absurd
    (true≢false (sym is ∙ cond-true (b == 48) (length (c ∷ text) == 0) _ zero
    ∙ ne_eqb (length (c ∷ text)) 0 (λ none. omega arith))))
    (λ other. digit_bytes (b ∷ c ∷ text) (sym (cond-false (b == 48) _ _ other) ∙ is)) (cases_Bool (b == 48))

pub signed_bytes : (bits : ℕ) (text : List ℕ) (z : ℤ) → signed_of bits text ≡ Some z → AreBytes text
signed_bytes bits [] z is = tt
signed_bytes bits (b ∷ text) z is =
    ⊎_elim
    (λ minus. (
      omega (arith, eqb-true b 45 minus),
      numeral_bytes text
          (numeral_read text (went_on (negative bits) (number_of text) z (sym (cond-true (b == 45) _ _ minus) ∙ is))),
    ))
    (λ other. numeral_bytes (b ∷ text)
    (numeral_read (b ∷ text)
    (went_on (positive bits) (number_of (b ∷ text)) z (sym (cond-false (b == 45) _ _ other) ∙ is))))
    (cases_Bool (b == 45))

-- a text that is read as a number is of bytes
pub coded_bytes : {A : Type 0} (at : ℕ → Option A) (text : List ℕ) (a : A)
    → option_and_then at (number_of text) ≡ Some a
    → AreBytes text
coded_bytes at text a back = numeral_bytes text (numeral_read text (went_on at (number_of text) a back))
