-- What a value is escaped as, and that it decodes to the value.
use Rattle.std.proofs.Common.{◌≡◌, ◌≢◌, ◌∙◌, ◌<◌, ◌≤◌, ◌==◌, ◌||◌, ℕ, Bool, true, false, not, cond, List, [], ◌∷◌, ◌++◌}
use Rattle.std.proofs.lemmas.List.{map-append}
use Rattle.std.proofs.Common.{ap, append_assoc, arith, map, refl, subst, sym, ⊎_elim}
use Rattle.std.specs.Char.{is_ascii_alphanumeric}
use Rattle.std.proofs.lemmas.Bool.{agree_below_at, cases_Bool, cases_eq, cases_lt, eq-eqb, ne_eqb}
use Rattle.std.proofs.lemmas.Bool.{cond_both, le-ltb, lt-ltb, or_right, true≢false}
use Rattle.std.specs.List.{All, AllByRecursion as ByRecursion}
use Rattle.std.proofs.lemmas.List.Elements.{All-append, All-cons, All-nil, All-weaker}
use Rattle.std.proofs.lemmas.Bool.Decides.{nat_tests}
use Rattle.percent_encoding.specs.declared.ascii_set.AsciiSet.{AsciiSet}
use Rattle.percent_encoding.specs.declared.ascii_set.TheConstants.{NON_ALPHANUMERIC}
use Rattle.percent_encoding.specs.AsciiSet.{contains, should_percent_encode}
use Rattle.percent_encoding.specs.Percent.{percent_decode, percent_encode, percent_encode_byte}
use Rattle.percent_encoding.proofs.PercentLemmas.{All-percent_encode_byte, IsEscapeByte}
use Rattle.percent_encoding.proofs.PercentLemmas.{percent_decode-nil, percent_decode-percent_encode_byte}
use Rattle.percent_encoding.proofs.PercentLemmas.{percent_decode_not_percent, percent_encode-nil}
use Rattle.percent_encoding.proofs.PercentLemmas.{percent_encode_escaped}
use Rattle.percent_encoding.proofs.PercentLemmas.{percent_encode_kept}
use Rattle.percent_encoding.proofs.StandardFacts.{non_alphanumeric}
use Rattle.pl_place.specs.declared.key.Key.{Key}
use Rattle.pl_place.specs.Canonical.{escaped, is_unreserved, pair}
use Rattle.pl_place.specs.Keys.{key_name}

-- ---- the set

-- the set has the bytes of ASCII but these
abbrev pub HoldsBut : AsciiSet → (ℕ → Bool) → Type 0
HoldsBut set kept = (b : ℕ) → b < 128 → contains set b ≡ not (kept b)

pub but_alphanumeric : HoldsBut NON_ALPHANUMERIC is_ascii_alphanumeric
but_alphanumeric b ascii =
    agree_below_at (contains NON_ALPHANUMERIC) (λ b. not (is_ascii_alphanumeric b)) 128 b non_alphanumeric ascii

or_none : (x : Bool) → (x || false) ≡ x
or_none true = refl
or_none false = refl

-- one byte less
pub but_one_more : (set out : AsciiSet) (byte : ℕ) (kept : ℕ → Bool) → HoldsBut set kept → contains out byte ≡ false
    → ((b : ℕ) → b < 128 → b ≢ byte → contains out b ≡ contains set b) → HoldsBut out (λ b. kept b || (b == byte))
but_one_more set out byte kept holds gone others b ascii =
    ⊎_elim
    (λ same. subst (λ x. contains out x ≡ not (kept x || (x == byte))) (sym same)
    (gone ∙ sym (ap not (or_right (kept byte) (byte == byte) (eq-eqb byte byte refl)))))
    (λ other. others b ascii other ∙ holds b ascii
    ∙ ap not (sym (ap (λ x. kept b || x) (ne_eqb b byte other) ∙ or_none (kept b))))
    (cases_eq b byte)

beyond : (b : ℕ) → 128 ≤ b → is_unreserved b ≡ false
beyond b far = grind (arith, nat_tests)

pub escapes_the_rest : (set : AsciiSet) → HoldsBut set is_unreserved → (b : ℕ)
    → should_percent_encode set b ≡ not (is_unreserved b)
unfolding should_percent_encode
escapes_the_rest set holds b =
    ⊎_elim (λ ascii. ap (λ x. not x || contains set b) (lt-ltb b 128 ascii) ∙ holds b ascii)
    (λ far. ap (λ x. not x || contains set b) (le-ltb b 128 far) ∙ sym (ap not (beyond b far))) (cases_lt b 128)

-- by such a set a value is escaped as it is to be
pub escaped_by : (set : AsciiSet) → ((b : ℕ) → should_percent_encode set b ≡ not (is_unreserved b))
    → (value : List ℕ) → percent_encode set value ≡ escaped value
escaped_by set escapes [] = percent_encode-nil set
escaped_by set escapes (b ∷ value) =
    ⊎_elim
    (λ kept. percent_encode_kept set b value (escapes b ∙ ap not kept)
    ∙ ap (λ x. b ∷ x) (escaped_by set escapes value)
    ∙ sym (ap (λ x. cond x (b ∷ []) (percent_encode_byte b) ++ escaped value) kept))
    (λ not_kept. percent_encode_escaped set b value (escapes b ∙ ap not not_kept)
    ∙ ap (λ x. percent_encode_byte b ++ x) (escaped_by set escapes value)
    ∙ sym (ap (λ x. cond x (b ∷ []) (percent_encode_byte b) ++ escaped value) not_kept))
    (cases_Bool (is_unreserved b))

-- ---- what is decoded

no_percent : (b : ℕ) → is_unreserved b ≡ true → b ≢ 37
no_percent b kept is = true≢false (sym kept ∙ ap is_unreserved is)

pub decoded_back : (value : List ℕ) → ByRecursion (λ b. b < 256) value → percent_decode (escaped value) ≡ value
decoded_back [] bytes = percent_decode-nil
decoded_back (b ∷ value) bytes =
    ⊎_elim
    (λ kept. ap (λ x. percent_decode (cond x (b ∷ []) (percent_encode_byte b) ++ escaped value)) kept
    ∙ percent_decode_not_percent b (escaped value) (no_percent b kept) ∙ ap (λ x. b ∷ x) (decoded_back value bytes.1))
    (λ not_kept. ap (λ x. percent_decode (cond x (b ∷ []) (percent_encode_byte b) ++ escaped value)) not_kept
    ∙ percent_decode-percent_encode_byte b (escaped value) bytes.0 ∙ ap (λ x. b ∷ x) (decoded_back value bytes.1))
    (cases_Bool (is_unreserved b))

-- ---- what is no part of an escaped value

-- a byte that stays apart from `&` and `=`
abbrev pub IsPlain : ℕ → Type 0
IsPlain b = ((b == 38) ≡ false) × ((b == 61) ≡ false)

plain_kept : (b : ℕ) → is_unreserved b ≡ true → IsPlain b
plain_kept b kept = (
  ne_eqb b 38 (λ is. true≢false (sym kept ∙ ap is_unreserved is)),
  ne_eqb b 61 (λ is. true≢false (sym kept ∙ ap is_unreserved is)),
)

plain_escape : (b : ℕ) → All IsPlain (percent_encode_byte b)
plain_escape b =
    All-weaker IsEscapeByte IsPlain
    (λ x is. (ne_eqb x 38 (λ same. grind arith), ne_eqb x 61 (λ same. grind arith))) (percent_encode_byte b)
    (All-percent_encode_byte b)

pub plain_escaped : (value : List ℕ) → All IsPlain (escaped value)
plain_escaped [] = All-nil IsPlain
plain_escaped (b ∷ value) =
    All-append IsPlain (cond (is_unreserved b) (b ∷ []) (percent_encode_byte b)) (escaped value)
    (cond_both (is_unreserved b) (b ∷ []) (percent_encode_byte b) (All IsPlain)
    (λ kept. All-cons IsPlain b [] (plain_kept b kept) (All-nil IsPlain)) (λ not_kept. plain_escape b))
    (plain_escaped value)

-- ---- what a pair is written as

-- one more text, which is a pair
pub pair_pushed : {S : Type 0} (view : S → List ℕ) (old new : List S) (text : S) (k : Key) (value : List ℕ)
    → new ≡ old ++ text ∷ [] → view text ≡ (key_name k ++ 61 ∷ []) ++ escaped value
    → map view new ≡ map view old ++ pair k value ∷ []
pair_pushed view old new text k value pushed is =
    ap (map view) pushed ∙ map-append view old (text ∷ [])
    ∙ ap (λ x. map view old ++ x ∷ []) (is ∙ append_assoc (key_name k) (61 ∷ []) (escaped value))
