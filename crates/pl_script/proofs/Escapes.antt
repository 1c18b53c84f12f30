-- Escapes in text fields.
use Rattle.std.proofs.Common.{◌≡◌, subst, sym, ◌≢◌, ⊎_elim, eq-eqb, ◌<◌, ◌+◌, ℕ, true, false, List, [], ◌∷◌, ◌++◌}
use Rattle.std.proofs.Common.{length, get_or, drop, Some, None, Option, refl, ap, add-one, append_assoc, drop-cons}
use Rattle.std.proofs.Common.{◌∙◌, ◌≤◌, arith, take}
use Rattle.std.specs.Prelude.{encode_utf8}
use Rattle.std.specs.Option.{option_map}
use Rattle.std.proofs.lemmas.Bool.{cases_Bool, cases_eq, cond-false, cond-true, ne_eqb}
use Rattle.std.proofs.lemmas.Bool.Decides.{nat_tests}
use Rattle.std.proofs.lemmas.Grind.{flat_map-append}
use Rattle.std.proofs.lemmas.List.{take_more}
use Rattle.std.proofs.lemmas.Str.{IsUtf8-from_is_utf8, is_utf8-from_IsUtf8}
use Rattle.std.specs.Str.{IsUtf8, is_utf8}
use Rattle.pl_words.proofs.WrittenBytes.{written-plain}
use Rattle.pl_script.specs.Script.{before_text, escape_of, escaped, escaped_as, escaped_byte, text_of, unescaped}

-- a byte that is put behind what was read
behind : (xs : List ℕ) (b : ℕ) (text : Option (List ℕ))
    → option_map (λ more. (xs ++ b ∷ []) ++ more) text ≡ option_map (λ more. xs ++ more) (before_text (Some b) text)
behind xs b None = refl
behind xs b (Some more) = ap Some (append_assoc xs (b ∷ []) more)

rest_at : (field : List ℕ) (i : ℕ) → i < length field → drop i field ≡ get_or field i 0 ∷ drop (i + 1) field
rest_at field i within = rw (add-one, drop-cons field i 0)

pub escaped_at : (field xs : List ℕ) (i b : ℕ) → i < length field → escaped_byte (get_or field i 0) ≡ Some b
    → option_map (λ more. (xs ++ b ∷ []) ++ more) (unescaped false (drop (i + 1) field))
    ≡ option_map (λ more. xs ++ more) (unescaped true (drop i field))
escaped_at field xs i b within known =
    rw (rest_at field i within, known) (behind xs b (unescaped false (drop (i + 1) field)))

pub backslash_at : (field xs : List ℕ) (i : ℕ) → i < length field → get_or field i 0 ≡ 92
    → option_map (λ more. xs ++ more) (unescaped true (drop (i + 1) field))
    ≡ option_map (λ more. xs ++ more) (unescaped false (drop i field))
backslash_at field xs i within backslash = rw (rest_at field i within, eq-eqb _ _ backslash)

pub plain_at : (field xs : List ℕ) (i : ℕ) → i < length field → get_or field i 0 ≢ 92
    → option_map (λ more. (xs ++ get_or field i 0 ∷ []) ++ more) (unescaped false (drop (i + 1) field))
    ≡ option_map (λ more. xs ++ more) (unescaped false (drop i field))
plain_at field xs i within plain =
    rw (rest_at field i within, ne_eqb _ _ plain) (behind xs (get_or field i 0) (unescaped false (drop (i + 1) field)))

pub text_of-utf8 : (field text : List ℕ) → Some text ≡ unescaped false field → IsUtf8 text → text_of field ≡ Some text
text_of-utf8 field text e utf8 = rw (← e) (cond-true _ _ _ (is_utf8-from_IsUtf8 text utf8))

pub text_of-not_utf8 : (field text : List ℕ) → Some text ≡ unescaped false field → ¬ (IsUtf8 text)
    → text_of field ≡ None
text_of-not_utf8 field text e other =
    rw (← e) (cond-false _ _ _
    (⊎_elim (λ yes. absurd (other (IsUtf8-from_is_utf8 text yes))) (λ no. no) (cases_Bool (is_utf8 text))))

-- ---- what is written reads back

ReadsOne : ℕ → List ℕ → List ℕ → Type 0
ReadsOne b more text = unescaped false (escaped_as b (escape_of b) ++ more) ≡ Some (b ∷ text)

reads_plain : (b : ℕ) (more text : List ℕ) → b ≢ 92 → b ≢ 9 → b ≢ 10 → b ≢ 13 → unescaped false more ≡ Some text
    → ReadsOne b more text
unfolding ReadsOne
reads_plain b more text backslash tab lf cr read =
    rw (ne_eqb b 92 backslash, ne_eqb b 9 tab, ne_eqb b 10 lf, ne_eqb b 13 cr)
    (rw (ne_eqb b 92 backslash) (ap (option_map (λ bytes. b ∷ bytes)) read))

-- a byte and what is read behind it
reads_one : (b : ℕ) (more text : List ℕ) → unescaped false more ≡ Some text → ReadsOne b more text
unfolding ReadsOne
reads_one b more text read =
    let at = λ (c : ℕ) (is : b ≡ c) (reads : ReadsOne c more text). subst (λ x. ReadsOne x more text) (sym is) reads in
    ⊎_elim (λ is. at 92 is (ap (option_map (λ bytes. 92 ∷ bytes)) read)) (λ backslash.
    ⊎_elim (λ is. at 9 is (ap (option_map (λ bytes. 9 ∷ bytes)) read)) (λ tab.
    ⊎_elim (λ is. at 10 is (ap (option_map (λ bytes. 10 ∷ bytes)) read)) (λ lf.
    ⊎_elim (λ is. at 13 is (ap (option_map (λ bytes. 13 ∷ bytes)) read)) (λ cr.
    reads_plain b more text backslash tab lf cr read)
    (cases_eq b 13)) (cases_eq b 10)) (cases_eq b 9)) (cases_eq b 92)

unescaped-escaped : (text : List ℕ) → unescaped false (escaped text) ≡ Some text
unfolding ReadsOne
unescaped-escaped [] = refl
unescaped-escaped (b ∷ text) = reads_one b (escaped text) text (unescaped-escaped text)

pub text_of-escaped : (text : List ℕ) → IsUtf8 text → text_of (escaped text) ≡ Some text
text_of-escaped text utf8 = text_of-utf8 (escaped text) text (sym (unescaped-escaped text)) utf8

-- ---- what is written, character by character

-- no byte that is escaped is beyond ASCII
escape_of-high : (b : ℕ) → 128 ≤ b → escape_of b ≡ None
escape_of-high b high = grind (arith, nat_tests)

-- what is written of a byte
abbrev pub written : ℕ → List ℕ
written b = escaped_as b (escape_of b)

-- a character that is not escaped is written as it is
pub escaped-plain : (c : ℕ) → escape_of c ≡ None → escaped (encode_utf8 c) ≡ encode_utf8 c
escaped-plain c plain =
    written-plain written (λ b high. ap (escaped_as b) (escape_of-high b high)) c
    (ap (escaped_as c) plain)

-- a byte more that stays behind those that do
pub escaped_more : (text : List ℕ) (k : ℕ) → k < length text → escape_of (get_or text k 0) ≡ None
    → escaped (take k text) ≡ take k text → escaped (take (k + 1) text) ≡ take (k + 1) text
escaped_more text k within stays front =
    let more : take (k + 1) text ≡ take k text ++ get_or text k 0 ∷ [] = take_more text k 0 within in
    ap escaped more
    ∙ flat_map-append written (take k text) (get_or text k 0 ∷ [])
    ∙ (λ i. front i ++ (escaped_as (get_or text k 0) (stays i) ++ []))
    ∙ sym more
