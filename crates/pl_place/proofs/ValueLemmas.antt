-- What is read of values.
use Rattle.std.proofs.Common.{◌≡◌, ◌∙◌, ◌+◌, ◌-◌, ◌<◌, ◌≤◌, ℕ, Bool, true, false, suc, zero, List, [], ◌∷◌, Result}
use Rattle.std.proofs.Common.{Ok, Err}
use Rattle.std.proofs.Common.{Some, None, MatchResult, arith, ap, drop, get_or, length, refl}
use Rattle.std.proofs.Common.{reverse, subst, sym, take}
use lib.Utf8.{encode}
use Rattle.std.specs.Borrow.{Bor}
use Rattle.std.specs.List.{prefix_len, suffix_len}
use Rattle.std.specs.Option.{option_map}
use Rattle.std.specs.Prelude.{bytes_eq, codes, nat_lt}
use Rattle.std.specs.Result.{result_ok}
use Rattle.std.specs.Str.{IsAscii, IsUtf8, is_utf8}
use Rattle.std.proofs.lemmas.Bool.{and_parts, cond-false, cond-true, ltb-false, ltb-true, true≢false}
use Rattle.std.proofs.lemmas.Bool.Decides.{nat_tests}
use Rattle.std.proofs.lemmas.List.{get_or-drop, get_or-reverse, get_or_past, length-drop, take-append-drop}
use Rattle.std.proofs.lemmas.List.Sums.{prefix_len_passes, suffix_len-le-length}
use Rattle.std.proofs.lemmas.Slice.Eq.{bytes_eq-Decides}
use Rattle.std.proofs.lemmas.Str.{IsUtf8-append, IsUtf8-from_ascii, IsUtf8-from_is_utf8, is_utf8-from_IsUtf8}
use Rattle.pl_base.specs.Good.{is_blank}
use Rattle.pl_base.proofs.Truths.{no_test}
use Rattle.pl_words.specs.TagName.{is_tag_name, tag_named, trimmed, trimmed_back, trimmed_front}
use Rattle.pl_place.specs.PlaceText.{values}
use Rattle.pl_place.specs.Values.{root_named, text_of}

-- the bytes that are read as text are the text, and no others are one
pub text_read : {E : Type 0} (r : Result (Bor (List ℕ)) E) (bytes : List ℕ) (P : E → Type 0)
    → MatchResult r (λ s. (s.now ≡ bytes) × IsUtf8 bytes) (λ e. ¬ (IsUtf8 bytes) × P e)
    → option_map (λ (s : Bor (List ℕ)). s.now) (result_ok r) ≡ text_of bytes
text_read (Ok s) bytes P h = rw (is_utf8-from_IsUtf8 bytes h.1, h.0)
text_read (Err e) bytes P h =
    rw (no_test (is_utf8 bytes) (λ is. h.0 (IsUtf8-from_is_utf8 bytes is)))

-- bytes that are no text
pub no_text : (bytes : List ℕ) → None ≡ text_of bytes → is_utf8 bytes ≡ false
no_text bytes none =
    no_test (is_utf8 bytes)
    (λ is. let some : None ≡ Some bytes = none ∙ cond-true (is_utf8 bytes) (Some bytes) None is in cc)

-- ---- tags

blank_is_ascii : (b : ℕ) → is_blank b ≡ true → b < 128
blank_is_ascii b is = grind (arith, nat_tests)

one_byte : (b : ℕ) → b < 128 → IsUtf8 (b ∷ [])
one_byte b small = IsUtf8-from_ascii (b ∷ []) (λ i. one i)
  where
    one : (i : ℕ) → get_or (b ∷ []) i 0 < 128
    one zero = small
    one (suc i) = omega arith

drop_one : (n b : ℕ) (bytes : List ℕ) → drop (1 + n) (b ∷ bytes) ≡ drop n bytes
drop_one n b bytes = let one : 1 + n ≡ suc n = omega arith in ap (λ m. drop m (b ∷ bytes)) one

with_front : (text : List ℕ) → IsUtf8 (trimmed_front text) → IsUtf8 text
with_front [] utf8 = utf8
with_front (b ∷ bytes) utf8 = choose (λ front. with_front bytes front) (is_blank b) refl
  where
    choose : (IsUtf8 (trimmed_front bytes) → IsUtf8 bytes) → (v : Bool) → is_blank b ≡ v → IsUtf8 (b ∷ bytes)
    choose rest true is =
        IsUtf8-append (b ∷ []) bytes (one_byte b (blank_is_ascii b is))
        (rest (subst IsUtf8 (drop_one (prefix_len is_blank bytes) b bytes)
        (subst (λ n. IsUtf8 (drop n (b ∷ bytes))) (cond-true (is_blank b) (1 + prefix_len is_blank bytes) 0 is) utf8)))
    choose rest false not_blank =
        subst (λ n. IsUtf8 (drop n (b ∷ bytes)))
        (cond-false (is_blank b) (1 + prefix_len is_blank bytes) 0 not_blank) utf8

within_back : (text : List ℕ) (i kept from_end : ℕ) → kept ≡ length text - suffix_len is_blank text
    → kept + i < length text → from_end ≡ length text - 1 - (kept + i) → get_or (drop kept text) i 0 < 128
within_back text i kept from_end is here end =
    let few : suffix_len is_blank text ≤ length text = suffix_len-le-length is_blank text in
    let near : from_end < suffix_len is_blank text = omega arith in
    let same : length text - 1 - from_end ≡ kept + i = omega arith in
    blank_is_ascii (get_or (drop kept text) i 0)
    (ap is_blank (get_or-drop kept text i 0 ∙ ap (λ n. get_or text n 0) (sym same)
    ∙ sym (get_or-reverse text from_end 0 (omega arith)))
    ∙ prefix_len_passes is_blank (reverse text) from_end 0 near)

past_back : (text : List ℕ) (i kept : ℕ) → length text ≤ kept + i → get_or (drop kept text) i 0 < 128
past_back text i kept end =
    let gone : get_or (drop kept text) i 0 ≡ 0 =
    get_or_past (drop kept text) i 0 (omega (arith, length-drop kept text)) in
    omega (arith, gone)

back_is_ascii : (text : List ℕ) → IsAscii (drop (length text - suffix_len is_blank text) text)
back_is_ascii text i = choose (nat_lt (length text - suffix_len is_blank text + i) (length text)) refl
  where
    choose : (v : Bool) → nat_lt (length text - suffix_len is_blank text + i) (length text) ≡ v
        → get_or (drop (length text - suffix_len is_blank text) text) i 0 < 128
    choose true within = within_back text i _ _ refl (ltb-true _ _ within) refl
    choose false past = past_back text i _ (ltb-false _ _ past)

with_back : (text : List ℕ) → IsUtf8 (trimmed_back text) → IsUtf8 text
with_back text utf8 =
    let kept : ℕ = length text - suffix_len is_blank text in
    subst IsUtf8 (take-append-drop kept text)
    (IsUtf8-append (take kept text) (drop kept text) utf8 (IsUtf8-from_ascii (drop kept text) (back_is_ascii text)))

utf8_tested : (name : List ℕ) → is_tag_name name ≡ true → is_utf8 name ≡ true
utf8_tested name is =
    (and_parts _ _ (and_parts _ _ (and_parts _ _ (and_parts _ _ (and_parts _ _ is).0).0).0).0).0

-- bytes that are no text name no tag
pub no_tag : (bytes : List ℕ) → None ≡ text_of bytes → None ≡ tag_named bytes
no_tag bytes none =
    sym (cond-false (is_tag_name (trimmed bytes)) (Some (trimmed bytes)) None
    (no_test (is_tag_name (trimmed bytes))
    (λ is. let utf8 = IsUtf8-from_is_utf8 (trimmed bytes) (utf8_tested (trimmed bytes) is) in
    true≢false
    (sym (is_utf8-from_IsUtf8 bytes (with_front bytes (with_back (trimmed_front bytes) utf8)))
    ∙ no_text bytes none))))

-- ---- roots

-- bytes that are no text are no such text
other : (bytes : List ℕ) → None ≡ text_of bytes → (name : List ℕ) → IsUtf8 name
    → bytes_eq name bytes ≡ false
other bytes none name is =
    no_test (bytes_eq name bytes)
    (λ same. true≢false
    (sym (is_utf8-from_IsUtf8 name is) ∙ ap is_utf8 ((bytes_eq-Decides name bytes).0 same) ∙ no_text bytes none))

-- a text that is read is the bytes
pub text_is : (bytes text : List ℕ) → Some text ≡ text_of bytes → text ≡ bytes
text_is bytes text is = choose (is_utf8 bytes) refl
  where
    choose : (v : Bool) → is_utf8 bytes ≡ v → text ≡ bytes
    choose true utf8 =
        let some : Some text ≡ Some bytes = is ∙ cond-true (is_utf8 bytes) (Some bytes) None utf8 in cc
    choose false bad =
        let some : Some text ≡ None = is ∙ cond-false (is_utf8 bytes) (Some bytes) None bad in absurd (cc)

-- bytes that are no text name no root
pub no_root : (bytes : List ℕ) → None ≡ text_of bytes → None ≡ root_named bytes
unfolding encode
no_root bytes none =
    rw (
      other bytes none (codes "root________") (codes "root________", (refl, refl)),
      other bytes none (codes "menu________") (codes "menu________", (refl, refl)),
      other bytes none (codes "toolbar_____") (codes "toolbar_____", (refl, refl)),
      other bytes none (codes "tags________") (codes "tags________", (refl, refl)),
      other bytes none (codes "unfiled_____") (codes "unfiled_____", (refl, refl)),
      other bytes none (codes "mobile______") (codes "mobile______", (refl, refl)),
    )
