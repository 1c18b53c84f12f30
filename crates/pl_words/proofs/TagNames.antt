-- Blanks at the ends of texts.
use Rattle.std.proofs.Common.{◌≡◌, ◌≢◌, ◌∙◌, ◌+◌, ◌-◌, ◌<◌, ◌≤◌, ◌==◌, ℕ, Bool, true, false, not, List, [], ◌∷◌, ap}
use Rattle.std.proofs.Common.{All, arith, cond, drop, length, nat_lt, refl, reverse, slice_index, subst, suc, sym, take}
use Rattle.std.proofs.Common.{zero}
use Rattle.std.specs.Char.{is_ascii_whitespace}
use Rattle.std.specs.List.{list_any, prefix_len, suffix_len}
use Rattle.std.specs.Str.{IsAsciiWhitespaceBelow, IsAsciiWhitespaceFrom, IsTrimAscii, IsUtf8}
use Rattle.std.proofs.lemmas.Bool.Decides.{nat_tests}
use Rattle.std.proofs.lemmas.Bool.{ltb-false, ltb-true, not-true, true≢false}
use Rattle.std.proofs.lemmas.List.{length-drop, length-take, take_all}
use Rattle.std.proofs.lemmas.List.Folds.{list_any_at}
use Rattle.std.proofs.lemmas.List.Sums.{suffix_len_is}
use Rattle.std.proofs.lemmas.Str.Ascii.{trim_ascii_is}
use Rattle.pl_base.specs.Good.{IsTagName, is_blank}
use Rattle.pl_words.specs.TagName.{trimmed, trimmed_back, trimmed_front}

pub same_blank : (b : ℕ) → is_ascii_whitespace b ≡ is_blank b
same_blank b = grind (arith, nat_tests)

same_prefix : (bs : List ℕ) → prefix_len is_ascii_whitespace bs ≡ prefix_len is_blank bs
same_prefix [] = refl
same_prefix (b ∷ bs) =
    ap (λ p. cond p (1 + prefix_len is_ascii_whitespace bs) 0) (same_blank b)
    ∙ ap (λ n. cond (is_blank b) (1 + n) 0) (same_prefix bs)

-- what std drops are the blanks
pub trimmed_is : (text part : List ℕ) → IsTrimAscii text part → part ≡ trimmed text
trimmed_is text part h =
    let front : List ℕ = trimmed_front text in
    trim_ascii_is text part front (ap (λ n. drop n text) (sym (same_prefix text))) h
    ∙ ap (λ n. take (length front - n) front) (same_prefix (reverse front))

-- ---- a text that stays as it is

-- where nothing is dropped there is no blank at either end
no_blanks : (text part : List ℕ) → IsTrimAscii text part → length part ≡ length text → 0 < length text
    → (is_blank (slice_index text 0) ≡ false) × (is_blank (slice_index text (length text - 1)) ≡ false)
no_blanks text part h same some =
    let none : h.0 ≡ 0 =
    omega (arith, ap length h.1, length-take (length part) (drop h.0 text), length-drop h.0 text) in
    let front : is_ascii_whitespace (slice_index text h.0) ≡ false = h.3 (omega arith) in
    let back : is_ascii_whitespace (slice_index (drop h.0 text) (length part - 1)) ≡ false = h.5 (omega arith) in (
      sym (same_blank (slice_index text 0)) ∙ ap (λ n. is_ascii_whitespace (slice_index text n)) (sym none) ∙ front,
      sym (same_blank (slice_index text (length text - 1)))
          ∙ ap (λ n. is_ascii_whitespace (slice_index text (n - 1))) (sym same)
          ∙ ap (λ n. is_ascii_whitespace (slice_index (drop n text) (length part - 1))) (sym none)
          ∙ back,
    )

pub no_commas : (text : List ℕ) → list_any (λ b. b == 44) text ≡ false → All (λ b. b ≢ 44) text
no_commas text none k d within same =
    true≢false (sym (list_any_at (λ b. b == 44) text k d within (ap (λ b. b == 44) same)) ∙ none)

pub named : (text part : List ℕ) → IsUtf8 text → IsTrimAscii text part → 0 < length text → length text ≤ 100
    → list_any (λ b. b == 44) text ≡ false → length part ≡ length text → IsTagName text
named text part utf8 h some few none same =
    let ends = no_blanks text part h same some in
    record {
      text = utf8;
      some = some;
      few = few;
      no_comma = no_commas text none;
      no_blank_before = ap not ends.0;
      no_blank_after = ap not ends.1;
    }

front_kept : (text : List ℕ) (n : ℕ) → not (is_blank (slice_index text 0)) ≡ true → IsAsciiWhitespaceBelow text n
    → n ≡ 0
front_kept text zero own blanks = refl
front_kept text (suc n) own blanks =
    absurd
    (true≢false (sym own ∙ ap not (sym (same_blank (slice_index text 0)) ∙ blanks 0 (omega arith))))

back_kept : (text : List ℕ) (n : ℕ) → n ≤ length text → 0 < length text
    → not (is_blank (slice_index text (length text - 1))) ≡ true → IsAsciiWhitespaceFrom text n → n ≡ length text
back_kept text n within some own blanks = choose (nat_lt n (length text)) refl
  where
    choose : (b : Bool) → nat_lt n (length text) ≡ b → n ≡ length text
    choose true is =
        absurd
        (true≢false (sym own ∙ ap not (sym (same_blank (slice_index text (length text - 1)))
        ∙ blanks (length text - 1) (omega (arith, ltb-true n (length text) is)) (omega arith))))
    choose false is = omega (arith, ltb-false n (length text) is)

-- nothing is dropped of a tag's name
pub name_kept : (text part : List ℕ) → IsTrimAscii text part → IsTagName text → length part ≡ length text
name_kept text part h tag =
    let none : h.0 ≡ 0 = front_kept text h.0 tag.no_blank_before h.2 in
    let within : length part ≤ length text =
    omega (arith, ap length h.1, length-take (length part) (drop h.0 text), length-drop h.0 text) in
    back_kept text (length part) within tag.some tag.no_blank_after
    (subst (λ n. IsAsciiWhitespaceFrom (drop n text) (length part)) none h.4)

-- ---- a tag's name in whole

front_whole : (name : List ℕ) → 0 < length name → is_blank (slice_index name 0) ≡ false → trimmed_front name ≡ name
front_whole [] some own = absurd (omega arith)
front_whole (b ∷ bs) some own = ap (λ p. drop (cond p (1 + prefix_len is_blank bs) 0) (b ∷ bs)) own

-- a tag's name is the tag that it names
pub name_trimmed : (name : List ℕ) → IsTagName name → trimmed name ≡ name
name_trimmed name tag =
    let last : suffix_len is_blank name ≡ length name - length name =
    suffix_len_is is_blank name (length name) 0 (omega arith) (λ k from within. absurd (omega arith))
    (λ _. not-true (is_blank (slice_index name (length name - 1))) tag.no_blank_after) in
    let front : trimmed_front name ≡ name =
    front_whole name tag.some (not-true (is_blank (slice_index name 0)) tag.no_blank_before) in
    ap trimmed_back front ∙ take_all (length name - suffix_len is_blank name) name (omega (arith, last))
