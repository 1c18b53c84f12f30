-- How a bookmark file begins.
use Rattle.std.proofs.Common.{◌≡◌, ◌∙◌, ◌-◌, ◌<◌, ◌≤◌, ℕ, Bool, true, false, List, Option}
use Rattle.std.proofs.Common.{Some, None, MatchOption, ap, arith, get_or, length, lit<, refl}
use Rattle.std.proofs.Common.{sym, take}
use lib.Utf8.{encode}
use Rattle.std.specs.Borrow.{Bor}
use Rattle.std.specs.Char.{to_ascii_lowercase}
use Rattle.std.specs.List.{starts_with}
use Rattle.std.specs.Option.{unwrap_or}
use Rattle.std.specs.Prelude.{nat_eq}
use Rattle.std.specs.Str.{IsCharBoundary, IsTrimAsciiStart, IsUtf8, is_utf8}
use Rattle.std.specs.Str.Lossy.{utf8_valid_len}
use Rattle.std.specs.Str.Pattern.{FindsCharPrefix, StripsPrefix}
use Rattle.std.proofs.lemmas.Bool.Decides.{nat_tests}
use Rattle.std.proofs.lemmas.List.{get_or-map, get_or-take, length-map, length-take}
use Rattle.std.proofs.lemmas.Slice.Eq.{bytes_eq-Decides}
use Rattle.std.proofs.lemmas.Str.{IsCharBoundary-after_ascii, IsUtf8-from_is_utf8, is_utf8-from_IsUtf8}
use Rattle.std.proofs.lemmas.Str.Pattern.{starts_text}
use Rattle.pl_words.specs.TagName.{trimmed_front}
use Rattle.pl_nbread.specs.BookmarkFile.{behind_mark, byte_order_mark, doctype, from_doctype, has_doctype, lowered}
use Rattle.pl_nbread.specs.BookmarkFile.{offset}
use Rattle.pl_nbread.proofs.ScanSteps.{trimmed_is}

-- ---- U+FEFF

unmarked : (text : Bor (List ℕ)) (r : Option (Bor (List ℕ)))
    → MatchOption r (FindsCharPrefix 65279 text.now None) (λ x. StripsPrefix (FindsCharPrefix 65279) text.now x.now)
    → (unwrap_or r text).now ≡ behind_mark text.now
unfolding encode
unmarked text None none = rw (sym (starts_text false byte_order_mark text.now none))
unmarked text (Some rest) (n, found, is, size) =
    let starts : starts_with nat_eq text.now byte_order_mark ≡ true =
    ap (λ (t : List ℕ). starts_with nat_eq t byte_order_mark) found.split in
    let three : n ≡ 3 = found.ends in
    is ∙ rw (starts, three)

pub starts_there : (text stripped : Bor (List ℕ)) (r : Option (Bor (List ℕ))) (rest : List ℕ)
    → MatchOption r (FindsCharPrefix 65279 text.now None) (λ x. StripsPrefix (FindsCharPrefix 65279) text.now x.now)
    → stripped ≡ unwrap_or r text → IsTrimAsciiStart stripped.now rest → rest ≡ from_doctype text.now
starts_there text stripped r rest cases is trimmed =
    trimmed_is stripped.now rest trimmed
    ∙ ap trimmed_front (ap (λ (t : Bor (List ℕ)). t.now) is ∙ unmarked text r cases)

-- ---- the doctype

last_is_ascii : (b : ℕ) → to_ascii_lowercase b ≡ 62 → b < 128
last_is_ascii b is = grind (arith, nat_tests)

-- a text that cannot be cut there does not begin with it
pub cut_short : (text : List ℕ) → IsUtf8 text → ¬ (IsCharBoundary text 35) → has_doctype text ≡ false
cut_short text utf8 uncut = choose (has_doctype text) refl
  where
    choose : (v : Bool) → has_doctype text ≡ v → v ≡ false
    choose false is = refl
    choose true is =
        let same : lowered (take 35 text) ≡ lowered doctype = (bytes_eq-Decides _ _).0 is in
        let size : length (take 35 text) ≡ 35 = sym (length-map (take 35 text) to_ascii_lowercase) ∙ ap length same in
        let long : 35 ≤ length text = omega (arith, length-take 35 text) in
        let last : to_ascii_lowercase (get_or text 34 0) ≡ 62 =
        ap to_ascii_lowercase (sym (get_or-take 35 text 34 0 (lit< tt)))
        ∙ sym (get_or-map to_ascii_lowercase (take 35 text) 34 0 0 (omega arith))
        ∙ ap (λ (t : List ℕ). get_or t 34 0) same in
        absurd (uncut
        (IsCharBoundary-after_ascii text 34 utf8 (omega arith) (last_is_ascii (get_or text 34 0) last)))

-- ---- where bytes are refused

module _ (bytes : List ℕ) where
  pub no_text : ¬ (IsUtf8 bytes) → offset bytes ≡ Some (utf8_valid_len bytes)
  no_text not_utf8 = rw (bad (is_utf8 bytes) refl)
    where
      bad : (v : Bool) → is_utf8 bytes ≡ v → v ≡ false
      bad true is = absurd (not_utf8 (IsUtf8-from_is_utf8 bytes is))
      bad false is = refl

  pub doctype_there : IsUtf8 bytes → has_doctype (from_doctype bytes) ≡ true → offset bytes ≡ None
  doctype_there utf8 is = rw (is_utf8-from_IsUtf8 bytes utf8, is)

  pub doctype_missing : IsUtf8 bytes → has_doctype (from_doctype bytes) ≡ false
      → offset bytes ≡ Some (length bytes - length (from_doctype bytes))
  doctype_missing utf8 is = rw (is_utf8-from_IsUtf8 bytes utf8, is)
