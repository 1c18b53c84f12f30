-- What the URL parser makes of a path is ASCII.
use Rattle.std.proofs.Common.{◌≡◌, ◌∙◌, ◌-◌, ◌<◌, ◌==◌, ◌&&◌, ℕ, Bool, true, false, not}
use Rattle.std.proofs.Common.{List, [], ◌∷◌, ◌++◌, IsAscii, ap, arith, codes}
use Rattle.std.proofs.Common.{drop, get_or, length, lit<, refl, subst, take}
use Rattle.std.proofs.Common.{take_at, unwrap_or}
use Rattle.std.proofs.lemmas.Bool.{and_parts, cond_both}
use Rattle.std.proofs.lemmas.Bool.Decides.{nat_tests}
use Rattle.std.proofs.lemmas.Str.{IsAscii-append, IsAscii-take}
use Rattle.std.proofs.lemmas.Str.Ascii.{IsAscii-cons, IsAscii-nil}
use Rattle.percent_encoding.specs.Percent.{percent_encode}
use Rattle.percent_encoding.proofs.PercentLemmas.{IsAscii-percent_encode}
use Rattle.url.specs.declared.scheme.SchemeType.{SchemeType}
use Rattle.url.specs.declared.sets.TheConstants.{PATH}
use Rattle.url.specs.Input.{is_empty, rsplit_once}
use Rattle.url.specs.Input.{when}
use Rattle.url.specs.Path.{dot_count, ends_in_space, escape_end, is_windows_drive_letter}
use Rattle.url.specs.Path.{parse_path_start, parse_segments, push_segment, segment_text, shorten_path}
use Rattle.url.specs.Path.{without_last_segment}
use Rattle.url.specs.Scheme.{is_file, is_slash, is_special}
use Rattle.url.proofs.InputLemmas.{rsplit_once_front}

pub ascii_when : (test : Bool) (bytes : List ℕ) → IsAscii bytes → IsAscii (when test bytes)
ascii_when true bytes ascii = ascii
ascii_when false bytes ascii = IsAscii-nil

pub ascii_slash : IsAscii (47 ∷ [])
ascii_slash = IsAscii-cons 47 [] (lit< tt) IsAscii-nil

ascii_front : (s : ℕ) (path : List ℕ) → IsAscii path → IsAscii (unwrap_or (rsplit_once s path).0 [])
ascii_front s path ascii =
    let front = unwrap_or (rsplit_once s path).0 [] in
    let split = rsplit_once_front s path in
    subst IsAscii (ap (take (length front)) split.1 ∙ take_at front split.0 (length front) refl)
    (IsAscii-take path (length front) ascii)

ascii_shorter : (kind : SchemeType) (path : List ℕ) → IsAscii path → IsAscii (shorten_path kind path)
unfolding shorten_path
ascii_shorter kind path ascii =
    cond_both _ path (without_last_segment path) IsAscii (λ _. ascii) (λ _. ascii_front 47 path ascii)

ascii_letter : (segment : List ℕ) → is_windows_drive_letter segment ≡ true → get_or segment 0 0 < 128
unfolding is_windows_drive_letter
ascii_letter segment is = grind (arith, nat_tests)

ascii_segment : (kind : SchemeType) (path segment : List ℕ) → IsAscii (segment_text kind path segment)
ascii_segment kind path segment =
    cond_both (is_file kind && is_empty path && is_windows_drive_letter segment) (get_or segment 0 0 ∷ 58 ∷ [])
    (percent_encode PATH segment) IsAscii
    (λ drive. IsAscii-cons (get_or segment 0 0) (58 ∷ []) (ascii_letter segment (and_parts _ _ drive).1)
    (IsAscii-cons 58 [] (lit< tt) IsAscii-nil))
    (λ _. IsAscii-percent_encode PATH segment)

ascii_push : (kind : SchemeType) (path segment : List ℕ) (is_last : Bool) → IsAscii path
    → IsAscii (push_segment kind path segment is_last)
unfolding push_segment
ascii_push kind path segment is_last ascii =
    let end = ascii_when is_last (47 ∷ []) ascii_slash in
    cond_both (dot_count segment == 2) _ _ IsAscii
    (λ _. IsAscii-append (shorten_path kind path) (when is_last (47 ∷ [])) (ascii_shorter kind path ascii) end)
    (λ _. cond_both (dot_count segment == 1) _ _ IsAscii
    (λ _. IsAscii-append path (when is_last (47 ∷ [])) ascii end)
    (λ _. IsAscii-append path (47 ∷ segment_text kind path segment) ascii
    (IsAscii-cons 47 (segment_text kind path segment) (lit< tt) (ascii_segment kind path segment))))

pub ascii_segments : (kind : SchemeType) (bytes path segment : List ℕ) → IsAscii path
    → IsAscii (parse_segments kind path segment bytes)
unfolding parse_segments
ascii_segments kind [] path segment ascii = ascii_push kind path segment true ascii
ascii_segments kind (b ∷ bytes) path segment ascii =
    let next = ascii_segments kind bytes (push_segment kind path segment false) []
    (ascii_push kind path segment false ascii) in
    let longer = ascii_segments kind bytes path (segment ++ b ∷ []) ascii in
    cond_both (is_slash kind b) (parse_segments kind (push_segment kind path segment false) [] bytes)
    (parse_segments kind path (segment ++ b ∷ []) bytes) IsAscii (λ _. next) (λ _. longer)

pub ascii_start : (kind : SchemeType) (bytes : List ℕ) → IsAscii (parse_path_start kind [] bytes)
unfolding parse_path_start
ascii_start kind bytes =
    cond_both (is_empty bytes && not (is_special kind)) [] _ IsAscii (λ _. IsAscii-nil)
    (λ _. cond_both (is_slash kind (get_or bytes 0 0)) _ _ IsAscii
    (λ _. ascii_segments kind (drop 1 bytes) [] [] IsAscii-nil) (λ _. ascii_segments kind bytes [] [] IsAscii-nil))

pub ascii_ended : (path : List ℕ) → IsAscii path → IsAscii (escape_end path)
ascii_ended path ascii =
    cond_both (ends_in_space path) (take (length path - 1) path ++ codes "%20") path IsAscii
    (λ _. IsAscii-append (take (length path - 1) path) (37 ∷ 50 ∷ 48 ∷ []) (IsAscii-take path (length path - 1) ascii)
    (IsAscii-cons 37 (50 ∷ 48 ∷ []) (lit< tt) (IsAscii-cons 50 (48 ∷ []) (lit< tt)
    (IsAscii-cons 48 [] (lit< tt) IsAscii-nil))))
    (λ _. ascii)
