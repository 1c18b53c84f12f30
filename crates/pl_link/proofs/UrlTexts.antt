-- What the URL parser makes of an absolute address is ASCII.
use Rattle.std.proofs.Common.{◌≡◌, ◌+◌, ◌<◌, ◌^◌, ◌==◌, ◌&&◌, ◌||◌, ℕ, Bool, true, false, not, cond}
use Rattle.std.proofs.Common.{List, [], ◌∷◌, IsAscii, None, Option, Some, Ok, Err, arith, codes, decimal}
use Rattle.std.proofs.Common.{drop, get_or, is_some, length, lit<, nat_le, nat_lt, refl, subst, take, unwrap_or}
use Rattle.std.specs.Prelude.{IfSome}
use Rattle.std.specs.List.{AllByRecursion as ByRecursion, concat, list_all}
use Rattle.std.specs.Char.{is_ascii_digit, to_ascii_lowercase}
use Rattle.std.specs.Option.{option_map}
use Rattle.std.specs.Str.Parse.{digits_value}
use Rattle.std.proofs.lemmas.Bool.{and_parts, cond_both, ltb-true}
use Rattle.std.proofs.lemmas.Fmt.{IsAscii-decimal}
use Rattle.std.proofs.lemmas.Str.{IsAscii-append}
use Rattle.std.proofs.lemmas.Slice.Eq.{bytes_eq-Decides}
use Rattle.std.proofs.lemmas.Str.Ascii.{IsAscii-cons, IsAscii-map, IsAscii-nil, lowercase_ascii}
use Rattle.percent_encoding.specs.declared.ascii_set.AsciiSet.{AsciiSet}
use Rattle.percent_encoding.specs.Percent.{percent_encode}
use Rattle.percent_encoding.proofs.PercentLemmas.{IsAscii-percent_encode}
use Rattle.url.specs.declared.host.Host.{Host}
use Rattle.url.specs.declared.host.Host.TheVariants.{Domain}
use Rattle.url.specs.declared.scheme.SchemeType.TheVariants.{File, NotSpecial}
use Rattle.url.specs.declared.sets.TheConstants.{FRAGMENT, OPAQUE_PATH, USERINFO}
use Rattle.url.specs.Head.{scheme_only}
use Rattle.url.specs.Host.{parse_file_host, parse_host}
use Rattle.url.specs.Input.{is_empty, lowercase, rsplit_once, split_once, strip_tabs_and_new_lines}
use Rattle.url.specs.Input.{trim_c0_control_and_space, when}
use Rattle.url.specs.Parser.{Parsed, after_double_slash, after_file_double_slash, before_tail, file_with_host}
use Rattle.url.specs.Parser.{lacks_host, leading_slashes, parse_authority, parse_body, parse_by_scheme, parse_file}
use Rattle.url.specs.Parser.{parse_non_special, parse_parts, parse_port, parse_url, split_port}
use Rattle.url.specs.Parser.{split_scheme, with_path, with_tail, without_default_port}
use Rattle.url.specs.Parts.{Parts, host_or_empty, kind_of, needs_guard, pieces, query_set, serialize}
use Rattle.url.specs.Path.{escape_end, is_windows_drive_letter}
use Rattle.url.specs.Path.{parse_path_start, segment_len}
use Rattle.url.specs.Scheme.{is_file, is_special, scheme_len, scheme_type}
use Rattle.url.proofs.SchemeLemmas.{scheme_at_front}
use Rattle.pl_base.specs.Address.{is_store_url, is_text, longest_url, record_of, serialized}
use Rattle.pl_link.proofs.HostCases.{by_test, ok_then, past_error, same_ok}
use Rattle.pl_link.proofs.UrlHosts.{IsAsciiHost, ascii_file_host, ascii_host}
use Rattle.pl_link.proofs.UrlPaths.{ascii_ended, ascii_segments, ascii_slash, ascii_start, ascii_when}

-- ---- the parts

-- the parts of a URL are ASCII
record AreAscii (url : Parts) : Type 0 where
  scheme : IsAscii url.scheme
  username : IsAscii url.username
  password : IsAscii url.password
  host : IsAsciiHost (host_or_empty url)
  port : IsAscii (unwrap_or (option_map decimal url.port) [])
  path : IsAscii url.path
  query : IsAscii (unwrap_or url.query [])
  fragment : IsAscii (unwrap_or url.fragment [])

abbrev AsciiPort : Option ℕ → Type 0
AsciiPort port = IsAscii (unwrap_or (option_map decimal port) [])

ascii_port : (scheme digits : List ℕ) (port : Option ℕ) → parse_port scheme digits ≡ Ok port → AsciiPort port
unfolding parse_port
ascii_port scheme digits port is =
    by_test (is_empty digits) _ _ port is
    (λ _ none. subst AsciiPort (same_ok None port none) IsAscii-nil)
    (λ _ some. by_test (list_all is_ascii_digit digits && nat_lt (digits_value 10 digits) (2 ^ 16)) _ _ port some
    (λ small read. subst AsciiPort (same_ok (without_default_port scheme (Some (digits_value 10 digits))) port read)
    (cond_both _ None (Some (digits_value 10 digits)) AsciiPort (λ _. IsAscii-nil)
    (λ _. IsAscii-decimal (digits_value 10 digits)
    (omega (arith, ltb-true (digits_value 10 digits) (2 ^ 16) (and_parts _ _ small).1)))))
    (λ _ bad. cc))

with_ascii_path : (url : Parts) (path : List ℕ) → AreAscii url → IsAscii path → AreAscii (with_path url path)
with_ascii_path url path ascii path_is =
    record {
      scheme = ascii.scheme;
      username = ascii.username;
      password = ascii.password;
      host = ascii.host;
      port = ascii.port;
      path = path_is;
      query = ascii.query;
      fragment = ascii.fragment;
    }

ascii_authority : (scheme bytes : List ℕ) (head : Parts) → IsAscii scheme → parse_authority scheme bytes ≡ Ok head
    → AreAscii head
unfolding parse_authority
ascii_authority scheme bytes head ascii is =
    let at = rsplit_once 64 bytes in
    let userinfo = split_once 58 (unwrap_or at.0 []) in
    let host_port = split_port at.1 in
    ok_then (parse_host (scheme_type scheme) host_port.0) _ head
    (past_error (lacks_host at.0 host_port.0 host_port.1) _ _ head is).1
    λ host read more.
    ok_then (parse_port scheme (unwrap_or host_port.1 [])) _ head more λ port got end.
    subst AreAscii (same_ok _ head end)
    (record {
      scheme = ascii;
      username = IsAscii-percent_encode USERINFO userinfo.0;
      password = IsAscii-percent_encode USERINFO (unwrap_or userinfo.1 []);
      host = ascii_host (scheme_type scheme) host_port.0 host read;
      port = ascii_port scheme (unwrap_or host_port.1 []) port got;
      path = IsAscii-nil;
      query = IsAscii-nil;
      fragment = IsAscii-nil;
    })

scheme_alone : (scheme : List ℕ) → IsAscii scheme → AreAscii (scheme_only scheme)
scheme_alone scheme ascii =
    record {
      scheme = ascii;
      username = IsAscii-nil;
      password = IsAscii-nil;
      host = IsAscii-nil;
      port = IsAscii-nil;
      path = IsAscii-nil;
      query = IsAscii-nil;
      fragment = IsAscii-nil;
    }

ascii_slashes : (scheme bytes : List ℕ) (url : Parts) → IsAscii scheme → after_double_slash scheme bytes ≡ Ok url
    → AreAscii url
unfolding after_double_slash
ascii_slashes scheme bytes url ascii is =
    let kind = scheme_type scheme in
    let len = segment_len kind bytes in
    ok_then (parse_authority scheme (take len bytes)) _ url is λ head read end.
    subst AreAscii (same_ok (with_path head (parse_path_start kind [] (drop len bytes))) url end)
    (with_ascii_path head _ (ascii_authority scheme (take len bytes) head ascii read)
    (ascii_start kind (drop len bytes)))

ascii_plain : (scheme path : List ℕ) (url : Parts) → IsAscii scheme → IsAscii path
    → ◌≡◌ {A = Parsed Parts} (Ok (with_path (scheme_only scheme) path)) (Ok url) → AreAscii url
ascii_plain scheme path url ascii path_is is =
    subst AreAscii (same_ok (with_path (scheme_only scheme) path) url is)
    (with_ascii_path (scheme_only scheme) path (scheme_alone scheme ascii) path_is)

ascii_non_special : (scheme body : List ℕ) (url : Parts) → IsAscii scheme → parse_non_special scheme body ≡ Ok url
    → AreAscii url
unfolding parse_non_special
ascii_non_special scheme body url ascii is =
    by_test (leading_slashes NotSpecial body == 2) _ _ url is
    (λ _ two. ascii_slashes scheme (drop 2 body) url ascii two)
    (λ _ other. by_test (leading_slashes NotSpecial body == 1) _ _ url other
    (λ _ one. ascii_plain scheme _ url ascii (ascii_segments NotSpecial (drop 1 body) [] [] IsAscii-nil) one)
    (λ _ none. ascii_plain scheme _ url ascii (IsAscii-percent_encode OPAQUE_PATH body) none))

file_scheme : IsAscii (codes "file")
file_scheme =
    IsAscii-cons 102 (105 ∷ 108 ∷ 101 ∷ []) (lit< tt)
    (IsAscii-cons 105 (108 ∷ 101 ∷ []) (lit< tt) (IsAscii-cons 108 (101 ∷ []) (lit< tt)
    (IsAscii-cons 101 [] (lit< tt) IsAscii-nil)))

ascii_file : (host : Host (List ℕ)) (path : List ℕ) (url : Parts) → IsAsciiHost host → IsAscii path
    → ◌≡◌ {A = Parsed Parts} (Ok (with_path (file_with_host host) path)) (Ok url) → AreAscii url
ascii_file host path url ascii path_is is =
    subst AreAscii (same_ok (with_path (file_with_host host) path) url is)
    (record {
      scheme = file_scheme;
      username = IsAscii-percent_encode USERINFO [];
      password = IsAscii-percent_encode USERINFO [];
      host = ascii;
      port = IsAscii-nil;
      path = path_is;
      query = IsAscii-nil;
      fragment = IsAscii-nil;
    })

ascii_file_slashes : (bytes : List ℕ) (url : Parts) → after_file_double_slash bytes ≡ Ok url → AreAscii url
unfolding after_file_double_slash
ascii_file_slashes bytes url is =
    let len = segment_len File bytes in
    by_test (is_windows_drive_letter (take len bytes)) _ _ url is
    (λ _ drive. ascii_file (Domain []) _ url IsAscii-nil (ascii_segments File bytes [] [] IsAscii-nil) drive)
    (λ _ other. ok_then (parse_file_host (take len bytes)) _ url other λ host read end.
    ascii_file host _ url (ascii_file_host (take len bytes) host read) (ascii_start File (drop len bytes)) end)

ascii_file_body : (body : List ℕ) (url : Parts) → parse_file None body ≡ Ok url → AreAscii url
unfolding parse_file
ascii_file_body body url is =
    by_test (leading_slashes File body == 2) _ _ url is (λ _ two. ascii_file_slashes _ url two)
    (λ _ other. ascii_file (Domain []) _ url IsAscii-nil (ascii_segments File _ [] [] IsAscii-nil) other)

ascii_body : (scheme body : List ℕ) (url : Parts) → IsAscii scheme → parse_body scheme None body ≡ Ok url → AreAscii url
unfolding parse_body
ascii_body scheme body url ascii is =
    by_test (is_file (scheme_type scheme)) _ _ url is (λ _ file. ascii_file_body body url file)
    (λ _ other. by_test (is_special (scheme_type scheme)) _ _ url other
    (λ _ special. ascii_slashes scheme _ url ascii special)
    (λ _ plain. ascii_non_special scheme body url ascii plain))

-- ---- the whole

ascii_encoded : (set : AsciiSet) (part : Option (List ℕ))
    → IsAscii (unwrap_or (option_map (percent_encode set) part) [])
ascii_encoded set None = IsAscii-nil
ascii_encoded set (Some part) = IsAscii-percent_encode set part

ascii_before : (url : Parts) (query fragment : Option (List ℕ)) → AreAscii url
    → AreAscii (before_tail url query fragment)
ascii_before url query fragment ascii =
    cond_both (not (is_special (kind_of url)) && (is_some query || is_some fragment))
    (with_path url (escape_end url.path)) url AreAscii
    (λ _. with_ascii_path url (escape_end url.path) ascii (ascii_ended url.path ascii.path)) (λ _. ascii)

ascii_tail : (url : Parts) (query fragment : Option (List ℕ)) → AreAscii url → AreAscii (with_tail url query fragment)
ascii_tail url query fragment ascii =
    record {
      scheme = ascii.scheme;
      username = ascii.username;
      password = ascii.password;
      host = ascii.host;
      port = ascii.port;
      path = ascii.path;
      query = ascii_encoded (query_set (kind_of url)) query;
      fragment = ascii_encoded FRAGMENT fragment;
    }

ascii_parts : (scheme body : List ℕ) (query fragment : Option (List ℕ)) (url : Parts) → IsAscii scheme
    → parse_parts scheme None body query fragment ≡ Ok url → AreAscii url
unfolding parse_parts
ascii_parts scheme body query fragment url ascii is =
    ok_then (parse_body scheme None body) _ url is λ found read end.
    subst AreAscii (same_ok (with_tail (before_tail found query fragment) query fragment) url end)
    (ascii_tail (before_tail found query fragment) query fragment
    (ascii_before found query fragment (ascii_body scheme body found ascii read)))

abbrev HasAsciiScheme : Option (List ℕ × List ℕ) → Type 0
HasAsciiScheme split = IfSome split (λ s. IsAscii s.0)

scheme_split : (bytes : List ℕ) → HasAsciiScheme (split_scheme bytes)
unfolding split_scheme
scheme_split bytes =
    let len = scheme_len bytes in
    cond_both (nat_lt 0 len && (get_or bytes len 0 == 58)) (Some (take len bytes, drop (len + 1) bytes)) None
    HasAsciiScheme
    (λ some. (scheme_at_front bytes len refl (ltb-true 0 len (and_parts _ _ some).0)).0) (λ _. tt)

ascii_by_scheme : (split : Option (List ℕ × List ℕ)) (body : List ℕ) (query fragment : Option (List ℕ)) (url : Parts)
    → HasAsciiScheme split → parse_by_scheme split None body query fragment ≡ Ok url → AreAscii url
ascii_by_scheme None body query fragment url ascii is = cc
ascii_by_scheme (Some split) body query fragment url ascii is =
    ascii_parts (lowercase split.0) split.1 query fragment url
    (IsAscii-map to_ascii_lowercase split.0 lowercase_ascii ascii) is

ascii_url : (input : List ℕ) (url : Parts) → parse_url None input ≡ Ok url → AreAscii url
unfolding parse_url
ascii_url input url is =
    let hash = split_once 35 (strip_tabs_and_new_lines (trim_c0_control_and_space input)) in
    let question = split_once 63 hash.0 in
    ascii_by_scheme (split_scheme question.0) question.0 question.1 hash.1 url (scheme_split question.0) is

-- ---- the text

abbrev EachAscii : List (List ℕ) → Type 0
EachAscii texts = ByRecursion IsAscii texts

joined_ascii : (texts : List (List ℕ)) → EachAscii texts → IsAscii (concat texts)
joined_ascii [] each = IsAscii-nil
joined_ascii (text ∷ texts) each = IsAscii-append text (concat texts) each.0 (joined_ascii texts each.1)

one_byte : (test : Bool) (b : ℕ) → b < 128 → IsAscii (when test (b ∷ []))
one_byte test b small = ascii_when test (b ∷ []) (IsAscii-cons b [] small IsAscii-nil)

ascii_marks : (test : Bool) → IsAscii (cond test (codes "://") (codes ":"))
ascii_marks true = IsAscii-cons 58 (47 ∷ 47 ∷ []) (lit< tt) (IsAscii-cons 47 (47 ∷ []) (lit< tt) ascii_slash)
ascii_marks false = IsAscii-cons 58 [] (lit< tt) IsAscii-nil

ascii_text : (url : Parts) → AreAscii url → IsAscii (serialize url)
ascii_text url ascii =
    let guard = ascii_when (needs_guard url) (47 ∷ 46 ∷ [])
    (IsAscii-cons 47 (46 ∷ []) (lit< tt) (IsAscii-cons 46 [] (lit< tt) IsAscii-nil)) in
    joined_ascii (pieces url) (
      ascii.scheme,
      (
        ascii_marks _,
        (
          ascii.username,
          (
            one_byte _ 58 (lit< tt),
            (
              ascii.password,
              (
                one_byte _ 64 (lit< tt),
                (
                  ascii.host,
                  (
                    one_byte _ 58 (lit< tt),
                    (
                      ascii.port,
                      (
                        guard,
                        (
                          ascii.path,
                          (one_byte _ 63 (lit< tt), (ascii.query, (one_byte _ 35 (lit< tt), (ascii.fragment, tt)))),
                        ),
                      ),
                    ),
                  ),
                ),
              ),
            ),
          ),
        ),
      ),
    )

-- what an absolute address is written as is ASCII
serialized_ascii : (input : List ℕ) (url : Parts) → parse_url None input ≡ Ok url → IsAscii (serialize url)
serialized_ascii input url is = ascii_text url (ascii_url input url is)

record_ascii : (r : Parsed Parts) (url : List ℕ) → parse_url None url ≡ r → is_text url (serialized r) ≡ true
    → IsAscii url
record_ascii (Err e) url parsed is = cc
record_ascii (Ok found) url parsed is =
    subst IsAscii ((bytes_eq-Decides (serialize found) url).0 is) (serialized_ascii url found parsed)

-- a URL of the store is ASCII
pub store_url_ascii : (url : List ℕ) → is_store_url url ≡ true → IsAscii url
store_url_ascii url own =
    record_ascii (record_of url) url refl
    (and_parts (is_text url (serialized (record_of url))) (nat_le (length url) longest_url) own).0
