-- What a URL tells of its record: the host without its port, and whether it holds a query.
use Rattle.std.proofs.Common.{◌≡◌, ◌∙◌, ◌+◌, ◌^◌, ◌==◌, ◌&&◌, ◌||◌, ◌++◌, not, ℕ, Bool}
use Rattle.std.proofs.Common.{true, false, cond, List, [], ◌∷◌, All, None, Option, Some, Ok, Err}
use Rattle.std.proofs.Common.{ap, append-nil, arith, decimal, drop, get_or, nat_lt, refl}
use Rattle.std.proofs.Common.{subst, sym, take, unwrap_or, if◌then◌else◌, lit<, is_some}
use Rattle.std.specs.Char.{is_ascii_digit}
use Rattle.std.specs.Int.{to_be_bytes, w32}
use Rattle.std.specs.List.{concat, list_all, list_any, starts_with}
use Rattle.std.specs.Prelude.{IfSome, bytes_eq, codes, nat_eq}
use Rattle.std.proofs.lemmas.List.{take-append-drop}
use Rattle.std.proofs.lemmas.Slice.Eq.{bytes_eq-Decides}
use Rattle.std.specs.Net.Text.{hex_groups_text, ipv4_text}
use Rattle.std.specs.Option.{option_map}
use Rattle.std.specs.Str.Parse.{digits_value}
use Rattle.std.proofs.NetLemmas.Alphabet.{All-ipv4_text, IsDigitOrDot}
use Rattle.std.proofs.NetLemmas.Texts.{AllSegments}
use Rattle.std.proofs.lemmas.Bool.{and_parts, and_right, cond-true, cond_both, ltb-true, true≢false}
use Rattle.std.proofs.lemmas.Bool.Decides.{nat_tests}
use Rattle.std.proofs.lemmas.List.Elements.{All-cons, All-nil, All-weaker}
use Rattle.url.specs.declared.error.ParseError.TheVariants.{InvalidPort}
use Rattle.url.specs.declared.host.Host.{Host}
use Rattle.url.specs.declared.host.Host.TheVariants.{Domain}
use Rattle.url.specs.declared.scheme.SchemeType.TheVariants.{File, NotSpecial}
use Rattle.url.specs.declared.sets.TheConstants.{FORBIDDEN_DOMAIN, FORBIDDEN_HOST}
use Rattle.url.specs.Host.{host_text}
use Rattle.url.specs.Host.{is_forbidden_in_domain}
use Rattle.url.specs.Host.{parse_file_host, parse_host}
use Rattle.url.specs.Input.{is_empty, lowercase, rsplit_once, rsplit_step, split_once}
use Rattle.url.specs.Input.{strip_tabs_and_new_lines, trim_c0_control_and_space}
use Rattle.url.specs.Parser.{Parsed, after_double_slash, after_file_double_slash}
use Rattle.url.specs.Parser.{before_tail, file_with_host, lacks_host, leading_slashes}
use Rattle.url.specs.Parser.{parse_authority, parse_body, parse_by_scheme, parse_file}
use Rattle.url.specs.Parser.{parse_non_special, parse_parts, parse_port, parse_url, split_port}
use Rattle.url.specs.Parser.{split_scheme, with_path, with_tail, without_default_port}
use Rattle.url.specs.Parts.{Parts, has_authority, host_or_empty, kind_of, pieces, serialize}
use Rattle.url.specs.Path.{escape_end, is_windows_drive_letter, segment_len}
use Rattle.url.specs.Scheme.{IsScheme, is_file, is_special, scheme_len, scheme_type}
use Rattle.url.specs.Head.{scheme_only, with_authority}
use Rattle.url.proofs.HostLemmas.{none_from_list_any, opaque_host_encoded}
use Rattle.url.proofs.InputLemmas.{IsNot, rsplit_once_at, rsplit_once_none}
use Rattle.url.proofs.SetLemmas.{All_kept_differs}
use Rattle.url.proofs.SchemeLemmas.{IsScheme_file, scheme_at_front}
use Rattle.url.proofs.RoundTrip.{split_own_scheme}
use Rattle.pl_base.proofs.ListLaws.{starts_with-append}
use Rattle.pl_base.proofs.Truths.{same_tests}
use Rattle.pl_base.specs.Address.{host_and_port, is_place, record_of}
use Rattle.pl_base.proofs.Numerals.{decimal_numeral, digits_from_numeral}
use Rattle.pl_link.proofs.HostCases.{HoldsOfEach, by_test, file_host_holds, host_holds}
use Rattle.pl_link.proofs.HostCases.{octets_small, ok_then, past_error, same_ok}
use Rattle.pl_place.specs.PlaceText.{place_prefix}
use Rattle.pl_query.specs.Decides.{before_port, host_alone}

-- ---- the last colon

-- no digits alone stand behind the last colon
abbrev IsPlain : List ℕ → Type 0
IsPlain host = host_alone host ≡ host

no_colon : (host : List ℕ) → All (IsNot 58) host → IsPlain host
no_colon host none = ap (λ r. before_port host r.0 r.1) (rsplit_once_none 58 host none)

bracket_step : (b : ℕ) (front : Option (List ℕ)) (back : List ℕ)
    → list_all is_ascii_digit back ≡ false
    → list_all is_ascii_digit (rsplit_step 58 b front back).1 ≡ false
bracket_step b (Some front) back other = other
bracket_step b None back other = choose (b == 58)
  where
    choose : (t : Bool)
        → list_all is_ascii_digit
        (cond {A = Option (List ℕ) × List ℕ} t (Some [], back) (None, b ∷ back)).1 ≡ false
    choose true = other
    choose false = and_right (is_ascii_digit b) (list_all is_ascii_digit back) other

behind_bracket : (front : List ℕ)
    → list_all is_ascii_digit (rsplit_once 58 (front ++ 93 ∷ [])).1 ≡ false
unfolding rsplit_once
behind_bracket [] = refl
behind_bracket (b ∷ front) =
    let later = rsplit_once 58 (front ++ 93 ∷ []) in
    bracket_step b later.0 later.1 (behind_bracket front)

bracketed : (front : List ℕ) → IsPlain (front ++ 93 ∷ [])
bracketed front = choose (rsplit_once 58 host).0
  where
    host : List ℕ
    host = front ++ 93 ∷ []

    choose : (name : Option (List ℕ)) → before_port host name (rsplit_once 58 host).1 ≡ host
    choose None = refl
    choose (Some name) = ap (λ t. cond t name host) (behind_bracket front)

digits_lack : (digits : List ℕ) → list_all is_ascii_digit digits ≡ true → All (IsNot 58) digits
digits_lack [] all = All-nil (IsNot 58)
digits_lack (d ∷ digits) all =
    let both = and_parts (is_ascii_digit d) (list_all is_ascii_digit digits) all in
    All-cons (IsNot 58) d digits (λ is. absurd (true≢false (grind (arith, nat_tests))))
    (digits_lack digits both.1)

port_off : (host digits : List ℕ) → list_all is_ascii_digit digits ≡ true
    → host_alone (host ++ 58 ∷ digits) ≡ host
port_off host digits all =
    ap (λ r. before_port (host ++ 58 ∷ digits) r.0 r.1)
    (rsplit_once_at 58 host digits (digits_lack digits all))
    ∙ cond-true (list_all is_ascii_digit digits) host (host ++ 58 ∷ digits) all

-- ---- hosts

abbrev IsPlainHost : Host (List ℕ) → Type 0
IsPlainHost h = IsPlain (host_text h)

plain_ipv6 : (segments : List ℕ) → AllSegments segments
    → IsPlain ((91 ∷ hex_groups_text segments) ++ 93 ∷ [])
plain_ipv6 segments small = bracketed (91 ∷ hex_groups_text segments)

plain_ipv4 : (bits : ℕ) → IsPlain (ipv4_text (to_be_bytes w32 bits))
plain_ipv4 bits =
    let text = ipv4_text (to_be_bytes w32 bits) in
    no_colon text
    (All-weaker IsDigitOrDot (IsNot 58) (λ b digit is. grind arith) text
    (All-ipv4_text (to_be_bytes w32 bits) (octets_small bits)))

plain_named : (domain : List ℕ) → list_any is_forbidden_in_domain domain ≡ false → IsPlain domain
plain_named domain none =
    no_colon domain (All_kept_differs FORBIDDEN_DOMAIN 58 refl domain
    (none_from_list_any is_forbidden_in_domain domain none))

plain_each : HoldsOfEach IsPlainHost
plain_each =
    record {
      none = no_colon [] (All-nil (IsNot 58));
      named = plain_named;
      opaque =
          λ bytes allowed.
          no_colon _ (All_kept_differs FORBIDDEN_HOST 58 refl _
          (opaque_host_encoded bytes allowed).0);
      ipv4 = plain_ipv4;
      ipv6 = plain_ipv6;
    }

-- ---- ports

-- a port is written in digits
abbrev HasDigits : Option ℕ → Type 0
HasDigits port = list_all is_ascii_digit (unwrap_or (option_map decimal port) []) ≡ true

digits_port : (scheme digits : List ℕ) (port : Option ℕ) → parse_port scheme digits ≡ Ok port
    → HasDigits port
unfolding parse_port
digits_port scheme digits port is =
    by_test (is_empty digits) _ _ port is
    (λ _ none. subst HasDigits (same_ok None port none) refl)
    (λ _ some. choose (list_all is_ascii_digit digits && nat_lt (digits_value 10 digits) (2 ^ 16))
    refl some)
  where
    choose : (t : Bool)
        → (list_all is_ascii_digit digits && nat_lt (digits_value 10 digits) (2 ^ 16)) ≡ t
        → cond t (Ok (without_default_port scheme (Some (digits_value 10 digits))))
        (Err InvalidPort) ≡ Ok port
        → HasDigits port
    choose true small read =
        subst HasDigits
        (same_ok (without_default_port scheme (Some (digits_value 10 digits))) port read)
        (cond_both _ None (Some (digits_value 10 digits)) HasDigits (λ _. refl)
        (λ _. (digits_from_numeral (decimal (digits_value 10 digits))
        (decimal_numeral (digits_value 10 digits)
        (omega (arith, ltb-true (digits_value 10 digits) (2 ^ 16) (and_parts _ _ small).1)))).0))
    choose false large bad = cc

-- ---- records

-- what holds of each record that the parser makes: its host with its port tells the one without,
-- and its scheme is one
pub record IsRead (url : Parts) : Type 0 where
  pub host : host_alone (host_and_port url) ≡ host_text (host_or_empty url)
  pub scheme : IsScheme url.scheme

with_host : (url : Parts) (h : Host (List ℕ)) (port : Option ℕ) → url.host ≡ Some h
    → url.port ≡ port → IsPlainHost h
    → HasDigits port → IsScheme url.scheme → IsRead url
with_host url h None host none plain digits scheme =
    record { host = rw (host, none, append-nil (host_text h)) plain; scheme = scheme }
with_host url h (Some n) host some plain digits scheme =
    record { host = rw (host, some) (port_off (host_text h) (decimal n) digits); scheme = scheme }

with_none : (scheme path : List ℕ) (url : Parts) → IsScheme scheme
    → ◌≡◌ {A = Parsed Parts} (Ok (with_path (scheme_only scheme) path)) (Ok url) → IsRead url
with_none scheme path url named is =
    subst IsRead (same_ok (with_path (scheme_only scheme) path) url is)
    (record { host = no_colon [] (All-nil (IsNot 58)); scheme = named })

-- a record is read whatever its path, query and fragment are
other_path : (url : Parts) (path : List ℕ) → IsRead url → IsRead (with_path url path)
other_path url path read = record { host = read.host; scheme = read.scheme }

read_authority : (scheme bytes : List ℕ) (head : Parts) → IsScheme scheme
    → parse_authority scheme bytes ≡ Ok head
    → IsRead head
unfolding parse_authority
read_authority scheme bytes head named is =
    let at = rsplit_once 64 bytes in
    let userinfo = split_once 58 (unwrap_or at.0 []) in
    let host_port = split_port at.1 in
    ok_then (parse_host (scheme_type scheme) host_port.0) _ head
    (past_error (lacks_host at.0 host_port.0 host_port.1) _ _ head is).1
    λ host read more.
    ok_then (parse_port scheme (unwrap_or host_port.1 [])) _ head more λ port got end.
    subst IsRead (same_ok _ head end)
    (with_host (with_authority scheme userinfo.0 (unwrap_or userinfo.1 []) host port) host port
    refl refl (host_holds IsPlainHost plain_each (scheme_type scheme) host_port.0 host read)
    (digits_port scheme (unwrap_or host_port.1 []) port got) named)

read_slashes : (scheme bytes : List ℕ) (url : Parts) → IsScheme scheme
    → after_double_slash scheme bytes ≡ Ok url
    → IsRead url
unfolding after_double_slash
read_slashes scheme bytes url named is =
    let front = take (segment_len (scheme_type scheme) bytes) bytes in
    ok_then (parse_authority scheme front) _ url is λ head read end.
    subst IsRead (same_ok (with_path head _) url end)
    (other_path head _ (read_authority scheme _ head named read))

read_non_special : (scheme body : List ℕ) (url : Parts) → IsScheme scheme
    → parse_non_special scheme body ≡ Ok url
    → IsRead url
unfolding parse_non_special
read_non_special scheme body url named is =
    by_test (leading_slashes NotSpecial body == 2) _ _ url is
    (λ _ two. read_slashes scheme (drop 2 body) url named two)
    (λ _ other. by_test (leading_slashes NotSpecial body == 1) _ _ url other
    (λ _ one. with_none scheme _ url named one) (λ _ none. with_none scheme _ url named none))

read_file : (host : Host (List ℕ)) (path : List ℕ) (url : Parts) → IsPlainHost host
    → ◌≡◌ {A = Parsed Parts} (Ok (with_path (file_with_host host) path)) (Ok url) → IsRead url
read_file host path url plain is =
    subst IsRead (same_ok (with_path (file_with_host host) path) url is)
    (with_host (with_path (file_with_host host) path) host None refl refl plain refl IsScheme_file)

no_file_host : IsPlainHost (Domain [])
no_file_host = no_colon [] (All-nil (IsNot 58))

read_file_slashes : (bytes : List ℕ) (url : Parts) → after_file_double_slash bytes ≡ Ok url
    → IsRead url
unfolding after_file_double_slash
read_file_slashes bytes url is =
    let len = segment_len File bytes in
    by_test (is_windows_drive_letter (take len bytes)) _ _ url is
    (λ _ drive. read_file (Domain []) _ url no_file_host drive)
    (λ _ other. ok_then (parse_file_host (take len bytes)) _ url other λ host read end.
    read_file host _ url (file_host_holds IsPlainHost plain_each (take len bytes) host read) end)

read_file_body : (body : List ℕ) (url : Parts) → parse_file None body ≡ Ok url → IsRead url
unfolding parse_file
read_file_body body url is =
    by_test (leading_slashes File body == 2) _ _ url is (λ _ two. read_file_slashes _ url two)
    (λ _ other. read_file (Domain []) _ url no_file_host other)

read_body : (scheme body : List ℕ) (url : Parts) → IsScheme scheme
    → parse_body scheme None body ≡ Ok url → IsRead url
unfolding parse_body
read_body scheme body url named is =
    by_test (is_file (scheme_type scheme)) _ _ url is (λ _ file. read_file_body body url file)
    (λ _ other. by_test (is_special (scheme_type scheme)) _ _ url other
    (λ _ special. read_slashes scheme _ url named special)
    (λ _ plain. read_non_special scheme body url named plain))

read_before : (url : Parts) (query fragment : Option (List ℕ)) → IsRead url
    → IsRead (before_tail url query fragment)
read_before url query fragment read =
    cond_both (not (is_special (kind_of url)) && (is_some query || is_some fragment))
    (with_path url (escape_end url.path)) url IsRead
    (λ _. other_path url (escape_end url.path) read) (λ _. read)

read_tail : (url : Parts) (query fragment : Option (List ℕ)) → IsRead url
    → IsRead (with_tail url query fragment)
read_tail url query fragment read = record { host = read.host; scheme = read.scheme }

read_parts : (scheme body : List ℕ) (query fragment : Option (List ℕ)) (url : Parts)
    → IsScheme scheme
    → parse_parts scheme None body query fragment ≡ Ok url → IsRead url
unfolding parse_parts
read_parts scheme body query fragment url named is =
    ok_then (parse_body scheme None body) _ url is λ found read end.
    subst IsRead (same_ok (with_tail (before_tail found query fragment) query fragment) url end)
    (read_tail (before_tail found query fragment) query fragment
    (read_before found query fragment (read_body scheme body found named read)))

abbrev HasScheme : Option (List ℕ × List ℕ) → Type 0
HasScheme split = IfSome split (λ s. IsScheme (lowercase s.0))

scheme_split : (bytes : List ℕ) → HasScheme (split_scheme bytes)
unfolding split_scheme
scheme_split bytes =
    let len = scheme_len bytes in
    cond_both (nat_lt 0 len && (get_or bytes len 0 == 58))
    (Some (take len bytes, drop (len + 1) bytes)) None HasScheme
    (λ some. (scheme_at_front bytes len refl (ltb-true 0 len (and_parts _ _ some).0)).1) (λ _. tt)

read_by_scheme : (split : Option (List ℕ × List ℕ)) (body : List ℕ)
    (query fragment : Option (List ℕ)) (url : Parts)
    → HasScheme split → parse_by_scheme split None body query fragment ≡ Ok url → IsRead url
read_by_scheme None body query fragment url named is = cc
read_by_scheme (Some split) body query fragment url named is =
    read_parts (lowercase split.0) split.1 query fragment url named is

-- each record is so
pub record_read : (text : List ℕ) (url : Parts) → record_of text ≡ Ok url → IsRead url
unfolding parse_url
record_read text url is =
    let hash = split_once 35 (strip_tabs_and_new_lines (trim_c0_control_and_space text)) in
    let question = split_once 63 hash.0 in
    read_by_scheme (split_scheme question.0) question.0 question.1 hash.1 url
    (scheme_split question.0) is

-- ---- addresses of queries

place_scheme : IsScheme (codes "place")
unfolding scheme_len
place_scheme = record { nonempty = lit< tt; whole = refl; lower = refl }

whole_begins : (scheme rest text : List ℕ) → scheme ++ 58 ∷ rest ≡ text → IsScheme scheme
    → bytes_eq scheme (codes "place") ≡ starts_with nat_eq text (codes "place:")
whole_begins scheme rest text same named =
    same_tests (bytes_eq scheme (codes "place")) (starts_with nat_eq text (codes "place:"))
    (λ is.
    let scheme_is = (bytes_eq-Decides scheme (codes "place")).0 is in
    subst (λ t. starts_with nat_eq t (codes "place:") ≡ true)
    (ap (λ (s : List ℕ). s ++ 58 ∷ rest) (sym scheme_is) ∙ same)
    (starts_with-append (codes "place:") rest))
    (λ is.
    let place = codes "place" in
    let front = (bytes_eq-Decides (codes "place:") (take 6 text)).0 is in
    let more : text ≡ codes "place" ++ 58 ∷ drop 6 text =
    sym (take-append-drop 6 text) ∙ ap (λ (s : List ℕ). s ++ drop 6 text) (sym front) in
    let both :
    ◌≡◌ {A = Option (List ℕ × List ℕ)} (Some (scheme, rest)) (Some (place, drop 6 text)) =
    sym (split_own_scheme scheme rest named) ∙ ap split_scheme (same ∙ more)
    ∙ split_own_scheme place (drop 6 text) place_scheme in
    (bytes_eq-Decides scheme (codes "place")).1
    (ap (λ (split : Option (List ℕ × List ℕ)). (unwrap_or split ([], [])).0) both))

place_at : (authority : Bool) (scheme rest text : List ℕ)
    → scheme ++ ((if authority then codes "://" else codes ":") ++ rest) ≡ text → IsScheme scheme
    → bytes_eq scheme (codes "place") ≡ starts_with nat_eq text place_prefix
place_at true scheme rest text own named = whole_begins scheme (47 ∷ 47 ∷ rest) text own named
place_at false scheme rest text own named = whole_begins scheme rest text own named

-- a URL that is its own text holds a query where it begins so
pub place_told : (text : List ℕ) (url : Parts) → record_of text ≡ Ok url → serialize url ≡ text
    → is_place url ≡ starts_with nat_eq text place_prefix
place_told text url is own =
    place_at (has_authority url) url.scheme (concat (drop 2 (pieces url))) text own
    (record_read text url is).scheme
