-- What the URL parser makes of a host is ASCII.
use Rattle.std.proofs.Common.{◌≡◌, ◌<◌, ℕ, false, List, [], ◌∷◌, ◌++◌, IsAscii, Ok, arith, lit<}
use Rattle.std.specs.List.{list_any}
use Rattle.std.specs.Int.{to_be_bytes, w32}
use Rattle.std.specs.Net.Text.{hex_groups_text, ipv4_text}
use Rattle.std.proofs.NetLemmas.Alphabet.{All-hex_groups_text, All-ipv4_text, IsDigitOrDot}
use Rattle.std.proofs.NetLemmas.Alphabet.{IsHexOrColon}
use Rattle.std.proofs.NetLemmas.Texts.{AllSegments}
use Rattle.std.proofs.lemmas.List.Elements.{All-weaker}
use Rattle.std.proofs.lemmas.Str.{IsAscii-append}
use Rattle.std.proofs.lemmas.Str.Ascii.{IsAscii-cons, IsAscii-from_all, IsAscii-nil}
use Rattle.percent_encoding.specs.declared.ascii_set.TheConstants.{CONTROLS}
use Rattle.percent_encoding.proofs.PercentLemmas.{IsAscii-percent_encode, IsAscii_from_kept}
use Rattle.url.specs.declared.host.Host.{Host}
use Rattle.url.specs.declared.scheme.SchemeType.{SchemeType}
use Rattle.url.specs.declared.sets.TheConstants.{FORBIDDEN_DOMAIN}
use Rattle.url.specs.Host.{host_text, is_forbidden_in_domain, parse_file_host, parse_host}
use Rattle.url.proofs.HostLemmas.{none_from_list_any}
use Rattle.pl_link.proofs.HostCases.{HoldsOfEach, file_host_holds, host_holds, octets_small}

abbrev pub IsAsciiHost : Host (List ℕ) → Type 0
IsAsciiHost h = IsAscii (host_text h)

ascii_ipv6 : (segments : List ℕ) → AllSegments segments
    → IsAscii ((91 ∷ hex_groups_text segments) ++ 93 ∷ [])
ascii_ipv6 segments small =
    let text = hex_groups_text segments in
    IsAscii-append (91 ∷ text) (93 ∷ [])
    (IsAscii-cons 91 text (lit< tt)
    (IsAscii-from_all text
    (All-weaker IsHexOrColon (λ b. b < 128) (λ b hex. grind arith) text
    (All-hex_groups_text segments small))))
    (IsAscii-cons 93 [] (lit< tt) IsAscii-nil)

ascii_ipv4 : (bits : ℕ) → IsAscii (ipv4_text (to_be_bytes w32 bits))
ascii_ipv4 bits =
    let text = ipv4_text (to_be_bytes w32 bits) in
    IsAscii-from_all text
    (All-weaker IsDigitOrDot (λ b. b < 128) (λ b digit. grind arith) text
    (All-ipv4_text (to_be_bytes w32 bits) (octets_small bits)))

ascii_named : (domain : List ℕ) → list_any is_forbidden_in_domain domain ≡ false → IsAscii domain
ascii_named domain none =
    IsAscii_from_kept FORBIDDEN_DOMAIN domain
    (none_from_list_any is_forbidden_in_domain domain none)

ascii_each : HoldsOfEach IsAsciiHost
ascii_each =
    record {
      none = IsAscii-nil;
      named = ascii_named;
      opaque = λ bytes allowed. IsAscii-percent_encode CONTROLS bytes;
      ipv4 = ascii_ipv4;
      ipv6 = ascii_ipv6;
    }

pub ascii_file_host : (bytes : List ℕ) (h : Host (List ℕ)) → parse_file_host bytes ≡ Ok h
    → IsAsciiHost h
ascii_file_host bytes h is = file_host_holds IsAsciiHost ascii_each bytes h is

pub ascii_host : (kind : SchemeType) (bytes : List ℕ) (h : Host (List ℕ))
    → parse_host kind bytes ≡ Ok h → IsAsciiHost h
ascii_host kind bytes h is = host_holds IsAsciiHost ascii_each kind bytes h is
