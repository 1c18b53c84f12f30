-- What holds of each host that the URL parser may make, and the steps of the parser.
use Rattle.std.proofs.Common.{◌≡◌, ◌-◌, ◌<◌, ◌^◌, ◌==◌, ℕ, Bool, true, false, cond}
use Rattle.std.proofs.Common.{List, [], ◌∷◌, ◌++◌, None, Option, Some, Ok, Err, arith}
use Rattle.std.proofs.Common.{get_or, inl, inr, length, lit<, refl, replicate, subst, sym, suc}
use Rattle.std.proofs.Common.{zero}
use Rattle.std.specs.List.{list_any}
use Rattle.std.specs.Prelude.{bytes_eq, codes}
use Rattle.std.specs.Int.{to_be_bytes, w32}
use Rattle.std.specs.Result.{result_map_both}
use Rattle.std.specs.Net.Addr.{segments_of}
use Rattle.std.specs.Net.Grammar.{IsColonHex, IsDotted, IsGroup, IsGroupsAfter}
use Rattle.std.specs.Net.Reader.{read_ipv6, whole_value}
use Rattle.std.proofs.NetLemmas.Ipv6.{read_ipv6_sound}
use Rattle.std.proofs.NetLemmas.Texts.{AllSegments}
use Rattle.std.proofs.lemmas.Bool.{cond_both}
use Rattle.std.proofs.lemmas.Option.{cond_some, none-some}
use Rattle.percent_encoding.specs.declared.ascii_set.TheConstants.{CONTROLS}
use Rattle.percent_encoding.specs.Percent.{percent_decode, percent_encode}
use Rattle.url.specs.declared.error.ParseError.{ParseError}
use Rattle.url.specs.declared.host.Host.{Host}
use Rattle.url.specs.declared.host.Host.TheVariants.{Domain, Ipv4, Ipv6}
use Rattle.url.specs.declared.scheme.SchemeType.{SchemeType}
use Rattle.url.specs.declared.scheme.SchemeType.TheVariants.{File, NotSpecial, SpecialNotFile}
use Rattle.url.specs.Host.{ascii_domain, host_of_ascii, ipv4_host, ipv6_host}
use Rattle.url.specs.Host.{is_forbidden_in_domain, is_forbidden_in_host, parse_bracketed}
use Rattle.url.specs.Host.{parse_file_host, parse_host, parse_opaque_host, parse_special_host}
use Rattle.url.specs.Host.{without_localhost}
use Rattle.url.specs.Input.{is_empty}
use Rattle.url.specs.Ipv4.{ends_in_a_number, parse_ipv4}
use Rattle.url.specs.Parser.{Parsed, and_then}

-- ---- steps of the parser

pub ok_then : {A B P : Type 0} (r : Parsed A) (next : A → Parsed B) (y : B) → and_then r next ≡ Ok y
    → ((x : A) → r ≡ Ok x → next x ≡ Ok y → P) → P
ok_then (Ok x) next y is go_on = go_on x refl is
ok_then (Err d) next y is go_on = cc

pub past_error : {A : Type 0} (test : Bool) (d : ParseError) (r : Parsed A) (y : A)
    → cond test (Err d) r ≡ Ok y
    → (test ≡ false) × (r ≡ Ok y)
past_error true d r y is = cc
past_error false d r y is = (refl, is)

pub by_test : {A P : Type 0} (test : Bool) (r s : Parsed A) (y : A) → cond test r s ≡ Ok y
    → (test ≡ true → r ≡ Ok y → P) → (test ≡ false → s ≡ Ok y → P) → P
by_test true r s y is holds fails = holds refl is
by_test false r s y is holds fails = fails refl is

pub same_ok : {A : Type 0} (x y : A) → ◌≡◌ {A = Parsed A} (Ok x) (Ok y) → x ≡ y
same_ok x y is = cc

-- ---- the numbers of addresses

pub octets_small : (bits k : ℕ) → get_or (to_be_bytes w32 bits) k 0 < 2 ^ 8
octets_small bits zero = omega arith
octets_small bits (suc zero) = omega arith
octets_small bits (suc (suc zero)) = omega arith
octets_small bits (suc (suc (suc zero))) = omega arith
octets_small bits (suc (suc (suc (suc k)))) = lit< tt

segments_both : (xs ys : List ℕ) → AllSegments xs → AllSegments ys → AllSegments (xs ++ ys)
segments_both [] ys first rest k = rest k
segments_both (x ∷ xs) ys first rest zero = first 0
segments_both (x ∷ xs) ys first rest (suc k) = segments_both xs ys (λ j. first (suc j)) rest k

zero_segments : (n : ℕ) → AllSegments (replicate n 0)
zero_segments zero k = lit< tt
zero_segments (suc n) zero = lit< tt
zero_segments (suc n) (suc k) = zero_segments n k

-- a number of at most four hexadecimal digits
group_small : (text : List ℕ) (n : ℕ) → IsGroup text n → n < 2 ^ 16
group_small [] n group = omega (arith, group.0.1)
group_small (a ∷ []) n group = omega (arith, group.0.1, group.0.0.1.0)
group_small (a ∷ b ∷ []) n group = omega (arith, group.0.1, group.0.0.1.0, group.0.0.1.1.0)
group_small (a ∷ b ∷ c ∷ []) n group =
    omega (arith, group.0.1, group.0.0.1.0, group.0.0.1.1.0, group.0.0.1.1.1.0)
group_small (a ∷ b ∷ c ∷ d ∷ []) n group =
    omega (
      arith,
      group.0.1,
      group.0.0.1.0,
      group.0.0.1.1.0,
      group.0.0.1.1.1.0,
      group.0.0.1.1.1.1.0,
    )
group_small (a ∷ b ∷ c ∷ d ∷ e ∷ text) n group = absurd (omega (arith, group.1))

dotted_small : (text octets : List ℕ) → IsDotted text octets → AllSegments (segments_of octets)
dotted_small text octets dotted =
    subst (λ o. AllSegments (segments_of o)) (sym dotted.value) small
  where
    small : AllSegments (segments_of (dotted.a ∷ dotted.b ∷ dotted.c ∷ dotted.d ∷ []))
    small zero = let fit = dotted.fit in omega arith
    small (suc zero) = let fit = dotted.fit in omega arith
    small (suc (suc k)) = lit< tt

groups_small : (ipv4 : Bool) (segments before text : List ℕ)
    → IsGroupsAfter ipv4 before text segments
    → AllSegments segments
groups_small ipv4 [] before text groups k = lit< tt
groups_small ipv4 (s ∷ segments) before text (inl h) zero = group_small h.0 s h.3
groups_small ipv4 (s ∷ segments) before text (inl h) (suc k) =
    groups_small ipv4 segments (58 ∷ []) h.1 h.4 k
groups_small ipv4 (s ∷ segments) before text (inr h) k =
    subst AllSegments (sym h.5) (dotted_small h.0 h.1 h.4) k

segments_small : (text segments : List ℕ) → IsColonHex text segments → AllSegments segments
segments_small text segments (inl h) = groups_small true segments [] text h.0
segments_small text segments (inr h) =
    subst AllSegments (sym h.value)
    (segments_both (h.head ++ replicate (8 - length h.head - length h.tail) 0) h.tail
    (segments_both h.head _ (groups_small false h.head [] h.head_text h.head_groups)
    (zero_segments _))
    (groups_small true h.tail [] h.tail_text h.tail_groups))

whole_small : (r : Option (List ℕ × List ℕ)) (text segments : List ℕ) → read_ipv6 text ≡ r
    → whole_value r ≡ Some segments → AllSegments segments
whole_small None text segments read is = absurd (none-some segments is)
whole_small (Some found) text segments read is =
    let whole = cond_some (length found.1 == 0) found.0 segments is in
    subst AllSegments whole.1
    (let sound = read_ipv6_sound text found.0 found.1 read in
    segments_small sound.0 found.0 sound.2)

-- ---- the cases of a host

-- it holds of each host that the parser may make
pub record HoldsOfEach (P : Host (List ℕ) → Type 0) : Type 0 where
  pub none : P (Domain [])
  pub named : (domain : List ℕ) → list_any is_forbidden_in_domain domain ≡ false → P (Domain domain)
  pub opaque : (bytes : List ℕ) → list_any is_forbidden_in_host bytes ≡ false
      → P (Domain (percent_encode CONTROLS bytes))
  pub ipv4 : (bits : ℕ) → P (Ipv4 (record { octets = to_be_bytes w32 bits }))
  pub ipv6 : (segments : List ℕ) → AllSegments segments → P (Ipv6 (record { segments = segments }))

module _ (P : Host (List ℕ) → Type 0) (each : HoldsOfEach P) where
  of_ipv6 : (r : Option (List ℕ)) (h : Host (List ℕ))
      → ((segments : List ℕ) → r ≡ Some segments → AllSegments segments)
      → ipv6_host r ≡ Ok h → P h
  of_ipv6 None h small is = cc
  of_ipv6 (Some segments) h small is =
      subst P (same_ok (Ipv6 (record { segments = segments })) h is)
      (each.ipv6 segments (small segments refl))

  of_bracketed : (bytes : List ℕ) (h : Host (List ℕ)) → parse_bracketed bytes ≡ Ok h → P h
  unfolding parse_bracketed
  of_bracketed bytes h is =
      by_test (get_or bytes (length bytes - 1) 0 == 93) _ _ h is
      (λ _ read. of_ipv6 _ h (λ segments whole. whole_small _ _ segments refl whole) read)
      (λ _ other. cc)

  of_ipv4 : (r : Option ℕ) (h : Host (List ℕ)) → ipv4_host r ≡ Ok h → P h
  of_ipv4 None h is = cc
  of_ipv4 (Some bits) h is =
      subst P (same_ok (Ipv4 (record { octets = to_be_bytes w32 bits })) h is) (each.ipv4 bits)

  of_named : (r : Option (List ℕ)) (h : Host (List ℕ)) → host_of_ascii r ≡ Ok h → P h
  of_named None h is = cc
  of_named (Some domain) h is =
      let some = past_error (is_empty domain) _ _ h is in
      let allowed = past_error (list_any is_forbidden_in_domain domain) _ _ h some.1 in
      by_test (ends_in_a_number domain) _ _ h allowed.1
      (λ _ number. of_ipv4 (parse_ipv4 domain) h number)
      (λ _ name. subst P (same_ok (Domain domain) h name) (each.named domain allowed.0))

  of_special : (bytes : List ℕ) (h : Host (List ℕ)) → parse_special_host bytes ≡ Ok h → P h
  unfolding parse_special_host
  of_special bytes h is =
      by_test (get_or bytes 0 0 == 91) _ _ h is (λ _ read. of_bracketed bytes h read)
      (λ _ read. of_named (ascii_domain (percent_decode bytes)) h read)

  of_opaque : (bytes : List ℕ) (h : Host (List ℕ)) → parse_opaque_host bytes ≡ Ok h → P h
  unfolding parse_opaque_host
  of_opaque bytes h is =
      by_test (get_or bytes 0 0 == 91) _ _ h is (λ _ read. of_bracketed bytes h read)
      (λ _ read.
      let allowed = past_error (list_any is_forbidden_in_host bytes) _ _ h read in
      subst P (same_ok (Domain (percent_encode CONTROLS bytes)) h allowed.1)
      (each.opaque bytes allowed.0))

  elsewhere : (h : Host (List ℕ)) → P h → P (without_localhost h)
  elsewhere (Domain domain) holds =
      cond_both (bytes_eq domain (codes "localhost")) [] domain (λ (d : List ℕ). P (Domain d))
      (λ _. each.none) (λ _. holds)
  elsewhere (Ipv4 address) holds = holds
  elsewhere (Ipv6 address) holds = holds

  of_mapped : (r : Parsed (Host (List ℕ))) (h : Host (List ℕ))
      → ((x : Host (List ℕ)) → r ≡ Ok x → P x)
      → result_map_both without_localhost (λ e. e) r ≡ Ok h → P h
  of_mapped (Ok x) h holds is =
      subst P (same_ok (without_localhost x) h is) (elsewhere x (holds x refl))
  of_mapped (Err d) h holds is = cc

  pub file_host_holds : (bytes : List ℕ) (h : Host (List ℕ)) → parse_file_host bytes ≡ Ok h → P h
  unfolding parse_file_host
  file_host_holds bytes h is =
      by_test (is_empty bytes) _ _ h is
      (λ _ none. subst P (same_ok (Domain []) h none) each.none)
      (λ _ read. of_mapped (parse_special_host bytes) h (of_special bytes) read)

  pub host_holds : (kind : SchemeType) (bytes : List ℕ) (h : Host (List ℕ))
      → parse_host kind bytes ≡ Ok h → P h
  host_holds File bytes h is = file_host_holds bytes h is
  host_holds SpecialNotFile bytes h is = of_special bytes h is
  host_holds NotSpecial bytes h is = of_opaque bytes h is
