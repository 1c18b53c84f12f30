-- A host that is cut at its last colon, and one that ends with a domain.
use Rattle.std.proofs.Common.{◌≡◌, ◌≢◌, ◌∙◌, ◌+◌, ◌-◌, ◌<◌, ◌≤◌, ℕ, List, ◌∷◌, Bor, None, Option}
use Rattle.std.proofs.Common.{Some, ap, arith, drop, get_or, if◌then◌else◌, length, nat_eq, suc}
use Rattle.std.proofs.Common.{sym, take}
use Rattle.std.specs.Char.{is_ascii_digit}
use Rattle.std.specs.List.{ends_with, list_all}
use Rattle.std.specs.Option.{MatchOption}
use Rattle.std.specs.Str.Pattern.{RFindsChar}
use Rattle.std.proofs.lemmas.List.{get_or-drop, get_or_default, length-drop, take_rest}
use Rattle.std.proofs.Math.Seq.{drop-cons}
use Rattle.std.specs.Cmp.Lexicographic.{pointwise}
use Rattle.std.proofs.lemmas.Str.{len_utf8_ascii}
use Rattle.std.proofs.lemmas.Str.Pattern.{NoCharPasses-char}
use Rattle.url.proofs.InputLemmas.{rsplit_once_at_last, rsplit_once_none}
use Rattle.pl_query.specs.Decides.{before_port, host_alone}

-- the clause of a call of `rsplit_once` at a colon
abbrev IsCut : List ℕ → Option (Bor (List ℕ) × Bor (List ℕ)) → Type 0
IsCut host r =
    MatchOption r (RFindsChar 58 host None)
    (λ x. (i : ℕ) × (j : ℕ) × RFindsChar 58 host (Some (i, j)) × (x.0.now ≡ take i host)
    × (x.1.now ≡ drop j host)
    × (i ≤ j) × (length x.0.now ≡ i) × (length x.1.now + j ≡ length host))

-- what it tells
abbrev cut_of : List ℕ → Option (Bor (List ℕ) × Bor (List ℕ)) → List ℕ
cut_of host None = host
cut_of host (Some x) = if list_all is_ascii_digit x.1.now then x.0.now else host

-- is the host without its port
pub cut_is : (host : List ℕ) (r : Option (Bor (List ℕ) × Bor (List ℕ))) → IsCut host r
    → cut_of host r ≡ host_alone host
cut_is host None none =
    sym (ap (λ r. before_port host r.0 r.1)
    (rsplit_once_none 58 host (λ k d within is.
    NoCharPasses-char 58 host k none (omega arith) within (get_or_default host k 0 d within ∙ is))))
cut_is host (Some x) h =
    let i = h.0 in
    let j = h.1 in
    let next : j ≡ i + 1 = omega (arith, h.2.1.ends, len_utf8_ascii 58 (omega arith)) in
    let later : (k : ℕ) → i + 1 ≤ k → k < length host → get_or host k 0 ≢ 58 = λ k behind within is.
    let back : j + (k - j) ≡ k = omega arith in
    NoCharPasses-char 58 (drop j host) (k - j) h.2.0 (omega arith)
    (omega (arith, length-drop j host))
    (get_or-drop j host (k - j) 0 ∙ ap (λ n. get_or host n 0) back ∙ is) in
    let here : get_or host i 0 ≡ 58 = h.2.1.byte (omega arith) in
    let whole = rsplit_once_at_last 58 host i (omega (arith, h.7)) here later in
    let second : x.1.now ≡ drop (i + 1) host = h.4 ∙ ap (λ n. drop n host) next in
    (λ t. before_port host (Some (h.3 t)) (second t))
    ∙ sym (ap (λ r. before_port host r.0 r.1) whole)
