-- URLs of the same origin, and how many origins there are.
use Rattle.std.proofs.Common.{◌≡◌, ◌+◌, ◌<◌, ◌≤◌, ◌++◌, ◌∙◌, ◌&&◌, ℕ, Bool, true, false, List, [], ◌∷◌}
use Rattle.std.proofs.Common.{Option, Some, None, Ok, Err, ap, arith, bytes_eq, if◌then◌else◌, length}
use Rattle.std.proofs.Common.{refl, sym, subst, append_assoc, add_assoc, nat_le, nat_lt, zero-add}
use Rattle.std.specs.Result.{IsOkAnd}
use Rattle.std.proofs.lemmas.List.{append-nil}
use Rattle.std.proofs.lemmas.Bool.{and_from, and_parts, leb-true, lt-ltb}
use Rattle.std.proofs.lemmas.Slice.Eq.{bytes_eq-Decides}
use Rattle.url.specs.Parser.{Parsed}
use Rattle.url.specs.Parts.{Parts}
use Rattle.pl_base.specs.Address.{are_same, canon, host_and_port, if_store_url, is_store_url}
use Rattle.pl_base.specs.Address.{is_text, longest_url, origin_of_url, origin_of_record}
use Rattle.pl_base.specs.Address.{prefix, record_of, same_origin, serialized, text_limit}
use Rattle.pl_base.specs.Live.{new_origins}
use Rattle.std.specs.List.{list_any}

equal_from : (a b : Option (List ℕ × List ℕ)) → are_same a b ≡ true → a ≡ b
equal_from (Some a) (Some b) same =
    let first : a.0 ≡ b.0 = (bytes_eq-Decides a.0 b.0).0 (and_parts (bytes_eq a.0 b.0) (bytes_eq a.1 b.1) same).0 in
    let second : a.1 ≡ b.1 = (bytes_eq-Decides a.1 b.1).0 (and_parts (bytes_eq a.0 b.0) (bytes_eq a.1 b.1) same).1 in
    ap (λ (x : List ℕ). Some (x, a.1)) first ∙ ap (λ (y : List ℕ). Some (b.0, y)) second
equal_from None b same = absurd (cc)
equal_from (Some a) None same = absurd (cc)

same_self : (a b : Option (List ℕ × List ℕ)) → are_same a b ≡ true → are_same a a ≡ true
same_self (Some a) (Some b) same =
    and_from (bytes_eq a.0 a.0) (bytes_eq a.1 a.1) ((bytes_eq-Decides a.0 a.0).1 refl)
    ((bytes_eq-Decides a.1 a.1).1 refl)
same_self None b same = absurd (cc)
same_self (Some a) None same = absurd (cc)

pub origins_equal : (a b : List ℕ) → same_origin a b ≡ true → origin_of_url a ≡ origin_of_url b
origins_equal a b same = equal_from (origin_of_url a) (origin_of_url b) same

pub same_origin-sym : (a b : List ℕ) → same_origin a b ≡ true → same_origin b a ≡ true
same_origin-sym a b same =
    let equal = origins_equal a b same in
    let self : are_same (origin_of_url a) (origin_of_url a) ≡ true =
    same_self (origin_of_url a) (origin_of_url b) same in
    subst (λ o. are_same o (origin_of_url a) ≡ true) equal self

pub same_origin-trans : (a b c : List ℕ) → same_origin a b ≡ true → same_origin b c ≡ true → same_origin a c ≡ true
same_origin-trans a b c first second =
    subst (λ o. are_same o (origin_of_url c) ≡ true) (sym (origins_equal a b first)) second

self_of_record : (url : List ℕ) (r : Parsed Parts) → is_text url (serialized r) ≡ true
    → are_same (origin_of_record r) (origin_of_record r) ≡ true
self_of_record url (Ok parts) own =
    and_from (bytes_eq (prefix parts) (prefix parts)) (bytes_eq (host_and_port parts) (host_and_port parts))
    ((bytes_eq-Decides (prefix parts) (prefix parts)).1 refl)
    ((bytes_eq-Decides (host_and_port parts) (host_and_port parts)).1 refl)
self_of_record url (Err e) own = absurd (cc)

-- a URL of the store has an origin
pub same_origin-self : (url : List ℕ) → is_store_url url ≡ true → same_origin url url ≡ true
same_origin-self url own =
    self_of_record url (record_of url)
    (and_parts (is_text url (serialized (record_of url))) (nat_le (length url) longest_url) own).0

-- a URL of the store is not too long
pub store_url-fits : (url : List ℕ) → is_store_url url ≡ true → length url ≤ longest_url
store_url-fits url own =
    leb-true (length url) longest_url
    (and_parts (is_text url (serialized (record_of url))) (nat_le (length url) longest_url) own).1

pub new_origins-append : (seen urls more : List (List ℕ))
    → new_origins seen (urls ++ more) ≡ new_origins seen urls + new_origins (seen ++ urls) more
new_origins-append seen [] more = rw append-nil (sym (zero-add (new_origins seen more)))
new_origins-append seen (url ∷ urls) more =
    ap (λ n. (if list_any (same_origin url) seen then 0 else 1) + n)
    (new_origins-append (seen ++ url ∷ []) urls more
    ∙ ap (λ all. new_origins (seen ++ url ∷ []) urls + new_origins all more) (append_assoc seen (url ∷ []) urls))
    ∙ sym (add_assoc (if list_any (same_origin url) seen then 0 else 1) (new_origins (seen ++ url ∷ []) urls)
    (new_origins (seen ++ url ∷ urls) more))

-- ---- URLs of the store name themselves

same_text : (url : List ℕ) (o : Option (List ℕ)) → is_text url o ≡ true → o ≡ Some url
same_text url None own = absurd (cc)
same_text url (Some other) own = ap (λ (text : List ℕ). Some text) ((bytes_eq-Decides other url).0 own)

pub store_url_own : (url : List ℕ) → is_store_url url ≡ true → canon url ≡ Some url
store_url_own url own =
    let text : serialized (record_of url) ≡ Some url =
    same_text url (serialized (record_of url))
    (and_parts (is_text url (serialized (record_of url))) (nat_le (length url) longest_url) own).0 in
    let short : length url < text_limit = omega (arith, store_url-fits url own) in
    ap (λ b. if b then if_store_url (serialized (record_of url)) else None) (lt-ltb (length url) text_limit short)
    ∙ ap if_store_url text ∙ ap (λ b. if b then Some url else None) own

pub store_url_given : (text : Option (List ℕ)) (url : List ℕ) → if_store_url text ≡ Some url
    → is_store_url url ≡ true
store_url_given None url is = absurd (cc)
store_url_given (Some other) url is = from (is_store_url other) is refl
  where
    from : (own : Bool) → (if own then Some other else None) ≡ Some url → is_store_url other ≡ own
        → is_store_url url ≡ true
    from true same own = let one : other ≡ url = cc in ap is_store_url (sym one) ∙ own
    from false same own = absurd (cc)

of_store : (short : Bool) (url : List ℕ) (o : Option (List ℕ)) → (if short then if_store_url o else None) ≡ Some url
    → is_store_url url ≡ true
of_store true url o is = store_url_given o url is
of_store false url o is = absurd (cc)

pub store_url-from_canon : (text url : List ℕ) → canon text ≡ Some url → is_store_url url ≡ true
store_url-from_canon text url is = of_store (nat_lt (length text) text_limit) url (serialized (record_of text)) is

-- ---- the origin by its two texts

origin_from : (r : Parsed Parts) (start host : List ℕ)
    → IsOkAnd r (λ found. (start ≡ prefix found) × (host ≡ host_and_port found))
    → origin_of_record r ≡ Some (start, host)
origin_from (Ok found) start host parts =
    ap (λ (x : List ℕ). Some (x, host_and_port found)) (sym parts.0)
    ∙ ap (λ (y : List ℕ). Some (start, y)) (sym parts.1)
origin_from (Err e) start host parts = absurd parts

pub origin_of_url-from : (url start host : List ℕ)
    → IsOkAnd (record_of url) (λ found. (start ≡ prefix found) × (host ≡ host_and_port found))
    → origin_of_url url ≡ Some (start, host)
origin_of_url-from url start host parts = origin_from (record_of url) start host parts

pub same_origin-by_texts : (a b : List ℕ) (x y : List ℕ × List ℕ) → origin_of_url a ≡ Some x → origin_of_url b ≡ Some y
    → same_origin a b ≡ (bytes_eq x.0 y.0 && bytes_eq x.1 y.1)
same_origin-by_texts a b x y first second = ap (λ o. are_same o (origin_of_url b)) first ∙ ap (are_same (Some x)) second
