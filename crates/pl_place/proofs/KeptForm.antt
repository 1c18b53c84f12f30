-- What a text reads as keeps the form of a query: its numbers and texts are read back as they are.
use Rattle.std.proofs.Common.{◌≡◌, ◌<◌, ◌^◌, ◌==◌, not, ℕ, ℤ, pos, negsuc, Bool}
use Rattle.std.proofs.Common.{List, [], ◌∷◌, None, Option, Some, arith, decimal, drop, length}
use Rattle.std.proofs.Common.{map, nat_lt, nat_le, refl, subst, sym, suc, zero, unwrap_or, true, false, FitsSigned, w64}
use Rattle.std.specs.Prelude.{IfSome, is_some, if◌then◌else◌, bytes_eq}
use Rattle.std.specs.Char.{to_ascii_lowercase}
use Rattle.std.specs.List.{AllByRecursion as ByRecursion, cons_option, filter, filter_map, find}
use Rattle.std.specs.Option.{option_and_then, option_map}
use Rattle.std.specs.Str.{IsUtf8, is_utf8}
use Rattle.std.proofs.lemmas.Bool.{leb-true, ltb-true}
use Rattle.std.proofs.lemmas.Option.{cond_some, none-some, same_Some}
use Rattle.std.proofs.lemmas.Str.{IsUtf8-from_ascii, IsUtf8-from_is_utf8}
use Rattle.pl_base.specs.declared.id.ItemId.{ItemId}
use Rattle.pl_base.specs.Address.{canon}
use Rattle.pl_base.specs.NumberText.{if_32_bits, number_32_of, number_of}
use Rattle.pl_base.specs.Store.{item_id}
use Rattle.pl_base.proofs.OriginLaws.{store_url-from_canon, store_url_own}
use Rattle.pl_link.proofs.UrlTexts.{store_url_ascii}
use Rattle.pl_words.specs.TagLists.{firsts, is_same_tag}
use Rattle.pl_words.specs.TagName.{is_tag_name, tag_named, trimmed}
use Rattle.pl_words.proofs.TagTests.{named_by_test}
use Rattle.pl_place.specs.declared.key.Key.{Key}
use Rattle.pl_place.specs.declared.key.Key.TheVariants as key
use Rattle.pl_place.specs.declared.query.Query.{Query}
use Rattle.pl_place.specs.Canonical.{ReadsAlone, ReadsBack, ReadsId, ReadsTime, canonical, itself}
use Rattle.pl_place.specs.PlaceText.{Reads, last_text, pieces_of, told, values}
use Rattle.pl_place.specs.QueryForm.{is_same_item}
use Rattle.pl_place.specs.Values.{domain_of, negative, parent_of, positive, root_named, root_names}
use Rattle.pl_place.specs.Values.{terms_asked, text_of, time_of, uri_of}
use Rattle.pl_place.proofs.CanonicalReads.{canonical_reads}
use Rattle.pl_place.proofs.FineSaid.{IsReadBack}
use Rattle.pl_place.proofs.LowerCase.{lowered}
use Rattle.pl_place.proofs.ReadBack.{number_32_back, tag_back, text_back, time_back, uri_back}

-- ---- what is told by a form

-- what holds of each value of a form holds of what is told by it
said : {A : Type 0} (P : A → Type 0) (form : List ℕ → Option A) (text : Option (List ℕ))
    → ((value : List ℕ) (a : A) → form value ≡ Some a → P a) → IfSome (option_and_then form text) P
said P form None each = tt
said {A = A} P form (Some value) each = choose (form value) refl
  where
    choose : (r : Option A) → form value ≡ r → IfSome r P
    choose None is = tt
    choose (Some a) is = each value a is

-- and of each member of a list that is told by it
all_said : {A : Type 0} (P : A → Type 0) (form : List ℕ → Option A) (texts : List (List ℕ))
    → ((value : List ℕ) (a : A) → form value ≡ Some a → P a) → ByRecursion P (filter_map form texts)
all_said P form [] each = tt
all_said {A = A} P form (value ∷ texts) each = choose (form value) refl (all_said P form texts each)
  where
    choose : (r : Option A) → form value ≡ r → ByRecursion P (filter_map form texts)
        → ByRecursion P (cons_option r (filter_map form texts))
    choose None is rest = rest
    choose (Some a) is rest = (each value a is, rest)

some_kept : {A : Type 0} (P : A → Type 0) (test : A → Bool) (xs : List A) → ByRecursion P xs
    → ByRecursion P (filter test xs)
some_kept P test [] each = tt
some_kept P test (x ∷ xs) each = choose (test x) (some_kept P test xs each.1)
  where
    choose : (v : Bool) → ByRecursion P (filter test xs)
        → ByRecursion P (if v then x ∷ filter test xs else filter test xs)
    choose true rest = (each.0, rest)
    choose false rest = rest

firsts_kept : {A : Type 0} (P : A → Type 0) (same : A → A → Bool) (xs : List A) → ByRecursion P xs
    → ByRecursion P (firsts same xs)
firsts_kept P same [] each = tt
firsts_kept P same (x ∷ xs) each =
    (each.0, some_kept P (λ y. not (same x y)) (firsts same xs) (firsts_kept P same xs each.1))

-- ---- numbers

positive_fits : (n : ℕ) (time : ℤ) → positive 64 n ≡ Some time → FitsSigned w64 time
positive_fits n time is =
    let some = cond_some (nat_lt n (2 ^ 63)) (pos n) time is in
    subst (FitsSigned w64) some.1 (record { sfits = omega (arith, ltb-true n (2 ^ 63) some.0) })

negative_fits : (n : ℕ) (time : ℤ) → negative 64 n ≡ Some time → FitsSigned w64 time
negative_fits zero time is = subst (FitsSigned w64) (same_Some (pos 0) time is) (record { sfits = omega arith })
negative_fits (suc n) time is =
    let some = cond_some (nat_le (suc n) (2 ^ 63)) (negsuc n) time is in
    subst (FitsSigned w64) some.1 (record { sfits = omega (arith, leb-true (suc n) (2 ^ 63) some.0) })

then_fits : (form : ℕ → Option ℤ) (number : Option ℕ) (time : ℤ)
    → ((n : ℕ) → form n ≡ Some time → FitsSigned w64 time) → option_and_then form number ≡ Some time
    → FitsSigned w64 time
then_fits form None time fits is = absurd (none-some time is)
then_fits form (Some n) time fits is = fits n is

time_fits : (text : List ℕ) (time : ℤ) → time_of text ≡ Some time → FitsSigned w64 time
time_fits [] time is = absurd (none-some time is)
time_fits (b ∷ text) time is = choose (b == 45) is
  where
    choose : (v : Bool) → (if v then option_and_then (negative 64) (number_of text)
        else option_and_then (positive 64) (number_of (b ∷ text))) ≡ Some time → FitsSigned w64 time
    choose true is = then_fits (negative 64) (number_of text) time (λ n. negative_fits n time) is
    choose false is = then_fits (positive 64) (number_of (b ∷ text)) time (λ n. positive_fits n time) is

time_kept : (text : List ℕ) (time : ℤ) → time_of text ≡ Some time → ReadsTime time
time_kept text time is = time_back time (time_fits text time is)

in_32_bits : (number : Option ℕ) (n : ℕ) → option_and_then if_32_bits number ≡ Some n → n < 2 ^ 32
in_32_bits None n is = absurd (none-some n is)
in_32_bits (Some m) n is =
    let some = cond_some (nat_lt m (2 ^ 32)) m n is in
    subst (λ k. k < 2 ^ 32) some.1 (ltb-true m (2 ^ 32) some.0)

number_kept : (text : List ℕ) (n : ℕ) → number_32_of text ≡ Some n → ReadsBack number_32_of decimal n
number_kept text n is = number_32_back n (in_32_bits (number_of text) n is)

most_kept : (r : Option ℕ) → IfSome r (ReadsBack number_32_of decimal)
    → ReadsBack number_32_of decimal (unwrap_or r 0)
most_kept None back = number_32_back 0 (omega arith)
most_kept (Some n) back = back

-- ---- folders

id_back : (id : ItemId) → id.0 < 2 ^ 32 → ReadsId id
id_back id small = number_32_back id.0 small

-- a root has one of six ids
root_small : (text : List ℕ) (rows : List (List ℕ × ItemId)) → ByRecursion (λ row. ReadsId row.1) rows
    → (id : ItemId) → option_map (λ row. row.1) (find (λ row. bytes_eq row.0 text) rows) ≡ Some id → ReadsId id
root_small text [] each id is = absurd (none-some id is)
root_small text (row ∷ rows) each id is = choose (bytes_eq row.0 text) (root_small text rows each.1 id) is
  where
    choose : (v : Bool)
        → (option_map (λ row. row.1) (find (λ row. bytes_eq row.0 text) rows) ≡ Some id → ReadsId id)
        → option_map (λ row. row.1) (if v then Some row else find (λ row. bytes_eq row.0 text) rows)
        ≡ Some id → ReadsId id
    choose true rest is = subst ReadsId (same_Some row.1 id is) each.0
    choose false rest is = rest is

root_kept : (text : List ℕ) (id : ItemId) → root_named text ≡ Some id → ReadsId id
root_kept text id is = root_small text root_names each id is
  where
    last : ByRecursion (λ (row : List ℕ × ItemId). ReadsId row.1) (drop 3 root_names)
    last = (
      id_back (item_id 4) (omega arith),
      (
        id_back (item_id 5) (omega arith),
        (id_back (item_id 6) (omega arith), tt),
      ),
    )

    each : ByRecursion (λ (row : List ℕ × ItemId). ReadsId row.1) root_names
    each = (
      id_back (item_id 1) (omega arith),
      (
        id_back (item_id 2) (omega arith),
        (id_back (item_id 3) (omega arith), last),
      ),
    )

number_id : (r : Option ℕ) (id : ItemId) → ((n : ℕ) → r ≡ Some n → ReadsBack number_32_of decimal n)
    → option_map item_id r ≡ Some id → ReadsId id
number_id None id back is = absurd (none-some id is)
number_id (Some n) id back is = subst ReadsId (same_Some (item_id n) id is) (back n refl)

parent_kept : (text : List ℕ) (id : ItemId) → parent_of text ≡ Some id → ReadsId id
parent_kept text id is = choose (is_some (root_named text)) is
  where
    choose : (v : Bool) → (if v then root_named text else option_map item_id (number_32_of text)) ≡ Some id
        → ReadsId id
    choose true is = root_kept text id is
    choose false is = number_id (number_32_of text) id (number_kept text) is

-- ---- texts

text_utf8 : (value text : List ℕ) → text_of value ≡ Some text → IsUtf8 text
text_utf8 value text is =
    let some = cond_some (is_utf8 value) value text is in
    subst IsUtf8 some.1 (IsUtf8-from_is_utf8 value some.0)

text_kept : (value text : List ℕ) → text_of value ≡ Some text → ReadsBack text_of itself text
text_kept value text is = text_back text (text_utf8 value text is)

terms_kept : (text : Option (List ℕ)) → IfSome text (ReadsBack text_of itself)
    → IfSome (option_and_then terms_asked text) (ReadsBack text_of itself)
terms_kept None back = tt
terms_kept (Some text) back = choose (length text == 0)
  where
    choose : (v : Bool) → IfSome (if v then None else Some text) (ReadsBack text_of itself)
    choose true = tt
    choose false = back

lower_kept : (r : Option (List ℕ)) (domain : List ℕ) → ((text : List ℕ) → r ≡ Some text → IsUtf8 text)
    → option_map (map to_ascii_lowercase) r ≡ Some domain → IsUtf8 domain
lower_kept None domain utf8 is = absurd (none-some domain is)
lower_kept (Some text) domain utf8 is =
    subst IsUtf8 (same_Some (map to_ascii_lowercase text) domain is) (lowered text (utf8 text refl))

domain_kept : (value domain : List ℕ) → domain_of value ≡ Some domain → ReadsBack text_of itself domain
domain_kept value domain is = text_back domain (lower_kept (text_of value) domain (text_utf8 value) is)

tag_kept : (value name : List ℕ) → tag_named value ≡ Some name → ReadsBack tag_named itself name
tag_kept value name is =
    let some = cond_some (is_tag_name (trimmed value)) (trimmed value) name is in
    subst (ReadsBack tag_named itself) some.1 (tag_back (trimmed value) (named_by_test (trimmed value) some.0))

-- ---- addresses

url_kept : (text url : List ℕ) → canon text ≡ Some url → ReadsBack uri_of itself url
url_kept text url is =
    let own = store_url-from_canon text url is in
    uri_back url (IsUtf8-from_ascii url (store_url_ascii url own)) (store_url_own url own)

uri_then : (r : Option (List ℕ)) (url : List ℕ) → option_and_then canon r ≡ Some url → ReadsBack uri_of itself url
uri_then None url is = absurd (none-some url is)
uri_then (Some text) url is = url_kept text url is

uri_kept : (value url : List ℕ) → uri_of value ≡ Some url → ReadsBack uri_of itself url
uri_kept value url is = uri_then (text_of value) url is

-- ---- the whole

-- what is read keeps the form
pub form_kept : (text : List ℕ) (q : Query) → Reads text q → IsReadBack q
form_kept text q reads =
    let all : Key → List (List ℕ) = λ k. values k (pieces_of text) in
    let last : Key → Option (List ℕ) = λ k. last_text (all k) in
    let terms = terms_kept (told text_of key.Terms (pieces_of text))
    (said (ReadsBack text_of itself) text_of (last key.Terms) text_kept) in
    let most = most_kept (told number_32_of key.MaxResults (pieces_of text))
    (said (ReadsBack number_32_of decimal) number_32_of (last key.MaxResults) number_kept) in
    let parents = firsts_kept ReadsId is_same_item (filter_map parent_of (all key.Parent))
    (all_said ReadsId parent_of (all key.Parent) parent_kept) in
    let tags = firsts_kept (ReadsBack tag_named itself) is_same_tag (filter_map tag_named (all key.Tag))
    (all_said (ReadsBack tag_named itself) tag_named (all key.Tag) tag_kept) in
    record {
      begin = subst (λ x. IfSome x ReadsTime) (sym reads.begin_time)
          (said ReadsTime time_of (last key.BeginTime) time_kept);
      end = subst (λ x. IfSome x ReadsTime) (sym reads.end_time) (said ReadsTime time_of (last key.EndTime) time_kept);
      terms = subst (λ x. IfSome x (ReadsBack text_of itself)) (sym reads.terms) terms;
      domain = subst (λ x. IfSome x (ReadsBack text_of itself)) (sym reads.domain)
          (said (ReadsBack text_of itself) domain_of (last key.Domain) domain_kept);
      uri = subst (λ x. IfSome x (ReadsBack uri_of itself)) (sym reads.uri)
          (said (ReadsBack uri_of itself) uri_of (last key.Uri) uri_kept);
      parents = subst (ByRecursion ReadsId) (sym reads.parents) parents;
      tags = subst (ByRecursion (ReadsBack tag_named itself)) (sym reads.tags) tags;
      max_results = subst (ReadsBack number_32_of decimal) (sym reads.max_results) most;
    }

-- the canonical text of each query that a text reads as reads as it, and as no other
pub reads_canonically : (text : List ℕ) (q : Query) → Reads text q → ReadsAlone q (canonical q)
reads_canonically text q reads = canonical_reads q (form_kept text q reads)
