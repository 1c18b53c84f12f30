-- What a map finds by keys that are texts behind a digest, and what one key more makes of it.
use Rattle.std.proofs.Common.{◌≡◌, ◌∙◌, ◌==◌, ◌&&◌, ℕ, Bool, true, false, List, [], ◌∷◌, Option, Some, None}
use Rattle.std.proofs.Common.{Ordering, ap, arith, bytes_eq, eq-eqb, if◌then◌else◌, refl, string_bytes, sym}
use Rattle.std.specs.BTreeMap.{BTreeMap, Updates, get}
use Rattle.std.specs.Bool.{Decides}
use Rattle.std.specs.Cmp.{tied_then}
use Rattle.std.specs.Map.{KeepsOthers, lookup}
use Rattle.std.specs.Option.{option_or}
use Rattle.std.specs.Ordering.{is_eq, nat_cmp, ordering_then}
use Rattle.std.specs.String.{string_cmp}
use Rattle.std.proofs.lemmas.Bool.{and_from, and_parts, false_from_ne_true}
use Rattle.std.proofs.lemmas.Bool.Decides.{Decides-eqb, nat_tests}
use Rattle.std.proofs.lemmas.Map.Text.{is_eq-slice_cmp}
use Rattle.std.proofs.lemmas.Slice.Eq.{bytes_eq-Decides}
use Rattle.pl_digest.specs.Digest.{digest_of}
use Rattle.pl_keyed.specs.KnownPages.{EntersOrigin, EntersUrl, are_alike, is_address, page_of_origin, page_of_url}
use Rattle.pl_keyed.specs.contracts.pages.AddressOrd.TheImpl as address
use Rattle.pl_keyed.specs.contracts.pages.OriginOrd.TheImpl as origin
use Rattle.pl_keyed.specs.declared.pages.Address.{Address}
use Rattle.pl_keyed.specs.declared.pages.Origin.{Origin}

-- ---- one key more

module _ {K T : Type 0} (cmp : K → K → Ordering) (read : K → T) (same : T → T → Bool)
    (decides : (a b : T) → Decides (same a b) (a ≡ b))
    (compared : (a b : K) → is_eq (cmp a b) ≡ same (read a) (read b)) where
  -- a key is that of these texts
  abbrev is_of : T → K → Bool
  is_of texts key = same texts (read key)

  looked_up : (p q : K → Bool) (es : List (K × ℕ)) → ((k : K) → p k ≡ q k) → lookup p es ≡ lookup q es
  looked_up p q [] alike = refl
  looked_up p q (e ∷ es) alike = rw (alike e.0, looked_up p q es alike) refl

  -- what a map gives at a key is what it has of the key's texts
  found_by : (m : BTreeMap K ℕ) (key : K) (texts : T) → read key ≡ texts
      → get cmp m key ≡ lookup (is_of texts) m.entries
  found_by m key texts is =
      looked_up (λ k. is_eq (cmp key k)) (is_of (read key)) m.entries (compared key)
      ∙ ap (λ (t : T). lookup (is_of t) m.entries) is

  -- a test by texts holds of equal keys and no others
  tests_keys : (texts : T) (x y : K) → is_of texts x ≡ true → is_of texts y ≡ is_eq (cmp x y)
  tests_keys texts x y is = ap (λ (t : T). is_of t y) ((decides texts (read x)).0 is) ∙ sym (compared x y)

  -- and of no key that equals one of other texts
  tests_apart : (key k : K) (texts : T) → same (read key) texts ≡ false → is_eq (cmp key k) ≡ true
      → is_of texts k ≡ false
  tests_apart key k texts apart is =
      false_from_ne_true (is_of texts k) (λ here.
      let one : read key ≡ read k = (decides (read key) (read k)).0 (sym (compared key k) ∙ is) in
      let two : texts ≡ read k = (decides texts (read k)).0 here in
      let alike : same (read key) texts ≡ true = (decides (read key) texts).1 (one ∙ sym two) in
      cc)

  put_at : (m n : BTreeMap K ℕ) (key : K) (page : ℕ) (texts : T) → Updates cmp m n key (Some page)
      → lookup (is_of texts) n.entries
      ≡ (if same (read key) texts then Some page else lookup (is_of texts) m.entries)
  unfolding KeepsOthers
  put_at m n key page texts put = choose (same (read key) texts) refl
    where
      choose : (b : Bool) → same (read key) texts ≡ b
          → lookup (is_of texts) n.entries ≡ (if b then Some page else lookup (is_of texts) m.entries)
      choose true is = sym (found_by n key texts ((decides (read key) texts).0 is)) ∙ put.1
      choose false apart = put.3 (is_of texts) (tests_keys texts) (λ k is. tests_apart key k texts apart is)

-- ---- digests

abbrev both : {A B : Type 0} → (A → A → Bool) → (B → B → Bool) → A × B → A × B → Bool
both f g a b = f a.0 b.0 && g a.1 b.1

both_decide : {A B : Type 0} (f : A → A → Bool) (g : B → B → Bool) → ((a b : A) → Decides (f a b) (a ≡ b))
    → ((a b : B) → Decides (g a b) (a ≡ b)) → (a b : A × B) → Decides (both f g a b) (a ≡ b)
both_decide {A} {B} f g first second a b = (
  λ are.
      let parts = and_parts (f a.0 b.0) (g a.1 b.1) are in
      ap (λ (x : A). (x, a.1)) ((first a.0 b.0).0 parts.0) ∙ ap (λ (y : B). (b.0, y)) ((second a.1 b.1).0 parts.1),
  λ same.
      and_from (f a.0 b.0) (g a.1 b.1) ((first a.0 b.0).1 (ap (λ (p : A × B). p.0) same))
      ((second a.1 b.1).1 (ap (λ (p : A × B). p.1) same)),
)

-- where a test implies another one, that says no more beside it
implied : (b c : Bool) → (c ≡ true → b ≡ true) → (b && c) ≡ c
implied true c so = refl
implied false true so = so refl
implied false false so = refl

pub tied_numbers : (a b : ℕ) → is_eq (nat_cmp a b) ≡ (a == b)
tied_numbers a b = grind (arith, nat_tests)

-- ---- addresses

abbrev Digested : Type 0
Digested = ℕ × List ℕ

abbrev digested : List ℕ → Digested
digested url = (digest_of url, url)

abbrev of_address : Address → Digested
of_address key = (key.digest, string_bytes key.text)

abbrev same_digested : Digested → Digested → Bool
same_digested = both (λ a b. a == b) bytes_eq

digested_decide : (a b : Digested) → Decides (same_digested a b) (a ≡ b)
digested_decide = both_decide (λ a b. a == b) bytes_eq Decides-eqb bytes_eq-Decides

compared_addresses : (a b : Address) → is_eq (address.cmp-value.it a b) ≡ same_digested (of_address a) (of_address b)
compared_addresses a b =
    sym (tied_then (nat_cmp a.digest b.digest) (string_cmp a.text b.text))
    ∙ ap (λ (x : Bool). x && is_eq (string_cmp a.text b.text)) (tied_numbers a.digest b.digest)
    ∙ ap (λ (y : Bool). (a.digest == b.digest) && y) (is_eq-slice_cmp (string_bytes a.text) (string_bytes b.text))

-- two URLs with their digests are the same where the URLs are
same_urls : (a b : List ℕ) → same_digested (digested a) (digested b) ≡ bytes_eq a b
same_urls a b =
    implied (digest_of a == digest_of b) (bytes_eq a b)
    (λ same. eq-eqb (digest_of a) (digest_of b) (ap digest_of ((bytes_eq-Decides a b).0 same)))

read_address : (key : Address) (url : List ℕ) → key.digest ≡ digest_of url → string_bytes key.text ≡ url
    → of_address key ≡ digested url
read_address key url digest text =
    ap (λ (n : ℕ). (n, string_bytes key.text)) digest ∙ ap (λ (t : List ℕ). (digest_of url, t)) text

pub found_address : (m : BTreeMap Address ℕ) (key : Address) (url : List ℕ) → key.digest ≡ digest_of url
    → string_bytes key.text ≡ url → get address.cmp-value.it m key ≡ page_of_url m url
found_address m key url digest text =
    found_by address.cmp-value.it of_address same_digested digested_decide compared_addresses m key (digested url)
    (read_address key url digest text)

new_address : (m n : BTreeMap Address ℕ) (key : Address) (url : List ℕ) (page : ℕ) → key.digest ≡ digest_of url
    → string_bytes key.text ≡ url → Updates address.cmp-value.it m n key (Some page) → (other : List ℕ)
    → page_of_url n other ≡ (if bytes_eq url other then Some page else page_of_url m other)
new_address m n key url page digest text put other =
    put_at address.cmp-value.it of_address same_digested digested_decide compared_addresses m n key page
    (digested other) put
    ∙ ap (λ (d : Digested). if same_digested d (digested other) then Some page else page_of_url m other)
    (read_address key url digest text)
    ∙ ap (λ (b : Bool). if b then Some page else page_of_url m other) (same_urls url other)

pub or_none : (o : Option ℕ) → option_or o None ≡ o
or_none None = refl
or_none (Some n) = refl

-- a URL that had no page has this one
pub enters_new : (m n : BTreeMap Address ℕ) (key : Address) (url : List ℕ) (page : ℕ) → key.digest ≡ digest_of url
    → string_bytes key.text ≡ url → Updates address.cmp-value.it m n key (Some page) → page_of_url m url ≡ None
    → EntersUrl url page m n
enters_new m n key url page digest text put none = record { pages = pages }
  where
    choose : (other : List ℕ) (b : Bool) → bytes_eq url other ≡ b → (if b then Some page else page_of_url m other)
        ≡ option_or (page_of_url m other) (if b then Some page else None)
    choose other true same =
        sym (ap (λ (o : Option ℕ). option_or o (Some page))
        (ap (page_of_url m) (sym ((bytes_eq-Decides url other).0 same)) ∙ none))
    choose other false apart = sym (or_none (page_of_url m other))

    pages : (other : List ℕ) → page_of_url n other
        ≡ option_or (page_of_url m other) (if bytes_eq url other then Some page else None)
    pages other =
        new_address m n key url page digest text put other ∙ choose other (bytes_eq url other) refl

-- a URL that had a page keeps it
pub enters_known : (m n : BTreeMap Address ℕ) (url : List ℕ) (page known : ℕ) → n.entries ≡ m.entries
    → page_of_url m url ≡ Some known → EntersUrl url page m n
enters_known m n url page known still some = record { pages = pages }
  where
    choose : (other : List ℕ) (b : Bool) → bytes_eq url other ≡ b
        → page_of_url m other ≡ option_or (page_of_url m other) (if b then Some page else None)
    choose other true same =
        let here : page_of_url m other ≡ Some known =
        ap (page_of_url m) (sym ((bytes_eq-Decides url other).0 same)) ∙ some in
        here ∙ sym (ap (λ (o : Option ℕ). option_or o (Some page)) here)
    choose other false apart = sym (or_none (page_of_url m other))

    pages : (other : List ℕ) → page_of_url n other
        ≡ option_or (page_of_url m other) (if bytes_eq url other then Some page else None)
    pages other = ap (λ es. lookup (is_address other) es) still ∙ choose other (bytes_eq url other) refl

-- ---- origins

abbrev Texts : Type 0
Texts = List ℕ × List ℕ

abbrev DigestedTexts : Type 0
DigestedTexts = ℕ × Texts

abbrev digested_origin : Texts → DigestedTexts
digested_origin texts = (digest_of texts.1, texts)

abbrev of_origin : Origin → DigestedTexts
of_origin key = (key.digest, (string_bytes key.prefix, string_bytes key.host))

abbrev same_origins : DigestedTexts → DigestedTexts → Bool
same_origins = both (λ a b. a == b) are_alike

alike_decide : (a b : Texts) → Decides (are_alike a b) (a ≡ b)
alike_decide = both_decide bytes_eq bytes_eq bytes_eq-Decides bytes_eq-Decides

origins_decide : (a b : DigestedTexts) → Decides (same_origins a b) (a ≡ b)
origins_decide = both_decide (λ a b. a == b) are_alike Decides-eqb alike_decide

compared_origins : (a b : Origin) → is_eq (origin.cmp-value.it a b) ≡ same_origins (of_origin a) (of_origin b)
compared_origins a b =
    sym (tied_then (nat_cmp a.digest b.digest)
    (ordering_then (string_cmp a.prefix b.prefix) (string_cmp a.host b.host)))
    ∙ ap (λ (x : Bool). x && is_eq (ordering_then (string_cmp a.prefix b.prefix) (string_cmp a.host b.host)))
    (tied_numbers a.digest b.digest)
    ∙ ap (λ (y : Bool). (a.digest == b.digest) && y)
    (sym (tied_then (string_cmp a.prefix b.prefix) (string_cmp a.host b.host))
    ∙ ap (λ (x : Bool). x && is_eq (string_cmp a.host b.host))
    (is_eq-slice_cmp (string_bytes a.prefix) (string_bytes b.prefix))
    ∙ ap (λ (y : Bool). bytes_eq (string_bytes a.prefix) (string_bytes b.prefix) && y)
    (is_eq-slice_cmp (string_bytes a.host) (string_bytes b.host)))

same_texts : (a b : Texts) → same_origins (digested_origin a) (digested_origin b) ≡ are_alike a b
same_texts a b =
    implied (digest_of a.1 == digest_of b.1) (are_alike a b)
    (λ same. eq-eqb (digest_of a.1) (digest_of b.1)
    (ap (λ (t : Texts). digest_of t.1) ((alike_decide a b).0 same)))

read_origin : (key : Origin) (prefix host : List ℕ) → key.digest ≡ digest_of host → string_bytes key.prefix ≡ prefix
    → string_bytes key.host ≡ host → of_origin key ≡ digested_origin (prefix, host)
read_origin key prefix host digest first second =
    ap (λ (n : ℕ). (n, (string_bytes key.prefix, string_bytes key.host))) digest
    ∙ ap (λ (p : List ℕ). (digest_of host, (p, string_bytes key.host))) first
    ∙ ap (λ (h : List ℕ). (digest_of host, (prefix, h))) second

pub found_origin : (m : BTreeMap Origin ℕ) (key : Origin) (prefix host : List ℕ) → key.digest ≡ digest_of host
    → string_bytes key.prefix ≡ prefix → string_bytes key.host ≡ host
    → get origin.cmp-value.it m key ≡ page_of_origin m (prefix, host)
found_origin m key prefix host digest first second =
    found_by origin.cmp-value.it of_origin same_origins origins_decide compared_origins m key
    (digested_origin (prefix, host)) (read_origin key prefix host digest first second)

pub enters_origin : (m n : BTreeMap Origin ℕ) (key : Origin) (prefix host : List ℕ) (page : ℕ)
    → key.digest ≡ digest_of host → string_bytes key.prefix ≡ prefix → string_bytes key.host ≡ host
    → Updates origin.cmp-value.it m n key (Some page) → EntersOrigin (prefix, host) page m n
enters_origin m n key prefix host page digest first second put =
    record {
      pages =
          λ other.
          put_at origin.cmp-value.it of_origin same_origins origins_decide compared_origins m n key page
          (digested_origin other) put
          ∙ ap (λ (d : DigestedTexts).
          if same_origins d (digested_origin other) then Some page else page_of_origin m other)
          (read_origin key prefix host digest first second)
          ∙ ap (λ (b : Bool). if b then Some page else page_of_origin m other) (same_texts (prefix, host) other);
    }
