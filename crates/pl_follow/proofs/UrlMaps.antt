-- What the look-up by URLs finds after one of its two maps has changed at one URL.
use Rattle.std.proofs.Common.{◌≡◌, ◌∙◌, ℕ, Bool, true, false, Global, List, Option, Some, None, String, ap}
use Rattle.std.proofs.Common.{bytes_eq, cond, if◌then◌else◌, refl, string_bytes, subst, sym}
use Rattle.std.specs.BTreeMap.{BTreeMap, UpdatesBy, get, is_at}
use Rattle.std.specs.Cmp.{unsigned_ties}
use Rattle.std.specs.Option.{IsSome, option_or}
use Rattle.std.specs.Ordering.{nat_cmp}
use Rattle.std.proofs.lemmas.Bool.{eqb-true}
use Rattle.std.proofs.lemmas.Slice.Eq.{bytes_eq-Decides}
use Rattle.pl_base.specs.declared.id.PageId.{PageId}
use Rattle.pl_digest.specs.Digest.{digest_of}
use Rattle.pl_follow.specs.Urls.{page_of}
use Rattle.pl_follow.specs.declared.urls.UrlPage.{UrlPage}

-- the pages by digests
abbrev pub Hashed : Type 0
Hashed = BTreeMap ℕ UrlPage

-- the pages by URLs
abbrev pub Others : Type 0
Others = BTreeMap (String Global) PageId

-- the page of the URL among these
abbrev pub page_in : Hashed → List ℕ → Option PageId
page_in hashed url = page_of url (get nat_cmp hashed (digest_of url))

-- there is no page of another URL
abbrev pub HasNoOther : List ℕ → Option UrlPage → Type 0
HasNoOther url known = (text : List ℕ) → bytes_eq url text ≡ false → page_of text known ≡ None

-- a page of this URL is of no other
pub only_its_own : (url : List ℕ) (known : UrlPage) → string_bytes known.url ≡ url → HasNoOther url (Some known)
only_its_own url known is text apart = rw (ap (λ (u : List ℕ). bytes_eq u text) is ∙ apart) refl

-- where the page of the URL is found, it is that of no other
pub found_its_own : (url : List ℕ) (known : Option UrlPage) → IsSome (page_of url known) → HasNoOther url known
found_its_own url None some = absurd (cc)
found_its_own url (Some known) some = choose (bytes_eq (string_bytes known.url) url) refl some
  where
    choose : (b : Bool) → bytes_eq (string_bytes known.url) url ≡ b
        → IsSome (if b then Some known.page else None) → HasNoOther url (Some known)
    choose true is here = only_its_own url known ((bytes_eq-Decides (string_bytes known.url) url).0 is)
    choose false is here = absurd (cc)

-- the map by digests has another page of the URL, or none; all other URLs have their pages there as before
pub page_changed : (url : List ℕ) (before after : Hashed) (known : Option UrlPage)
    → UpdatesBy nat_cmp (nat_cmp (digest_of url)) before after known
    → HasNoOther url (get nat_cmp before (digest_of url)) → HasNoOther url known → (text : List ℕ)
    → page_in after text ≡ cond (bytes_eq url text) (page_of url known) (page_in before text)
page_changed url before after known updates before_is after_is text = choose (bytes_eq url text) refl
  where
    elsewhere : bytes_eq url text ≡ false → (b : Bool) → is_at (nat_cmp (digest_of url)) (digest_of text) ≡ b
        → page_in after text ≡ page_in before text
    elsewhere apart true same =
        let digest : digest_of url ≡ digest_of text =
        eqb-true (digest_of url) (digest_of text) (unsigned_ties (digest_of url) (digest_of text) ∙ same) in
        ap (page_of text) (ap (get nat_cmp after) (sym digest) ∙ updates.1) ∙ after_is text apart
        ∙ sym (ap (λ (d : ℕ). page_of text (get nat_cmp before d)) (sym digest) ∙ before_is text apart)
    elsewhere apart false differ = ap (page_of text) (updates.2 (digest_of text) differ)

    choose : (b : Bool) → bytes_eq url text ≡ b
        → page_in after text ≡ cond b (page_of url known) (page_in before text)
    choose true same =
        subst (λ (t : List ℕ). page_in after t ≡ page_of url known) ((bytes_eq-Decides url text).0 same)
        (ap (page_of url) updates.1)
    choose false apart = elsewhere apart (is_at (nat_cmp (digest_of url)) (digest_of text)) refl

-- ---- the first of two answers, where one of them changes

pub first_changed : {X : Type 0} (e : Bool) (new first second : Option X) → (e ≡ true → option_or new second ≡ new)
    → option_or (cond e new first) second ≡ cond e new (option_or first second)
first_changed true new first second rest = rest refl
first_changed false new first second rest = refl

pub second_changed : {X : Type 0} (e : Bool) (new first second : Option X) → (e ≡ true → first ≡ None)
    → option_or first (cond e new second) ≡ cond e new (option_or first second)
second_changed true new first second rest = rw (rest refl) refl
second_changed false new first second rest = refl
