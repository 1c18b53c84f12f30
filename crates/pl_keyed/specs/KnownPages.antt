-- What the look-up of pages stands for.
use Rattle.std.specs.Prelude.{◌≡◌, ◌==◌, ◌&&◌, ◌++◌, ◌∷◌, [], ℕ, Bool, true, List, Option, Some}
use Rattle.std.specs.Prelude.{None, IsFalse, bytes_eq, if◌then◌else◌, string_bytes}
use Rattle.std.specs.BTreeMap.{BTreeMap}
use Rattle.std.specs.List.{All, list_any}
use Rattle.std.specs.Map.{lookup}
use Rattle.std.specs.Option.{is_none, is_some, option_map, option_or}
use Rattle.pl_base.specs.declared.id.PageId.{PageId}
use Rattle.pl_base.specs.Address.{origin_of_url, same_origin}
use Rattle.pl_base.specs.Store.{Page}
use Rattle.pl_base.specs.Visiting.{find_page}
use Rattle.pl_digest.specs.Digest.{digest_of}
use Rattle.pl_keyed.specs.declared.pages.Address.{Address}
use Rattle.pl_keyed.specs.declared.pages.Entered.{Entered}
use Rattle.pl_keyed.specs.declared.pages.Entered.TheVariants.{Added, Found}
use Rattle.pl_keyed.specs.declared.pages.Origin.{Origin}
use Rattle.pl_keyed.specs.declared.pages.Pages.{Pages}
use Rattle.pl_keyed.specs.declared.pages.urls.Named.{Named}

-- ---- keys

-- the key is that of the URL
abbrev pub is_address : List ℕ → Address → Bool
is_address url key = (digest_of url == key.digest) && bytes_eq url (string_bytes key.text)

-- the page that is kept of a URL
abbrev pub page_of_url : BTreeMap Address ℕ → List ℕ → Option ℕ
page_of_url urls url = lookup (is_address url) urls.entries

-- a URL gets the page, unless it has one
pub record EntersUrl (url : List ℕ) (page : ℕ) (old new : BTreeMap Address ℕ) : Type 0 where
  pub pages :
      (other : List ℕ)
      → page_of_url new other
      ≡ option_or (page_of_url old other) (if bytes_eq url other then Some page else None)

-- the origins, by prefix and host, are the same
abbrev pub are_alike : List ℕ × List ℕ → List ℕ × List ℕ → Bool
are_alike a b = bytes_eq a.0 b.0 && bytes_eq a.1 b.1

-- the key is that of the origin with this prefix and host
abbrev pub is_key : List ℕ × List ℕ → Origin → Bool
is_key origin key =
    (digest_of origin.1 == key.digest)
    && are_alike origin (string_bytes key.prefix, string_bytes key.host)

-- the page that is kept of an origin
abbrev pub page_of_origin : BTreeMap Origin ℕ → List ℕ × List ℕ → Option ℕ
page_of_origin origins origin = lookup (is_key origin) origins.entries

-- the page is kept of an origin from now on
pub record EntersOrigin (origin : List ℕ × List ℕ) (page : ℕ) (old new : BTreeMap Origin ℕ)
    : Type 0 where
  pub pages :
      (other : List ℕ × List ℕ)
      → page_of_origin new other
      ≡ (if are_alike origin other then Some page else page_of_origin old other)

-- ---- pages

-- the id with this number
abbrev pub page_id : ℕ → PageId
page_id n = record { 0 = n }

-- a page of the origin of a URL; without one no page has it
abbrev pub IsOriginPage : List Page → List ℕ → Option ℕ → Type 0
IsOriginPage pages url None = All (λ (p : Page). IsFalse (same_origin p.url url)) pages
IsOriginPage pages url (Some id) =
    list_any (λ (p : Page). (p.id.0 == id) && same_origin p.url url) pages ≡ true

-- the look-up finds each of these pages by its URL, and one of each origin that they have
pub record KnowsPages (known : Pages) (pages : List Page) : Type 0 where
  pub urls :
      (url : List ℕ)
      → page_of_url known.urls url ≡ option_map (λ (p : Page). p.id.0) (find_page url pages)
  pub origins :
      (url : List ℕ) (origin : List ℕ × List ℕ) → origin_of_url url ≡ Some origin
      → IsOriginPage pages url (page_of_origin known.origins origin)

-- the pages with one behind them, unless one has its URL
abbrev pub with_page : Page → List Page → List Page
with_page p pages = if is_none (find_page p.url pages) then pages ++ p ∷ [] else pages

-- what is answered of a URL
abbrev pub IsEntered : List Page → List ℕ → Entered → Type 0
IsEntered pages url (Found page) =
    option_map (λ (p : Page). p.id.0) (find_page url pages) ≡ Some page
IsEntered pages url (Added other) = (find_page url pages ≡ None) × IsOriginPage pages url other

-- the URL is one of those that a tree names
abbrev pub names : Named → List ℕ → Bool
names named url = is_some (page_of_url named.urls url)
