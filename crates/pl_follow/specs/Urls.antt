-- What the look-up of views by their URLs stands for.
use Rattle.std.specs.Prelude.{◌≡◌, ◌≢◌, ℕ, List, Option, None, Some, IsSome, bytes_eq, if◌then◌else◌}
use Rattle.std.specs.BTreeMap.{get, get_by_text}
use Rattle.std.specs.List.{AllPairs, find}
use Rattle.std.specs.Option.{option_map, option_or}
use Rattle.std.specs.Ordering.{nat_cmp}
use Rattle.std.specs.String.{string_bytes}
use Rattle.pl_base.specs.declared.id.PageId.{PageId}
use Rattle.pl_base.specs.declared.view.View.{View}
use Rattle.pl_digest.specs.Digest.{digest_of}
use Rattle.pl_follow.specs.Changes.{AreInOrder}
use Rattle.pl_follow.specs.declared.urls.UrlIndex.{UrlIndex}
use Rattle.pl_follow.specs.declared.urls.UrlPage.{UrlPage}

-- the id of the view with the URL
abbrev pub id_of_url : List ℕ → List View → Option PageId
id_of_url url views =
    option_map (λ (v : View). v.id) (find (λ (v : View). bytes_eq v.url url) views)

-- the page, where its URL is this one
abbrev pub page_of : List ℕ → Option UrlPage → Option PageId
page_of url None = None
page_of url (Some known) = if bytes_eq (string_bytes known.url) url then Some known.page else None

-- the page of the URL among those that are found by digests
abbrev pub hashed_page : UrlIndex → List ℕ → Option PageId
hashed_page index url = page_of url (get nat_cmp index.hashed (digest_of url))

-- the page of the URL among the others
abbrev pub other_page : UrlIndex → List ℕ → Option PageId
other_page index url = get_by_text index.others url

-- the page of the URL
abbrev pub found_by : UrlIndex → List ℕ → Option PageId
found_by index url = option_or (hashed_page index url) (other_page index url)

-- the index finds each of these views by its URL, and none by any other text; it has no URL twice
pub record IndexesUrls (index : UrlIndex) (views : List View) : Type 0 where
  pub order : AreInOrder views
  pub urls : AllPairs (λ (v w : View). v.url ≢ w.url) views
  pub once : (url : List ℕ) → IsSome (hashed_page index url) → other_page index url ≡ None
  pub ids : (url : List ℕ) → found_by index url ≡ id_of_url url views
