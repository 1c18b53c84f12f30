-- Names that URLs have of their origins.
use Rattle.std.specs.Prelude.{◌≡◌, ◌↔◌, IsTrue, List, ℕ, map}
use Rattle.std.specs.List.{All, zip}
use Rattle.pl_base.specs.declared.id.Slot.{Slot}
use Rattle.pl_base.specs.Address.{same_origin}
use Rattle.pl_stored.specs.declared.stored.StoredPage.{StoredPage}

-- a URL, and the name of its origin
pub record Named : Type 0 where
  pub url : List ℕ
  pub name : Slot

-- the URL of a page, with its name
abbrev pub named_url : StoredPage × Slot → Named
named_url p = record { url = p.0.url; name = p.1 }

-- the URLs of pages, each with its name
abbrev pub named : List StoredPage → List Slot → List Named
named pages names = map named_url (zip pages names)

-- two URLs have the same name exactly where they have the same origin
abbrev pub AreAlike : Named → Named → Type 0
AreAlike a b = (a.name ≡ b.name) ↔ IsTrue (same_origin a.url b.url)

-- any two of the URLs do
abbrev pub AreNamed : List Named → Type 0
AreNamed urls = All (λ a. All (AreAlike a) urls) urls
