-- What kept views tell of the URLs of pages.
use Rattle.std.specs.Prelude.{◌≡◌, List, Some}
use Rattle.std.specs.List.{All}
use Rattle.pl_base.specs.declared.view.View.{View}
use Rattle.pl_base.specs.Address.{origin_of_url}
use Rattle.pl_base.specs.Rows.{Kept, KeptPage}

-- a page with the view's id has the view's prefix and host
abbrev pub HasAddress : Kept → View → Type 0
HasAddress kept view =
    All (λ (p : KeptPage). p.page.id ≡ view.id
    → origin_of_url p.page.url ≡ Some (view.prefix, view.host)) kept.pages

-- so it is of each of the views
abbrev pub HaveAddresses : List View → Kept → Type 0
HaveAddresses views kept = All (HasAddress kept) views
