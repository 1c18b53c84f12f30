-- What is told of a page: filters over the visits and the items.
use Rattle.std.specs.Prelude.{ℕ, ◌&&◌, ◌||◌, ◌==◌, Bool, true, false}
use Rattle.std.specs.Prelude.{List, [], ◌∷◌, Option, Some, None}
use Rattle.std.specs.List.{count_by, list_all, list_any}
use Rattle.pl_base.specs.declared.date.Micros.{Micros}
use Rattle.pl_base.specs.declared.id.PageId.{PageId}
use Rattle.pl_base.specs.declared.transition.Transition.{Transition}
use Rattle.pl_base.specs.declared.transition.Transition.TheVariants.{Link, Typed, Bookmark}
use Rattle.pl_base.specs.declared.transition.Transition.TheVariants.{Embed, RedirectPermanent}
use Rattle.pl_base.specs.declared.transition.Transition.TheVariants.{RedirectTemporary, Download}
use Rattle.pl_base.specs.declared.transition.Transition.TheVariants.{FramedLink, Reload}
use Rattle.pl_base.specs.Address.{is_place_url}
use Rattle.pl_base.specs.Redirects.{is_redirect_source}
use Rattle.pl_base.specs.Store.{Store, Page, Visit, Item}
use Rattle.pl_base.specs.Tree.{is_page}
use Rattle.pl_base.specs.Visits.{latest_first, visits_of}

-- visits that `visit_count` counts: all but embedded and framed ones, downloads and reloads
abbrev pub is_counted : Transition → Bool
is_counted Link = true
is_counted Typed = true
is_counted Bookmark = true
is_counted Embed = false
is_counted RedirectPermanent = true
is_counted RedirectTemporary = true
is_counted Download = false
is_counted FramedLink = false
is_counted Reload = false

-- the `visit_count` of a page
abbrev pub visit_count : Store → PageId → ℕ
visit_count store page =
    count_by (λ v. (v.page.0 == page.0) && is_counted v.transition) store.visits

-- the date of the first visit
abbrev first_date : List Visit → Option Micros
first_date [] = None
first_date (v ∷ vs) = Some v.date

-- the date of the latest visit of a page
abbrev pub last_date_of : Store → PageId → Option Micros
last_date_of store page = first_date (latest_first (visits_of store page))

-- an item of the tree has the page
abbrev pub is_referenced : Store → PageId → Bool
is_referenced store page = list_any (λ (item : Item). is_page page item.page) store.items

-- visits to an address that was typed
abbrev pub is_typed : Transition → Bool
is_typed Typed = true
is_typed Link = false
is_typed Bookmark = false
is_typed Embed = false
is_typed RedirectPermanent = false
is_typed RedirectTemporary = false
is_typed Download = false
is_typed FramedLink = false
is_typed Reload = false

-- visits within a frame, which no one asked for by themselves
abbrev pub is_framed : Transition → Bool
is_framed Embed = true
is_framed FramedLink = true
is_framed Link = false
is_framed Typed = false
is_framed Bookmark = false
is_framed RedirectPermanent = false
is_framed RedirectTemporary = false
is_framed Download = false
is_framed Reload = false

-- there are visits, and each is within a frame or led to a redirect
abbrev hidden_by : Store → List Visit → Bool
hidden_by store [] = false
hidden_by store (v ∷ vs) =
    list_all (λ w. is_framed w.transition || is_redirect_source store w) (v ∷ vs)

-- a page is hidden that is a query, and one with no visit but such
abbrev pub is_hidden : Store → Page → Bool
is_hidden store p = is_place_url p.url || hidden_by store (visits_of store p.id)
