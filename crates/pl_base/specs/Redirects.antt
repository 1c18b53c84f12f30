-- Visits that came by a redirect, and visits that led to one.
use Rattle.std.specs.Prelude.{◌&&◌, ◌==◌, not, Bool, true, false, List}
use Rattle.std.specs.Prelude.{Option, Some, None, if◌then◌else◌}
use Rattle.std.specs.List.{filter, find, list_any}
use Rattle.std.specs.Option.{option_and_then, option_map}
use Rattle.pl_base.specs.declared.id.VisitId.{VisitId}
use Rattle.pl_base.specs.declared.transition.Transition.{Transition}
use Rattle.pl_base.specs.declared.transition.Transition.TheVariants.{Link, Typed, Bookmark}
use Rattle.pl_base.specs.declared.transition.Transition.TheVariants.{Embed, RedirectPermanent}
use Rattle.pl_base.specs.declared.transition.Transition.TheVariants.{RedirectTemporary, Download}
use Rattle.pl_base.specs.declared.transition.Transition.TheVariants.{FramedLink, Reload}
use Rattle.pl_base.specs.Store.{Store, Visit}

-- visits that a redirect made
abbrev pub is_redirect : Transition → Bool
is_redirect RedirectPermanent = true
is_redirect RedirectTemporary = true
is_redirect Link = false
is_redirect Typed = false
is_redirect Bookmark = false
is_redirect Embed = false
is_redirect Download = false
is_redirect FramedLink = false
is_redirect Reload = false

-- the visit with this id
abbrev pub visit_by_id : Store → VisitId → Option Visit
visit_by_id store id = find (λ v. v.id.0 == id.0) store.visits

-- the transition of the visit with this id
abbrev pub visit_transition : Store → VisitId → Option Transition
visit_transition store id = option_map (λ (v : Visit). v.transition) (visit_by_id store id)

-- the transition of the visit that a redirect came from
abbrev pub source_transition : Store → Visit → Option Transition
source_transition store v =
    if is_redirect v.transition then option_and_then (visit_transition store) v.source else None

-- the source is there, and is this visit
abbrev pub is_source : VisitId → Option VisitId → Bool
is_source id None = false
is_source id (Some source) = source.0 == id.0

-- some redirect came from the visit
abbrev pub is_redirect_source : Store → Visit → Bool
is_redirect_source store v =
    list_any (λ w. is_redirect w.transition && is_source v.id w.source) store.visits

-- the redirects that came from the visit with this id
abbrev pub redirects_from : Store → VisitId → List Visit
redirects_from store id =
    filter (λ w. is_redirect w.transition && is_source id w.source) store.visits

-- the other visits that came from it
abbrev pub others_from : Store → VisitId → List Visit
others_from store id =
    filter (λ w. not (is_redirect w.transition) && is_source id w.source) store.visits
