-- The visits that came from one, by ascending id: the redirects, and behind them the others.
use Rattle.std.specs.Prelude.{◌&&◌, ◌++◌, ◌==◌, not, Bool, List, Option}
use Rattle.std.specs.List.{filter, find}
use Rattle.std.specs.Option.{option_and_then}
use Rattle.pl_base.specs.declared.id.VisitId.{VisitId}
use Rattle.pl_base.specs.Redirects.{is_redirect, is_source}
use Rattle.pl_base.specs.Rows.{id_behind}
use Rattle.pl_base.specs.Store.{Visit}

-- a redirect that came from the visit with this id
abbrev pub is_redirect_from : VisitId → Visit → Bool
is_redirect_from source v = is_redirect v.transition && is_source source v.source

-- another visit that came from it
abbrev pub is_other_from : VisitId → Visit → Bool
is_other_from source v = not (is_redirect v.transition) && is_source source v.source

-- those of these visits that came from the one with this id
abbrev pub targets_of : List Visit → VisitId → List Visit
targets_of visits source =
    filter (is_redirect_from source) visits ++ filter (is_other_from source) visits

-- the visit that stands behind the one with this id among the targets of its source
abbrev pub target_among : List Visit → VisitId → Option VisitId
target_among visits id =
    option_and_then
    (λ (v : Visit). option_and_then (λ source. id_behind id (targets_of visits source)) v.source)
    (find (λ (v : Visit). v.id.0 == id.0) visits)
