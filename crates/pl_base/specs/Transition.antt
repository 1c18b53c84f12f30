-- How a visit came about: the transition types of Mozilla's nsINavHistoryService, by their numbers.
use Rattle.std.specs.Prelude.{ℕ, List, [], ◌∷◌, ◌==◌, Option}
use Rattle.std.specs.List.{find}
use Rattle.pl_base.specs.declared.transition.Transition.{Transition}
use Rattle.pl_base.specs.declared.transition.Transition.TheVariants.{Link, Typed, Bookmark}
use Rattle.pl_base.specs.declared.transition.Transition.TheVariants.{Embed, RedirectPermanent}
use Rattle.pl_base.specs.declared.transition.Transition.TheVariants.{RedirectTemporary, Download}
use Rattle.pl_base.specs.declared.transition.Transition.TheVariants.{FramedLink, Reload}

-- the number of a transition
abbrev pub transition_number : Transition → ℕ
transition_number Link = 1
transition_number Typed = 2
transition_number Bookmark = 3
transition_number Embed = 4
transition_number RedirectPermanent = 5
transition_number RedirectTemporary = 6
transition_number Download = 7
transition_number FramedLink = 8
transition_number Reload = 9

-- all transitions
abbrev pub transitions : List Transition
transitions =
    Link ∷ Typed ∷ Bookmark ∷ Embed ∷ RedirectPermanent ∷ RedirectTemporary ∷ Download ∷ FramedLink
    ∷ Reload ∷ []

-- the transition with this number
abbrev pub transition_at : ℕ → Option Transition
transition_at n = find (λ t. transition_number t == n) transitions
