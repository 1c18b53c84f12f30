-- A transition and a kind of items by their numbers.
use Rattle.std.proofs.Common.{◌≡◌, Some, refl}
use Rattle.pl_base.specs.declared.item.ItemKind.{ItemKind}
use Rattle.pl_base.specs.declared.item.ItemKind.TheVariants as kinds
use Rattle.pl_base.specs.declared.transition.Transition.{Transition}
use Rattle.pl_base.specs.declared.transition.Transition.TheVariants.{Link, Typed, Bookmark, Embed, RedirectPermanent}
use Rattle.pl_base.specs.declared.transition.Transition.TheVariants.{RedirectTemporary, Download, FramedLink, Reload}
use Rattle.pl_base.specs.ItemKind.{item_kind_at, item_kind_number}
use Rattle.pl_base.specs.Transition.{transition_at, transition_number}

pub transition_again : (t : Transition) → transition_at (transition_number t) ≡ Some t
transition_again Link = refl
transition_again Typed = refl
transition_again Bookmark = refl
transition_again Embed = refl
transition_again RedirectPermanent = refl
transition_again RedirectTemporary = refl
transition_again Download = refl
transition_again FramedLink = refl
transition_again Reload = refl

pub kind_again : (k : ItemKind) → item_kind_at (item_kind_number k) ≡ Some k
kind_again kinds.Bookmark = refl
kind_again kinds.Folder = refl
kind_again kinds.Separator = refl
