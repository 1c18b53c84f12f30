-- What is known of the pages of a store.
use Rattle.std.specs.Prelude.{◌==◌, ◌<◌, ◌^◌, ℕ, List, Option}
use Rattle.std.specs.List.{find, sum_by}
use Rattle.pl_base.specs.declared.id.PageId.{PageId}
use Rattle.pl_base.specs.declared.view.View.{View}
use Rattle.pl_base.specs.Store.{Store}
use Rattle.pl_base.specs.Totals.{share}
use Rattle.pl_base.specs.View.{AreViewsOf}
use Rattle.pl_calendar.specs.Days.{KeepsDays}
use Rattle.pl_follow.specs.Changes.{AreInOrder, FitStore}
use Rattle.pl_follow.specs.Order.{Orders}
use Rattle.pl_follow.specs.Texts.{KeepsTexts}
use Rattle.pl_follow.specs.Urls.{IndexesUrls}
use Rattle.pl_totals.specs.Standing.{Stands}
use Rattle.pl_known.specs.declared.known.Known.{Known}

-- the view with this id
abbrev pub view_of : PageId → List View → Option View
view_of id views = find (λ (v : View). v.id.0 == id.0) views

-- the positive frecencies of views together
abbrev pub shares : List View → ℕ
shares views = sum_by (λ (v : View). share v.frecency) views

-- the views stand in the order of their ids and fit a store, and each follower stands for them
pub record FollowersStand (known : Known) (views : List View) : Type 0 where
  pub order : AreInOrder views
  pub fit : FitStore views
  pub urls : IndexesUrls known.urls views
  pub ranks : Orders known.order views
  pub texts : KeepsTexts known.texts views
  pub days : KeepsDays known.calendar views
  pub totals : Stands known.totals views

-- the followers stand for the views beside them
abbrev pub AreFollowed : Known → Type 0
AreFollowed known = FollowersStand known known.views.items

-- what is known is what the pages of the store tell, and their positive frecencies are at most half
-- of what views may have together
pub record Knows (store : Store) (known : Known) : Type 0 where
  pub views : AreViewsOf store known.views.items
  pub small : shares known.views.items < 2 ^ 35
  pub followed : AreFollowed known
