-- What holds of a list of views and what follows it, and which views may come to the list.
use Rattle.std.specs.Prelude.{◌≡◌, ◌≢◌, ◌+◌, ◌<◌, ◌^◌, ◌++◌, ℕ, List, drop, length, nat_eq}
use Rattle.std.specs.Prelude.{take, true}
use Rattle.std.specs.List.{AllByRecursion, starts_with, sum_by}
use Rattle.pl_base.specs.declared.view.View.{View}
use Rattle.pl_base.specs.Live.{slot_limit}
use Rattle.pl_base.specs.Totals.{share}
use Rattle.pl_follow.specs.Changes.{FitStore}
use Rattle.pl_follow.specs.Urls.{IndexesUrls}
use Rattle.trials_views.specs.declared.book.Book.{Book}

-- the positive frecencies of views together
abbrev pub shares : List View → ℕ
shares views = sum_by (λ (v : View). share v.frecency) views

-- the index and the follower stand for the views, and these fit a store
pub record IsBook {F : Type 0} (stands : F → List View → Type 0) (book : Book F) : Type 0 where
  pub known : IndexesUrls book.follows.one book.views.items
  pub stood : stands book.follows.other book.views.items
  pub fit : FitStore book.views.items
  pub sum : book.sum ≡ shares book.views.items

-- no view has the URL
abbrev pub NoneHas : List ℕ → List View → Type 0
NoneHas url views = AllByRecursion (λ (w : View). w.url ≢ url) views

-- a view may come between views
pub record MayCome (new : View) (front back : List View) : Type 0 where
  pub below : AllByRecursion (λ (w : View). w.id.0 < new.id.0) front
  pub above : AllByRecursion (λ (w : View). new.id.0 < w.id.0) back
  pub fresh : NoneHas new.url (front ++ back)
  pub prefix : starts_with nat_eq new.url new.prefix ≡ true
  pub few : length (front ++ back) + 1 < slot_limit
  pub sum : share new.frecency + shares (front ++ back) < 2 ^ 36

-- a view may come in place of the one at a place
abbrev pub MayTurn : View → ℕ → List View → Type 0
MayTurn new place views = MayCome new (take place views) (drop (place + 1) views)
