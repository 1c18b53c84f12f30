-- Lists of views in the order of their ids, and what a view that goes and one that comes make of
-- them.
use Rattle.std.specs.Prelude.{◌≡◌, ◌≢◌, ◌<◌, ◌^◌, ◌==◌, ◌||◌, not, Bool, true, false, nat_eq}
use Rattle.std.specs.Prelude.{List, [], ◌∷◌, length, Option, Some, None, is_some, IfSome}
use Rattle.std.specs.Prelude.{nat_lt, if◌then◌else◌}
use Rattle.std.specs.List.{All, AllPairs, Contains, filter, list_any, starts_with, sum_by}
use Rattle.pl_base.specs.declared.id.PageId.{PageId}
use Rattle.pl_base.specs.declared.view.View.{View}
use Rattle.pl_base.specs.Live.{slot_limit}
use Rattle.pl_base.specs.Totals.{share}

-- the views stand in the order of their ids
abbrev pub AreInOrder : List View → Type 0
AreInOrder views = AllPairs (λ (v w : View). v.id.0 < w.id.0) views

-- ---- how a list changes

-- the views but that of this id
abbrev pub without_id : PageId → List View → List View
without_id id views = filter (λ (v : View). not (v.id.0 == id.0)) views

-- the views and one more, in the order of the ids
abbrev pub with_view : View → List View → List View
with_view view [] = view ∷ []
with_view view (v ∷ vs) =
    if nat_lt view.id.0 v.id.0 then view ∷ v ∷ vs else v ∷ with_view view vs

-- the views without the one that goes
abbrev pub removed : Option View → List View → List View
removed None views = views
removed (Some old) views = without_id old.id views

-- the views and the one that comes
abbrev pub added : Option View → List View → List View
added None views = views
added (Some new) views = with_view new views

-- the views after a change
abbrev pub changed : Option View → Option View → List View → List View
changed old new views = added new (removed old views)

-- ---- which changes there are

-- a view has this id
abbrev pub has_view : PageId → List View → Bool
has_view id views = list_any (λ (v : View). v.id.0 == id.0) views

-- the views fit a store: their URLs are distinct, each begins with its prefix, and they and the sum
-- of their positive frecencies are no more than a store can have
pub record FitStore (views : List View) : Type 0 where
  pub urls : AllPairs (λ (v w : View). v.url ≢ w.url) views
  pub prefixes : All (λ (v : View). starts_with nat_eq v.url v.prefix ≡ true) views
  pub few : length views < slot_limit
  pub sum : sum_by (λ (v : View). share v.frecency) views < 2 ^ 36

-- a list of views suits a change: the old view is in it, the new one has the old one's id or one
-- that is not in it, and what becomes of it fits a store
pub record Suits (old new : Option View) (views : List View) : Type 0 where
  pub some : (is_some old || is_some new) ≡ true
  pub goes : IfSome old (λ v. Contains views v)
  pub comes : IfSome new (λ v. has_view v.id (removed old views) ≡ false)
  pub becomes : FitStore (changed old new views)

-- a change of some list that is stood for
pub record IsChange (stands : List View → Type 0) (old new : Option View) : Type 0 where
  pub views : List View
  pub stood : stands views
  pub suits : Suits old new views
