-- What totals stand for: views, by their origins, their frecencies and their ids.
use Rattle.std.specs.Prelude.{◌≡◌, ◌+◌, ◌-◌, ◌^◌, ◌<◌, ◌≤◌, ℕ, Bool, List, false, true}
use Rattle.std.specs.Prelude.{if◌then◌else◌, map, nat_lt}
use Rattle.std.specs.List.{Contains, filter}
use Rattle.pl_base.specs.declared.id.PageId.{PageId}
use Rattle.pl_base.specs.declared.view.View.{View}
use Rattle.pl_base.specs.Live.{slot_limit}
use Rattle.pl_base.specs.Totals.{Origin, Scored, group_total, is_in_group, is_origin}
use Rattle.pl_base.specs.Totals.{origins_with_total, sum_of_totals, total_of}
use Rattle.pl_base.specs.View.{scored_views}
use Rattle.pl_follow.specs.Changes.{AreInOrder, FitStore, has_view, with_view, without_id}
use Rattle.pl_totals.specs.declared.kept.Step.{Step}
use Rattle.pl_totals.specs.declared.totals.Totals.{Totals}
use Rattle.pl_totals.specs.Groups.{total_in}
use Rattle.pl_totals.specs.Held.{after, held_at, settled}

-- the total that is kept of an origin, and 0 where none is
abbrev pub kept_total : Totals → Origin → ℕ
kept_total totals origin = (held_at totals.origins origin).0

-- the total that is kept of a group of hosts, and 0 where none is
abbrev pub kept_group : Totals → List ℕ → ℕ
kept_group totals group = total_in totals.groups group

-- the totals are those of the pages: for each origin and each group, and over all origins
pub record StandsFor (totals : Totals) (pages : List Scored) : Type 0 where
  pub origins : (origin : Origin) → kept_total totals origin ≡ total_of pages origin
  pub groups : (group : List ℕ) → kept_group totals group ≡ group_total pages group
  pub count : totals.count ≡ origins_with_total pages
  pub sum : totals.sum ≡ sum_of_totals pages

-- a view has this origin
abbrev pub has_origin : Origin → View → Bool
has_origin origin view = is_origin (view.prefix, view.host) origin

-- the pages of an origin, by their ids
abbrev pub pages_of : Origin → List View → List PageId
pages_of origin views = map (λ (v : View). v.id) (filter (has_origin origin) views)

-- the totals and the pages of each origin are those of the views
pub record Stands (totals : Totals) (views : List View) : Type 0 where
  pub in_order : AreInOrder views
  pub told : StandsFor totals (scored_views views)
  pub pages : (origin : Origin) → (held_at totals.origins origin).1 ≡ pages_of origin views

-- ---- one step

-- one where there is something
abbrev pub one_if : ℕ → ℕ
one_if n = if nat_lt 0 n then 1 else 0

-- a number of which one share goes, and to which another comes
abbrev pub stepped : Step → ℕ → ℕ
stepped step n = n - step.from + step.to

-- the share that goes is in the number, and the one that comes fits
pub record Takes (step : Step) (n : ℕ) : Type 0 where
  pub from : step.from ≤ n
  pub fits : stepped step n < 2 ^ 64

-- a step of an origin is one of the totals
pub record HasRoom (origin : Origin) (step : Step) (totals : Totals) : Type 0 where
  pub total : Takes step (kept_total totals origin)
  pub group : (group : List ℕ) → is_in_group group origin ≡ true
      → Takes step (kept_group totals group)
  pub sum : Takes step totals.sum
  pub counted : one_if (kept_total totals origin)
      ≤ totals.count + one_if (stepped step (kept_total totals origin))
  pub few : totals.count ≤ slot_limit

-- what a step of an origin makes of the totals
pub record Steps (origin : Origin) (step : Step) (old new : Totals) : Type 0 where
  pub origins : (other : Origin) → held_at new.origins other
      ≡ (if is_origin origin other
      then settled (after step (held_at old.origins origin)) else held_at old.origins other)
  pub groups : (group : List ℕ) → kept_group new group
      ≡ (if is_in_group group origin
      then stepped step (kept_group old group) else kept_group old group)
  pub count : new.count + one_if (kept_total old origin)
      ≡ old.count + one_if (stepped step (kept_total old origin))
  pub sum : new.sum ≡ stepped step old.sum

-- ---- the change of one view

-- this view may go from the views
pub record MayGo (view : View) (views : List View) : Type 0 where
  pub contains : Contains views view
  pub others : FitStore (without_id view.id views)

-- this view may come to the views
pub record MayCome (view : View) (views : List View) : Type 0 where
  pub fresh : has_view view.id views ≡ false
  pub becomes : FitStore (with_view view views)

-- two views are of the same page and origin
pub record AreOfOne (old new : View) : Type 0 where
  pub id : old.id ≡ new.id
  pub prefix : old.prefix ≡ new.prefix
  pub host : old.host ≡ new.host

-- a view of the same page and origin may stand in place of one of the views
pub record MayTurn (old new : View) (views : List View) : Type 0 where
  pub contains : Contains views old
  pub fresh : has_view new.id (without_id old.id views) ≡ false
  pub becomes : FitStore (with_view new (without_id old.id views))
  pub one : AreOfOne old new

-- the totals stand for views of which this holds
pub record StandsWith (totals : Totals) (may : List View → Type 0) : Type 0 where
  pub views : List View
  pub stands : Stands totals views
  pub holds : may views
