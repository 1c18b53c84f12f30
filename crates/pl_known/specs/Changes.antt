-- A list of changes, and what it makes of views.
use Rattle.std.specs.Prelude.{◌≡◌, ◌≢◌, ◌<◌, ◌^◌, ℕ, List, [], ◌∷◌, Option, Some, None, IfSome}
use Rattle.std.specs.List.{All, AllPairs}
use Rattle.pl_base.specs.declared.change.Change.{Change}
use Rattle.pl_base.specs.declared.view.View.{View}
use Rattle.pl_base.specs.Store.{Store}
use Rattle.pl_base.specs.View.{AreViewsOf}
use Rattle.pl_follow.specs.Changes.{Suits, changed}
use Rattle.pl_known.specs.Known.{shares}

-- the views after all changes, one after another
abbrev pub after : List Change → List View → List View
after [] views = views
after (c ∷ cs) views = after cs (changed c.old c.new views)

-- each change suits the views that the changes before it leave
abbrev pub AllSuit : List Change → List View → Type 0
AllSuit [] views = Unit {0}
AllSuit (c ∷ cs) views = Suits c.old c.new views × AllSuit cs (changed c.old c.new views)

-- the id of the first of two views that is there
abbrev page_id : Option View → Option View → ℕ
page_id (Some old) new = old.id.0
page_id None (Some new) = new.id.0
page_id None None = 0

-- the id of the page that changes
abbrev pub id_of : Change → ℕ
id_of c = page_id c.old c.new

-- a view that comes in place of another is of the same page
abbrev pub IsOfOnePage : Change → Type 0
IsOfOnePage c = IfSome c.old (λ (v : View). IfSome c.new (λ (w : View). v.id ≡ w.id))

-- one change a page, by ascending ids, and none where a view stays the same
pub record AreEachOnce (changes : List Change) : Type 0 where
  pub pages : All IsOfOnePage changes
  pub ascending : AllPairs (λ (c d : Change). id_of c < id_of d) changes
  pub differ : All (λ (c : Change). c.old ≢ c.new) changes

-- the changes make the views of the store out of views
pub record LeadTo (store : Store) (views : List View) (changes : List Change) : Type 0 where
  pub each_once : AreEachOnce changes
  pub suit : AllSuit changes views
  pub become : AreViewsOf store (after changes views)
  pub small : shares (after changes views) < 2 ^ 35
