-- What the address bar looks pages up in: their order by frecency, and their folded texts.
use Rattle.std.specs.Prelude.{List}
use Rattle.pl_base.specs.declared.view.View.{View}
use Rattle.pl_base.specs.Store.{Store}
use Rattle.pl_base.specs.View.{AreViewsOf}
use Rattle.pl_follow.specs.declared.order.OrderIndex.{OrderIndex}
use Rattle.pl_follow.specs.declared.texts.FoldedTexts.{FoldedTexts}
use Rattle.pl_follow.specs.Order.{Orders}
use Rattle.pl_follow.specs.Texts.{KeepsTexts}

-- both stand for views of the store
pub record AreFollowing (store : Store) (order : OrderIndex) (texts : FoldedTexts) : Type 0 where
  pub views : List View
  pub told : AreViewsOf store views
  pub ordered : Orders order views
  pub kept : KeepsTexts texts views

-- the folded texts are those of the store's pages
pub record HaveTexts (store : Store) (texts : FoldedTexts) : Type 0 where
  pub views : List View
  pub told : AreViewsOf store views
  pub kept : KeepsTexts texts views
