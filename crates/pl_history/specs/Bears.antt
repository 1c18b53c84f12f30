-- Which pages a change bears on.
use Rattle.std.specs.Prelude.{List}
use Rattle.pl_base.specs.declared.id.PageId.{PageId}
use Rattle.pl_base.specs.Store.{Store}
use Rattle.pl_marks.specs.Alike.{AreOthersAlike, ComeBehind, HaveSameTexts}

-- the change bears on these pages alone, keeps all texts, and puts a new page behind the others
pub record BearsOnlyOn (ids : List PageId) (old new : Store) : Type 0 where
  pub others : AreOthersAlike ids old new
  pub texts : HaveSameTexts old new
  pub behind : ComeBehind old new
