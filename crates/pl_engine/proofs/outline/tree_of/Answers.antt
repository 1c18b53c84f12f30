use Rattle.std.proofs.lemmas.Result.{IfOk-weaker}
use Rattle.std.proofs.Common.{◌≡◌, ℕ}
use Rattle.pl_base.specs.Store.{opening}
use Rattle.pl_graft.specs.Import.{imported}
use Rattle.pl_outline.specs.Outline.{bookmarks}
use Rattle.pl_engine.specs.Returns.{Returns}
use Rattle.pl_engine.proofs.BroughtBack.{brought_back}
use Rattle.pl_engine.proofs.outline.tree_of.Goals as goal

pub returns-clause-returns : goal.returns-clause-returns
returns-clause-returns g c =
    IfOk-weaker c.tree.result (λ tree. bookmarks (imported tree opening) ≡ tree)
    (λ tree. (limit : ℕ) → Returns limit tree) (λ tree is limit. brought_back limit tree is) c.tree.ensures.returns
