use Rattle.std.proofs.Common.{◌≡◌, subst, sym}
use Rattle.std.proofs.lemmas.Result.{IfOk-weaker}
use Rattle.pl_base.specs.Good.{IsGood}
use Rattle.pl_base.specs.Rows.{store_of}
use Rattle.pl_base.specs.Store.{Store}
use Rattle.pl_nbread.specs.declared.tree.Tree.{Tree}
use Rattle.pl_outline.specs.Outline.{whole}
use Rattle.pl_outline.specs.Whole.{IsWhole}
use Rattle.pl_outline.specs.BroughtBack.{IsBroughtBack}
use Rattle.pl_outline.proofs.PlainTrees.{whole_tree_is}
use Rattle.pl_outline.proofs.Returned.{comes_back}
use Rattle.pl_outline.proofs.outline.whole_tree.Goals as goal

pub returns-clause-whole : goal.returns-clause-whole
returns-clause-whole g c =
    let store : Store = store_of (g.R.Rows.kept c.args.rows.now) in
    IfOk-weaker c.shown_tree.result (λ tree. tree ≡ whole store) IsWhole
    (λ tree is. subst IsWhole (sym is) (whole_tree_is store c.requires)) c.shown_tree.ensures

pub returns-clause-restores : goal.returns-clause-restores
returns-clause-restores g c =
    let store : Store = store_of (g.R.Rows.kept c.args.rows.now) in
    let returns : Tree → Type 0 = λ tree. (first : Store) → IsGood first → IsBroughtBack tree first in
    IfOk-weaker c.shown_tree.result (λ tree. tree ≡ whole store) returns
    (λ tree is. subst returns (sym is) (comes_back store c.requires)) c.shown_tree.ensures
