use Rattle.std.proofs.Common.{◌≡◌, subst, sym}
use Rattle.std.proofs.lemmas.Result.{IfOk-weaker}
use Rattle.pl_base.specs.Rows.{store_of}
use Rattle.pl_base.specs.Store.{Store, opening}
use Rattle.pl_graft.specs.Import.{imported}
use Rattle.pl_nbread.specs.declared.tree.Tree.{Tree}
use Rattle.pl_nbwrite.specs.Plain.{IsPlain}
use Rattle.pl_outline.specs.Outline.{bookmarks}
use Rattle.pl_outline.proofs.PlainTrees.{plain}
use Rattle.pl_outline.proofs.Returned.{bookmarks_returned}
use Rattle.pl_outline.proofs.outline.tree.Goals as goal

pub returns-clause-plain : goal.returns-clause-plain
returns-clause-plain g c =
    let store : Store = store_of (g.R.Rows.kept c.args.rows.now) in
    IfOk-weaker c.shown_tree.result (λ tree. tree ≡ bookmarks store) IsPlain
    (λ tree is. subst IsPlain (sym is) (plain store c.requires)) c.shown_tree.ensures

pub returns-clause-returns : goal.returns-clause-returns
returns-clause-returns g c =
    let store : Store = store_of (g.R.Rows.kept c.args.rows.now) in
    let comes_back : Tree → Type 0 = λ tree. bookmarks (imported tree opening) ≡ tree in
    IfOk-weaker c.shown_tree.result (λ tree. tree ≡ bookmarks store) comes_back
    (λ tree is. subst comes_back (sym is) (bookmarks_returned store c.requires)) c.shown_tree.ensures
