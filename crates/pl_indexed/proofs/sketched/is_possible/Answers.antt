use Rattle.std.proofs.Common.{◌∙◌, sym}
use Rattle.pl_base.proofs.Truths.{not_false}
use Rattle.pl_indexed.proofs.SketchedViews.{not_possible}
use Rattle.pl_indexed.proofs.sketched.is_possible.Goals as goal

pub returns-else-contains : goal.returns-else-contains
returns-else-contains c =
    λ q views possible known other.
    not_possible q views c.args.pages.now c.args.view.now possible known (sym c.contains.ensures ∙ c.if-contains.false)
    (c.has_own_title.ensures (not_false c.has_own_title.result other))
