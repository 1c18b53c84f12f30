use Rattle.std.proofs.Common.{◌∙◌, ap}
use Rattle.std.proofs.lemmas.Result.{IfOk-weaker}
use Rattle.pl_sought.specs.Sought.{sketch_of_words}
use Rattle.pl_indexed.proofs.SketchedViews.{some_possible}
use Rattle.pl_indexed.proofs.sketched.possible_pages.Goals as goal

pub returns : goal.returns
returns c =
    let asked = c.args.asked.now in
    IfOk-weaker c.covered_pages.result _ _
    (λ pages covered.
    some_possible asked.query.now asked c.args.known.now.views.items c.sketch_of_words.result pages c.requires.asked
    (c.sketch_of_words.ensures ∙ ap sketch_of_words c.deref.ensures.value) covered)
    c.covered_pages.ensures
