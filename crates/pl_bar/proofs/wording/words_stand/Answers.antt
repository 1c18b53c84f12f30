use Rattle.pl_bar.proofs.SketchedWords.{passed_by}
use Rattle.pl_bar.proofs.wording.words_stand.Goals as goal

pub returns-then-not-covers : goal.returns-then-not-covers
returns-then-not-covers c =
    λ views folded keeps told.
    passed_by folded c.args.asked.now.text.marks c.args.asked.now.text.words c.args.sketch c.args.asked.now.sketch
    c.covers.result (c.requires.sketch views folded keeps told) c.args.asked.now.sketched c.covers.ensures.1
    c.if-not-covers.true
