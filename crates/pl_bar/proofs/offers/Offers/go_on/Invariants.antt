use Rattle.std.specs.Iterator.Adapters.{rev_source}
use Rattle.pl_base.specs.Rows.{store_of}
use Rattle.pl_bar.specs.Offers.{ids_of}
use Rattle.pl_bar.proofs.OfferSteps.{Going}
use Rattle.pl_bar.proofs.offers.Offers.go_on.Given as goal

abbrev pub invariant-loop-rank : goal.invariant-loop-rank
invariant-loop-rank g l =
    Going (store_of (g.R.Rows.kept l.rows)) l.asked.text l.texts (ids_of (rev_source l.fn.entries)) l.fn.self l.self
    l.fn.steps l.steps (rev_source l.rank-iterator)
