use Rattle.std.proofs.Common.{rules}
use Rattle.std.proofs.lemmas.List.Sorted.{answers_always}
use Rattle.pl_dated.proofs.CutFound.{cut_is, found_before, found_ranks}
use Rattle.pl_dated.proofs.first.cut.Goals as goal

pub returns : goal.returns
returns c apart =
    cut_is c.args.most c.args.found.now.items c.sort_unstable_by.new.self.items c.truncate.new.self.items
    c.sort_unstable_by.ensures.permutation
    (c.sort_unstable_by.ensures.sorted found_before found_ranks
    (answers_always _ _ _ (λ f a r g called. search rules)))
    c.truncate.ensures.items apart
