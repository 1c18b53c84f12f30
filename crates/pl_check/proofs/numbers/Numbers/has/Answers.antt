use Rattle.std.proofs.Common.{◌∙◌, ◌==◌, ap, subst, sym}
use Rattle.std.specs.List.{list_any}
use Rattle.std.specs.List.Sorted.{IsNonDecreasing}
use Rattle.pl_check.proofs.ItemTests.{any_searched}
use Rattle.pl_check.proofs.numbers.Numbers.has.Goals as goal

pub returns-else-stands_in_line : goal.returns-else-stands_in_line
returns-else-stands_in_line c =
    c.is_ok.ensures.value
    ∙ any_searched (λ n. n) c.deref-else-stands_in_line.result.now
    (subst IsNonDecreasing (sym c.deref-else-stands_in_line.ensures.value) c.self.invariant) c.args.number c.binary_search.result
    c.binary_search.ensures.bound c.binary_search.ensures.position
    ∙ ap (list_any (λ n. n == c.args.number)) (c.deref-else-stands_in_line.ensures.value ∙ c.self.view_is)
