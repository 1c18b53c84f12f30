use Rattle.std.proofs.Common.{◌==◌, ◌∙◌, ap, subst, sym}
use Rattle.std.specs.List.Sorted.{IsStrictlyIncreasing}
use Rattle.std.proofs.lemmas.List.Filters.{dedup_is}
use Rattle.std.proofs.lemmas.List.Sorted.{list_any-IsPermutation}
use Rattle.pl_base.specs.declared.id.PageId.{PageId}
use Rattle.pl_base.proofs.PageOrder.{alike, ascend_once, numbers}
use Rattle.pl_tree.specs.LostPages.{has_lost}
use Rattle.pl_tree.proofs.PageOrder.{lost_once}
use Rattle.pl_tree.proofs.removal.put_in_order.Goals as goal

pub returns-clause-ascending : goal.returns-clause-ascending
returns-clause-ascending c =
    subst (λ pages. IsStrictlyIncreasing (numbers pages))
    (sym (dedup_is alike c.sort_unstable.new.self.items c.dedup.new.self.items c.dedup.ensures.filtered))
    (ascend_once c.sort_unstable.new.self.items c.sort_unstable.ensures.sorted)

pub returns-clause-same : goal.returns-clause-same
returns-clause-same c page =
    ap (has_lost page)
    (dedup_is alike c.sort_unstable.new.self.items c.dedup.new.self.items c.dedup.ensures.filtered)
    ∙ lost_once page c.sort_unstable.new.self.items
    ∙ sym (list_any-IsPermutation (λ (lost : PageId). lost.0 == page.0) c.args.pages.now.items
    c.sort_unstable.new.self.items c.sort_unstable.ensures.permutation)
