use Rattle.std.proofs.Common.{◌∙◌, ℕ, List, ap}
use Rattle.pl_sheets.specs.Sheets.{unchanged, with_blank}
use Rattle.pl_record.proofs.opening.three_pages.Goals as goal

pub returns : goal.returns
returns c =
    c.in_ok-grow-2.ensures.ok
    ∙ ap with_blank (c.in_ok-grow.ensures.ok
    ∙ ap with_blank (c.in_ok-sheets.ensures ∙ ap (λ (bytes : List ℕ). unchanged bytes) (c.in_ok-vec.ensures.items_if_clones_equal (λ y same. same))))
