-- A page's mark, and with it the total of its origin.
use Rattle.std.proofs.Common.{◌≡◌, ◌∙◌, ◌+◌, ◌-◌, ◌≤◌, ℕ, Some, ap}
use Rattle.std.specs.Option.{option_map}
use Rattle.pl_base.specs.declared.id.PageId.{PageId}
use Rattle.pl_base.specs.declared.id.Slot.{Slot}
use Rattle.pl_base.specs.declared.row.Mark.{Mark}
use Rattle.pl_base.specs.Rows.{HaveSums, IsWellKept, Kept, mark_of, origin_of, page_at, total_at, with_mark}
use Rattle.pl_base.specs.Rows.{with_total}
use Rattle.pl_base.specs.Totals.{most_share, share}
use Rattle.pl_base.proofs.OriginSums.{sums_marked}

pub sums_moved : (old marked new : Kept) (page : PageId) (mark was : Mark) (origin : Slot) (total less more : ℕ)
    → IsWellKept old → HaveSums old → Some was ≡ option_map mark_of (page_at old page)
    → Some origin ≡ origin_of old page → Some total ≡ total_at old origin → share mark.frecency ≤ most_share
    → less ≡ share was.frecency → more ≡ share mark.frecency → marked ≡ with_mark page mark old
    → new ≡ with_total origin (total - less + more) marked → HaveSums new
sums_moved old marked new page mark was origin total less more well sums marks named totals small gone come set is =
    sums_marked old new page mark was origin total well sums marks named totals small
    (is
    ∙ ap (with_total origin (total - less + more)) set
    ∙ ap (λ (n : ℕ). with_total origin (total - n + more) (with_mark page mark old)) gone
    ∙ ap (λ (n : ℕ). with_total origin (total - share was.frecency + n) (with_mark page mark old)) come)
