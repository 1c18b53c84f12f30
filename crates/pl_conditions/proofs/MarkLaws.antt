-- What the mark of a page tells of it.
use Rattle.std.proofs.Common.{◌≡◌, Some, ap}
use Rattle.std.specs.Option.{option_map}
use Rattle.pl_base.specs.declared.id.PageId.{PageId}
use Rattle.pl_base.specs.declared.row.Mark.{Mark}
use Rattle.pl_base.specs.Marks.{is_hidden}
use Rattle.pl_base.specs.Rows.{IsRight, Kept, KeptPage, mark_of, page_at, store_of}
use Rattle.pl_marks.proofs.PageRows.{mark_at}

pub hidden_at : (kept : Kept) (page : PageId) (mark : Mark) (p : KeptPage) → IsRight kept
    → Some mark ≡ option_map mark_of (page_at kept page) → page_at kept page ≡ Some p
    → mark.hidden ≡ is_hidden (store_of kept) p.page
hidden_at kept page mark p right is at = ap (λ (m : Mark). m.hidden) (mark_at kept page mark p right is at)
