use Rattle.std.proofs.Common.{[], ◌≡◌, ◌∙◌, ◌+◌, ◌-◌, ap, arith, sym, length}
use Rattle.pl_base.specs.Live.{chunks}
use Rattle.pl_base.specs.Rows.{live_with_item_title}
use Rattle.pl_plain.specs.Flat.{kept_of}
use Rattle.pl_plain.proofs.ItemChanges.{IsFlat-with_retitled, slots_retitled}
use Rattle.pl_plain.proofs.Lookups.{title_told, told_item}
use Rattle.pl_plain.proofs.flat.Flat.retitle_item.Goals as goal

pub unwrap-requires : goal.unwrap-requires
unwrap-requires c = title_told c.args.item c.args.self.now.items c.title.result c.title.ensures c.requires.item

pub overflow_sub-self : goal.overflow_sub-self
overflow_sub-self c =
    let f = c.args.self.now in
    let at = told_item c.args.item f.items c.title.result c.unwrap.result c.title.ensures c.unwrap.ensures in
    omega (
      arith,
      f.rows.filled,
      c.chunks-old.ensures ∙ ap chunks (sym at.2),
      slots_retitled c.args.item [] c.args.modified (kept_of f) (length f.totals.items) f.live at.0 f.rows at.1,
    )

pub invariant_of-self : goal.invariant_of-self
invariant_of-self c =
    let f = c.args.self.now in
    let title = c.args.title.now in
    let at = told_item c.args.item f.items c.title.result c.unwrap.result c.title.ensures c.unwrap.ensures in
    let filled : f.live - c.chunks-old.result + c.chunks.result
    ≡ live_with_item_title c.args.item title c.args.modified (kept_of f) =
    omega (
      arith,
      slots_retitled c.args.item title c.args.modified (kept_of f) (length f.totals.items) f.live at.0 f.rows at.1,
      slots_retitled c.args.item [] c.args.modified (kept_of f) (length f.totals.items) f.live at.0 f.rows at.1,
      f.rows.filled,
      c.chunks-old.ensures ∙ ap chunks (sym at.2),
      c.chunks.ensures,
    ) in
    record {
      rows =
          rw (c.set.ensures, c.in_ok-text.ensures)
          (IsFlat-with_retitled c.args.item title c.args.modified (kept_of f) (length f.totals.items) f.live
          (f.live - c.chunks-old.result + c.chunks.result) filled
          (omega (arith, filled, c.requires.live)) f.rows);
    }
