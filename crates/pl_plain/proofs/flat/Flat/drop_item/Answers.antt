use Rattle.std.proofs.Common.{◌∙◌, ◌+◌, ◌-◌, ap, arith, sym, length}
use Rattle.pl_base.specs.Live.{chunks}
use Rattle.pl_plain.specs.Flat.{kept_of}
use Rattle.pl_plain.proofs.ItemChanges.{IsFlat-with_removed, slots_with_removed}
use Rattle.pl_plain.proofs.Lookups.{title_told, told_item}
use Rattle.pl_plain.proofs.flat.Flat.drop_item.Goals as goal

pub unwrap-requires : goal.unwrap-requires
unwrap-requires c = title_told c.args.item c.args.self.now.items c.title.result c.title.ensures c.requires.item

pub overflow_sub-self : goal.overflow_sub-self
overflow_sub-self c =
    let f = c.args.self.now in
    let at = told_item c.args.item f.items c.title.result c.unwrap.result c.title.ensures c.unwrap.ensures in
    omega (
      arith,
      f.rows.filled,
      c.chunks-old.ensures ∙ ap chunks (sym at.2),
      slots_with_removed c.args.item (kept_of f) (length f.totals.items) f.live at.0 f.rows at.1,
    )

pub invariant_of-self : goal.invariant_of-self
invariant_of-self c =
    let f = c.args.self.now in
    let at = told_item c.args.item f.items c.title.result c.unwrap.result c.title.ensures c.unwrap.ensures in
    let slots = slots_with_removed c.args.item (kept_of f) (length f.totals.items) f.live at.0 f.rows at.1 in
    record {
      rows =
          rw c.remove.ensures
          (IsFlat-with_removed c.args.item (kept_of f) (length f.totals.items) f.live
          (f.live - (1 + c.chunks-old.result))
          (omega (arith, slots, f.rows.filled, c.chunks-old.ensures ∙ ap chunks (sym at.2)))
          (omega (arith, f.rows.few)) f.rows);
    }
