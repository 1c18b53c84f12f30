use Rattle.std.proofs.Common.{◌≡◌, ◌∙◌, ◌+◌, ◌-◌, List, ap, arith, drop, sym, take, w32, ℕ}
use Rattle.std.specs.Int.{from_le_bytes}
use Rattle.pl_base.specs.Touched.{page_size}
use Rattle.pl_slot.proofs.BytesAt.{part_of_part}
use Rattle.pl_slot.proofs.slots.four_at.Goals as goal

pub returns : goal.returns
returns c =
    let bytes : List ℕ = c.args.sheets.now.bytes in
    let size : c.args.at + 4 - c.args.at ≡ 4 = omega arith in
    c.from_le_bytes.ensures
    ∙ ap (from_le_bytes w32)
    (c.get.ensures ∙ sym (part_of_part c.args.at 4 page_size page_size bytes c.requires.within)
    ∙ ap (λ n. take n (drop c.args.at (take page_size (drop page_size bytes)))) (sym size))
