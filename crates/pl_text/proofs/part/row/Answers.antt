use Rattle.std.proofs.Common.{◌≡◌, ◌∙◌, ◌^◌, ◌<◌, ◌++◌, ℕ, List, ap, arith, length, subst, sym}
use Rattle.pl_slot.specs.Arena.{IsLiveRow}
use Rattle.pl_slot.specs.declared.row.SlotRow.TheVariants.{Text}
use Rattle.pl_text.specs.Chunks.{chunk_row}
use Rattle.pl_text.proofs.RowParts.{over_zeros, row_fits}
use Rattle.pl_text.proofs.part.row.Goals as goal
use Rattle.pl_text.proofs.part.row.Goals.{After-put}

made : (c : After-put) → Text (length c.args.bytes.now) c.args.next c.put.new.payload ≡ chunk_row c.args.bytes.now c.args.next
made c =
    ap (λ (payload : List ℕ). Text (length c.args.bytes.now) c.args.next payload)
    (c.put.ensures ∙ ap (λ (rest : List ℕ). c.args.bytes.now ++ rest) (over_zeros c.args.bytes.now 120))

pub returns-clause-row : goal.returns-clause-row
returns-clause-row c = made c

pub returns-clause-live : goal.returns-clause-live
returns-clause-live c =
    let there : c.args.next.0 < 2 ^ 32 = omega arith in
    subst IsLiveRow (sym (made c))
    (row_fits c.args.bytes.now c.args.next c.requires.some c.requires.room there)
