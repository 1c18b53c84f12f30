use Rattle.std.proofs.Common.{ap, rules, w64, ◌∙◌}
use Rattle.std.specs.Int.{cast_signed}
use Rattle.std.proofs.lemmas.Int.{to_z-of_z}
use Rattle.pl_slot.specs.declared.row.SlotRow.TheVariants.{Place}
use Rattle.pl_slot.proofs.reading.place.Goals as goal

pub returns-clause-row : goal.returns-clause-row
returns-clause-row c =
    let same = to_z-of_z w64 c.cast_signed.result (search rules) in
    let frecency = same ∙ c.cast_signed.ensures ∙ ap (cast_signed w64) c.eight_at.ensures in
    λ i. Place (c.is_typed.ensures i) (c.is_hidden.ensures i) (c.slot_at.ensures i) (c.slot_at-2.ensures i)
    (record { 0 = c.four_at.ensures i }) (c.slot_at-3.ensures i) (c.slot_at-4.ensures i) (c.slot_at-5.ensures i)
    (c.slot_at-6.ensures i) (c.slot_at-7.ensures i) (c.slot_at-8.ensures i) (c.slot_at-9.ensures i)
    (c.slot_at-10.ensures i) (c.four_at-2.ensures i) (c.slot_at-11.ensures i) (c.four_at-3.ensures i) (frecency i)
    (c.four_at-4.ensures i)
