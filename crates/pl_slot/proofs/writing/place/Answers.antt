use Rattle.std.proofs.Common.{ap, refl, rules, w64, ◌∙◌}
use Rattle.std.specs.Int.{cast_unsigned}
use Rattle.std.proofs.lemmas.Int.{to_z-of_z}
use Rattle.pl_slot.proofs.Fields.{and_byte, and_eight, and_one, and_two, laid_as}
use Rattle.pl_slot.proofs.writing.place.Goals as goal

pub returns : goal.returns
returns c =
    let same = to_z-of_z w64 c.in-Place.frecency (search rules) in
    let frecency = c.cast_unsigned.ensures ∙ ap (cast_unsigned w64) same in
    laid_as c.put_four-3.new.bytes c.args.row.now _ c.in-Place.is refl
    (and_one _ _ _ _ c.put_four-3.ensures
    (and_eight _ _ _ _ _ _ c.put_eight.ensures frecency
    (and_two _ _ _ _ _ c.put_text-2.ensures
    (and_two _ _ _ _ _ c.put_text.ensures
    (and_two _ _ _ _ _ c.put_slots-4.ensures
    (and_two _ _ _ _ _ c.put_slots-3.ensures
    (and_two _ _ _ _ _ c.put_slots-2.ensures
    (and_one _ _ _ _ c.put_four-2.ensures
    (and_one _ _ _ _ c.put_four.ensures
    (and_two _ _ _ _ _ c.put_slots.ensures
    (and_byte _ _ _ _ _ _ c.put_byte.ensures c.marks.ensures
    c.blank-bytes.ensures)))))))))))
