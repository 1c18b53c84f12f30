use Rattle.std.proofs.Common.{◌∙◌, ◌++◌, List, ap, arith, get_or, map, subst}
use Rattle.std.specs.List.{All}
use Rattle.std.proofs.lemmas.List.{take_all}
use Rattle.std.proofs.lemmas.List.Elements.{All-more}
use Rattle.pl_base.specs.declared.id.Slot.{Slot}
use Rattle.pl_rail.specs.Rails.{none}
use Rattle.pl_record.specs.declared.rows.TextAt.{TextAt}
use Rattle.pl_reading.specs.Texts.{IsHeld}
use Rattle.pl_reading.proofs.Parts.{chunks_are, held_there, parts_more}
use Rattle.pl_reading.proofs.texts.text_slots.Goals as goal

abbrev nowhere : TextAt
nowhere = record { slot = none; length = 0 }

pub loop-text-preserved : goal.loop-text-preserved
loop-text-preserved g c =
    let text = get_or c.args.texts.now c.loop-text.text-index nowhere in
    let numbers = map (λ (s : Slot). s.0) c.in-Some.parts.items in
    let found = rw c.in-Some.is at c.in_ok-parts.ensures.found in
    record {
      held =
          All-more (IsHeld c.args.arena.now) c.args.texts.now c.loop-text.text-index nowhere (omega arith)
          c.loop-text.invariant.held (held_there numbers text c.args.arena.now found);
      slots =
          parts_more c.args.arena.now c.args.texts.now c.loop-text.text-index nowhere c.loop-text.slots.items
          c.push_all.new.slots.items numbers (omega arith) c.loop-text.invariant.slots
          (c.in_ok-push_all.ensures
          ∙ ap (λ (ss : List Slot). c.loop-text.slots.items ++ map (λ (s : Slot). s.0) ss) c.deref.ensures.value)
          (chunks_are numbers text c.args.arena.now found);
    }

pub returns-clause-held : goal.returns-clause-held
returns-clause-held g c =
    subst (All (IsHeld c.args.arena.now)) (take_all c.loop-text.text-index c.args.texts.now (omega arith))
    c.loop-text.invariant.held
