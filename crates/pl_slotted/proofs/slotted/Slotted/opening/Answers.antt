use Rattle.std.proofs.Common.{◌≡◌, ◌∙◌, subst, sym}
use Rattle.pl_base.specs.Rows.{IsSound}
use Rattle.pl_record.proofs.OpeningKept.{only_roots, opening_keeps, opening_sound}
use Rattle.pl_record.proofs.OpeningRows.{opening_kept}
use Rattle.pl_slotted.proofs.slotted.Slotted.opening.Goals as goal
use Rattle.pl_slotted.proofs.slotted.Slotted.opening.Goals.{After-result-2-1}

pub invariant_of-result : goal.invariant_of-result
invariant_of-result c =
    record {
      rows =
          opening_keeps c.in_ok-opening_arena.field-0 c.new.result.entries c.new-2.result.entries
          c.in_ok-of.field-0.entries c.in_ok-opening_arena.ensures c.new.ensures.empty c.new-2.ensures.empty
          (c.in_ok-of.ensures.entries ∙ c.in_ok-root_slots.ensures);
    }

kept : (c : After-result-2-1) → c.result-2-1.given.0.kept ≡ opening_kept
kept c =
    only_roots c.in_ok-opening_arena.field-0 c.new.result.entries c.new-2.result.entries
    c.in_ok-of.field-0.entries c.in_ok-opening_arena.ensures c.new.ensures.empty c.new-2.ensures.empty
    (c.in_ok-of.ensures.entries ∙ c.in_ok-root_slots.ensures) c.result-2-1.given.0

pub returns-clause-kept : goal.returns-clause-kept
returns-clause-kept c = kept c

pub returns-clause-sound : goal.returns-clause-sound
returns-clause-sound c = subst IsSound (sym (kept c)) opening_sound
