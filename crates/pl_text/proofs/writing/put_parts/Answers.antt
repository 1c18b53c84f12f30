use Rattle.std.proofs.Common.{◌≡◌, ◌∙◌, ◌-◌, ◌*◌, ℕ, List, ap, arith, drop, length, length-drop, length-take}
use Rattle.std.proofs.Common.{refl, subst, sym, take}
use Rattle.pl_slot.specs.Arena.{IsTaken, KeepsFields}
use Rattle.pl_slot.specs.Slot.{payload_size}
use Rattle.pl_slot.proofs.TakenLaws.{keeps_both}
use Rattle.pl_text.specs.Chunks.{chunk_row, StoresText}
use Rattle.pl_text.proofs.FrontParts.{next_part, none_behind, some_there}
use Rattle.pl_text.proofs.Storing.{stored_count, stores_more, stores_none}
use Rattle.pl_text.proofs.writing.put_parts.Goals as goal

pub row-requires-clause-room : goal.row-requires-clause-room
row-requires-clause-room c =
    omega (
      arith,
      ap (λ (l : List ℕ). length l) c.part_at.ensures,
      length-take payload_size (drop (payload_size * (c.loop-place.place - 1)) c.args.text.now),
    )

pub take-requires-clause-few : goal.take-requires-clause-few
take-requires-clause-few c =
    omega (
      arith,
      stored_count c.loop-place.next (drop (payload_size * c.loop-place.place) c.args.text.now) c.args.arena.now
          c.loop-place.arena c.loop-place.invariant.stored,
      length-drop (payload_size * c.loop-place.place) c.args.text.now,
      length-drop (payload_size * (c.loop-place.place - 1)) c.args.text.now,
      some_there c.args.text.now c.div_ceil-place.result c.loop-place.place c.div_ceil-place.ensures
          c.loop-place.auto.place c.loop-place-test.true,
      c.requires.few,
    )

pub loop-place-init : goal.loop-place-init
loop-place-init c =
    record {
      arena = λ is. is;
      stored =
          subst (λ text. StoresText (record { 0 = 0 }) text c.args.arena.now c.args.arena.now)
          (sym (none_behind c.args.text.now c.div_ceil-place.result c.div_ceil-place.ensures))
          (stores_none c.args.arena.now);
      fields = refl;
      longer = omega arith;
    }

pub loop-place-preserved : goal.loop-place-preserved
loop-place-preserved c =
    let text : List ℕ = drop (payload_size * (c.loop-place.place - 1)) c.args.text.now in
    let stored : StoresText c.loop-place.next (drop payload_size text) c.args.arena.now c.loop-place.arena =
    subst (λ t. StoresText c.loop-place.next t c.args.arena.now c.loop-place.arena)
    (sym (next_part c.loop-place.place c.args.text.now c.loop-place-test.true)) c.loop-place.invariant.stored in
    let taken : IsTaken c.in-Ok.slot.0 (chunk_row (take payload_size text) c.loop-place.next) c.loop-place.arena
    c.take.new.self =
    subst (λ row. IsTaken c.in-Ok.slot.0 row c.loop-place.arena c.take.new.self)
    (c.row.ensures.row ∙ ap (λ part. chunk_row part c.loop-place.next) c.part_at.ensures) c.in-Ok.ensures.taken in
    record {
      arena = λ _. c.take.ensures.arena;
      stored =
          stores_more c.in-Ok.slot.0 text c.loop-place.next c.args.arena.now c.loop-place.arena c.take.new.self
          (some_there c.args.text.now c.div_ceil-place.result c.loop-place.place c.div_ceil-place.ensures
          c.loop-place.auto.place c.loop-place-test.true)
          stored taken c.loop-place.invariant.longer c.in-Ok.ensures.pages;
      fields =
          keeps_both c.args.arena.now c.loop-place.arena c.take.new.self c.loop-place.invariant.fields
          c.in-Ok.ensures.header;
      longer = omega (arith, c.loop-place.invariant.longer, c.in-Ok.ensures.longer);
    }

pub returns-in-Err : goal.returns-in-Err
returns-in-Err c =
    record {
      arena = λ _. c.take.ensures.arena;
      ok = tt;
      err = (
        drop (payload_size * c.loop-place.place) c.args.text.now,
        subst (λ arena. StoresText c.loop-place.next (drop (payload_size * c.loop-place.place) c.args.text.now)
            c.args.arena.now arena) (sym c.in-Err.ensures.err) c.loop-place.invariant.stored,
        omega (arith, length-drop (payload_size * c.loop-place.place) c.args.text.now),
      );
      header =
          subst (λ arena. KeepsFields c.args.arena.now arena) (sym c.in-Err.ensures.err)
          c.loop-place.invariant.fields;
    }

pub returns : goal.returns
returns c =
    let none : payload_size * c.loop-place.place ≡ 0 = omega (arith, c.loop-place-test.false) in
    record {
      arena = c.loop-place.invariant.arena;
      ok =
          subst (λ (k : ℕ). StoresText c.loop-place.next (drop k c.args.text.now) c.args.arena.now c.loop-place.arena)
          none c.loop-place.invariant.stored;
      err = tt;
      header = c.loop-place.invariant.fields;
    }
