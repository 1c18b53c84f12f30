use Rattle.std.proofs.Common.{◌∙◌, ◌≤◌, arith, refl}
use Rattle.pl_sheets.specs.Sheets.{page_count}
use Rattle.pl_slot.specs.Arena.{header_of}
use Rattle.pl_text.proofs.Freeing.{frees_all, frees_none, frees_on, frees_part}
use Rattle.pl_text.proofs.RowParts.{part_live}
use Rattle.pl_text.proofs.writing.free.Goals as goal

pub loop-next-init : goal.loop-next-init
loop-next-init g c =
    record {
      arena = λ is. is;
      frees = frees_none c.args.slot c.args.arena.now c.requires.text.0 c.requires.text.1;
      as_many = refl;
      counted = refl;
    }

pub behind-next-requires : goal.behind-next-requires
behind-next-requires g c =
    record {
      part =
          frees_part c.args.slot c.loop-next.next c.args.arena.now c.loop-next.arena c.loop-next.invariant.frees
          c.loop-next-test.true;
    }

pub give_back-requires : goal.give_back-requires
give_back-requires g c =
    record {
      live =
          part_live c.loop-next.next.0 c.loop-next.arena
          (frees_part c.args.slot c.loop-next.next c.args.arena.now c.loop-next.arena c.loop-next.invariant.frees
          c.loop-next-test.true);
    }

pub loop-next-smaller : goal.loop-next-smaller
loop-next-smaller g c = omega (arith, c.give_back.ensures.count)

pub loop-next-preserved : goal.loop-next-preserved
loop-next-preserved g c =
    let longer : page_count c.args.arena.now ≤ page_count c.loop-next.arena =
    omega (arith, c.loop-next.invariant.as_many) in
    record {
      arena = λ _. c.give_back.ensures.arena;
      frees =
          frees_on c.args.slot c.loop-next.next c.behind-next.result c.args.arena.now c.loop-next.arena
          c.give_back.new.self longer c.loop-next.invariant.frees c.loop-next-test.true c.behind-next.ensures.next
          (record {
            first = (header_of c.loop-next.arena).first_free;
            rows = c.give_back.ensures.rows;
            header = c.give_back.ensures.header;
            count = c.give_back.ensures.count;
            pages = c.give_back.ensures.pages;
          });
      as_many = c.give_back.ensures.as_many ∙ c.loop-next.invariant.as_many;
      counted =
          omega (arith, c.behind-next.ensures.counted, c.give_back.ensures.count, c.loop-next.invariant.counted);
    }

pub returns-clause-freed : goal.returns-clause-freed
returns-clause-freed g c =
    frees_all c.args.slot c.loop-next.next c.args.arena.now c.loop-next.arena c.loop-next.invariant.frees
    c.loop-next-test.false
