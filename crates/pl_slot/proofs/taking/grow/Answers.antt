use Rattle.std.proofs.Common.{◌≡◌, ◌∙◌, ◌+◌, ◌-◌, ◌*◌, ◌≤◌, ap, arith, refl}
use Rattle.pl_base.specs.Live.{slot_limit}
use Rattle.pl_sheets.specs.Sheets.{page_count}
use Rattle.pl_slot.specs.Arena.{slot_count}
use Rattle.pl_slot.proofs.Grown.{GrownPages, blank_count, grown_pages}
use Rattle.pl_slot.proofs.GrownArena.{grown_arena, grown_few, grown_makes}
use Rattle.pl_slot.proofs.SlotPlaces.{count_put}
use Rattle.pl_slot.proofs.taking.grow.Goals as goal
use Rattle.pl_slot.proofs.taking.grow.Goals.{After-put_four-2}

made : (c : After-put_four-2)
    → GrownPages (8 * (c.pages-pages.result - 3) + 1) c.args.sheets.now c.put_four-2.new.sheets
made c =
    let few : slot_count c.grow.new.self ≤ slot_limit =
    grown_few c.args.sheets.now c.grow.new.self c.requires.arena c.requires.full c.requires.few
    c.in_ok-grow.ensures.ok in
    grown_pages (8 * (c.pages-pages.result - 3) + 1) c.pages-pages.result c.args.sheets.now c.grow.new.self
    c.link.new.sheets c.put_four.new.sheets c.put_four-2.new.sheets c.requires.arena.whole
    c.requires.arena.some_page c.in_ok-grow.ensures.ok c.pages-pages.ensures.kept c.pages-pages.ensures.count
    (omega (arith, few, c.pages-pages.ensures.count)) (omega (arith, few, c.pages-pages.ensures.count)) refl
    c.link.ensures c.put_four.ensures c.put_four-2.ensures

pub link-requires : goal.link-requires
link-requires c =
    let more : page_count c.grow.new.self ≡ page_count c.args.sheets.now + 1 =
    ap page_count c.in_ok-grow.ensures.ok ∙ blank_count c.args.sheets.now in
    record {
      arena = record {
        whole = c.pages-pages.ensures.kept;
        some_slot = omega (arith, more, c.requires.arena.some_page);
        few =
            grown_few c.args.sheets.now c.grow.new.self c.requires.arena c.requires.full c.requires.few
            c.in_ok-grow.ensures.ok;
        starts = ap (λ n. 8 * (n - 3) + 1) c.pages-pages.ensures.count;
      };
    }

pub put_four-requires-2-clause-there : goal.put_four-requires-2-clause-there
put_four-requires-2-clause-there c =
    let more : page_count c.grow.new.self ≡ page_count c.args.sheets.now + 1 =
    ap page_count c.in_ok-grow.ensures.ok ∙ blank_count c.args.sheets.now in
    rw (c.put_four.ensures, count_put) (omega (arith, c.link.ensures.as_many, more, c.requires.arena.some_page))

pub returns-clause-arena : goal.returns-clause-arena
returns-clause-arena c =
    grown_arena (8 * (c.pages-pages.result - 3) + 1) c.args.sheets.now c.put_four-2.new.sheets c.requires.arena
    c.requires.full c.requires.few (made c)

pub returns-clause-ok : goal.returns-clause-ok
returns-clause-ok c =
    grown_makes (8 * (c.pages-pages.result - 3) + 1) c.args.sheets.now c.put_four-2.new.sheets c.requires.arena
    c.requires.full (made c)
