use Rattle.std.proofs.Common.{◌∙◌, sym}
use Rattle.pl_record.proofs.VisitPlace.{behind_here, place_behind_all, place_here, place_nears, place_on, place_starts}
use Rattle.pl_record.proofs.VisitPlace.{next_names, not_after, page_names, then_after, visit_here}
use Rattle.pl_record.proofs.visit_slots.taking.last_later.Goals as goal
use Rattle.pl_rail.specs.declared.owner.Owner.TheVariants.{At}

pub first-behind-requires : goal.first-behind-requires
first-behind-requires g c =
    let h = c.requires.listed in
    record { owner = page_names c.args.page h.0 c.args.arena.now h.1 }

pub loop-behind-init : goal.loop-behind-init
loop-behind-init g c visits lists =
    place_starts c.args.page visits c.args.arena.now lists c.args.date c.first-behind.result
    (c.first-behind.ensures.first visits lists)

pub read_visit-requires : goal.read_visit-requires
read_visit-requires g c =
    let h = c.requires.listed in
    record {
      visit =
          visit_here c.args.page h.0 c.args.arena.now h.1 c.args.date c.loop-behind.after c.loop-behind.behind
          c.in-Some.slot (c.loop-behind.invariant h.0 h.1) c.in-Some.is;
    }

pub next-behind-requires : goal.next-behind-requires
next-behind-requires g c =
    let h = c.requires.listed in
    record {
      member =
          next_names c.args.page h.0 c.args.arena.now h.1 c.args.date c.loop-behind.after c.loop-behind.behind
          c.in-Some.slot (c.loop-behind.invariant h.0 h.1) c.in-Some.is;
    }

pub loop-behind-smaller : goal.loop-behind-smaller
loop-behind-smaller g c =
    let h = c.requires.listed in
    let walk = c.loop-behind.invariant h.0 h.1 in
    place_nears c.args.page h.0 c.args.arena.now h.1 c.args.date c.loop-behind.after c.loop-behind.behind
    c.in-Some.slot walk c.in-Some.is c.next-behind.result
    (behind_here c.args.page h.0 c.args.arena.now h.1 c.args.date c.loop-behind.after c.loop-behind.behind
    c.in-Some.slot walk c.in-Some.is c.next-behind.result (c.next-behind.ensures.next (At c.args.page)))

pub loop-behind-preserved : goal.loop-behind-preserved
loop-behind-preserved g c visits lists =
    let walk = c.loop-behind.invariant visits lists in
    place_on c.args.page visits c.args.arena.now lists c.args.date c.loop-behind.after c.loop-behind.behind
    c.in-Some.slot walk c.in-Some.is c.read_visit.result c.read_visit.ensures.row c.next-behind.result
    (behind_here c.args.page visits c.args.arena.now lists c.args.date c.loop-behind.after c.loop-behind.behind
    c.in-Some.slot walk c.in-Some.is c.next-behind.result (c.next-behind.ensures.next (At c.args.page)))
    (then_after c.args.date c.read_visit.result.date (sym c.le.ensures ∙ c.if-le.false))

pub returns-then-le : goal.returns-then-le
returns-then-le g c =
    record {
      place = λ visits lists.
          place_here c.args.page visits c.args.arena.now lists c.args.date c.loop-behind.after c.loop-behind.behind
          c.in-Some.slot (c.loop-behind.invariant visits lists) c.in-Some.is c.read_visit.result
          c.read_visit.ensures.row (not_after c.args.date c.read_visit.result.date (sym c.le.ensures ∙ c.if-le.true));
    }

pub returns-in_default : goal.returns-in_default
returns-in_default g c =
    record {
      place = λ visits lists.
          place_behind_all c.args.page visits c.args.arena.now lists c.args.date c.loop-behind.after
          c.loop-behind.behind (c.loop-behind.invariant visits lists) (λ id some. c.in_default.not-Some id some);
    }
