use Rattle.std.proofs.Common.{◌∙◌, sym}
use Rattle.pl_record.proofs.ChainMaps.{has_place, loose_everywhere}
use Rattle.pl_record.proofs.TargetPut.{is_named, puts_target, source_kind, targets_there}
use Rattle.pl_record.proofs.visit_slots.taking.put_target.Goals as goal
use Rattle.pl_rail.specs.declared.owner.Owner.TheVariants.{At}
use Rattle.pl_slot.specs.declared.links.Rail.TheVariants.{Targets}

pub insert_after-requires-clause-place : goal.insert_after-requires-clause-place
insert_after-requires-clause-place g c =
    let chains = c.requires.chained in
    let is =
    source_kind c.args.visit.source c.in-Some.source c.args.arena.now (sym c.named.ensures ∙ c.in-Some.is)
    c.requires.source in
    let there = targets_there c.in-Some.source c.args.arena.now is in
    let place =
    c.last_before-after.ensures.place (chains.0 Targets (At c.in-Some.source))
    (chains.1.lists Targets (At c.in-Some.source) there) in
    has_place chains.0 c.args.arena.now chains.1 Targets (At c.in-Some.source) place.front place.back
    c.last_before-after.result there place.is place.last

pub insert_after-requires-clause-free : goal.insert_after-requires-clause-free
insert_after-requires-clause-free g c =
    let chains = c.requires.chained in
    loose_everywhere chains.0 c.args.arena.now chains.1 Targets c.args.slot chains.3

pub returns : goal.returns
returns g c =
    let chains = c.requires.chained in
    let named_is = sym c.named.ensures ∙ c.in-Some.is in
    record {
      put =
          puts_target c.args.visit c.in-Some.source c.args.slot c.last_before-after.result c.args.arena.now
          c.insert_after.new.arena (is_named c.args.visit.source c.in-Some.source named_is)
          (source_kind c.args.visit.source c.in-Some.source c.args.arena.now named_is c.requires.source)
          (record {
            list = c.insert_after.ensures.list;
            owners = c.insert_after.ensures.owners;
            others = c.insert_after.ensures.others;
            rest = c.insert_after.ensures.rest;
            beside = c.insert_after.ensures.beside;
            pages = c.insert_after.ensures.pages;
          }) c.last_before-after.ensures.place chains.0 chains.1;
    }
