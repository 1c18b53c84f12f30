use Rattle.std.proofs.Common.{◌∙◌, [], refl, sym}
use Rattle.std.proofs.lemmas.List.{append-nil}
use Rattle.pl_record.proofs.ChainMaps.{has_place, loose_everywhere}
use Rattle.pl_record.proofs.ReferencePut.{items_there, page_kind, puts_reference}
use Rattle.pl_record.proofs.RowKinds.{link_there}
use Rattle.pl_record.proofs.TargetPut.{is_named}
use Rattle.pl_record.proofs.item_slots.taking.put_reference.Goals as goal
use Rattle.pl_rail.specs.declared.owner.Owner.TheVariants.{At}
use Rattle.pl_slot.specs.declared.kind.SlotKind.TheVariants as kinds
use Rattle.pl_slot.specs.declared.links.Link.TheVariants.{Last}
use Rattle.pl_slot.specs.declared.links.Rail.TheVariants.{References}

pub last-after-requires : goal.last-after-requires
last-after-requires g c =
    record {
      owner =
          link_there References Last c.in-Some.page.0 kinds.Place 40 c.args.arena.now
          (page_kind c.args.item.page c.in-Some.page c.args.arena.now (sym c.named.ensures ∙ c.in-Some.is)
          c.requires.page) refl;
    }

pub insert_after-requires-clause-place : goal.insert_after-requires-clause-place
insert_after-requires-clause-place g c =
    let chains = c.requires.chained in
    let is =
    page_kind c.args.item.page c.in-Some.page c.args.arena.now (sym c.named.ensures ∙ c.in-Some.is) c.requires.page in
    let there = items_there c.in-Some.page c.args.arena.now is in
    let items = chains.0 References (At c.in-Some.page) in
    has_place chains.0 c.args.arena.now chains.1 References (At c.in-Some.page) items [] c.last-after.result there
    (sym (append-nil items))
    (sym (c.last-after.ensures.last items (chains.1.lists References (At c.in-Some.page) there)))

pub insert_after-requires-clause-free : goal.insert_after-requires-clause-free
insert_after-requires-clause-free g c =
    let chains = c.requires.chained in
    loose_everywhere chains.0 c.args.arena.now chains.1 References c.args.slot chains.3

pub returns : goal.returns
returns g c =
    let chains = c.requires.chained in
    let named_is = sym c.named.ensures ∙ c.in-Some.is in
    record {
      put =
          puts_reference c.args.item c.in-Some.page c.args.slot c.last-after.result c.args.arena.now
          c.insert_after.new.arena (is_named c.args.item.page c.in-Some.page named_is)
          (page_kind c.args.item.page c.in-Some.page c.args.arena.now named_is c.requires.page)
          (record {
            list = c.insert_after.ensures.list;
            owners = c.insert_after.ensures.owners;
            others = c.insert_after.ensures.others;
            rest = c.insert_after.ensures.rest;
            beside = c.insert_after.ensures.beside;
            pages = c.insert_after.ensures.pages;
          }) c.last-after.ensures.last chains.0 chains.1;
    }
