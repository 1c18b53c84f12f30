use Rattle.std.proofs.Common.{◌∙◌, refl, sym}
use Rattle.std.specs.Map.Iter.{deref_pair}
use Rattle.std.proofs.lemmas.Cmp.{nat_cmp_total}
use Rattle.std.proofs.lemmas.Map.Iter.{btree_map_turn}
use Rattle.pl_byid.proofs.Told.{set_right, still_right}
use Rattle.pl_byid.proofs.index.run_of.Goals as goal
use Rattle.pl_record.proofs.SlotsById.{looked_up}

pub loop-id-preserved : goal.loop-id-preserved
loop-id-preserved c =
    let map = c.args.map.now in
    let id = c.in-Some.id.now in
    let slot = c.in-Some.slot.now in
    let turn =
    btree_map_turn deref_pair c.loop-id.yielded c.into_iter-id-iterator.result c.loop-id.id-iterator c.next.new.self
    c.next.result (c.in-Some.id, c.in-Some.slot) c.loop-id.yielded_by c.in-Some.is c.next.ensures.steps nat_cmp_total map
    (c.into_iter-id-iterator.ensures.into_iter_gives ∙ c.iter-id-items.ensures.rest) c.iter-id-items.ensures.ordered in
    set_right map.entries map.entries c.reach.new.self c.set.new.self id (λ other apart. refl)
    (still_right map.entries c.loop-id.run c.reach.new.self c.reach.ensures.known c.loop-id.invariant) slot
    (sym (looked_up map.entries id) ∙ turn.1) c.set.ensures
