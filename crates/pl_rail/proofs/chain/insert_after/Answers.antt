use Rattle.std.proofs.Common.{◌≡◌, ◌∙◌, ◌++◌, ap, is_some, Some, subst, sym}
use Rattle.pl_rail.specs.declared.owner.Side.TheVariants.{Before, Behind}
use Rattle.pl_rail.specs.Rails.{KeepsBeside, KeepsOwners, neighbour, or_none}
use Rattle.pl_rail.proofs.CallLaws.{insert_next, insert_read, member_there}
use Rattle.pl_rail.proofs.ChainLaws.{Inserts, inserted, inserted_beside, inserted_owners, inserted_pages, inserted_rest}
use Rattle.pl_rail.proofs.ListLaws.{one_list, rails_kept}
use Rattle.pl_rail.proofs.chain.insert_after.Goals as goal
use Rattle.pl_rail.proofs.chain.insert_after.Given.{Over}
use Rattle.pl_rail.proofs.chain.insert_after.Goals.{After-join-2}

made : (g : Over) (c : After-join-2 g)
    → Inserts c.args.rail c.args.owner (or_none c.args.after) c.args.slot c.neighbour-behind.result c.args.arena.now
    c.join-2.new.arena
made g c =
    subst
    (λ k. Inserts c.args.rail c.args.owner k c.args.slot c.neighbour-behind.result c.args.arena.now c.join-2.new.arena)
    c.number-before.ensures
    (record { middle = c.join.new.arena; first = c.join.ensures; second = c.join-2.ensures })

read : (g : Over) (c : After-join-2 g)
    → neighbour Behind c.args.rail c.args.owner c.args.arena.now (or_none c.args.after) ≡ Some c.neighbour-behind.result
read g c =
    ap (neighbour Behind c.args.rail c.args.owner c.args.arena.now) (sym c.number-before.ensures)
    ∙ c.neighbour-behind.ensures.named

pub neighbour-behind-requires : goal.neighbour-behind-requires
neighbour-behind-requires g c =
    record {
      there =
          insert_read c.args.rail c.args.owner c.args.after c.number-before.result c.args.arena.now c.requires.place
          c.number-before.ensures;
    }

pub join-requires-clause-forth : goal.join-requires-clause-forth
join-requires-clause-forth g c = ap is_some c.neighbour-behind.ensures.named

pub join-requires-clause-back : goal.join-requires-clause-back
join-requires-clause-back g c =
    member_there c.args.rail c.args.owner Before c.args.slot c.args.arena.now c.requires.member

pub join-requires-2-clause-forth : goal.join-requires-2-clause-forth
join-requires-2-clause-forth g c =
    (insert_next c.args.rail c.args.owner c.args.after c.number-before.result c.args.slot c.neighbour-behind.result
    c.args.arena.now c.join.new.arena c.requires.place c.number-before.ensures c.neighbour-behind.ensures.named
    c.requires.member c.requires.free c.join.ensures).0

pub join-requires-2-clause-back : goal.join-requires-2-clause-back
join-requires-2-clause-back g c =
    (insert_next c.args.rail c.args.owner c.args.after c.number-before.result c.args.slot c.neighbour-behind.result
    c.args.arena.now c.join.new.arena c.requires.place c.number-before.ensures c.neighbour-behind.ensures.named
    c.requires.member c.requires.free c.join.ensures).1

pub returns-clause-list : goal.returns-clause-list
returns-clause-list g c front back lists last =
    inserted c.args.rail c.args.owner c.args.after c.args.slot c.neighbour-behind.result front back c.args.arena.now
    c.join-2.new.arena (made g c) (read g c) c.requires.member (c.requires.free c.args.owner (front ++ back) lists) lists last

pub returns-clause-owners : goal.returns-clause-owners
returns-clause-owners g c slots lists =
    let has = c.requires.place in
    subst (λ k. KeepsOwners c.args.rail c.args.owner k c.args.arena.now c.join-2.new.arena)
    (one_list c.args.rail c.args.owner (has.front ++ has.back) slots c.args.arena.now has.lists lists)
    (inserted_owners c.args.rail c.args.owner c.args.after c.args.slot c.neighbour-behind.result has.front has.back
    c.args.arena.now c.join-2.new.arena (made g c) (read g c) c.requires.free has.lists has.last)

pub returns-clause-others : goal.returns-clause-others
returns-clause-others g c =
    rails_kept c.args.rail c.args.owner c.args.arena.now c.join-2.new.arena
    (inserted_rest c.args.rail c.args.owner (or_none c.args.after) c.args.slot c.neighbour-behind.result c.args.arena.now
    c.join-2.new.arena (made g c))

pub returns-clause-rest : goal.returns-clause-rest
returns-clause-rest g c =
    inserted_rest c.args.rail c.args.owner (or_none c.args.after) c.args.slot c.neighbour-behind.result c.args.arena.now
    c.join-2.new.arena (made g c)

pub returns-clause-beside : goal.returns-clause-beside
returns-clause-beside g c slots lists =
    let has = c.requires.place in
    subst (λ k. KeepsBeside c.args.rail c.args.slot k c.args.arena.now c.join-2.new.arena)
    (one_list c.args.rail c.args.owner (has.front ++ has.back) slots c.args.arena.now has.lists lists)
    (inserted_beside c.args.rail c.args.owner c.args.after c.args.slot c.neighbour-behind.result has.front has.back
    c.args.arena.now c.join-2.new.arena (made g c) (read g c) has.lists has.last)

pub returns-clause-pages : goal.returns-clause-pages
returns-clause-pages g c front back lists last =
    inserted_pages c.args.rail c.args.owner c.args.after c.args.slot c.neighbour-behind.result front back
    c.args.arena.now c.join-2.new.arena (made g c) (read g c) lists last
