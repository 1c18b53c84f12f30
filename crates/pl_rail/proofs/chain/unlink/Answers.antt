use Rattle.std.proofs.Common.{◌∙◌, ◌++◌, ◌∷◌, ap, is_some, subst}
use Rattle.pl_rail.specs.declared.owner.Side.TheVariants.{Before, Behind}
use Rattle.pl_rail.specs.Rails.{KeepsBeside, KeepsOwners}
use Rattle.pl_rail.proofs.CallLaws.{MayGo, cleared, may_go, member_read, still_there, unlink_next}
use Rattle.pl_rail.proofs.ChainLaws.{Unlinks, unlinked, unlinked_beside, unlinked_owners, unlinked_pages, unlinked_rest}
use Rattle.pl_rail.proofs.ListLaws.{one_list, rails_kept}
use Rattle.pl_rail.proofs.SideLaws.{other_side}
use Rattle.pl_rail.proofs.chain.unlink.Goals as goal
use Rattle.pl_rail.proofs.chain.unlink.Given.{Over}
use Rattle.pl_rail.proofs.chain.unlink.Goals.{After-set_neighbour-2}

made : (g : Over) (c : After-set_neighbour-2 g)
    → Unlinks c.args.rail c.args.owner c.args.slot c.neighbour-before.result c.neighbour-behind.result c.args.arena.now
    c.set_neighbour-2.new.arena
made g c =
    record {
      middle = c.join.new.arena;
      later = c.set_neighbour.new.arena;
      joins = c.join.ensures;
      first = c.set_neighbour.ensures;
      second = c.set_neighbour-2.ensures;
    }

may : (g : Over) (c : After-set_neighbour-2 g)
    → MayGo c.args.rail c.args.owner c.args.slot c.neighbour-before.result c.neighbour-behind.result c.args.arena.now
may g c =
    may_go c.args.rail c.args.owner c.args.slot c.neighbour-before.result c.neighbour-behind.result c.args.arena.now
    c.requires.member c.neighbour-before.ensures.named c.neighbour-behind.ensures.named

pub neighbour-before-requires : goal.neighbour-before-requires
neighbour-before-requires g c =
    record { there = (member_read c.args.rail c.args.owner c.args.slot c.args.arena.now c.requires.member).0 }

pub neighbour-behind-requires : goal.neighbour-behind-requires
neighbour-behind-requires g c =
    record { there = (member_read c.args.rail c.args.owner c.args.slot c.args.arena.now c.requires.member).1 }

pub join-requires-clause-forth : goal.join-requires-clause-forth
join-requires-clause-forth g c =
    ap is_some
    (may_go c.args.rail c.args.owner c.args.slot c.neighbour-before.result c.neighbour-behind.result c.args.arena.now
    c.requires.member c.neighbour-before.ensures.named c.neighbour-behind.ensures.named).forth

pub join-requires-clause-back : goal.join-requires-clause-back
join-requires-clause-back g c =
    ap is_some
    (may_go c.args.rail c.args.owner c.args.slot c.neighbour-before.result c.neighbour-behind.result c.args.arena.now
    c.requires.member c.neighbour-before.ensures.named c.neighbour-behind.ensures.named).back

pub set_neighbour-requires : goal.set_neighbour-requires
set_neighbour-requires g c =
    record {
      there =
          (unlink_next c.args.rail c.args.owner c.args.slot c.neighbour-before.result c.neighbour-behind.result
          c.args.arena.now c.join.new.arena c.requires.member c.neighbour-before.ensures.named
          c.neighbour-behind.ensures.named c.join.ensures).0;
    }

pub set_neighbour-requires-2 : goal.set_neighbour-requires-2
set_neighbour-requires-2 g c =
    record {
      there =
          still_there c.args.rail c.args.owner c.args.slot c.join.new.arena c.set_neighbour.new.arena
          c.set_neighbour.ensures
          (unlink_next c.args.rail c.args.owner c.args.slot c.neighbour-before.result c.neighbour-behind.result
          c.args.arena.now c.join.new.arena c.requires.member c.neighbour-before.ensures.named
          c.neighbour-behind.ensures.named c.join.ensures).1;
    }

pub returns-clause-list : goal.returns-clause-list
returns-clause-list g c front back lists =
    unlinked c.args.rail c.args.owner c.args.slot c.neighbour-before.result c.neighbour-behind.result front back
    c.args.arena.now c.set_neighbour-2.new.arena (made g c) c.neighbour-before.ensures.named
    c.neighbour-behind.ensures.named lists

pub returns-clause-before : goal.returns-clause-before
returns-clause-before g c =
    cleared c.args.rail c.args.owner c.args.slot Before c.set_neighbour-2.new.arena (may g c).some
    (c.set_neighbour-2.ensures.opposite Before c.args.slot other_side ∙ c.set_neighbour.ensures.here)

pub returns-clause-behind : goal.returns-clause-behind
returns-clause-behind g c =
    cleared c.args.rail c.args.owner c.args.slot Behind c.set_neighbour-2.new.arena (may g c).some
    c.set_neighbour-2.ensures.here

pub returns-clause-owners : goal.returns-clause-owners
returns-clause-owners g c slots lists =
    let has = c.requires.member in
    subst (λ k. KeepsOwners c.args.rail c.args.owner k c.args.arena.now c.set_neighbour-2.new.arena)
    (one_list c.args.rail c.args.owner (has.front ++ c.args.slot ∷ has.back) slots c.args.arena.now has.lists lists)
    (unlinked_owners c.args.rail c.args.owner c.args.slot c.neighbour-before.result c.neighbour-behind.result has.front
    has.back c.args.arena.now c.set_neighbour-2.new.arena (made g c) c.neighbour-before.ensures.named
    c.neighbour-behind.ensures.named has.lists)

pub returns-clause-others : goal.returns-clause-others
returns-clause-others g c =
    rails_kept c.args.rail c.args.owner c.args.arena.now c.set_neighbour-2.new.arena
    (unlinked_rest c.args.rail c.args.owner c.args.slot c.neighbour-before.result c.neighbour-behind.result
    c.args.arena.now c.set_neighbour-2.new.arena (made g c))

pub returns-clause-rest : goal.returns-clause-rest
returns-clause-rest g c =
    unlinked_rest c.args.rail c.args.owner c.args.slot c.neighbour-before.result c.neighbour-behind.result
    c.args.arena.now c.set_neighbour-2.new.arena (made g c)

pub returns-clause-beside : goal.returns-clause-beside
returns-clause-beside g c slots lists =
    let has = c.requires.member in
    subst (λ k. KeepsBeside c.args.rail c.args.slot k c.args.arena.now c.set_neighbour-2.new.arena)
    (one_list c.args.rail c.args.owner (has.front ++ c.args.slot ∷ has.back) slots c.args.arena.now has.lists lists)
    (unlinked_beside c.args.rail c.args.owner c.args.slot c.neighbour-before.result c.neighbour-behind.result has.front
    has.back c.args.arena.now c.set_neighbour-2.new.arena (made g c) c.neighbour-before.ensures.named
    c.neighbour-behind.ensures.named has.lists)

pub returns-clause-pages : goal.returns-clause-pages
returns-clause-pages g c front back lists =
    unlinked_pages c.args.rail c.args.owner c.args.slot c.neighbour-before.result c.neighbour-behind.result front back
    c.args.arena.now c.set_neighbour-2.new.arena (made g c) c.neighbour-before.ensures.named
    c.neighbour-behind.ensures.named lists
