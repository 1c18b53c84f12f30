use Rattle.std.proofs.Common.{◌∙◌, IsSome, subst, sym}
use Rattle.std.specs.List.{All}
use Rattle.pl_load.proofs.RowLinks.{all_owned, owned_all, some_owned}
use Rattle.pl_record.specs.Chains.{IsAlone}
use Rattle.pl_slot.specs.declared.links.Link.TheVariants.{Next}
use Rattle.pl_slot.specs.Links.{link_at}
use Rattle.pl_load.proofs.lone_slots.are_lone.Goals as goal

pub are_alone-requires : goal.are_alone-requires
are_alone-requires g c =
    subst (All (λ s. IsSome (link_at c.args.rail Next s.0 c.args.arena.now)))
    (sym (c.deref.ensures.value ∙ c.in_ok-slots.ensures))
    (some_owned (λ s. IsSome (link_at c.args.rail Next s.0 c.args.arena.now)) c.args.members.now c.requires)

pub returns-clause-yes : goal.returns-clause-yes
returns-clause-yes g c is =
    owned_all (λ s. IsAlone c.args.rail s c.args.arena.now) c.args.members.now
    (subst (All (λ s. IsAlone c.args.rail s c.args.arena.now)) (c.deref.ensures.value ∙ c.in_ok-slots.ensures)
    (c.are_alone.ensures.yes is))

pub returns-clause-no : goal.returns-clause-no
returns-clause-no g c is all =
    c.are_alone.ensures.no is
    (subst (All (λ s. IsAlone c.args.rail s c.args.arena.now)) (sym (c.deref.ensures.value ∙ c.in_ok-slots.ensures))
    (all_owned (λ s. IsAlone c.args.rail s c.args.arena.now) c.args.members.now all))
