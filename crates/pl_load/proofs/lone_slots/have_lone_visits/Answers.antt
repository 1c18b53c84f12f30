use Rattle.std.proofs.Common.{◌≡◌, ◌∙◌, IsSome, Some, refl, subst, sym}
use Rattle.std.proofs.lemmas.List.Elements.{All-map, recursion_from_All}
use Rattle.std.proofs.lemmas.Result.{IfOk-weaker}
use Rattle.std.specs.List.{All, zip}
use Rattle.pl_base.proofs.ListLaws.{All-from_map}
use Rattle.pl_load.specs.Members.{VisitIn, source_member}
use Rattle.pl_load.proofs.RowLinks.{made_linked}
use Rattle.pl_owned.specs.declared.owned.Member.{Member}
use Rattle.pl_record.specs.Chains.{IsAlone}
use Rattle.pl_slot.specs.declared.kind.SlotKind.TheVariants as kinds
use Rattle.pl_slot.specs.declared.links.Link.TheVariants.{Next}
use Rattle.pl_slot.specs.declared.links.Rail.TheVariants.{Targets}
use Rattle.pl_slot.specs.Links.{kind_at, link_at}
use Rattle.pl_load.proofs.lone_slots.have_lone_visits.Goals as goal

pub are_lone-requires : goal.are_lone-requires
are_lone-requires g c =
    subst (All (λ m. IsSome (link_at Targets Next m.slot.0 c.args.arena.now)))
    (sym (c.deref.ensures.value ∙ c.in_ok-members.ensures))
    (made_linked c.args.arena.now Targets Next kinds.Visit 36 refl (λ (r : VisitIn). r.1.source) c.args.slots.now
    c.args.visits.now
    (recursion_from_All (λ s. kind_at s.0 c.args.arena.now ≡ Some kinds.Visit) c.args.slots.now c.requires.kinds))

pub returns-clause-yes : goal.returns-clause-yes
returns-clause-yes g c =
    IfOk-weaker c.are_lone.result _ _
    (λ yes told is.
    All-from_map (λ (m : Member). m.owner.0 ≡ 0 → IsAlone Targets m.slot c.args.arena.now) source_member
    (zip c.args.slots.now c.args.visits.now)
    (subst (All (λ m. m.owner.0 ≡ 0 → IsAlone Targets m.slot c.args.arena.now))
    (c.deref.ensures.value ∙ c.in_ok-members.ensures) (told is)))
    c.are_lone.ensures.yes

pub returns-clause-no : goal.returns-clause-no
returns-clause-no g c =
    IfOk-weaker c.are_lone.result _ _
    (λ yes told is all.
    told is
    (subst (All (λ m. m.owner.0 ≡ 0 → IsAlone Targets m.slot c.args.arena.now))
    (sym (c.deref.ensures.value ∙ c.in_ok-members.ensures))
    (All-map (λ (m : Member). m.owner.0 ≡ 0 → IsAlone Targets m.slot c.args.arena.now) source_member
    (zip c.args.slots.now c.args.visits.now) all)))
    c.are_lone.ensures.no
