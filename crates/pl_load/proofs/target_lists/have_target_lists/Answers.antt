use Rattle.std.proofs.Common.{◌≡◌, ◌∙◌, ◌≤◌, Some, ap, length, subst, sym}
use Rattle.std.proofs.lemmas.List.Elements.{All-from_recursion}
use Rattle.std.specs.List.{All}
use Rattle.pl_base.specs.declared.id.Slot.{Slot}
use Rattle.pl_load.specs.Reads.{Reads}
use Rattle.pl_load.proofs.RowLinks.{visits_are}
use Rattle.pl_record.specs.declared.rows.Visit.{Visit}
use Rattle.pl_slot.specs.declared.kind.SlotKind.TheVariants as kinds
use Rattle.pl_slot.specs.Arena.{slot_count}
use Rattle.pl_slot.specs.Links.{kind_at}
use Rattle.pl_load.proofs.target_lists.have_target_lists.Goals as goal

pub have_targets_in-requires : goal.have_targets_in-requires
have_targets_in-requires g c =
    let slots : c.deref.result.now ≡ c.args.rows.now.visit_slots =
    c.deref.ensures.value ∙ ap (λ (r : Reads). r.visit_slots) c.rows.view_is in
    let visits : c.deref-2.result.now ≡ c.args.rows.now.visits =
    c.deref-2.ensures.value ∙ ap (λ (r : Reads). r.visits) c.rows.view_is in
    record {
      kinds =
          subst (All (λ (s : Slot). kind_at s.0 c.args.arena.now ≡ Some kinds.Visit)) (sym slots)
          (All-from_recursion (λ (s : Slot). kind_at s.0 c.args.arena.now ≡ Some kinds.Visit)
          c.args.rows.now.visit_slots
          (visits_are c.args.arena.now c.args.rows.now.visit_slots c.requires.listed.visits));
      as_many = ap length slots ∙ c.requires.as_many.visits ∙ sym (ap length visits);
      below =
          subst (All (λ (v : Visit). v.source.0 ≤ slot_count c.args.arena.now)) (sym visits)
          c.requires.below;
    }

pub returns-clause-yes : goal.returns-clause-yes
returns-clause-yes g c =
    let slots : c.deref.result.now ≡ c.args.rows.now.visit_slots =
    c.deref.ensures.value ∙ ap (λ (r : Reads). r.visit_slots) c.rows.view_is in
    let visits : c.deref-2.result.now ≡ c.args.rows.now.visits =
    c.deref-2.ensures.value ∙ ap (λ (r : Reads). r.visits) c.rows.view_is in
    rw slots at (rw visits at c.have_targets_in.ensures.yes)

pub returns-clause-no : goal.returns-clause-no
returns-clause-no g c =
    let slots : c.deref.result.now ≡ c.args.rows.now.visit_slots =
    c.deref.ensures.value ∙ ap (λ (r : Reads). r.visit_slots) c.rows.view_is in
    let visits : c.deref-2.result.now ≡ c.args.rows.now.visits =
    c.deref-2.ensures.value ∙ ap (λ (r : Reads). r.visits) c.rows.view_is in
    rw slots at (rw visits at c.have_targets_in.ensures.no)
