use Rattle.std.proofs.Common.{◌≡◌, ◌∙◌, Some, ap, length, subst, sym}
use Rattle.std.proofs.lemmas.List.Elements.{All-from_recursion}
use Rattle.std.proofs.lemmas.Result.{IfOk-weaker}
use Rattle.std.specs.List.{All, zip}
use Rattle.pl_load.specs.Members.{ItemIn, VisitIn}
use Rattle.pl_load.specs.Reads.{Reads}
use Rattle.pl_load.proofs.RowLinks.{items_are, visits_are}
use Rattle.pl_record.specs.Chains.{IsAlone}
use Rattle.pl_slot.specs.declared.kind.SlotKind.TheVariants as kinds
use Rattle.pl_slot.specs.declared.links.Rail.TheVariants.{Children, References, Targets}
use Rattle.pl_slot.specs.Links.{kind_at}
use Rattle.pl_load.proofs.lone_slots.have_lone_slots.Goals as goal

pub have_lone_visits-requires : goal.have_lone_visits-requires
have_lone_visits-requires g c =
    let slots : c.deref.result.now ≡ c.args.rows.now.visit_slots =
    c.deref.ensures.value ∙ ap (λ (r : Reads). r.visit_slots) c.rows.view_is in
    let visits : c.deref-2.result.now ≡ c.args.rows.now.visits =
    c.deref-2.ensures.value ∙ ap (λ (r : Reads). r.visits) c.rows.view_is in
    record {
      kinds =
          subst (All (λ s. kind_at s.0 c.args.arena.now ≡ Some kinds.Visit)) (sym slots)
          (All-from_recursion (λ s. kind_at s.0 c.args.arena.now ≡ Some kinds.Visit) c.args.rows.now.visit_slots
          (visits_are c.args.arena.now c.args.rows.now.visit_slots c.requires.listed.visits));
      as_many = ap length slots ∙ c.requires.as_many.visits ∙ sym (ap length visits);
    }

pub have_lone_roots-requires : goal.have_lone_roots-requires
have_lone_roots-requires g c =
    let slots : c.deref-3.result.now ≡ c.args.rows.now.item_slots =
    c.deref-3.ensures.value ∙ ap (λ (r : Reads). r.item_slots) c.rows.view_is in
    let items : c.deref-4.result.now ≡ c.args.rows.now.items =
    c.deref-4.ensures.value ∙ ap (λ (r : Reads). r.items) c.rows.view_is in
    record {
      kinds =
          subst (All (λ s. kind_at s.0 c.args.arena.now ≡ Some kinds.Item)) (sym slots)
          (All-from_recursion (λ s. kind_at s.0 c.args.arena.now ≡ Some kinds.Item) c.args.rows.now.item_slots
          (items_are c.args.arena.now c.args.rows.now.item_slots c.requires.listed.items));
      as_many = ap length slots ∙ c.requires.as_many.items ∙ sym (ap length items);
    }

pub have_lone_items-requires : goal.have_lone_items-requires
have_lone_items-requires g c =
    let slots : c.deref-5.result.now ≡ c.args.rows.now.item_slots =
    c.deref-5.ensures.value ∙ ap (λ (r : Reads). r.item_slots) c.rows.view_is in
    let items : c.deref-6.result.now ≡ c.args.rows.now.items =
    c.deref-6.ensures.value ∙ ap (λ (r : Reads). r.items) c.rows.view_is in
    record {
      kinds =
          subst (All (λ s. kind_at s.0 c.args.arena.now ≡ Some kinds.Item)) (sym slots)
          (All-from_recursion (λ s. kind_at s.0 c.args.arena.now ≡ Some kinds.Item) c.args.rows.now.item_slots
          (items_are c.args.arena.now c.args.rows.now.item_slots c.requires.listed.items));
      as_many = ap length slots ∙ c.requires.as_many.items ∙ sym (ap length items);
    }

pub returns-then-not-visits-clause-no : goal.returns-then-not-visits-clause-no
returns-then-not-visits-clause-no g c is lone =
    let slots : c.args.rows.now.visit_slots ≡ c.deref.result.now =
    sym (c.deref.ensures.value ∙ ap (λ (r : Reads). r.visit_slots) c.rows.view_is) in
    let visits : c.args.rows.now.visits ≡ c.deref-2.result.now =
    sym (c.deref-2.ensures.value ∙ ap (λ (r : Reads). r.visits) c.rows.view_is) in
    c.in_ok-visits.ensures.no c.if-not-visits.true
    (subst (All (λ (v : VisitIn). v.1.source.0 ≡ 0 → IsAlone Targets v.0 c.args.arena.now))
    (λ i. zip (slots i) (visits i)) lone.visits)

pub returns-then-not-roots-clause-no : goal.returns-then-not-roots-clause-no
returns-then-not-roots-clause-no g c is lone =
    let slots : c.args.rows.now.item_slots ≡ c.deref-3.result.now =
    sym (c.deref-3.ensures.value ∙ ap (λ (r : Reads). r.item_slots) c.rows.view_is) in
    let items : c.args.rows.now.items ≡ c.deref-4.result.now =
    sym (c.deref-4.ensures.value ∙ ap (λ (r : Reads). r.items) c.rows.view_is) in
    c.in_ok-roots.ensures.no c.if-not-roots.true
    (subst (All (λ (i : ItemIn). i.1.parent.0 ≡ 0 → IsAlone Children i.0 c.args.arena.now))
    (λ i. zip (slots i) (items i)) lone.roots)

pub returns-clause-yes : goal.returns-clause-yes
returns-clause-yes g c =
    let visit_slots : c.deref.result.now ≡ c.args.rows.now.visit_slots =
    c.deref.ensures.value ∙ ap (λ (r : Reads). r.visit_slots) c.rows.view_is in
    let visits : c.deref-2.result.now ≡ c.args.rows.now.visits =
    c.deref-2.ensures.value ∙ ap (λ (r : Reads). r.visits) c.rows.view_is in
    let slots : c.deref-3.result.now ≡ c.args.rows.now.item_slots =
    c.deref-3.ensures.value ∙ ap (λ (r : Reads). r.item_slots) c.rows.view_is in
    let items : c.deref-4.result.now ≡ c.args.rows.now.items =
    c.deref-4.ensures.value ∙ ap (λ (r : Reads). r.items) c.rows.view_is in
    let last_slots : c.deref-5.result.now ≡ c.args.rows.now.item_slots =
    c.deref-5.ensures.value ∙ ap (λ (r : Reads). r.item_slots) c.rows.view_is in
    let last_items : c.deref-6.result.now ≡ c.args.rows.now.items =
    c.deref-6.ensures.value ∙ ap (λ (r : Reads). r.items) c.rows.view_is in
    IfOk-weaker c.have_lone_items.result _ _
    (λ yes told is. record {
      visits =
          subst (All (λ (v : VisitIn). v.1.source.0 ≡ 0 → IsAlone Targets v.0 c.args.arena.now))
          (λ i. zip (visit_slots i) (visits i)) (c.in_ok-visits.ensures.yes c.if-not-visits.false);
      roots =
          subst (All (λ (i : ItemIn). i.1.parent.0 ≡ 0 → IsAlone Children i.0 c.args.arena.now))
          (λ i. zip (slots i) (items i)) (c.in_ok-roots.ensures.yes c.if-not-roots.false);
      others =
          subst (All (λ (i : ItemIn). i.1.page.0 ≡ 0 → IsAlone References i.0 c.args.arena.now))
          (λ i. zip (last_slots i) (last_items i)) (told is);
    })
    c.have_lone_items.ensures.yes

pub returns-clause-no : goal.returns-clause-no
returns-clause-no g c =
    let slots : c.args.rows.now.item_slots ≡ c.deref-5.result.now =
    sym (c.deref-5.ensures.value ∙ ap (λ (r : Reads). r.item_slots) c.rows.view_is) in
    let items : c.args.rows.now.items ≡ c.deref-6.result.now =
    sym (c.deref-6.ensures.value ∙ ap (λ (r : Reads). r.items) c.rows.view_is) in
    IfOk-weaker c.have_lone_items.result _ _
    (λ yes told is lone.
    told is
    (subst (All (λ (i : ItemIn). i.1.page.0 ≡ 0 → IsAlone References i.0 c.args.arena.now))
    (λ i. zip (slots i) (items i)) lone.others))
    c.have_lone_items.ensures.no
