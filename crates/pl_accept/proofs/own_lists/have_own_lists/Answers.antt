use Rattle.std.proofs.Common.{◌≡◌, ◌≢◌, ◌∙◌, ◌≤◌, Some, ap, length, subst, sym}
use Rattle.std.proofs.lemmas.List.Elements.{All-from_recursion}
use Rattle.std.proofs.lemmas.Result.{IfOk-weaker}
use Rattle.std.specs.List.{All, AllPairs}
use Rattle.pl_accept.specs.OwnLists.{HasPageLists, HasVisitLists}
use Rattle.pl_base.specs.declared.id.Slot.{Slot}
use Rattle.pl_load.specs.Reads.{Reads}
use Rattle.pl_load.proofs.RowLinks.{origins_are, places_are}
use Rattle.pl_record.specs.declared.rows.Item.{Item}
use Rattle.pl_record.specs.declared.rows.Place.{Place}
use Rattle.pl_record.specs.declared.rows.Visit.{Visit}
use Rattle.pl_slot.specs.declared.kind.SlotKind.TheVariants as kinds
use Rattle.pl_slot.specs.Arena.{slot_count}
use Rattle.pl_slot.specs.Links.{kind_at}
use Rattle.pl_accept.proofs.own_lists.have_own_lists.Goals as goal

pub have_page_lists-requires : goal.have_page_lists-requires
have_page_lists-requires g c =
    let owners : c.deref.result.now ≡ c.args.rows.now.origins =
    c.deref.ensures.value ∙ ap (λ (r : Reads). r.origins) c.rows.view_is in
    let slots : c.deref-2.result.now ≡ c.args.rows.now.place_slots =
    c.deref-2.ensures.value ∙ ap (λ (r : Reads). r.place_slots) c.rows.view_is in
    let rows : c.deref-3.result.now ≡ c.args.rows.now.places =
    c.deref-3.ensures.value ∙ ap (λ (r : Reads). r.places) c.rows.view_is in
    record {
      kinds =
          subst (All (λ (s : Slot). kind_at s.0 c.args.arena.now ≡ Some kinds.Origin)) (sym owners)
          (All-from_recursion (λ (s : Slot). kind_at s.0 c.args.arena.now ≡ Some kinds.Origin)
          c.args.rows.now.origins
          (origins_are c.args.arena.now c.args.rows.now.origins c.requires.listed.origins));
      as_many = ap length slots ∙ c.requires.as_many.places ∙ sym (ap length rows);
      below =
          subst (All (λ (p : Place). p.origin.0 ≤ slot_count c.args.arena.now)) (sym rows)
          c.requires.below.origins;
    }

pub have_visit_lists-requires : goal.have_visit_lists-requires
have_visit_lists-requires g c =
    let owners : c.deref-4.result.now ≡ c.args.rows.now.place_slots =
    c.deref-4.ensures.value ∙ ap (λ (r : Reads). r.place_slots) c.rows.view_is in
    let slots : c.deref-5.result.now ≡ c.args.rows.now.visit_slots =
    c.deref-5.ensures.value ∙ ap (λ (r : Reads). r.visit_slots) c.rows.view_is in
    let rows : c.deref-6.result.now ≡ c.args.rows.now.visits =
    c.deref-6.ensures.value ∙ ap (λ (r : Reads). r.visits) c.rows.view_is in
    record {
      kinds =
          subst (All (λ (s : Slot). kind_at s.0 c.args.arena.now ≡ Some kinds.Place)) (sym owners)
          (All-from_recursion (λ (s : Slot). kind_at s.0 c.args.arena.now ≡ Some kinds.Place)
          c.args.rows.now.place_slots
          (places_are c.args.arena.now c.args.rows.now.place_slots c.requires.listed.places));
      as_many = ap length slots ∙ c.requires.as_many.visits ∙ sym (ap length rows);
      below =
          subst (All (λ (v : Visit). v.page.0 ≤ slot_count c.args.arena.now)) (sym rows)
          c.requires.below.visited;
      ids = subst (AllPairs (λ (v w : Visit). v.id.0 ≢ w.id.0)) (sym rows) c.requires.ids;
    }

pub have_reference_lists-requires : goal.have_reference_lists-requires
have_reference_lists-requires g c =
    let owners : c.deref-7.result.now ≡ c.args.rows.now.place_slots =
    c.deref-7.ensures.value ∙ ap (λ (r : Reads). r.place_slots) c.rows.view_is in
    let slots : c.deref-8.result.now ≡ c.args.rows.now.item_slots =
    c.deref-8.ensures.value ∙ ap (λ (r : Reads). r.item_slots) c.rows.view_is in
    let rows : c.deref-9.result.now ≡ c.args.rows.now.items =
    c.deref-9.ensures.value ∙ ap (λ (r : Reads). r.items) c.rows.view_is in
    record {
      kinds =
          subst (All (λ (s : Slot). kind_at s.0 c.args.arena.now ≡ Some kinds.Place)) (sym owners)
          (All-from_recursion (λ (s : Slot). kind_at s.0 c.args.arena.now ≡ Some kinds.Place)
          c.args.rows.now.place_slots
          (places_are c.args.arena.now c.args.rows.now.place_slots c.requires.listed.places));
      as_many = ap length slots ∙ c.requires.as_many.items ∙ sym (ap length rows);
      below =
          subst (All (λ (i : Item). i.page.0 ≤ slot_count c.args.arena.now)) (sym rows)
          c.requires.below.referenced;
    }

pub returns-then-not-pages-clause-no : goal.returns-then-not-pages-clause-no
returns-then-not-pages-clause-no g c is has =
    let origins : c.deref.result.now ≡ c.args.rows.now.origins =
    c.deref.ensures.value ∙ ap (λ (r : Reads). r.origins) c.rows.view_is in
    let slots : c.deref-2.result.now ≡ c.args.rows.now.place_slots =
    c.deref-2.ensures.value ∙ ap (λ (r : Reads). r.place_slots) c.rows.view_is in
    let places : c.deref-3.result.now ≡ c.args.rows.now.places =
    c.deref-3.ensures.value ∙ ap (λ (r : Reads). r.places) c.rows.view_is in
    c.in_ok-pages.ensures.no c.if-not-pages.true
    (rw origins (rw slots (rw places (record { lists = has.origins; some_page = has.some_page }))))

pub returns-then-not-visits-clause-no : goal.returns-then-not-visits-clause-no
returns-then-not-visits-clause-no g c is has =
    let owners : c.deref-4.result.now ≡ c.args.rows.now.place_slots =
    c.deref-4.ensures.value ∙ ap (λ (r : Reads). r.place_slots) c.rows.view_is in
    let slots : c.deref-5.result.now ≡ c.args.rows.now.visit_slots =
    c.deref-5.ensures.value ∙ ap (λ (r : Reads). r.visit_slots) c.rows.view_is in
    let visits : c.deref-6.result.now ≡ c.args.rows.now.visits =
    c.deref-6.ensures.value ∙ ap (λ (r : Reads). r.visits) c.rows.view_is in
    c.in_ok-visits.ensures.no c.if-not-visits.true (rw owners (rw slots (rw visits has.visits)))

pub returns-clause-yes : goal.returns-clause-yes
returns-clause-yes g c =
    let origins : c.deref.result.now ≡ c.args.rows.now.origins =
    c.deref.ensures.value ∙ ap (λ (r : Reads). r.origins) c.rows.view_is in
    let place_slots : c.deref-2.result.now ≡ c.args.rows.now.place_slots =
    c.deref-2.ensures.value ∙ ap (λ (r : Reads). r.place_slots) c.rows.view_is in
    let places : c.deref-3.result.now ≡ c.args.rows.now.places =
    c.deref-3.ensures.value ∙ ap (λ (r : Reads). r.places) c.rows.view_is in
    let owners : c.deref-4.result.now ≡ c.args.rows.now.place_slots =
    c.deref-4.ensures.value ∙ ap (λ (r : Reads). r.place_slots) c.rows.view_is in
    let visit_slots : c.deref-5.result.now ≡ c.args.rows.now.visit_slots =
    c.deref-5.ensures.value ∙ ap (λ (r : Reads). r.visit_slots) c.rows.view_is in
    let visits : c.deref-6.result.now ≡ c.args.rows.now.visits =
    c.deref-6.ensures.value ∙ ap (λ (r : Reads). r.visits) c.rows.view_is in
    let pages : c.deref-7.result.now ≡ c.args.rows.now.place_slots =
    c.deref-7.ensures.value ∙ ap (λ (r : Reads). r.place_slots) c.rows.view_is in
    let item_slots : c.deref-8.result.now ≡ c.args.rows.now.item_slots =
    c.deref-8.ensures.value ∙ ap (λ (r : Reads). r.item_slots) c.rows.view_is in
    let items : c.deref-9.result.now ≡ c.args.rows.now.items =
    c.deref-9.ensures.value ∙ ap (λ (r : Reads). r.items) c.rows.view_is in
    let of_origins : HasPageLists c.args.arena.now c.args.rows.now.origins c.args.rows.now.place_slots
    c.args.rows.now.places =
    rw origins at (rw place_slots at (rw places at (c.in_ok-pages.ensures.yes c.if-not-pages.false))) in
    let of_visits : HasVisitLists c.args.arena.now c.args.rows.now.place_slots c.args.rows.now.visit_slots
    c.args.rows.now.visits =
    rw owners at (rw visit_slots at (rw visits at (c.in_ok-visits.ensures.yes c.if-not-visits.false))) in
    IfOk-weaker c.have_reference_lists.result _ _
    (λ yes told is. record {
      origins = of_origins.lists;
      some_page = of_origins.some_page;
      visits = of_visits;
      references = rw pages at (rw item_slots at (rw items at (told is)));
    })
    c.have_reference_lists.ensures.yes

pub returns-clause-no : goal.returns-clause-no
returns-clause-no g c =
    let owners : c.deref-7.result.now ≡ c.args.rows.now.place_slots =
    c.deref-7.ensures.value ∙ ap (λ (r : Reads). r.place_slots) c.rows.view_is in
    let slots : c.deref-8.result.now ≡ c.args.rows.now.item_slots =
    c.deref-8.ensures.value ∙ ap (λ (r : Reads). r.item_slots) c.rows.view_is in
    let items : c.deref-9.result.now ≡ c.args.rows.now.items =
    c.deref-9.ensures.value ∙ ap (λ (r : Reads). r.items) c.rows.view_is in
    IfOk-weaker c.have_reference_lists.result _ _
    (λ yes told is has. told is (rw owners (rw slots (rw items has.references))))
    c.have_reference_lists.ensures.no
