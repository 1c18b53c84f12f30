-- The step that a visit makes.
use Rattle.std.proofs.Common.{◌≡◌, ◌∙◌, ℕ, ℤ, All, Bool, true, false, bytes_eq}
use Rattle.std.proofs.Common.{List, [], Option, Some, None, ap, if◌then◌else◌, is_none}
use Rattle.std.proofs.Common.{refl, subst, sym, unwrap_or}
use Rattle.std.specs.List.{AllByRecursion}
use Rattle.std.proofs.lemmas.List.Elements.{recursion_from_All}
use Rattle.pl_base.specs.declared.id.PageId.{PageId}
use Rattle.pl_base.specs.declared.id.VisitId.{VisitId}
use Rattle.pl_base.specs.declared.refusal.Refusal.{Refusal}
use Rattle.pl_base.specs.declared.row.VisitRow.{VisitRow}
use Rattle.pl_base.specs.Frecency.{frecency_of}
use Rattle.pl_base.specs.Rows.{Kept, store_of}
use Rattle.pl_base.specs.Store.{Page, Store}
use Rattle.pl_base.specs.Visiting.{after_visit, find_page, new_page, page_for}
use Rattle.pl_base.specs.Visiting.{visited_page, visited_store, with_page_for}
use Rattle.pl_base.proofs.LookUps.{found_holds, part}
use Rattle.pl_history.specs.declared.find.Target.{Target}
use Rattle.pl_history.specs.declared.visiting.AddedVisit.{AddedVisit}
use Rattle.pl_history.specs.Added.{AddsVisit}
use Rattle.pl_history.specs.Target.{IsTargetOf, WithTarget}
use Rattle.pl_step.specs.declared.command.Command.TheVariants.{Visit as VisitCommand}
use Rattle.pl_step.specs.declared.reply.Reply.{Reply}
use Rattle.pl_step.specs.declared.reply.Reply.TheVariants.{Visit as VisitReply}
use Rattle.pl_step.specs.Step.{perform, unless_refused, visit_refusal, visit_reply}
use Rattle.pl_history.proofs.VisitMade.{target_page, target_store}
use Rattle.pl_history.proofs.VisitRows.{grown_store}

next_visit_same : (store : Store) (url : List ℕ) → (with_page_for store url).ids.visit ≡ store.ids.visit
next_visit_same store url = choose (is_none (find_page url store.pages))
  where
    choose : (b : Bool) → (if b then grown_store store url else store).ids.visit ≡ store.ids.visit
    choose true = refl
    choose false = refl

-- what holds of each page holds of that of a visit
page_for_holds : (P : Page → Type 0) (store : Store) (url : List ℕ) → All P (with_page_for store url).pages
    → P (page_for store url)
page_for_holds P store url all =
    choose (find_page url store.pages) refl (recursion_from_All P (with_page_for store url).pages all)
  where
    choose : (found : Option Page) → find_page url store.pages ≡ found
        → AllByRecursion P (if is_none found then grown_store store url else store).pages
        → P (unwrap_or found (new_page store url))
    choose None at each = part P store.pages (new_page store url) [] each
    choose (Some p) at each = found_holds P (λ (q : Page). bytes_eq q.url url) store.pages p each at

-- the reply tells the visit, its page and the frecency
abbrev pub told : AddedVisit → Reply
told added = VisitReply added.visit added.page added.frecency

step_made : (store mid new : Store) (url : List ℕ) (row : VisitRow) (added : AddedVisit)
    → (page_for store url).id ≡ row.page → mid ≡ with_page_for store url → AddsVisit row mid new added
    → ◌≡◌ {A = Reply × Store} (told added, new)
    (visit_reply store url row.transition row.date row.source, after_visit store url row.transition row.date row.source)
step_made store mid new url row added is grown a =
    let after : Store = after_visit store url row.transition row.date row.source in
    let p : Page = visited_page row.transition (page_for store url) in
    let made : new ≡ after =
    a.store
    ∙ ap (visited_store row.page row.transition row.date row.source) grown
    ∙ ap (λ (id : PageId). visited_store id row.transition row.date row.source (with_page_for store url)) (sym is) in
    let next : mid.ids.visit ≡ store.ids.visit = ap (λ (s : Store). s.ids.visit) grown ∙ next_visit_same store url in
    let reply : told added ≡ visit_reply store url row.transition row.date row.source =
    ap (λ (id : VisitId). VisitReply id added.page added.frecency) a.visit
    ∙ ap (λ (n : ℕ). VisitReply (record { 0 = n }) added.page added.frecency) next
    ∙ ap (λ (id : PageId). VisitReply (record { 0 = store.ids.visit }) id added.frecency) (a.page ∙ sym is)
    ∙ ap (λ (z : ℤ). VisitReply (record { 0 = store.ids.visit }) (page_for store url).id z)
    (page_for_holds (λ (q : Page). q.id ≡ row.page → added.frecency ≡ frecency_of new (visited_page row.transition q))
    store url (subst (λ (s : Store). All (λ (q : Page). q.id ≡ row.page
    → added.frecency ≡ frecency_of new (visited_page row.transition q)) s.pages) grown a.scored) is
    ∙ ap (λ (s : Store). frecency_of s p) made) in
    ap (λ (r : Reply). (r, new)) reply
    ∙ ap (λ (s : Store). (visit_reply store url row.transition row.date row.source, s)) made

pub step_after : (limit : ℕ) (kept mid new : Kept) (url : List ℕ) (target : Target) (row : VisitRow)
    (added : AddedVisit)
    → IsTargetOf kept url target → WithTarget url target kept mid row.page
    → visit_refusal limit (store_of kept) url row.transition row.date row.source ≡ None
    → AddsVisit row (store_of mid) (store_of new) added
    → ◌≡◌ {A = Reply × Store} (told added, store_of new)
    (perform limit (store_of kept) (VisitCommand url row.transition row.date row.source))
step_after limit kept mid new url target row added of with allowed a =
    let store : Store = store_of kept in
    step_made store (store_of mid) (store_of new) url row added (target_page kept mid url target row.page of with)
    (target_store kept mid url target row.page of with) a
    ∙ ap (λ (o : Option Refusal). unless_refused o store (
      visit_reply store url row.transition row.date row.source,
      after_visit store url row.transition row.date row.source,
    ))
    (sym allowed)
