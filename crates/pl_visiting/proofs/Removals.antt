-- What is asked before history goes, and what is told after it.
use Rattle.std.proofs.Common.{◌≡◌, ◌∙◌, ◌==◌, ℕ, All, Bool, true, false, List, [], ◌∷◌, Option, Some, None}
use Rattle.std.proofs.Common.{ap, refl, sym}
use Rattle.std.specs.Prelude.{not}
use Rattle.std.specs.Option.{is_some, option_map}
use Rattle.std.proofs.lemmas.List.Elements.{All-from_recursion}
use Rattle.pl_base.specs.declared.id.PageId.{PageId}
use Rattle.pl_base.specs.declared.id.VisitId.{VisitId}
use Rattle.pl_base.specs.declared.row.VisitRow.{VisitRow}
use Rattle.pl_base.specs.Removal.{forgotten}
use Rattle.pl_base.specs.Rows.{IsSound, Kept, has_visit, row_of, store_of, visit_at}
use Rattle.pl_base.specs.Store.{Store, Visit}
use Rattle.pl_base.specs.Visiting.{find_page}
use Rattle.pl_base.proofs.LookUps.{found_some}
use Rattle.pl_history.specs.declared.find.Target.TheVariants as Target
use Rattle.pl_history.specs.declared.removal.Removed.{Removed}
use Rattle.pl_history.specs.Target.{IsTargetOf}
use Rattle.pl_history.specs.Went.{went}
use Rattle.pl_history.proofs.KnownPage.{IsKnown, known}
use Rattle.pl_known.specs.declared.known.Known.{Known}
use Rattle.pl_step.specs.declared.reply.Reply.{Reply}
use Rattle.pl_step.specs.declared.reply.Reply.TheVariants.{Removed as RemovedReply}
use Rattle.pl_step.specs.Refused.{is_refused}
use Rattle.pl_step.specs.Step.{forget_step, removal_step}
use Rattle.pl_known.specs.Changes.{LeadTo}
use Rattle.pl_done.specs.declared.done.Done.{Done}
use Rattle.pl_done.specs.Performed.{IsPerformed}

-- a visit that was found stands among the rows
stands : (kept : Kept) (id : VisitId) (row : Option VisitRow) → row ≡ option_map row_of (visit_at kept id)
    → is_some row ≡ true → has_visit kept id ≡ true
stands kept id row is some = choose (visit_at kept id) refl (ap is_some (sym is) ∙ some)
  where
    choose : (found : Option Visit) → visit_at kept id ≡ found → is_some (option_map row_of found) ≡ true
        → has_visit kept id ≡ true
    choose None at none = absurd (cc)
    choose (Some v) at fine = found_some (λ (w : Visit). w.id.0 == id.0) kept.visits v at

-- and so does each of a list of it alone
pub stands_alone : (kept : Kept) (id : VisitId) (row : Option VisitRow) (none : Bool)
    → row ≡ option_map row_of (visit_at kept id) → is_some row ≡ not none → none ≡ false
    → All (λ (v : VisitId). has_visit kept v ≡ true) (id ∷ [])
stands_alone kept id row none is asked some =
    All-from_recursion (λ (v : VisitId). has_visit kept v ≡ true) (id ∷ [])
    (stands kept id row is (asked ∙ ap not some), tt)

-- the page is the one that is asked for
pub forgets : (kept new : Kept) (url : List ℕ) (id : PageId) → IsTargetOf kept url (Target.Known id)
    → store_of new ≡ forgotten id (store_of kept)
    → removal_step (store_of kept) (store_of new) ≡ forget_step (store_of kept) (find_page url (store_of kept).pages)
forgets kept new url id target store =
    let old : Store = store_of kept in
    let k : IsKnown kept url id = known kept url id target in
    ap (removal_step old) store
    ∙ ap (λ (i : PageId). removal_step old (forgotten i old)) (sym k.is)
    ∙ ap (forget_step old) (sym k.found)

-- what went is told, and is what the step says
pub is_gone : {R : Type 0} (kept : R → Kept) (stands_on : R → List ℕ → Type 0) (outcome : Reply × Store) (old new : R)
    (views : Known) (gone : Removed) (done : Done) → done.reply ≡ RemovedReply gone.visits gone.pages
    → gone ≡ went (store_of (kept old)) (store_of (kept new))
    → removal_step (store_of (kept old)) (store_of (kept new)) ≡ outcome → IsSound (kept new)
    → ((bytes : List ℕ) → stands_on old bytes → stands_on new bytes)
    → LeadTo (store_of (kept new)) views.views.items done.changes.items → IsPerformed kept stands_on outcome old new views done
is_gone kept stands_on outcome old new views gone done told so step sound base leads =
    record {
      step =
          ap (λ (r : Reply). (r, store_of (kept new)))
          (told ∙ ap (λ (g : Removed). RemovedReply g.visits g.pages) so)
          ∙ step;
      accepted = ap is_refused told;
      sound = sound;
      base = base;
      leads = leads;
    }
