-- The latest visit of a page.
use Rattle.std.proofs.Common.{◌≡◌, ◌∙◌, List, [], ◌∷◌, Option, Some, None}
use Rattle.std.proofs.Common.{ap, refl, sym}
use Rattle.std.specs.List.{AllByRecursion}
use Rattle.std.specs.Option.{IsSome, option_map}
use Rattle.pl_base.specs.declared.date.Micros.{Micros}
use Rattle.pl_base.specs.declared.id.PageId.{PageId}
use Rattle.pl_base.specs.declared.id.VisitId.{VisitId}
use Rattle.pl_base.specs.declared.row.VisitRow.{VisitRow}
use Rattle.pl_base.specs.Marks.{last_date_of}
use Rattle.pl_base.specs.Rows.{IsWellKept, Kept, first_id, page_visits, row_of, store_of, visit_at}
use Rattle.pl_base.specs.Store.{Visit}
use Rattle.pl_base.proofs.VisitsRun.{IsVisitOf, row_is, visits_stand}

-- as `last_date_of` has it
abbrev pub first_date : List Visit → Option Micros
first_date [] = None
first_date (v ∷ vs) = Some v.date

pub record IsLatest (kept : Kept) (page : PageId) (id : VisitId) : Type 0 where
  pub visit : Visit
  pub at : visit_at kept id ≡ Some visit
  pub last : last_date_of (store_of kept) page ≡ Some visit.date

pub latest : (kept : Kept) (page : PageId) (id : VisitId) → IsWellKept kept
    → Some id ≡ first_id (page_visits kept page) → IsLatest kept page id
latest kept page id h is = choose (page_visits kept page) refl is (visits_stand kept page h)
  where
    choose : (vs : List Visit) → page_visits kept page ≡ vs → Some id ≡ first_id vs
        → AllByRecursion (IsVisitOf kept page) vs → IsLatest kept page id
    choose [] whole none stand = absurd (cc)
    choose (v ∷ vs) whole some stand =
        let same : v.id ≡ id = cc in
        record {
          visit = v;
          at = ap (visit_at kept) (sym same) ∙ stand.0.0;
          last = ap first_date whole;
        }

pub latest_found : (kept : Kept) (page : PageId) (id : VisitId) (row : Option VisitRow) → IsWellKept kept
    → Some id ≡ first_id (page_visits kept page) → row ≡ option_map row_of (visit_at kept id) → IsSome row
latest_found kept page id row h is rows =
    let l : IsLatest kept page id = latest kept page id h is in
    rw (rows ∙ ap (option_map row_of) l.at) refl

pub latest_date : (kept : Kept) (page : PageId) (id : VisitId) (row : VisitRow) → IsWellKept kept
    → Some id ≡ first_id (page_visits kept page) → Some row ≡ option_map row_of (visit_at kept id)
    → ◌≡◌ {A = Option Micros} (Some row.date) (last_date_of (store_of kept) page)
latest_date kept page id row h is rows =
    let l : IsLatest kept page id = latest kept page id h is in
    ap (λ (r : VisitRow). Some r.date) (row_is kept id row l.visit rows l.at) ∙ sym l.last
