-- The dates of the visits to pages: those to one page stand by them, and its view has the latest.
use Rattle.std.proofs.Common.{◌≡◌, ◌≤◌, ◌+ℤ◌, ℕ, ℤ, true, List, [], ◌∷◌, Option}
use Rattle.std.proofs.Common.{Some, None, arith, negsuc, pos, refl, subst}
use Rattle.std.specs.Prelude.{int_le}
use Rattle.std.specs.List.{AllByRecursion}
use Rattle.std.proofs.lemmas.Bool.Decides.{nat_tests}
use Rattle.std.proofs.lemmas.Option.{same_Some}
use Rattle.pl_base.specs.declared.date.Micros.{Micros}
use Rattle.pl_base.specs.declared.view.View.{View}
use Rattle.pl_base.specs.Marks.{last_date_of}
use Rattle.pl_base.specs.Store.{Page, Store, Visit}
use Rattle.pl_base.specs.View.{AreViews}
use Rattle.pl_base.proofs.VisitOrder.{InOrder}
use Rattle.pl_marks.proofs.DatedVisits.{behind_in_order}
use Rattle.pl_conditions.specs.Conditions.{is_not_before, moment}
use Rattle.pl_place.specs.declared.kinds.TimeRef.{TimeRef}

-- ---- dates

-- a date that is not before the times is followed by none that is
pub not_before_on : (store : Store) (time : Option ℤ) (reference : TimeRef) (a b : Micros) → a.0 ≤ b.0
    → is_not_before store time reference a ≡ true → is_not_before store time reference b ≡ true
not_before_on store None reference a b le late = refl
not_before_on store (Some time) reference a b le late = on (moment store reference +ℤ time) a.0 b.0 le late
  where
    on : (m : ℤ) (a b : ℕ) → a ≤ b → int_le m (pos a) ≡ true → int_le m (pos b) ≡ true
    on (pos m) a b le late = grind (arith, nat_tests, le, late)
    on (negsuc m) a b le late = refl

-- ---- the visits to a page

-- as `last_date_of` has it
abbrev pub first_date : List Visit → Option Micros
first_date [] = None
first_date (v ∷ vs) = Some v.date

-- none is later than the first
pub up_to_first : (visits : List Visit) → InOrder visits → (date : Micros) → first_date visits ≡ Some date
    → AllByRecursion (λ (v : Visit). v.date.0 ≤ date.0) visits
up_to_first [] up date none = tt
up_to_first (v ∷ visits) up date first =
    let same : v.date ≡ date = same_Some v.date date first in
    subst (λ (d : Micros). AllByRecursion (λ (w : Visit). w.date.0 ≤ d.0) (v ∷ visits)) same
    (omega arith, behind_in_order [] v visits up)

pub no_visits : (visits : List Visit) → first_date visits ≡ None → visits ≡ []
no_visits [] none = refl
no_visits (v ∷ visits) none = absurd (cc)

-- ---- views

-- the view is that of a page
abbrev pub IsOfPage : Store → View → Type 0
IsOfPage store v = v.last ≡ last_date_of store v.id

pub of_pages : (store : Store) (pages : List Page) (views : List View) → AreViews store pages views
    → AllByRecursion (IsOfPage store) views
of_pages store [] [] of = tt
of_pages store [] (v ∷ vs) of = absurd of
of_pages store (p ∷ ps) [] of = absurd of
of_pages store (p ∷ ps) (v ∷ vs) of = (rw of.0.id of.0.last, of_pages store ps vs of.1)
