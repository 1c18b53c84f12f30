-- The view of a page that a visit does not bear on stays when the visit goes, and when it comes.
use Rattle.std.proofs.Common.{◌≡◌, ◌∙◌, List, [], ◌∷◌, Option, Some, None, ap, map, refl, subst, sym}
use Rattle.std.proofs.Common.{take}
use Rattle.pl_base.specs.declared.date.Micros.{Micros}
use Rattle.pl_base.specs.declared.id.VisitId.{VisitId}
use Rattle.pl_base.specs.declared.row.VisitRow.{VisitRow}
use Rattle.pl_base.specs.declared.view.View.{View}
use Rattle.pl_base.specs.Due.{IsFirstDay, some_weighs_anew}
use Rattle.pl_base.specs.Removal.{visit_left}
use Rattle.pl_base.specs.Rows.{IsWellKept, Kept, store_of, visit_at, with_visit, without_visit}
use Rattle.pl_base.specs.Store.{Page, Visit}
use Rattle.pl_base.specs.View.{IsViewOf}
use Rattle.pl_base.specs.Visits.{latest_first, sample_of, visits_of}
use Rattle.pl_base.proofs.ListLaws.{map-map}
use Rattle.pl_history.proofs.RightAfter.{IsElsewhere, count_same, frecency_same, hidden_same, visits_same}
use Rattle.pl_history.proofs.RightRemoved.{IsApart, count_apart, frecency_left, hidden_left, sample_left, visits_apart}
use Rattle.pl_history.proofs.VisitsLeft.{order_left}

abbrev first_date : List Visit → Option Micros
first_date [] = None
first_date (v ∷ vs) = Some v.date

first_left : (gone : List VisitId) (vs : List Visit) → first_date (map (visit_left gone) vs) ≡ first_date vs
first_left gone [] = refl
first_left gone (v ∷ vs) = refl

-- ---- a visit that goes

pub view_left : (old : Kept) (id : VisitId) (gone : Visit) → IsWellKept old → visit_at old id ≡ Some gone → (p : Page)
    (view : View) → IsApart old id gone p.id → IsViewOf (store_of old) p view
    → IsViewOf (store_of (without_visit id old)) p view
view_left old id gone h at p view e v =
    let vs : List Visit = visits_of (store_of old) p.id in
    let sample : List Visit = sample_of (store_of old) p.id in
    let dates : map (λ (w : Visit). w.date) (sample_of (store_of (without_visit id old)) p.id)
    ≡ map (λ (w : Visit). w.date) sample =
    ap (map (λ (w : Visit). w.date)) (sample_left old id gone h at p.id e.own)
    ∙ map-map (λ (w : Visit). w.date) (visit_left (id ∷ [])) sample in
    record {
      id = v.id;
      url = v.url;
      title = v.title;
      mark_title = v.mark_title;
      tags = v.tags;
      origin = v.origin;
      frecency = v.frecency ∙ sym (frecency_left old id gone h at p e);
      count = v.count ∙ sym (count_apart old id gone h at p.id e.own);
      last =
          v.last
          ∙ sym (ap (λ (ws : List Visit). first_date (latest_first ws)) (visits_apart old id gone h at p.id e.own)
          ∙ ap first_date (order_left (id ∷ []) vs) ∙ first_left (id ∷ []) (latest_first vs));
      due =
          subst (λ (days : List Micros). IsFirstDay (some_weighs_anew days) old.day view.due) (sym dates) v.due;
      typed = v.typed;
      hidden = v.hidden ∙ sym (hidden_left old id gone h at p e);
      bookmarked = v.bookmarked;
      referenced = v.referenced;
    }

-- ---- a visit that comes

pub view_same : (old : Kept) (row : VisitRow) → IsWellKept old → IsWellKept (with_visit row old) → (p : Page)
    (view : View) → IsElsewhere row old p.id → IsViewOf (store_of old) p view
    → IsViewOf (store_of (with_visit row old)) p view
view_same old row h made p view e v =
    let same : visits_of (store_of (with_visit row old)) p.id ≡ visits_of (store_of old) p.id =
    visits_same old row p.id e in
    record {
      id = v.id;
      url = v.url;
      title = v.title;
      mark_title = v.mark_title;
      tags = v.tags;
      origin = v.origin;
      frecency = v.frecency ∙ sym (frecency_same old row p h made e);
      count = v.count ∙ sym (count_same old row p.id e.visited);
      last = v.last ∙ sym (ap (λ (ws : List Visit). first_date (latest_first ws)) same);
      due =
          subst (λ (ws : List Visit). IsFirstDay
          (some_weighs_anew (map (λ (w : Visit). w.date) (take 10 (latest_first ws)))) old.day view.due) (sym same)
          v.due;
      typed = v.typed;
      hidden = v.hidden ∙ sym (hidden_same old row p h made e);
      bookmarked = v.bookmarked;
      referenced = v.referenced;
    }
