-- What holds of a flat store: its rows are well kept, and the targets of a visit are those of the
-- definition.
use Rattle.std.specs.Prelude.{◌≡◌, ◌+◌, ◌≤◌, ◌<◌, ◌-◌, ◌==◌, ℕ, Contains}
use Rattle.std.specs.Prelude.{List, [], length, map, true}
use Rattle.std.specs.List.{enumerate_from, list_any}
use Rattle.std.proofs.Common.{◌∙◌, ap, arith, get_or, refl, subst, sym}
use Rattle.std.proofs.lemmas.Bool.{eqb-true}
use Rattle.std.proofs.lemmas.List.{get_or-map, length-map}
use Rattle.std.proofs.lemmas.List.Folds.{Any-from_list_any}
use Rattle.std.proofs.lemmas.List.FromFn.{get_or-enumerate_from, length-enumerate_from}
use Rattle.std.proofs.lemmas.List.Sorted.{IsPermutation-refl}
use Rattle.pl_base.specs.declared.date.Day.{Day}
use Rattle.pl_base.specs.declared.id.Ids.{Ids}
use Rattle.pl_base.specs.declared.id.VisitId.{VisitId}
use Rattle.pl_base.specs.Redirects.{others_from, redirects_from}
use Rattle.pl_base.specs.Rows.{AreTargets, IsSound, IsWellKept, Kept, KeptOrigin}
use Rattle.pl_base.specs.Rows.{KeptPage, NamesOrigins, page_origins, store_of}
use Rattle.pl_base.specs.Store.{Item}
use Rattle.pl_plain.specs.declared.flat.row.FlatPage.{FlatPage}
use Rattle.pl_stored.specs.declared.stored.StoredVisit.{StoredVisit}
use Rattle.pl_plain.specs.FlatRows.{IsFlat, kept_from, origin_with, origins_from}
use Rattle.pl_plain.specs.Targets.{targets_of}
use Rattle.pl_plain.specs.Flat.{IsBase, StandsForAny, bytes_of, kept_of}
use Rattle.pl_plain.specs.declared.flat.Flat.{Flat}

-- ---- the rows are well kept

pub length-origins_from : (totals : List ℕ) → length (origins_from totals) ≡ length totals
length-origins_from totals =
    length-map (enumerate_from 1 totals) origin_with ∙ length-enumerate_from 1 totals

-- the origin at a place
pub named_at : (totals : List ℕ) (i : ℕ) (d : KeptOrigin) → i < length totals
    → get_or (origins_from totals) i d ≡ origin_with (1 + i, get_or totals i 0)
named_at totals i d within =
    get_or-map origin_with (enumerate_from 1 totals) i (0, 0) d
    (rw (length-enumerate_from 1 totals) within)
    ∙ ap origin_with (get_or-enumerate_from 1 totals i (0, 0) within)

number_at : (totals : List ℕ) (i d : ℕ) → i < length totals
    → get_or (map (λ (a : KeptOrigin). a.origin.0) (origins_from totals)) i d ≡ 1 + i
number_at totals i d within =
    let inside : i < length (origins_from totals) = rw (length-origins_from totals) within in
    get_or-map (λ (a : KeptOrigin). a.origin.0) (origins_from totals) i (origin_with (0, 0)) d
    inside
    ∙ ap (λ (a : KeptOrigin). a.origin.0) (named_at totals i (origin_with (0, 0)) within)

contains_number : (totals : List ℕ) (n : ℕ) → 0 < n → n ≤ length totals
    → Contains (map (λ (a : KeptOrigin). a.origin.0) (origins_from totals)) n
contains_number totals n some few = (
  n - 1,
  rw (
    length-map (origins_from totals) (λ (a : KeptOrigin). a.origin.0),
    length-origins_from totals,
  ) (omega arith),
  omega (arith, number_at totals (n - 1) n (omega arith)),
)

contains_page : (kept : Kept) (n : ℕ)
    → list_any (λ (p : KeptPage). p.origin.0 == n) kept.pages ≡ true
    → Contains (map (λ (p : KeptPage). p.origin.0) kept.pages) n
contains_page kept n some =
    let at = Any-from_list_any (λ (p : KeptPage). p.origin.0 == n) kept.pages some in (
      at.0,
      rw (length-map kept.pages (λ (p : KeptPage). p.origin.0)) at.2,
      get_or-map (λ (p : KeptPage). p.origin.0) kept.pages at.0 at.1 n at.2
          ∙ ap (λ (p : KeptPage). p.origin.0) at.3 ∙ eqb-true at.1.origin.0 n at.4,
    )

origins_named : (kept : Kept) (totals : List ℕ) (live : ℕ) → IsFlat kept (length totals) live
    → kept.origins ≡ origins_from totals → NamesOrigins kept
origins_named kept totals live h names =
    subst (λ (os : List KeptOrigin). NamesOrigins (record kept { origins = os })) (sym names)
    (record {
      distinct =
          λ i j d before within same.
          let last : j < length totals = rw (length-origins_from totals) at within in
          let numbers : 1 + i ≡ 1 + j =
          ap (λ (a : KeptOrigin). a.origin.0) (sym (named_at totals i d (omega arith)))
          ∙ ap (λ s. s.0) same ∙ ap (λ (a : KeptOrigin). a.origin.0)
          (named_at totals j d last) in
          omega arith;
      some =
          λ k d within.
          let inside : k < length totals = rw (length-origins_from totals) at within in
          omega (arith, ap (λ (a : KeptOrigin). a.origin.0) (named_at totals k d inside));
      known =
          λ k d within. contains_number totals (get_or kept.pages k d).origin.0
          (h.named k d within).0 (h.named k d within).1;
      used =
          λ k d within.
          let inside : k < length totals = rw (length-origins_from totals) at within in
          subst (λ (a : KeptOrigin). Contains (page_origins kept) a.origin.0)
          (sym (named_at totals k d inside))
          (contains_page kept (1 + k) (h.used (1 + k) (omega arith) (omega arith)));
      same = h.same;
    })

-- a flat store's rows are well kept
pub well_kept : (day : Day) (ids : Ids) (pages : List FlatPage) (totals : List ℕ)
    (visits : List StoredVisit) (items : List Item) (live : ℕ)
    → IsFlat (kept_from day ids pages totals visits items) (length totals) live
    → IsWellKept (kept_from day ids pages totals visits items)
well_kept day ids pages totals visits items live h =
    let kept : Kept = kept_from day ids pages totals visits items in
    record {
      day = h.day;
      page_ids = h.page_ids;
      visit_ids = h.visit_ids;
      item_ids = h.item_ids;
      urls = h.urls;
      distinct_urls = h.distinct_urls;
      titles = h.titles;
      visits = h.visits;
      sources = h.sources;
      origins = origins_named kept totals live h refl;
      live = omega (arith, h.filled, h.few);
    }

-- ---- the targets of a visit are those of the definition

pub targeted : (kept : Kept) (source : VisitId)
    → AreTargets (store_of kept) source (targets_of kept.visits source)
targeted kept source =
    record {
      redirects = redirects_from (store_of kept) source;
      others = others_from (store_of kept) source;
      is = refl;
      all_redirects = IsPermutation-refl (redirects_from (store_of kept) source);
      all_others = IsPermutation-refl (others_from (store_of kept) source);
    }

-- ---- the bytes

-- the last `touched` told of no bytes
pub based : (flat : Flat) → (bytes : List ℕ) × IsBase flat bytes
based flat = ([], refl)

-- the form says nothing of them
pub stands : (flat : Flat) → IsSound (kept_of flat)
    → StandsForAny (bytes_of flat) (store_of (kept_of flat))
stands flat sound = tt
