-- Visits in slots, the latest first: that is an order, in which visits of different ids do not tie.
use Rattle.std.proofs.Common.{◌≡◌, ◌≢◌, ◌∙◌, ◌∷◌, ◌&&◌, [], Bool, List, ap, arith, length, map, nat_lt}
use Rattle.std.proofs.Common.{not, refl, subst, sym, true}
use Rattle.std.proofs.lemmas.List.Sorted.{IsStrictWeakOrder-by_number, IsStrictWeakOrder-flip}
use Rattle.std.specs.Cmp.{IsStrictWeakOrder}
use Rattle.std.specs.List.{AllPairs, zip}
use Rattle.std.specs.List.Sorted.{ties}
use Rattle.pl_base.specs.declared.id.Slot.{Slot}
use Rattle.pl_base.proofs.ListLaws.{AllPairs-from_map}
use Rattle.pl_base.proofs.SortLaws.{ranks_alike, then_by, then_by_number, then_ranks, then_ties, tied_numbers}
use Rattle.pl_load.specs.Members.{VisitIn, is_newer}
use Rattle.pl_record.specs.declared.rows.Visit.{Visit}

abbrev earlier : VisitIn → VisitIn → Bool
earlier v w = nat_lt v.1.date.0 w.1.date.0

abbrev later : VisitIn → VisitIn → Bool
later v w = earlier w v

abbrev smaller : VisitIn → VisitIn → Bool
smaller v w = nat_lt v.1.id.0 w.1.id.0

abbrev greater : VisitIn → VisitIn → Bool
greater v w = smaller w v

newer_alike : (v w : VisitIn) → is_newer v w ≡ then_by later greater v w
newer_alike v w = then_by_number v.1.date.0 w.1.date.0 (nat_lt w.1.id.0 v.1.id.0)

pub newer_ranks : IsStrictWeakOrder is_newer
newer_ranks =
    ranks_alike is_newer (then_by later greater) newer_alike
    (then_ranks later greater
    (IsStrictWeakOrder-flip earlier (IsStrictWeakOrder-by_number (λ (v : VisitIn). v.1.date.0)))
    (IsStrictWeakOrder-flip smaller (IsStrictWeakOrder-by_number (λ (v : VisitIn). v.1.id.0))))

newer_ties : (v w : VisitIn) → ties is_newer v w ≡ ties (then_by later greater) v w
newer_ties v w =
    ap (λ x. not x && not (is_newer w v)) (newer_alike v w)
    ∙ ap (λ x. not (then_by later greater v w) && not x) (newer_alike w v)

pub tied_ids : (v w : VisitIn) → ties is_newer v w ≡ true → v.1.id.0 ≡ w.1.id.0
tied_ids v w tie =
    sym (tied_numbers w.1.id.0 v.1.id.0 (then_ties later greater v w (sym (newer_ties v w) ∙ tie)))

-- the rows beside slots are those that were there
rows_beside : (slots : List Slot) (visits : List Visit) → length slots ≡ length visits
    → map (λ (r : VisitIn). r.1) (zip slots visits) ≡ visits
rows_beside [] [] long = refl
rows_beside [] (v ∷ visits) long = absurd (omega (arith, long))
rows_beside (s ∷ slots) [] long = absurd (omega (arith, long))
rows_beside (s ∷ slots) (v ∷ visits) long =
    ap (λ (vs : List Visit). v ∷ vs) (rows_beside slots visits (omega (arith, long)))

pub apart : (slots : List Slot) (visits : List Visit) → length slots ≡ length visits
    → AllPairs (λ (v w : Visit). v.id.0 ≢ w.id.0) visits
    → AllPairs (λ (v w : VisitIn). v.1.id.0 ≢ w.1.id.0) (zip slots visits)
apart slots visits long differ =
    AllPairs-from_map (λ (v w : Visit). v.id.0 ≢ w.id.0) (λ (r : VisitIn). r.1) (zip slots visits)
    (subst (AllPairs (λ (v w : Visit). v.id.0 ≢ w.id.0)) (sym (rows_beside slots visits long)) differ)
