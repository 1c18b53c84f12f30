-- The visits that came from one, among rows of visits.
use Rattle.std.proofs.Common.{◌≡◌, ◌∙◌, ◌+◌, ◌-◌, ◌<◌, ◌==◌, ◌++◌, ℕ, Bool, true, false, List, [], ◌∷◌}
use Rattle.std.proofs.Common.{Some, None, ap, append_assoc, arith, drop, eq-eqb, filter, find, get_or}
use Rattle.std.proofs.Common.{drop-cons, if◌then◌else◌, length, map, refl, suc, sym, take}
use Rattle.std.specs.List.{All, AllByRecursion, position}
use Rattle.std.specs.List.Sorted.{IsStrictlyIncreasing}
use Rattle.std.specs.Option.{option_map}
use Rattle.std.proofs.lemmas.Bool.{eqb-true, ne_eqb}
use Rattle.std.proofs.lemmas.List.{get_or-drop, get_or-take, get_or_default, length-drop, length-take-le, map-append}
use Rattle.std.proofs.lemmas.List.{take-append-drop, take_all}
use Rattle.std.proofs.lemmas.List.Elements.{All-map, filter-append, recursion_from_All}
use Rattle.std.proofs.lemmas.List.Quantifiers.{position-Some}
use Rattle.std.proofs.lemmas.Option.{slice_get-get_or}
use Rattle.pl_base.specs.declared.id.VisitId.{VisitId}
use Rattle.pl_base.specs.Redirects.{is_redirect, is_source}
use Rattle.pl_base.specs.Rows.{first_id, id_behind}
use Rattle.pl_base.specs.Store.{Visit}
use Rattle.pl_base.proofs.ListLaws.{all-filter}
use Rattle.pl_stored.specs.declared.stored.StoredVisit.{StoredVisit}
use Rattle.pl_stored.specs.Stored.{visit_of}
use Rattle.pl_plain.specs.FlatRows.{flat_visit_ids}
use Rattle.pl_plain.specs.Targets.{is_other_from, is_redirect_from, target_among, targets_of}
use Rattle.pl_base.proofs.ListLaws.{find-map}
use Rattle.pl_base.proofs.Searches.{found_at, none_at, rises}

-- the first of those that pass a test
pub first_id-find : (q : Visit → Bool) (rows : List StoredVisit)
    → first_id (filter q (map visit_of rows))
    ≡ option_map (λ (v : StoredVisit). v.id) (find (λ (v : StoredVisit). q (visit_of v)) rows)
first_id-find q [] = refl
first_id-find q (row ∷ rows) =
    elim (q (visit_of row)) as (λ b. first_id (if b then visit_of row ∷ filter q (map visit_of rows)
    else filter q (map visit_of rows)) ≡ option_map (λ (v : StoredVisit). v.id)
    (if b then Some row else find (λ (v : StoredVisit). q (visit_of v)) rows))
    [ true ↦ refl | false ↦ first_id-find q rows ]

-- ---- the one behind

-- no visit has the id
abbrev Without : VisitId → List Visit → Type 0
Without id vs = AllByRecursion (λ (v : Visit). (v.id.0 == id.0) ≡ false) vs

Without-append : (id : VisitId) (vs ws : List Visit) → Without id vs → Without id ws → Without id (vs ++ ws)
Without-append id [] ws first second = second
Without-append id (v ∷ vs) ws first second = (first.0, Without-append id vs ws first.1 second)

behind_at : (id : VisitId) (front : List Visit) (v : Visit) (back : List Visit) → Without id front
    → (v.id.0 == id.0) ≡ true → id_behind id (front ++ v ∷ back) ≡ first_id back
behind_at id [] v back others here = rw here
behind_at id (w ∷ front) v back others here = rw others.0 (behind_at id front v back others.1 here)

came : (v : Visit) (source : VisitId) → v.source ≡ Some source → is_source source v.source ≡ true
came v source from = rw from (eq-eqb source.0 source.0 refl)

-- the target behind one that is a redirect, and behind one that is none
pub behind_among : (id source : VisitId) (front : List Visit) (v : Visit) (back : List Visit) → Without id front
    → (v.id.0 == id.0) ≡ true → Without id back → v.source ≡ Some source → (b : Bool) → is_redirect v.transition ≡ b
    → id_behind id (targets_of (front ++ v ∷ back) source)
    ≡ first_id (if b then filter (is_redirect_from source) back ++ filter (is_other_from source) (front ++ v ∷ back)
    else filter (is_other_from source) back)
behind_among id source front v back before here behind from true redirect =
    let r : Visit → Bool = is_redirect_from source in
    let others : List Visit = filter (is_other_from source) (front ++ v ∷ back) in
    let own : r v ≡ true = rw (redirect, came v source from) refl in
    let redirects : filter r (front ++ v ∷ back) ≡ filter r front ++ v ∷ filter r back =
    filter-append r front (v ∷ back)
    ∙ ap (λ b. filter r front ++ (if b then v ∷ filter r back else filter r back)) own in
    ap (λ vs. id_behind id (vs ++ others)) redirects
    ∙ ap (id_behind id) (append_assoc (filter r front) (v ∷ filter r back) others)
    ∙ behind_at id (filter r front) v (filter r back ++ others)
    (all-filter (λ (w : Visit). (w.id.0 == id.0) ≡ false) r front before) here
behind_among id source front v back before here behind from false other =
    let r : Visit → Bool = is_redirect_from source in
    let o : Visit → Bool = is_other_from source in
    let none : r v ≡ false = rw other refl in
    let own : o v ≡ true = rw (other, came v source from) refl in
    let redirects : filter r (front ++ v ∷ back) ≡ filter r front ++ filter r back =
    filter-append r front (v ∷ back)
    ∙ ap (λ b. filter r front ++ (if b then v ∷ filter r back else filter r back)) none in
    let others : filter o (front ++ v ∷ back) ≡ filter o front ++ v ∷ filter o back =
    filter-append o front (v ∷ back)
    ∙ ap (λ b. filter o front ++ (if b then v ∷ filter o back else filter o back)) own in
    let first : List Visit = filter r front ++ filter r back in
    let without : (q : Visit → Bool) (vs : List Visit) → Without id vs → Without id (filter q vs) =
    λ q vs all. all-filter (λ (w : Visit). (w.id.0 == id.0) ≡ false) q vs all in
    ap (λ vs. id_behind id (vs ++ filter o (front ++ v ∷ back))) redirects
    ∙ ap (λ vs. id_behind id (first ++ vs)) others
    ∙ ap (id_behind id) (sym (append_assoc first (filter o front) (v ∷ filter o back)))
    ∙ behind_at id (first ++ filter o front) v (filter o back)
    (Without-append id first (filter o front)
    (Without-append id (filter r front) (filter r back) (without r front before) (without r back behind))
    (without o front before)) here

-- ---- the target behind the one at a place

abbrev has : VisitId → StoredVisit → Bool
has id row = row.id.0 == id.0

-- the row at the place is the one that was looked for
found_row : (rows : List StoredVisit) (id : VisitId) (i : ℕ) (d : StoredVisit) → position (has id) rows ≡ Some i
    → find (λ (w : Visit). w.id.0 == id.0) (map visit_of rows) ≡ Some (visit_of (get_or rows i d))
found_row rows id i d at =
    let place = position-Some (has id) rows i d at in
    find-map (λ (w : Visit). w.id.0 == id.0) visit_of rows
    ∙ ap (option_map visit_of) (sym (found_at (has id) rows i at) ∙ slice_get-get_or rows i d place.0)

pub behind_none : (rows : List StoredVisit) (id : VisitId) → position (has id) rows ≡ None
    → None ≡ target_among (map visit_of rows) id
behind_none rows id none =
    rw (find-map (λ (w : Visit). w.id.0 == id.0) visit_of rows, ← none_at (has id) rows none) refl

pub behind_no_source : (rows : List StoredVisit) (id : VisitId) (i : ℕ) (d : StoredVisit)
    → position (has id) rows ≡ Some i → (get_or rows i d).source ≡ None → None ≡ target_among (map visit_of rows) id
behind_no_source rows id i d at none = rw (found_row rows id i d at, none) refl

-- the rows in front of a place, the one at it, and those behind
split_at : (rows : List StoredVisit) (i : ℕ) (d : StoredVisit) → i < length rows
    → map visit_of rows
    ≡ map visit_of (take i rows) ++ visit_of (get_or rows i d) ∷ map visit_of (drop (i + 1) rows)
split_at rows i d within =
    let next : suc i ≡ i + 1 = omega arith in
    let rest : drop i rows ≡ get_or rows i d ∷ drop (i + 1) rows =
    drop-cons rows i d within ∙ ap (λ n. get_or rows i d ∷ drop n rows) next in
    ap (map visit_of) (sym (take-append-drop i rows) ∙ ap (λ xs. take i rows ++ xs) rest)
    ∙ map-append visit_of (take i rows) (get_or rows i d ∷ drop (i + 1) rows)

without : (id : VisitId) (rows : List StoredVisit) → All (λ (v : StoredVisit). has id v ≡ false) rows
    → Without id (map visit_of rows)
without id rows all =
    recursion_from_All (λ (v : Visit). (v.id.0 == id.0) ≡ false) (map visit_of rows)
    (All-map (λ (v : Visit). (v.id.0 == id.0) ≡ false) visit_of rows all)

-- no row in front of the place has the id, and none behind
without_front : (rows : List StoredVisit) (id : VisitId) (i : ℕ) (d : StoredVisit) → position (has id) rows ≡ Some i
    → Without id (map visit_of (take i rows))
without_front rows id i d at =
    let place = position-Some (has id) rows i d at in
    without id (take i rows)
    (λ k e inside.
    let before : k < i = omega (arith, length-take-le i rows (omega (arith, place.0))) in
    ap (has id) (get_or-take i rows k e before ∙ get_or_default rows k e d (omega (arith, place.0)))
    ∙ place.2 k before)

without_back : (rows : List StoredVisit) (id : VisitId) (i : ℕ) (d : StoredVisit)
    → IsStrictlyIncreasing (flat_visit_ids rows) → position (has id) rows ≡ Some i
    → Without id (map visit_of (drop (i + 1) rows))
without_back rows id i d ascending at =
    let place = position-Some (has id) rows i d at in
    without id (drop (i + 1) rows)
    (λ k e inside.
    let within : i + 1 + k < length rows = omega (arith, length-drop (i + 1) rows) in
    ap (has id) (get_or-drop (i + 1) rows k e ∙ get_or_default rows (i + 1 + k) e d within)
    ∙ ne_eqb (get_or rows (i + 1 + k) d).id.0 id.0
    (λ same. omega (
      arith,
      eqb-true (get_or rows i d).id.0 id.0 place.1,
      rises (λ (w : StoredVisit). w.id.0) rows ascending i (i + 1 + k) d (omega arith) within,
    )))

pub behind_is : (rows : List StoredVisit) (id source : VisitId) (i : ℕ) (d : StoredVisit)
    → IsStrictlyIncreasing (flat_visit_ids rows) → position (has id) rows ≡ Some i
    → (get_or rows i d).source ≡ Some source → (b : Bool) → is_redirect (get_or rows i d).transition ≡ b
    → target_among (map visit_of rows) id
    ≡ first_id (if b then filter (is_redirect_from source) (map visit_of (drop (i + 1) rows))
    ++ filter (is_other_from source) (map visit_of rows)
    else filter (is_other_from source) (map visit_of (drop (i + 1) rows)))
behind_is rows id source i d ascending at from b redirect =
    let place = position-Some (has id) rows i d at in
    let v : Visit = visit_of (get_or rows i d) in
    let parts = split_at rows i d place.0 in
    rw (found_row rows id i d at, from)
    (ap (λ vs. id_behind id (targets_of vs source)) parts
    ∙ behind_among id source (map visit_of (take i rows)) v (map visit_of (drop (i + 1) rows))
    (without_front rows id i d at) place.1 (without_back rows id i d ascending at) from b redirect
    ∙ ap (λ vs. first_id (if b then filter (is_redirect_from source) (map visit_of (drop (i + 1) rows))
    ++ filter (is_other_from source) vs else filter (is_other_from source) (map visit_of (drop (i + 1) rows))))
    (sym parts))

-- the rest of a list, as a slice up to its end
pub whole_rest : {X : Type 0} (xs : List X) (n : ℕ) → take (length xs - n) (drop n xs) ≡ drop n xs
whole_rest xs n = take_all (length xs - n) (drop n xs) (omega (arith, length-drop n xs))
