-- The latest of some visits, found from the last visit to the first.
use Rattle.std.proofs.Common.{Bor, ◌≡◌, ◌++◌, Bool, true, false, List, [], ◌∷◌, Option}
use Rattle.std.proofs.Common.{Some, if◌then◌else◌, filter, map, reverse, refl, ◌∙◌, sym, ap}
use Rattle.std.specs.Option.{option_map}
use Rattle.std.proofs.lemmas.List.{append-nil, map-append, reverse-append, reverse-reverse}
use Rattle.std.proofs.lemmas.List.Elements.{filter-append}
use Rattle.pl_base.specs.declared.id.PageId.{PageId}
use Rattle.pl_base.specs.Store.{Visit}
use Rattle.pl_base.specs.Visits.{in_place, is_later, latest_first}
use Rattle.pl_stored.specs.declared.stored.StoredVisit.{StoredVisit}
use Rattle.pl_stored.specs.Stored.{visit_of}
use Rattle.pl_plain.specs.Latest.{first_of, is_within, later_of}

first_of-in_place : (v : Visit) (ws : List Visit) → Some (later_of v (first_of ws)) ≡ first_of (in_place v ws)
first_of-in_place v [] = refl
first_of-in_place v (w ∷ ws) =
    elim (is_later v w) as (λ b. Some (if b then v else w) ≡ first_of (if b then v ∷ w ∷ ws else w ∷ in_place v ws))
    [ true ↦ refl | false ↦ refl ]

-- the rows that were walked, in the order in which they stand
abbrev pub walked : List (Bor StoredVisit) → List StoredVisit
walked seen = reverse (map (λ (row : Bor StoredVisit). row.now) seen)

walked-push : (seen : List (Bor StoredVisit)) (row : Bor StoredVisit)
    → walked (seen ++ row ∷ []) ≡ row.now ∷ walked seen
walked-push seen row =
    rw (
      map-append (λ (row : Bor StoredVisit). row.now) seen (row ∷ []),
      reverse-append (map (λ (row : Bor StoredVisit). row.now) seen) (row.now ∷ []),
    )

-- one row more
pub latest_more : (seen : List (Bor StoredVisit)) (row : Bor StoredVisit) (latest : Option StoredVisit)
    (new : StoredVisit) → option_map visit_of latest ≡ first_of (latest_first (map visit_of (walked seen)))
    → visit_of new ≡ later_of (visit_of row.now) (option_map visit_of latest)
    → Some (visit_of new) ≡ first_of (latest_first (map visit_of (walked (seen ++ row ∷ []))))
latest_more seen row latest new so_far later =
    rw (walked-push seen row)
    (ap (λ (v : Visit). Some v) (later ∙ ap (later_of (visit_of row.now)) so_far)
    ∙ first_of-in_place (visit_of row.now) (latest_first (map visit_of (walked seen))))

filter_end : {X : Type 0} (b : Bool) (x : X) (ys : List X)
    → reverse ys ++ (if b then x ∷ [] else []) ≡ reverse (if b then x ∷ ys else ys)
filter_end true x ys = sym (reverse-append (x ∷ []) ys)
filter_end false x ys = append-nil (reverse ys)

filter-reverse : {X : Type 0} (p : X → Bool) (xs : List X) → filter p (reverse xs) ≡ reverse (filter p xs)
filter-reverse p [] = refl
filter-reverse p (x ∷ xs) =
    ap (filter p) (reverse-append (x ∷ []) xs) ∙ filter-append p (reverse xs) (x ∷ [])
    ∙ ap (λ ys. ys ++ filter p (x ∷ [])) (filter-reverse p xs) ∙ filter_end (p x) x (filter p xs)

abbrev pub is_row_within : PageId → Option Visit → StoredVisit → Bool
is_row_within page limit row = is_within page limit (visit_of row)

map_at : (b : Bool) (row : StoredVisit) (rows : List StoredVisit) (vs : List Visit) → map visit_of rows ≡ vs
    → map visit_of (if b then row ∷ rows else rows) ≡ (if b then visit_of row ∷ vs else vs)
map_at true row rows vs e = ap (λ ws. visit_of row ∷ ws) e
map_at false row rows vs e = e

map-filter : (page : PageId) (limit : Option Visit) (rows : List StoredVisit)
    → map visit_of (filter (is_row_within page limit) rows) ≡ filter (is_within page limit) (map visit_of rows)
map-filter page limit [] = refl
map-filter page limit (row ∷ rows) =
    map_at (is_row_within page limit row) row (filter (is_row_within page limit) rows)
    (filter (is_within page limit) (map visit_of rows)) (map-filter page limit rows)

-- all rows that are within
pub latest_all : (page : PageId) (limit : Option Visit) (rows : List StoredVisit) (seen : List (Bor StoredVisit))
    → map (λ (row : Bor StoredVisit). row.now) seen ≡ filter (is_row_within page limit) (reverse rows)
    → first_of (latest_first (map visit_of (walked seen)))
    ≡ first_of (latest_first (filter (is_within page limit) (map visit_of rows)))
latest_all page limit rows seen all =
    let whole : walked seen ≡ filter (is_row_within page limit) rows =
    ap reverse (all ∙ filter-reverse (is_row_within page limit) rows)
    ∙ reverse-reverse (filter (is_row_within page limit) rows) in
    ap (λ rows. first_of (latest_first (map visit_of rows))) whole
    ∙ ap (λ vs. first_of (latest_first vs)) (map-filter page limit rows)
