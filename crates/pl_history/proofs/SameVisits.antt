-- What stays of a store without some visits depends on which visits go, and not on the order in
-- which they are named.
use Rattle.std.proofs.Common.{◌≡◌, ◌∙◌, Bool, List, [], ◌∷◌, Option, Some, None, ap, filter, map, not, if◌then◌else◌}
use Rattle.std.proofs.Common.{refl}
use Rattle.pl_base.specs.declared.id.VisitId.{VisitId}
use Rattle.pl_base.specs.Removal.{is_among, source_left, visit_left, visits_left, without_idle_pages, without_visits}
use Rattle.pl_base.specs.Store.{Store, Visit}
use Rattle.pl_base.proofs.ListLaws.{map-alike}

pub filter-alike : {X : Type 0} (p q : X → Bool) (xs : List X) → ((x : X) → p x ≡ q x) → filter p xs ≡ filter q xs
filter-alike p q [] alike = refl
filter-alike p q (x ∷ xs) alike = rw (alike x, filter-alike p q xs alike)

-- the same ids stand in both lists
abbrev pub AreSame : List VisitId → List VisitId → Type 0
AreSame gone other = (id : VisitId) → is_among gone id ≡ is_among other id

source_same : (gone other : List VisitId) → AreSame gone other → (source : Option VisitId)
    → source_left gone source ≡ source_left other source
source_same gone other same None = refl
source_same gone other same (Some id) =
    ap (λ (b : Bool). if b then None else Some id) (same id)

visit_same : (gone other : List VisitId) → AreSame gone other → (v : Visit) → visit_left gone v ≡ visit_left other v
visit_same gone other same v =
    ap (λ (source : Option VisitId). record v { source = source }) (source_same gone other same v.source)

left_same : (gone other : List VisitId) (visits : List Visit) → AreSame gone other
    → visits_left gone visits ≡ visits_left other visits
left_same gone other visits same =
    ap (map (visit_left gone))
    (filter-alike (λ (v : Visit). not (is_among gone v.id)) (λ (v : Visit). not (is_among other v.id)) visits
    (λ v. ap not (same v.id)))
    ∙ map-alike (visit_left gone) (visit_left other) (filter (λ (v : Visit). not (is_among other v.id)) visits)
    (visit_same gone other same)

pub without_same : (gone other : List VisitId) (store : Store) → AreSame gone other
    → without_visits gone store ≡ without_visits other store
without_same gone other store same =
    ap (λ (visits : List Visit). without_idle_pages (record store { visits = visits }))
    (left_same gone other store.visits same)
