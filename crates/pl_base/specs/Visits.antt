-- The visits of a page, and the sample of them that its frecency is computed from.
use Rattle.std.specs.Prelude.{◌&&◌, ◌||◌, ◌==◌, ℕ, Bool, List, [], ◌∷◌, nat_lt, take, if◌then◌else◌}
use Rattle.std.specs.List.{filter}
use Rattle.pl_base.specs.declared.id.PageId.{PageId}
use Rattle.pl_base.specs.Store.{Store, Visit}

-- a visit of a later date, or of the same date and a greater id
abbrev pub is_later : Visit → Visit → Bool
is_later v w =
    nat_lt w.date.0 v.date.0 || ((w.date.0 == v.date.0) && nat_lt w.id.0 v.id.0)

-- a visit put into its place among visits that stand latest first
abbrev pub in_place : Visit → List Visit → List Visit
in_place v [] = v ∷ []
in_place v (w ∷ ws) = if is_later v w then v ∷ w ∷ ws else w ∷ in_place v ws

-- the visits sorted, the latest first
abbrev pub latest_first : List Visit → List Visit
latest_first [] = []
latest_first (v ∷ vs) = in_place v (latest_first vs)

-- the visits of a page
abbrev pub visits_of : Store → PageId → List Visit
visits_of store page = filter (λ v. v.page.0 == page.0) store.visits

-- the visits of a full sample
abbrev pub sample_size : ℕ
sample_size = 10

-- its latest visits, as many as a sample has
abbrev pub sample_of : Store → PageId → List Visit
sample_of store page = take sample_size (latest_first (visits_of store page))
