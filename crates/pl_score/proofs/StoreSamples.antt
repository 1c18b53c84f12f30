-- Samples of visits of a store.
use Rattle.std.proofs.Common.{◌≡◌, ◌≤◌, All, List, get_or, length, map, refl}
use Rattle.std.specs.List.{sum_by}
use Rattle.std.proofs.lemmas.List.{length-map}
use Rattle.std.proofs.lemmas.List.Elements.{All-map}
use Rattle.pl_base.specs.Address.{is_place_url}
use Rattle.pl_base.specs.Frecency.{frecency_from, frecency_of, points, visit_bonus}
use Rattle.pl_base.specs.Marks.{is_referenced, visit_count}
use Rattle.pl_base.specs.Redirects.{is_redirect_source, source_transition}
use Rattle.pl_base.specs.Store.{Page, Store, Visit}
use Rattle.pl_base.specs.Tables.{greatest_bonus}
use Rattle.pl_base.specs.Visits.{sample_of}
use Rattle.pl_base.proofs.ListLaws.{map-map, sum_by-map}
use Rattle.pl_base.proofs.TablesLaws.{bonus_of-le}
use Rattle.pl_score.specs.declared.sample.Sampled.{Sampled}
use Rattle.pl_score.specs.Sample.{dates_of, points_of, sampled_of}

pub sampled-small : (store : Store) (vs : List Visit)
    → All (λ (s : Sampled). s.bonus ≤ greatest_bonus) (map (sampled_of store) vs)
sampled-small store vs =
    All-map (λ (s : Sampled). s.bonus ≤ greatest_bonus) (sampled_of store) vs
    (λ k d within.
    let v : Visit = get_or vs k d in
    bonus_of-le v.transition (source_transition store v) (is_redirect_source store v) (is_referenced store v.page))

pub small_bonuses : (store : Store) (vs : List Visit) (sampled : List Sampled)
    → sampled ≡ map (sampled_of store) vs
    → All (λ (s : Sampled). s.bonus ≤ greatest_bonus) sampled
small_bonuses store vs sampled is = rw is (sampled-small store vs)

points_of-sampled : (store : Store) (vs : List Visit)
    → points_of store.day (map (sampled_of store) vs)
    ≡ sum_by (λ (v : Visit). points store.day v.date (visit_bonus store v)) vs
points_of-sampled store vs = sum_by-map (λ (s : Sampled). points store.day s.date s.bonus) (sampled_of store) vs

pub dates_of-sampled : (store : Store) (vs : List Visit)
    → dates_of (map (sampled_of store) vs) ≡ map (λ (v : Visit). v.date) vs
dates_of-sampled store vs = map-map (λ (s : Sampled). s.date) (sampled_of store) vs

-- the frecency of a page is what its sample scores
pub frecency-sampled : (store : Store) (p : Page)
    → frecency_from (points_of store.day (map (sampled_of store) (sample_of store p.id)))
    (length (map (sampled_of store) (sample_of store p.id))) (visit_count store p.id) (is_referenced store p.id)
    p.typed (is_place_url p.url)
    ≡ frecency_of store p
frecency-sampled store p =
    rw (points_of-sampled store (sample_of store p.id), length-map (sample_of store p.id) (sampled_of store)) refl
