-- The due day of a page.
use Rattle.std.proofs.Common.{◌≡◌, ◌∙◌, List, Option, ap, map, subst, take}
use Rattle.pl_base.specs.declared.date.Day.{Day}
use Rattle.pl_base.specs.declared.date.Micros.{Micros}
use Rattle.pl_base.specs.declared.id.PageId.{PageId}
use Rattle.pl_base.specs.Due.{IsDue, IsFirstDay, some_weighs_anew}
use Rattle.pl_base.specs.Rows.{Kept, page_visits, store_of}
use Rattle.pl_base.specs.Store.{Store, Visit}
use Rattle.pl_base.specs.Visits.{sample_of, sample_size}
use Rattle.pl_score.specs.declared.sample.Sampled.{Sampled}
use Rattle.pl_score.specs.Sample.{dates_of, sampled_of}
use Rattle.pl_score.proofs.StoreSamples.{dates_of-sampled}

-- it is the first day of its sample
pub due_is : (kept : Kept) (page : PageId) (sample : List Sampled) (day : Day) (due : Option Day)
    → sample ≡ map (sampled_of (store_of kept)) (take sample_size (page_visits kept page)) → day ≡ kept.day
    → IsFirstDay (some_weighs_anew (dates_of sample)) day due → IsDue (store_of kept) page due
due_is kept page sample day due is today first =
    let store : Store = store_of kept in
    let dates : dates_of sample ≡ map (λ (v : Visit). v.date) (sample_of store page) =
    ap dates_of is ∙ dates_of-sampled store (sample_of store page) in
    subst (λ (d : Day). IsFirstDay (some_weighs_anew (map (λ (v : Visit). v.date) (sample_of store page))) d due) today
    (subst (λ (ds : List Micros). IsFirstDay (some_weighs_anew ds) day due) dates first)
