use Rattle.std.proofs.Common.{◌≡◌, ◌<◌, ◌^◌, ◌∙◌, ◌||◌, Bool, List, ap, filter, length, map, rules, subst, sym, take, w64}
use mir.Val.{of_z, to_z}
use Rattle.std.proofs.lemmas.Int.{to_z-of_z}
use Rattle.std.specs.List.{count_by}
use Rattle.pl_base.specs.Address.{is_place_url}
use Rattle.pl_base.specs.Frecency.{frecency_from, frecency_of}
use Rattle.pl_base.specs.Marks.{is_counted, is_hidden, is_referenced, visit_count}
use Rattle.pl_base.specs.Visits.{sample_of, sample_size}
use Rattle.pl_score.specs.Sample.{points_of, sampled_of}
use Rattle.pl_sound.specs.Marks.{are_unseen, told_sample}
use Rattle.pl_sound.specs.Visits.{of_page}
use Rattle.pl_link.proofs.PlaceUrls.{place_told}
use Rattle.pl_score.proofs.StoreSamples.{small_bonuses}
use Rattle.pl_sound.proofs.RightMarks.{count_is, few_own, hidden_is, sample_is, score_is}
use Rattle.pl_stored.specs.declared.stored.StoredPage.{StoredPage}
use Rattle.pl_stored.specs.declared.stored.StoredVisit.{StoredVisit}
use Rattle.pl_stored.specs.Stored.{Stored, stored_page, stored_store}
use Rattle.pl_sound.proofs.marks.mark.Goals as goal
use Rattle.pl_sound.proofs.marks.mark.Goals.{After-deref, then-is_place, else-is_place}

pub visit_count-count-requires : goal.visit_count-count-requires
visit_count-count-requires c =
    subst (λ (vs : List StoredVisit). length vs < 2 ^ 32) (sym c.of_page-visits.ensures)
    (few_own c.args.rows.now c.args.sources.now.visits c.requires.sources.visits c.args.page.now.id c.requires.few)

-- whether an item has the page
refers : (c : After-deref)
    → c.has-is_referenced.result ≡ is_referenced (stored_store c.args.rows.now) c.args.page.now.id
refers c = c.has-is_referenced.ensures c.args.rows.now.items c.requires.sources.references

-- what its sample counts
sample : (c : After-deref) → c.in_ok-sampled.sampled.items
    ≡ map (sampled_of (stored_store c.args.rows.now)) (sample_of (stored_store c.args.rows.now) c.args.page.now.id)
sample c =
    c.in_ok-sampled.ensures
    ∙ ap (λ (rows : Stored). map (told_sample rows c.has-is_referenced.result) (take sample_size c.of_page-visits.result.now))
    c.requires.sources.redirects
    ∙ ap (λ (vs : List StoredVisit). map (told_sample c.args.rows.now c.has-is_referenced.result) (take sample_size vs))
    c.of_page-visits.ensures
    ∙ sample_is c.args.rows.now c.args.sources.now.visits c.requires.sources.visits c.args.page.now.id
    c.has-is_referenced.result (refers c)

-- how many visits count
counted : (c : After-deref)
    → c.visit_count-count.result ≡ visit_count (stored_store c.args.rows.now) c.args.page.now.id
counted c =
    c.visit_count-count.ensures
    ∙ ap (count_by (λ (v : StoredVisit). is_counted v.transition)) c.of_page-visits.ensures
    ∙ count_is c.args.rows.now c.args.sources.now.visits c.requires.sources.visits c.args.page.now.id

pub score-frecency-requires-clause-bonuses : goal.score-frecency-requires-clause-bonuses
score-frecency-requires-clause-bonuses c =
    small_bonuses (stored_store c.args.rows.now) (sample_of (stored_store c.args.rows.now) c.args.page.now.id)
    c.deref.result.now (c.deref.ensures.value ∙ sample c.before.before)

pub returns : goal.returns
returns c =
    let s : After-deref = c.before.before.before.before.before in
    let rows : Stored = c.args.rows.now in
    let p : StoredPage = c.args.page.now in
    let place : c.is_place-is_place.result ≡ is_place_url p.url =
    place_told p.url c.is_place-is_place.result c.is_place-is_place.ensures in
    let frecency : to_z w64 (of_z w64 c.score-frecency.result) ≡ frecency_of (stored_store rows) (stored_page p) =
    to_z-of_z w64 c.score-frecency.result (search rules)
    ∙ c.score-frecency.ensures
    ∙ ap (λ (r : Stored). frecency_from (points_of r.day c.deref.result.now) (length c.deref.result.now)
    c.visit_count-count.result c.has-is_referenced.result p.typed c.is_place-is_place.result) c.rows.view_is
    ∙ score_is rows p c.deref.result.now c.visit_count-count.result c.has-is_referenced.result
    c.is_place-is_place.result (c.deref.ensures.value ∙ sample s) (counted s) (refers s) place in
    let count : c.visit_count-count.result ≡ visit_count (stored_store rows) p.id = counted s in
    let sorted : List StoredVisit = c.args.sources.now.visits in
    let own : List StoredVisit = filter (of_page p.id) sorted in
    let as_hidden : (is_place_url p.url || are_unseen rows own) ≡ is_hidden (stored_store rows) (stored_page p) =
    sym (hidden_is rows sorted c.requires.sources.visits p) in
    let hidden : c.if-is_place.result ≡ is_hidden (stored_store rows) (stored_page p) =
    elim c.if-is_place.branch [
      | then-is_place w ↦
          w.result-is ∙ w.if-is_place.true
          ∙ ap (λ (b : Bool). b || are_unseen rows own) (sym w.if-is_place.true ∙ place) ∙ as_hidden
      | else-is_place w ↦
          w.result-is ∙ w.are_unseen.ensures
          ∙ ap (λ (r : Stored). are_unseen r c.of_page-visits.result.now) c.requires.sources.redirects
          ∙ ap (are_unseen rows) c.of_page-visits.ensures
          ∙ ap (λ (b : Bool). b || are_unseen rows own) (sym w.if-is_place.false ∙ place) ∙ as_hidden
    ] in
    λ i. record { frecency = frecency i; count = count i; typed = p.typed; hidden = hidden i }
