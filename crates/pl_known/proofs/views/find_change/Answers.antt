use Rattle.std.proofs.Common.{◌≡◌, ◌==◌, ◌∙◌, ap, rules, sym}
use Rattle.std.specs.List.{position}
use Rattle.std.specs.Option.{option_copied}
use Rattle.std.proofs.lemmas.List.Sorted.{answers_always}
use Rattle.pl_base.specs.declared.change.Change.{Change}
use Rattle.pl_base.proofs.Searches.{found_at, got_at, none_at, place_searched}
use Rattle.pl_known.specs.Changes.{id_of}
use Rattle.pl_known.proofs.PutViews.{increasing}
use Rattle.pl_known.proofs.views.find_change.Goals as goal
use Rattle.pl_known.proofs.views.find_change.Goals.{After-ok}

-- the place of the id
searched : (c : After-ok) → c.ok.result ≡ position (λ (x : Change). id_of x == c.args.id.0) c.args.changes.now
searched c =
    let facts = c.binary_search_by_key.ensures in
    c.ok.ensures.value
    ∙ place_searched (λ (x : Change). id_of x) c.args.changes.now
    (increasing (λ (x : Change). id_of x) c.args.changes.now c.requires.ids) c.args.id.0 c.binary_search_by_key.result
    facts.bound
    (facts.position (λ (x : Change). id_of x) (answers_always _ _ _ (λ f a r g called. search rules)))

pub returns-in_err-place : goal.returns-in_err-place
returns-in_err-place c =
    ap option_copied c.from_residual.ensures
    ∙ none_at (λ (x : Change). id_of x == c.args.id.0) c.args.changes.now
    (sym (searched c.before.before.before) ∙ c.in_err-place.was)

pub returns : goal.returns
returns c =
    got_at c.args.changes.now c.in_ok-place.place c.get.result c.get.ensures.lookup.3
    ∙ found_at (λ (x : Change). id_of x == c.args.id.0) c.args.changes.now c.in_ok-place.place
    (sym (searched c.before.before.before) ∙ c.in_ok-place.was)
