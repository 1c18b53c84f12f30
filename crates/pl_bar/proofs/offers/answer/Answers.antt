use Rattle.std.proofs.Common.{◌≡◌, ◌∙◌, ◌+◌, ◌≤◌, List, ap, filter, length, map, reverse, subst, sym}
use Rattle.std.specs.Iterator.Adapters.{rev_source}
use Rattle.std.specs.List.{sum_by}
use Rattle.std.proofs.lemmas.Result.{IfOk-weaker}
use Rattle.pl_base.specs.Rows.{store_of}
use Rattle.pl_base.specs.Store.{Page, Store}
use Rattle.pl_words.specs.Bar.{AreTokens}
use Rattle.pl_bar.specs.AddressBar.{offered}
use Rattle.pl_bar.specs.Cost.{FillsFirst, gone_through, offering_cost, page_cost}
use Rattle.pl_bar.specs.Offers.{filled_up, ids_of}
use Rattle.pl_bar.proofs.OffersFound.{all_counted, answered, cost_told, first_tier_is, id_of, ids_joined}
use Rattle.pl_bar.proofs.OffersFound.{negative_counted, negative_ids, offered_is, positive_counted, positive_ids}
use Rattle.pl_bar.proofs.SketchedPages.{are_sketched}
use Rattle.pl_bar.proofs.WalkedPages.{in_order, is_negative, is_positive}
use Rattle.pl_bar.proofs.offers.answer.Given.{Over}
use Rattle.pl_bar.proofs.offers.answer.Goals as goal
use Rattle.pl_bar.proofs.offers.answer.Goals.{After-ahead-positive, After-behind-negative, After-of-asked}

-- what is asked is what the text says
are_tokens : (g : Over) (c : After-of-asked g) → AreTokens c.in_ok-folded.folded c.of-asked.result.text
are_tokens g c = subst (AreTokens c.in_ok-folded.folded) (sym c.of-asked.ensures) c.in_ok-tokens.ensures

-- the ids of the first walk
ones : (g : Over) (c : After-ahead-positive g)
    → ids_of (rev_source c.ahead-positive.result)
    ≡ map id_of (filter (is_positive (store_of (g.R.Rows.kept c.args.rows.now)))
    (in_order (store_of (g.R.Rows.kept c.args.rows.now))))
ones g c =
    positive_ids (g.R.Rows.kept c.args.rows.now) (g.met.R.Rows.well_kept c.args.rows.now) c.of-asked.result.text
    c.requires.following.views c.requires.following.told (rev_source c.ahead-positive.result)
    (c.ahead-positive.ensures.order c.requires.following.views c.requires.following.ordered)

-- and those of the second
others : (g : Over) (c : After-behind-negative g)
    → ids_of (rev_source c.behind-negative.result)
    ≡ map id_of (filter (is_negative (store_of (g.R.Rows.kept c.args.rows.now)))
    (in_order (store_of (g.R.Rows.kept c.args.rows.now))))
others g c =
    negative_ids (g.R.Rows.kept c.args.rows.now) (g.met.R.Rows.well_kept c.args.rows.now) c.of-asked.result.text
    c.requires.following.views c.requires.following.told (rev_source c.behind-negative.result)
    (c.behind-negative.ensures.order c.requires.following.views c.requires.following.ordered)

pub go_on-requires-clause-counted : goal.go_on-requires-clause-counted
go_on-requires-clause-counted g c =
    all_counted (g.R.Rows.kept c.args.rows.now) (g.met.R.Rows.well_kept c.args.rows.now) c.of-asked.result.text
    (is_positive (store_of (g.R.Rows.kept c.args.rows.now)))
    (positive_counted (g.R.Rows.kept c.args.rows.now) (g.met.R.Rows.well_kept c.args.rows.now) c.of-asked.result.text)
    (ids_of (rev_source c.ahead-positive.result))
    (ones g (goal.at.go_on-requires-clause-counted g c).After-ahead-positive)

pub go_on-requires-2-clause-counted : goal.go_on-requires-2-clause-counted
go_on-requires-2-clause-counted g c =
    all_counted (g.R.Rows.kept c.args.rows.now) (g.met.R.Rows.well_kept c.args.rows.now) c.of-asked.result.text
    (is_negative (store_of (g.R.Rows.kept c.args.rows.now)))
    (negative_counted (g.R.Rows.kept c.args.rows.now) (g.met.R.Rows.well_kept c.args.rows.now) c.of-asked.result.text)
    (ids_of (rev_source c.behind-negative.result))
    (others g (goal.at.go_on-requires-2-clause-counted g c).After-behind-negative)

pub go_on-requires-clause-sketched : goal.go_on-requires-clause-sketched
go_on-requires-clause-sketched g c =
    are_sketched c.args.texts.now c.requires.following.views c.requires.following.kept _
    (reverse (rev_source c.ahead-positive.result))
    (c.ahead-positive.ensures.order c.requires.following.views c.requires.following.ordered)

pub go_on-requires-2-clause-sketched : goal.go_on-requires-2-clause-sketched
go_on-requires-2-clause-sketched g c =
    are_sketched c.args.texts.now c.requires.following.views c.requires.following.kept _
    (reverse (rev_source c.behind-negative.result))
    (c.behind-negative.ensures.order c.requires.following.views c.requires.following.ordered)

pub returns-clause-offered : goal.returns-clause-offered
returns-clause-offered g c =
    let store : Store = store_of (g.R.Rows.kept c.args.rows.now) in
    IfOk-weaker c.joined.result
    (λ pages. pages.items
    ≡ filled_up c.go_on-2.new.self.max c.go_on-2.new.self.first.items c.go_on-2.new.self.second.items)
    (λ pages. pages.items ≡ map id_of (offered store c.args.text.now c.args.max))
    (λ pages is. is
    ∙ answered (g.R.Rows.kept c.args.rows.now) (g.met.R.Rows.well_kept c.args.rows.now) c.of-asked.result.text c.args.max
    c.new-offers.result c.go_on.new.self c.go_on-2.new.self (ids_of (rev_source c.ahead-positive.result))
    (ids_of (rev_source c.behind-negative.result)) c.new-offers.ensures.max c.new-offers.ensures.first
    c.new-offers.ensures.second c.in_ok-go_on.ensures.goes_on c.in_ok-go_on-2.ensures.goes_on
    (ids_joined (g.R.Rows.kept c.args.rows.now) (g.met.R.Rows.well_kept c.args.rows.now) c.of-asked.result.text
    (ids_of (rev_source c.ahead-positive.result)) (ids_of (rev_source c.behind-negative.result))
    (ones g (goal.at.returns-clause-offered g c).After-ahead-positive)
    (others g (goal.at.returns-clause-offered g c).After-behind-negative))
    ∙ ap (map id_of) (offered_is store c.args.text.now c.in_ok-folded.folded c.of-asked.result.text c.args.max
    c.in_ok-folded.ensures (are_tokens g (goal.at.returns-clause-offered g c).After-of-asked)))
    c.joined.ensures

pub returns-clause-cost : goal.returns-clause-cost
returns-clause-cost g c =
    let store : Store = store_of (g.R.Rows.kept c.args.rows.now) in
    IfOk-weaker c.joined.result
    (λ pages. pages.items
    ≡ filled_up c.go_on-2.new.self.max c.go_on-2.new.self.first.items c.go_on-2.new.self.second.items)
    (λ _. FillsFirst store c.args.text.now c.args.max
    → c.go_on-2.new.steps ≤ c.args.steps.now + offering_cost store c.args.text.now c.args.max)
    (λ pages is fills.
    subst (λ (pages : List Page). c.go_on-2.new.steps
    ≤ c.args.steps.now + sum_by (λ (p : Page). page_cost store p.id) (gone_through store pages))
    (offered_is store c.args.text.now c.in_ok-folded.folded c.of-asked.result.text c.args.max
    c.in_ok-folded.ensures (are_tokens g (goal.at.returns-clause-cost g c).After-of-asked))
    (cost_told (g.R.Rows.kept c.args.rows.now) (g.met.R.Rows.well_kept c.args.rows.now) c.of-asked.result.text c.args.max
    c.new-offers.result c.go_on.new.self c.go_on-2.new.self (ids_of (rev_source c.ahead-positive.result))
    (ids_of (rev_source c.behind-negative.result)) c.new-offers.ensures.max c.new-offers.ensures.first
    c.new-offers.ensures.second c.in_ok-go_on.ensures.goes_on c.in_ok-go_on-2.ensures.goes_on
    (ids_joined (g.R.Rows.kept c.args.rows.now) (g.met.R.Rows.well_kept c.args.rows.now) c.of-asked.result.text
    (ids_of (rev_source c.ahead-positive.result)) (ids_of (rev_source c.behind-negative.result))
    (ones g (goal.at.returns-clause-cost g c).After-ahead-positive)
    (others g (goal.at.returns-clause-cost g c).After-behind-negative)) c.args.steps.now c.go_on.new.steps
    c.go_on-2.new.steps c.in_ok-go_on.ensures.cost c.in_ok-go_on-2.ensures.cost
    (subst (λ (pages : List Page). c.args.max ≤ length pages)
    (sym (first_tier_is store c.args.text.now c.in_ok-folded.folded c.of-asked.result.text c.in_ok-folded.ensures
    (are_tokens g (goal.at.returns-clause-cost g c).After-of-asked))) fills)))
    c.joined.ensures
