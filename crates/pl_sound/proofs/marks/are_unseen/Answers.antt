use Rattle.std.proofs.Common.{◌≡◌, ◌&&◌, ◌∙◌, Bool, ap, not, rules, sym, tests}
use Rattle.std.specs.List.{list_all}
use Rattle.std.proofs.lemmas.Iterator.{YieldsList-from_slice}
use Rattle.std.proofs.lemmas.Iterator.Search.{all_from_yields_List}
use Rattle.pl_sound.specs.Marks.{is_unseen}
use Rattle.pl_sound.proofs.marks.are_unseen.Goals as goal

pub returns-then-not-is_empty : goal.returns-then-not-is_empty
returns-then-not-is_empty c =
    let test = is_unseen c.args.redirects.now in
    let all : c.all.result ≡ list_all test c.args.visits.now =
    all_from_yields_List test _ _ c.all.result c.all.ensures.ran (YieldsList-from_slice c.args.visits.now cc)
    (λ x b q k. search (rules, tests)) in
    all
    ∙ ap (λ (b : Bool). not b && list_all test c.args.visits.now) (sym c.if-not-is_empty.true ∙ c.is_empty.ensures)
