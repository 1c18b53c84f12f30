use Rattle.std.proofs.Common.{◌≡◌, ◌∙◌, List, ℕ}
use Rattle.std.proofs.lemmas.Result.{IfOk-weaker}
use Rattle.places.specs.Drilling.{so_far, summary_of}
use Rattle.places.proofs.DrillLemmas.{summary_is}
use Rattle.places.proofs.drill.Drilling.summary.Goals as goal

pub returns : goal.returns
returns c =
    IfOk-weaker c.summary_text.result _ (λ (text : List ℕ). text ≡ summary_of c.args.count (so_far c.args.self))
    (λ text is. is ∙ summary_is c.args.count c.args.self c.as_str.result.now c.requires.limit
    (c.as_str.ensures ∙ c.in_ok-stats.ensures)) c.summary_text.ensures
