-- What a text begins with.
use Rattle.std.proofs.Common.{◌≡◌, ◌∙◌, ◌∷◌, ap, arith, length, List, None, Some, ℕ}
use Rattle.std.proofs.lemmas.Str.Pattern.{strip_prefix_char}
use Rattle.pl_nbread.specs.Tokens.{is_less}
use Rattle.pl_nbread.proofs.ScanParts.{run_seen, run_shorter}
use Rattle.pl_nbread.proofs.ScanSteps.{less_only, same_behind, same_front}
use Rattle.pl_nbread.proofs.TokenLaws.{front_shorter}
use Rattle.pl_nbread.proofs.part.next_part.Goals as goal

pub returns-in-Some-clause-shorter : goal.returns-in-Some-clause-shorter
returns-in-Some-clause-shorter c =
    let behind : List ℕ = c.in-Some.behind.now in
    let is : c.args.text.now ≡ 60 ∷ behind =
    strip_prefix_char 60 c.args.text.now (Some c.in-Some.behind) c.in-Some.ensures.cases (omega arith) in
    omega (arith, front_shorter 60 behind, ap length c.tag_or_text.ensures.behind, ap length is)

pub returns-clause-part : goal.returns-clause-part
returns-clause-part c b bytes is =
    let text : List ℕ = c.args.text.now in
    (run_seen text c.cut.result.0 c.cut.result.1
    (strip_prefix_char 60 text None c.in_default.ensures.cases (omega arith))
    (c.cut.ensures.front ∙ same_front _ is_less less_only text)
    (c.cut.ensures.behind ∙ same_behind _ is_less less_only text) b bytes is).part

pub returns-clause-behind : goal.returns-clause-behind
returns-clause-behind c b bytes is =
    let text : List ℕ = c.args.text.now in
    (run_seen text c.cut.result.0 c.cut.result.1
    (strip_prefix_char 60 text None c.in_default.ensures.cases (omega arith))
    (c.cut.ensures.front ∙ same_front _ is_less less_only text)
    (c.cut.ensures.behind ∙ same_behind _ is_less less_only text) b bytes is).behind

pub returns-clause-shorter : goal.returns-clause-shorter
returns-clause-shorter c =
    let text : List ℕ = c.args.text.now in
    run_shorter text c.cut.result.1.now c.requires.some
    (strip_prefix_char 60 text None c.in_default.ensures.cases (omega arith))
    (c.cut.ensures.behind ∙ same_behind _ is_less less_only text)
