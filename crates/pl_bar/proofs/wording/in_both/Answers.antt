use Rattle.std.proofs.Common.{◌∙◌}
use Rattle.pl_bar.specs.Standings as spec
use Rattle.pl_words.specs.Pieces.{found}
use Rattle.pl_words.proofs.FoundLaws.{found_somewhere}
use Rattle.pl_bar.proofs.WordStandings.{titles_somewhere, worse_of}
use Rattle.pl_bar.proofs.wording.in_both.Goals as goal

pub returns : goal.returns
returns c =
    c.min.ensures
    ∙ worse_of c.in_titles-in_titles.result c.standing.result
    (λ boundary. spec.in_titles c.args.texts.now boundary c.args.word.now)
    (λ boundary. found boundary c.args.word.now c.args.texts.now.address) c.in_titles-in_titles.ensures
    c.standing.ensures (titles_somewhere c.args.texts.now c.args.word.now)
    (found_somewhere c.args.word.now c.args.texts.now.address)
