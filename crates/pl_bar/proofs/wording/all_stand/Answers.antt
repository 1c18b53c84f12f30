use Rattle.std.proofs.Common.{◌≡◌, ◌+◌, ◌∙◌, ap, arith, rules, take}
use Rattle.pl_bar.specs.Standings.{all_in, standing_by}
use Rattle.pl_bar.proofs.WordStandings.{none_stands, one_more}
use Rattle.pl_bar.proofs.wording.all_stand.Goals as goal
use Rattle.pl_bar.proofs.wording.all_stand.Goals.{After-eq}

-- one word more
with_word : (c : After-eq)
    → c.min-worst.result
    ≡ standing_by (all_in c.args.texts.now c.args.asked.now.marks
    (take (c.loop-word.word-index + 1) c.as_slice-word-items.result.now))
with_word c =
    c.min-worst.ensures
    ∙ one_more c.args.texts.now c.args.asked.now.marks c.as_slice-word-items.result.now c.loop-word.word-index
    (omega arith) c.loop-word.worst c.one_stands.result c.word-item.result c.word-item.is c.loop-word.invariant
    c.one_stands.ensures

pub returns-then-eq : goal.returns-then-eq
returns-then-eq c =
    none_stands c.args.texts.now c.args.asked.now.marks c.as_slice-word-items.result.now (c.loop-word.word-index + 1)
    c.min-worst.result (with_word (goal.at.returns-then-eq c).After-eq) (search rules)
    ∙ ap (λ words. standing_by (all_in c.args.texts.now c.args.asked.now.marks words)) c.as_slice-word-items.ensures

pub loop-word-preserved : goal.loop-word-preserved
loop-word-preserved c = with_word (goal.at.loop-word-preserved c).After-eq
