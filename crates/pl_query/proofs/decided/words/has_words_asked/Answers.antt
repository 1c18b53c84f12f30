use Rattle.std.proofs.Common.{◌∙◌, ap}
use Rattle.std.specs.List.{list_all}
use Rattle.pl_query.specs.declared.decided.words.ViewTexts.{ViewTexts}
use Rattle.pl_query.specs.DecidedParts.{is_in_texts}
use Rattle.pl_query.specs.Decides.{has_word_in}
use Rattle.pl_query.proofs.decided.words.has_words_asked.Goals as goal

pub returns : goal.returns
returns c =
    c.are_in_texts.ensures
    ∙ ap (λ (texts : ViewTexts). list_all (is_in_texts texts) c.deref.result.now)
    c.in_ok-texts.ensures
    ∙ ap (list_all (has_word_in c.args.view.now)) (c.deref.ensures.value ∙ c.in_ok-words.ensures)
