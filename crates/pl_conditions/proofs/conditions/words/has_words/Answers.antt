use Rattle.std.proofs.Common.{◌∙◌, ap}
use Rattle.std.specs.List.{list_all}
use Rattle.pl_base.specs.Rows.{store_of}
use Rattle.pl_base.specs.Store.{Store}
use Rattle.pl_base.proofs.ListLaws.{list_all-alike}
use Rattle.pl_conditions.specs.AskedParts.{is_in_texts}
use Rattle.pl_conditions.specs.Conditions.{has_word}
use Rattle.pl_conditions.proofs.AskedLaws.{word_in_texts}
use Rattle.pl_conditions.proofs.conditions.words.has_words.Goals as goal

pub returns : goal.returns
returns g c p at =
    let store : Store = store_of (g.R.Rows.kept c.args.rows.now) in
    c.are_in_texts.ensures
    ∙ list_all-alike (is_in_texts c.in_ok-texts.texts) (has_word store p.page) c.deref.result.now
    (word_in_texts store p.page c.in_ok-texts.texts (c.in_ok-texts.ensures p at))
    ∙ ap (list_all (has_word store p.page)) (c.deref.ensures.value ∙ c.requires.asked.words)
