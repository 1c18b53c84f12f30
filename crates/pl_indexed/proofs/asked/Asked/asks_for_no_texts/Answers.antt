use Rattle.std.proofs.Common.{◌∙◌, ◌==◌, ap, sym, ℕ}
use Rattle.pl_indexed.proofs.AskedTexts.{no_texts}
use Rattle.pl_indexed.proofs.asked.Asked.asks_for_no_texts.Goals as goal

pub returns-then-is_empty : goal.returns-then-is_empty
returns-then-is_empty c none view =
    let asked = c.args.self.now in
    no_texts asked.query.now asked c.requires
    (sym (ap (λ (n : ℕ). n == 0) asked.words.ok.0) ∙ sym c.is_empty.ensures ∙ c.if-is_empty.true)
    (sym (ap (λ (n : ℕ). n == 0) asked.tags.ok.0) ∙ sym c.is_empty-then-is_empty.ensures ∙ none) view
