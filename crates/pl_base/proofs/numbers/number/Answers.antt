use Rattle.std.proofs.Common.{sym, ◌∙◌}
use Rattle.pl_base.proofs.Numerals.{numeral_is_text, number_of-numeral}
use Rattle.pl_base.proofs.numbers.number.Goals as goal

pub returns-in_default : goal.returns-in_default
returns-in_default c =
    absurd (c.in_default.ensures.cases.0 (numeral_is_text c.args.text.now (sym c.if-not-is_numeral.ensures)))

pub returns : goal.returns
returns c =
    let parsed = rw c.in-Ok.ensures.cases.0 at c.parse.ensures.value.0 in
    c.ok.ensures.value ∙ number_of-numeral c.args.text.now _ parsed (sym c.if-not-is_numeral.ensures)
