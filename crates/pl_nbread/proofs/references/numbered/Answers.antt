use Rattle.std.proofs.Common.{◌∙◌, Some, None, lit<}
use Rattle.std.proofs.lemmas.Str.Pattern.{strip_prefix_char}
use Rattle.pl_nbread.proofs.ReferenceSteps.{decimal_behind, decimal_char, hex_behind, hex_char}
use Rattle.pl_nbread.proofs.references.numbered.Goals as goal

pub returns-in-Some-clause-char : goal.returns-in-Some-clause-char
returns-in-Some-clause-char c =
    c.by_digits.ensures.char
    ∙ hex_char c.args.text.now c.in-Some.digits.now
    (strip_prefix_char 120 c.args.text.now (Some c.in-Some.digits) c.in-Some.ensures.cases (lit< tt))

pub returns-in-Some-clause-behind : goal.returns-in-Some-clause-behind
returns-in-Some-clause-behind c =
    c.by_digits.ensures.behind
    ∙ hex_behind c.args.text.now c.in-Some.digits.now
    (strip_prefix_char 120 c.args.text.now (Some c.in-Some.digits) c.in-Some.ensures.cases (lit< tt))

pub returns-in-None-clause-char : goal.returns-in-None-clause-char
returns-in-None-clause-char c =
    c.by_digits-in-None.ensures.char
    ∙ decimal_char c.args.text.now
    (strip_prefix_char 120 c.args.text.now None c.in-None.ensures.cases (lit< tt))

pub returns-in-None-clause-behind : goal.returns-in-None-clause-behind
returns-in-None-clause-behind c =
    c.by_digits-in-None.ensures.behind
    ∙ decimal_behind c.args.text.now
    (strip_prefix_char 120 c.args.text.now None c.in-None.ensures.cases (lit< tt))
