use Rattle.std.proofs.Common.{ap, Err}
use Rattle.std.proofs.lemmas.Result.{err_from_is_err_and}
use Rattle.pl_script.proofs.TagTexts.{tag_not_read, tag_read}
use Rattle.pl_script.proofs.tag_lines.tag_name.Goals as goal

pub returns-in_err-read : goal.returns-in_err-read
returns-in_err-read c =
    let p = err_from_is_err_and c.from_residual.result c.from_residual.ensures.1 in
    rw p.1 (tag_not_read c.args.text.now c.as_str.result.now c.in_err-read.field-0.0 p.0 c.as_str.ensures
    (λ bad. c.in_err-read.ensures.bad (ap Err bad)) p.2)

pub returns : goal.returns
returns c =
    tag_read c.args.text.now c.as_str.result.now c.in_ok-read.field-0 c.as_str.ensures c.in_ok-read.ensures.ok
