use Rattle.std.proofs.Common.{◌∙◌, ap}
use Rattle.pl_place.specs.Values.{root_named}
use Rattle.pl_place.proofs.ValueLemmas.{no_root, text_is}
use Rattle.pl_place.proofs.value.root.Goals as goal

pub returns-in_err-as_text : goal.returns-in_err-as_text
returns-in_err-as_text c = c.from_residual.ensures ∙ no_root c.args.text.now c.in_err-as_text.ensures

pub returns : goal.returns
returns c =
    c.root_named.ensures
    ∙ ap root_named (text_is c.args.text.now c.in_ok-as_text.field-0.now c.in_ok-as_text.ensures)
