use Rattle.std.proofs.Common.{◌≡◌, ◌∙◌, ◌-◌, List, Some, ap, arith, length, length-drop, sym, ℕ}
use Rattle.pl_nbread.specs.BookmarkFile.{from_doctype, has_doctype}
use Rattle.pl_nbread.proofs.FileStart.{doctype_missing, doctype_there, no_text}
use Rattle.pl_nbread.proofs.reader.body.Goals as goal

pub returns-in-Err-clause-refused : goal.returns-in-Err-clause-refused
returns-in-Err-clause-refused c at is =
    no_text c.args.bytes.now c.in-Err.ensures.cases.0
    ∙ ap Some (sym (c.valid_up_to.ensures ∙ c.in-Err.ensures.valid_len)) ∙ cc

pub returns-in-Some-clause-taken : goal.returns-in-Some-clause-taken
returns-in-Some-clause-taken c =
    doctype_there c.args.bytes.now c.in-Ok.ensures.cases.1
    (ap has_doctype (sym (c.from_doctype-start.ensures.value ∙ ap from_doctype c.in-Ok.ensures.cases.0))
    ∙ c.in-Some.ensures.0)

pub returns-in-Some-clause-shorter : goal.returns-in-Some-clause-shorter
returns-in-Some-clause-shorter c =
    omega (
      arith,
      ap length c.in-Some.ensures.1,
      length-drop 35 c.from_doctype-start.result.now,
      ap length c.in-Ok.ensures.cases.0,
    )

pub returns-in-None-clause-refused : goal.returns-in-None-clause-refused
returns-in-None-clause-refused c at is =
    let error : length c.in-Ok.text.now - length c.from_doctype-start.result.now ≡ at = cc in
    let start = c.from_doctype-start.ensures.value ∙ ap from_doctype c.in-Ok.ensures.cases.0 in
    doctype_missing c.args.bytes.now c.in-Ok.ensures.cases.1 (ap has_doctype (sym start) ∙ c.in-None.ensures)
    ∙ ap Some (ap (λ (t : List ℕ). length c.args.bytes.now - length t) (sym start)
    ∙ ap (λ (t : List ℕ). length t - length c.from_doctype-start.result.now) (sym c.in-Ok.ensures.cases.0) ∙ error)
