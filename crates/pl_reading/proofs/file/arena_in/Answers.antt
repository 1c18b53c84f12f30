use Rattle.std.proofs.Common.{◌∙◌}
use Rattle.std.proofs.lemmas.Result.{IfOk-weaker}
use Rattle.pl_reading.proofs.FileLaws.{laid, opened, refused, whole_pages}
use Rattle.pl_reading.proofs.file.arena_in.Goals as goal

pub from_bytes-requires-clause-whole : goal.from_bytes-requires-clause-whole
from_bytes-requires-clause-whole c =
    whole_pages c.args.bytes.items c.deref.result.now c.stored_bytes.result.items c.in-Some.pages
    c.deref.ensures.value c.in-Some.ensures.some c.in-Some.ensures.named c.in-Some.ensures.whole c.stored_bytes.ensures

pub over-requires-clause-some : goal.over-requires-clause-some
over-requires-clause-some c =
    (laid c.args.bytes.items c.deref.result.now c.stored_bytes.result.items c.in-Some.pages c.in_ok-sheets.sheets
    c.deref.ensures.value c.in-Some.ensures.some c.in-Some.ensures.named c.in-Some.ensures.whole c.stored_bytes.ensures
    c.in_ok-sheets.ensures).some

pub over-requires-clause-few : goal.over-requires-clause-few
over-requires-clause-few c =
    (laid c.args.bytes.items c.deref.result.now c.stored_bytes.result.items c.in-Some.pages c.in_ok-sheets.sheets
    c.deref.ensures.value c.in-Some.ensures.some c.in-Some.ensures.named c.in-Some.ensures.whole c.stored_bytes.ensures
    c.in_ok-sheets.ensures).few

pub over-requires-clause-told : goal.over-requires-clause-told
over-requires-clause-told c =
    (laid c.args.bytes.items c.deref.result.now c.stored_bytes.result.items c.in-Some.pages c.in_ok-sheets.sheets
    c.deref.ensures.value c.in-Some.ensures.some c.in-Some.ensures.named c.in-Some.ensures.whole c.stored_bytes.ensures
    c.in_ok-sheets.ensures).told

pub returns-clause-arena : goal.returns-clause-arena
returns-clause-arena c =
    let l =
    laid c.args.bytes.items c.deref.result.now c.stored_bytes.result.items c.in-Some.pages c.in_ok-sheets.sheets
    c.deref.ensures.value c.in-Some.ensures.some c.in-Some.ensures.named c.in-Some.ensures.whole c.stored_bytes.ensures
    c.in_ok-sheets.ensures in
    IfOk-weaker c.over.result _ _ (λ arena same. same ∙ l.stored) c.over.ensures.same

pub returns-clause-named : goal.returns-clause-named
returns-clause-named c =
    let l =
    laid c.args.bytes.items c.deref.result.now c.stored_bytes.result.items c.in-Some.pages c.in_ok-sheets.sheets
    c.deref.ensures.value c.in-Some.ensures.some c.in-Some.ensures.named c.in-Some.ensures.whole c.stored_bytes.ensures
    c.in_ok-sheets.ensures in
    opened c.args.bytes.items c.in_ok-sheets.sheets c.over.result l c.over.ensures.ok

pub returns-clause-none : goal.returns-clause-none
returns-clause-none c not has =
    let l =
    laid c.args.bytes.items c.deref.result.now c.stored_bytes.result.items c.in-Some.pages c.in_ok-sheets.sheets
    c.deref.ensures.value c.in-Some.ensures.some c.in-Some.ensures.named c.in-Some.ensures.whole c.stored_bytes.ensures
    c.in_ok-sheets.ensures in
    refused c.args.bytes.items c.in_ok-sheets.sheets c.over.result l has c.over.ensures.err not
