use Rattle.std.proofs.Common.{◌≡◌, ℕ, List, [], length, take, IfOk, sym, ◌∙◌, ap, subst, arith}
use Rattle.std.proofs.lemmas.List.{take-map, length-map}
use Rattle.pl_desk.specs.declared.record.Recorded.{Recorded as RecordedInMemory}
use Rattle.pl_desk.specs.MemDesk.{Deed, DeskState, desk_holding}
use Rattle.pl_desk.specs.Stopped.{stopped_in, filled_by, deed_at, image_after}
use Rattle.pl_desk.specs.Record.{call_of, calls_of}
use Rattle.pl_desk.proofs.Desks.{Quiet}
use Rattle.pl_desk.proofs.Stops.{left_in, shown_in, deed_read}
use Rattle.pl_desk.proofs.mem_desk.MemDesk.stopped.Goals as goal

pub returns-in_err-image-clause-allowed : goal.returns-in_err-image-clause-allowed
returns-in_err-image-clause-allowed c = left_in c.args.self.now c.args.call c.args.filler c.requires

pub returns-in_err-image-clause-shown : goal.returns-in_err-image-clause-shown
returns-in_err-image-clause-shown c =
    shown_in c.args.self.now c.args.call c.args.filler c.requires (subst Quiet c.self.view_is c.self.invariant.quiet)

pub returns-in_err-fill-clause-allowed : goal.returns-in_err-fill-clause-allowed
returns-in_err-fill-clause-allowed c = left_in c.args.self.now c.args.call c.args.filler c.requires

pub returns-in_err-fill-clause-shown : goal.returns-in_err-fill-clause-shown
returns-in_err-fill-clause-shown c =
    shown_in c.args.self.now c.args.call c.args.filler c.requires (subst Quiet c.self.view_is c.self.invariant.quiet)

pub returns-clause-allowed : goal.returns-clause-allowed
returns-clause-allowed c = left_in c.args.self.now c.args.call c.args.filler c.requires

pub returns-clause-shown : goal.returns-clause-shown
returns-clause-shown c =
    shown_in c.args.self.now c.args.call c.args.filler c.requires (subst Quiet c.self.view_is c.self.invariant.quiet)

pub returns-clause-left : goal.returns-clause-left
returns-clause-left c =
    let items = c.self.inside.calls.items in
    let call = c.args.call in
    let filler = c.args.filler in
    let first = c.self.inside.first.items in
    let count = ap (λ (d : DeskState). length d.calls) c.self.view_is in
    let mapped = length-map items call_of in
    let calls_are =
    ap (λ (l : List RecordedInMemory). calls_of (take call l)) c.deref-2.ensures.value
    ∙ sym (take-map call_of call items) in
    let image_is : c.in_ok-image.image.items ≡ image_after filler first first (take call (calls_of items)) =
    c.in_ok-image.ensures
    ∙ ap (λ (l : List ℕ). image_after filler l l (calls_of (take call c.deref-2.result.now))) c.deref.ensures.value
    ∙ ap (image_after filler first first) calls_are in
    let deed_is = deed_read items call c.index.result.now (omega (arith, count, mapped, c.requires)) c.index.ensures in
    let filled = c.deref-3.ensures.value ∙ c.in_ok-fill.ensures
    ∙ ap (λ (d : Deed). filled_by filler d c.in_ok-image.image.items) deed_is
    ∙ ap (filled_by filler (deed_at (calls_of items) call)) image_is
    ∙ ap (λ (d : DeskState). stopped_in d call filler) c.self.view_is in
    subst (λ (l : List ℕ). IfOk c.holding.result (λ desk. desk ≡ desk_holding l [])) filled c.holding.ensures
