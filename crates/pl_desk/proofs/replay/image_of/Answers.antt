use Rattle.std.proofs.Common.{ℕ, ◌+◌, List, ◌∷◌, drop, sym, ◌∙◌, ap}
use Rattle.std.proofs.lemmas.List.{at_drop_more, drop_all}
use Rattle.pl_desk.specs.declared.record.Recorded.{Recorded as RecordedInMemory}
use Rattle.pl_desk.specs.MemDesk.{after_deed}
use Rattle.pl_desk.specs.Stopped.{image_after}
use Rattle.pl_desk.specs.Record.{calls_of, deed_of}
use Rattle.pl_desk.proofs.replay.image_of.Goals as goal

pub loop-call-preserved : goal.loop-call-preserved
loop-call-preserved c =
    let calls = c.args.calls.now in
    let filler = c.args.filler in
    let k = c.loop-call.call-index in
    let call = c.call-item.result in
    let more =
    at_drop_more (λ (l : List RecordedInMemory). image_after filler c.loop-call.file.items
    c.loop-call.image.items (calls_of l)) calls k call c.loop-call-test.true in
    let done = c.in_ok-replay.ensures in
    let file = c.loop-call.file.items in
    let image = c.loop-call.image.items in
    let rest = drop (k + 1) calls in
    ap (λ (l : List ℕ). image_after filler l c.replay.new.image.items (calls_of rest)) done.file
    ∙ ap (λ (l : List ℕ). image_after filler (after_deed (deed_of call.deed) file) l (calls_of rest)) done.image
    ∙ ap (λ (x : RecordedInMemory). image_after filler file image (calls_of (x ∷ rest))) c.call-item.is
    ∙ sym more
    ∙ c.loop-call.invariant

pub returns : goal.returns
returns c =
    ap (λ (l : List RecordedInMemory). image_after c.args.filler c.loop-call.file.items c.loop-call.image.items
    (calls_of l)) (sym (drop_all c.loop-call.call-index c.args.calls.now c.loop-call-test.false))
    ∙ c.loop-call.invariant
