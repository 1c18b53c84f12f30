use Rattle.std.specs.Option.{option_map}
use Rattle.std.specs.List.{slice_get}
use Rattle.std.proofs.Common.{ℕ, ◌≤◌, length, refl, sym, ◌∙◌, ap, subst, arith}
use Rattle.std.proofs.lemmas.Option.{slice_get-map, slice_get_read, get_or_from_slice_get}
use Rattle.std.proofs.lemmas.List.{length-map, length-take}
use Rattle.std.proofs.lemmas.List.Elements.{All-get_or}
use Rattle.pl_desk.specs.MemDesk.{DeskState, Recorded, begun_at, said_len_at}
use Rattle.pl_desk.specs.Record.{call_of, calls_of}
use Rattle.pl_desk.proofs.Desks.{Begun}
use Rattle.pl_desk.proofs.mem_desk.MemDesk.said_at.Goals as goal

pub returns-clause-value : goal.returns-clause-value
returns-clause-value c =
    let items = c.self.inside.calls.items in
    let count = ap (λ (d : DeskState). length d.calls) c.self.view_is in
    let mapped = length-map items call_of in
    ap (λ (d : DeskState). slice_get (begun_at d.calls) c.args.call) (sym c.self.view_is)
    ∙ slice_get-map (λ (call : Recorded). call.said_before) (calls_of items) c.args.call
    ∙ ap (option_map (λ (call : Recorded). call.said_before)) (slice_get-map call_of items c.args.call
    ∙ ap (option_map call_of)
    (slice_get_read items (length items) c.args.call c.index.result.now refl
    (omega (arith, count, mapped, c.requires)) c.index.ensures))

pub returns-clause-within : goal.returns-clause-within
returns-clause-within c =
    let desk = c.args.self.now in
    let begun = subst Begun c.self.view_is c.self.invariant.within in
    let mapped = length-map desk.calls (λ (call : Recorded). call.said_before) in
    subst (λ (n : ℕ). n ≤ length desk.said)
    (get_or_from_slice_get (begun_at desk.calls) c.args.call c.index.result.now.said_before 0
    (returns-clause-value c))
    (All-get_or (λ n. n ≤ length desk.said) (begun_at desk.calls) c.args.call 0 (omega (arith, mapped, c.requires))
    begun)

pub returns-clause-line : goal.returns-clause-line
returns-clause-line c =
    let desk = c.args.self.now in
    let is =
    get_or_from_slice_get (begun_at desk.calls) c.args.call c.index.result.now.said_before (length desk.said)
    (returns-clause-value c) in
    omega (arith, is, length-take (said_len_at desk.calls desk.said c.args.call) desk.said, returns-clause-within c)
