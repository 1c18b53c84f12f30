use Rattle.std.proofs.Common.{◌≡◌, List, ℕ, Err, Some, [], ◌∙◌, ap, arith, rules, subst}
use Rattle.std.proofs.lemmas.List.{nil_from_length}
use Rattle.std.proofs.lemmas.Option.{IfSome_then, MatchOption-at_some}
use Rattle.std.proofs.lemmas.Result.{err_from_is_err_and}
use Rattle.pl_desk.specs.Shown.{Rests}
use Rattle.pl_gate.specs.States.{IsClosed}
use Rattle.pl_store.proofs.open.create.Goals as goal

pub returns-clause-ends : goal.returns-clause-ends
returns-clause-ends g c =
    let done = c.in_ok-session.ensures in
    let desk = g.D.Desk in
    record {
      store = done.store;
      limit = done.limit;
      was_empty = IfSome_then (desk.held c.args.desk.now) c.in_ok-len.ensures.length
          (λ file is. nil_from_length file (omega (arith, is, c.if-len-gt0.false)));
      settled = λ file is.
          let len = MatchOption-at_some _ _ file is c.in_ok-len.ensures.length in
          let empty : file ≡ [] = nil_from_length file (omega (arith, len, c.if-len-gt0.false)) in
          let held = c.len.ensures.held ∙ is ∙ ap Some empty in
          record {
            rests = subst (λ (bytes : List ℕ). Rests desk c.write_change.new.desk (IsClosed bytes)) done.whole
                (c.in_ok-write_change.ensures.closed.closed_empty held done.before done.after);
            stands = done.stands;
          };
    }

pub returns-in_err-write_change-clause-calls : goal.returns-in_err-write_change-clause-calls
returns-in_err-write_change-clause-calls g c =
    let ended = c.from_residual-in_err-write_change in
    let p = err_from_is_err_and ended.result ended.ensures.1 in
    let fault = p.1 ∙ ap Err p.2 in
    record {
      line = search rules;
      counted =
          record { no_less = search rules; rose = λ _. search rules; stands = λ none. absurd (none fault) };
    }
