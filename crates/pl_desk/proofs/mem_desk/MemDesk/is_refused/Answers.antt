use Rattle.std.proofs.Common.{inr, ⊎_elim, ℕ, List, Contains, sym, ◌∙◌, ap, subst, arith}
use Rattle.pl_desk.specs.MemDesk.{DeskState}
use Rattle.pl_desk.proofs.mem_desk.MemDesk.is_refused.Goals as goal

pub returns-else-call-ge-RECORD_ROOM : goal.returns-else-call-ge-RECORD_ROOM
returns-else-call-ge-RECORD_ROOM c =
    let desk = c.args.self.now in
    let fails_are = c.deref.ensures.value ∙ ap (λ (d : DeskState). d.fails) c.self.view_is in
    let number_is = c.from.ensures ∙ c.calls-call.ensures in (
      λ fails. inr (subst (λ (n : ℕ). Contains desk.fails n) number_is
          (subst (λ (l : List ℕ). Contains l c.from.result) fails_are (c.is_to_fail.ensures.0 fails))),
      ⊎_elim (λ full. absurd (omega (arith, full, c.calls-call.ensures))) (λ listed.
          c.is_to_fail.ensures.1 (subst (λ (l : List ℕ). Contains l c.from.result) (sym fails_are)
          (subst (λ (n : ℕ). Contains desk.fails n) (sym number_is) listed))),
    )
