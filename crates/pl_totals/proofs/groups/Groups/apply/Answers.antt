use Rattle.std.proofs.Common.{rules, ◌≡◌, ◌∙◌, ◌+◌, ◌-◌, ℕ, Some, ap, arith, bytes_eq, if◌then◌else◌, unwrap_or}
use Rattle.pl_totals.specs.Groups.{total_in}
use Rattle.pl_totals.specs.Standing.{stepped}
use Rattle.pl_totals.proofs.TextKeys.{number_after, number_removed}
use Rattle.pl_totals.proofs.groups.Groups.apply.Goals as goal

pub returns-then-is-eq0 : goal.returns-then-is-eq0
returns-then-is-eq0 c other =
    let is : ℕ = c.in-Some.total.now - c.args.step.from + c.args.step.to in
    let was : c.in-Some.total.now ≡ total_in c.args.self.now c.args.group.now =
    ap (λ r. unwrap_or r 0) c.in-Some.ensures.value in
    let none : 0 ≡ stepped c.args.step (total_in c.args.self.now c.args.group.now) = omega (arith, was) in
    number_removed c.args.group.now c.args.self.now.totals (c.get_mut.follows.lender is) c.remove.new.self is
    ((c.get_mut.follows.holds is).3 (search rules)) c.remove.ensures.updates other
    ∙ ap (λ (n : ℕ). if bytes_eq c.args.group.now other then n else total_in c.args.self.now other) none

pub returns-else-is-eq0 : goal.returns-else-is-eq0
returns-else-is-eq0 c other =
    let is : ℕ = c.in-Some.total.now - c.args.step.from + c.args.step.to in
    let was : c.in-Some.total.now ≡ total_in c.args.self.now c.args.group.now =
    ap (λ r. unwrap_or r 0) c.in-Some.ensures.value in
    number_after c.args.group.now c.args.self.now.totals (c.get_mut.follows.lender is) (Some is)
    ((c.get_mut.follows.holds is).3 (search rules)) other
    ∙ ap (λ (n : ℕ). if bytes_eq c.args.group.now other then stepped c.args.step n
    else total_in c.args.self.now other) was
