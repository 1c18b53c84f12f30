use Rattle.std.proofs.Common.{◌≡◌, ◌∙◌, sym, true}
use Rattle.pl_rail.specs.Rails.{is_in}
use Rattle.pl_rail.proofs.Membership.{member_listed}
use Rattle.trials_rails.proofs.calls.has_member.Goals as goal

pub returns-in-Some : goal.returns-in-Some
returns-in-Some g c told =
    let same : c.contains.result ≡ true = cc in
    let among : is_in c.args.slot c.deref.result.now ≡ true = sym c.contains.ensures.value ∙ same in
    member_listed c.args.chain.rail c.args.chain.owner c.args.slot c.in-Some.slots.items c.args.arena.now
    (rw c.in-Some.is at c.in_ok-slots.ensures) (rw c.deref.ensures.value at among)
