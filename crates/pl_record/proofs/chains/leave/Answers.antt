use Rattle.std.proofs.Common.{subst}
use Rattle.pl_base.specs.declared.id.Slot.{Slot}
use Rattle.pl_record.specs.VisitChanges.{Leaves}
use Rattle.pl_record.proofs.ChainLeft.{leaves_owner}
use Rattle.pl_record.proofs.VisitFreed.{named_some}
use Rattle.pl_record.proofs.chains.leave.Goals as goal
use Rattle.pl_rail.specs.declared.owner.Owner.TheVariants.{At}

pub returns : goal.returns
returns g c =
    let named = named_some c.args.owner c.in-Some.from c.in-Some.ensures in
    leaves_owner c.args.rail c.args.owner c.args.slot c.args.arena.now c.unlink.new.arena named.1
    (subst (λ (s : Slot). Leaves c.args.rail (At s) c.args.slot c.args.arena.now c.unlink.new.arena) named.0
    (record {
      list = c.unlink.ensures.list;
      own = record { before = c.unlink.ensures.before; behind = c.unlink.ensures.behind };
      owners = c.unlink.ensures.owners;
      others = c.unlink.ensures.others;
      rest = c.unlink.ensures.rest;
      beside = c.unlink.ensures.beside;
      pages = c.unlink.ensures.pages;
    }))
    (c.requires.member named.1)
