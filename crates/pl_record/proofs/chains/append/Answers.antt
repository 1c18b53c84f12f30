use Rattle.std.proofs.Common.{◌++◌, [], List, subst, sym}
use Rattle.std.proofs.lemmas.List.{append-nil}
use Rattle.pl_base.specs.declared.id.Slot.{Slot}
use Rattle.pl_record.proofs.chains.append.Given.{Over}
use Rattle.pl_record.proofs.chains.append.Goals as goal
use Rattle.pl_record.proofs.chains.append.Goals.{After-insert_after}
use Rattle.pl_record.proofs.SlotSteps.{last_named}
use Rattle.pl_rail.specs.Rails.{Lists}

pub last-after-requires : goal.last-after-requires
last-after-requires g c =
    record {
      owner = last_named c.args.rail c.args.owner c.requires.listed.0 c.args.arena.now c.requires.listed.1;
    }

whole : (g : Over) (c : After-insert_after g) (slots : List Slot)
    → Lists c.args.rail c.args.owner slots c.args.arena.now
    → Lists c.args.rail c.args.owner (slots ++ []) c.args.arena.now
whole g c slots lists = subst (λ l. Lists c.args.rail c.args.owner l c.args.arena.now) (sym (append-nil slots)) lists

pub returns : goal.returns
returns g c =
    record {
      list = λ slots lists.
          c.insert_after.ensures.list slots [] (whole g c slots lists) (sym (c.last-after.ensures.last slots lists));
      owners = c.insert_after.ensures.owners;
      others = c.insert_after.ensures.others;
      rest = c.insert_after.ensures.rest;
      pages = λ slots lists.
          c.insert_after.ensures.pages slots [] (whole g c slots lists) (sym (c.last-after.ensures.last slots lists));
    }
