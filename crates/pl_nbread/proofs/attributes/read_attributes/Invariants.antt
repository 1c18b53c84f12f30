-- What the loop over attributes keeps.
use Rattle.std.proofs.Common.{length}
use denote.Shadow.{shadow}
use denote.Text.{Utf8}
use Rattle.pl_nbread.proofs.AttributeSteps.{IsNoted}
use Rattle.pl_nbread.proofs.attributes.read_attributes.Given as goal

abbrev pub invariant-loop-found : goal.invariant-loop-found
invariant-loop-found l = record {
  utf8 : shadow (Utf8 l.left);
  noted : IsNoted l.fn.text l.left (record {
    href = l.found.0;
    add_date = l.found.1.0;
    last_modified = l.found.1.1.0;
    tags = l.found.1.1.1.0;
    toolbar = l.found.1.1.1.1.0;
    unfiled = l.found.1.1.1.1.1.0;
    mobile = l.found.1.1.1.1.1.1.0;
  });
}

abbrev pub decreases-loop-found : goal.decreases-loop-found
decreases-loop-found l = length l.left
