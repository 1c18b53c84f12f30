use Rattle.pl_place.proofs.ValueLemmas.{no_tag}
use Rattle.pl_place.proofs.value.tag.Goals as goal

pub returns-in_default : goal.returns-in_default
returns-in_default c = no_tag c.args.text.now c.in_default.ensures
