use Rattle.std.proofs.Common.{arith}
use Rattle.trials_forms.proofs.kept.insert_item.Goals as goal

pub insert-requires-clause-live : goal.insert-requires-clause-live
insert-requires-clause-live g c none = omega (arith, c.requires.live)
