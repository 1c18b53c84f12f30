use Rattle.slots_main.proofs.PlaceLaws.{rows_kinds}
use Rattle.slots_main.proofs.changes.listed.Goals as goal

pub returns : goal.returns
returns c = record { kinds = rows_kinds c.args.arena.now c.touched.new.self c.touched.ensures.rows }
