use Rattle.std.proofs.Common.{ap}
use Rattle.std.specs.Option.{option_copied}
use Rattle.pl_tagged.proofs.TaggedRows.{first_among}
use Rattle.pl_tagged.proofs.answered.answer.Goals as goal

pub answer_tagged-requires-clause-among : goal.answer_tagged-requires-clause-among
answer_tagged-requires-clause-among g c =
    first_among c.args.query.now.tags c.as_slice.result.now (option_copied c.first.result) c.in-Some.tag.now
    c.as_slice.ensures c.first.ensures.value (ap option_copied c.in-Some.is)
