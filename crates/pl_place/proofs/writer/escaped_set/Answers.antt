use Rattle.pl_place.proofs.Escapes.{but_alphanumeric, but_one_more, escapes_the_rest}
use Rattle.pl_place.proofs.writer.escaped_set.Goals as goal

pub returns : goal.returns
returns c =
    let dash = but_one_more _ _ 45 _ but_alphanumeric c.remove.ensures.removed c.remove.ensures.others in
    let low_line = but_one_more _ _ 95 _ dash c.remove-2.ensures.removed c.remove-2.ensures.others in
    let stop = but_one_more _ _ 46 _ low_line c.remove-3.ensures.removed c.remove-3.ensures.others in
    let tilde = but_one_more _ _ 126 _ stop c.remove-4.ensures.removed c.remove-4.ensures.others in
    escapes_the_rest _ tilde
