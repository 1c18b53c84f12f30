use Rattle.std.proofs.Common.{◌<◌, ◌^◌, arith, slice_index}
use Rattle.pl_sheets.proofs.Bits.{lowest_fits, lowest_of}
use Rattle.pl_sheets.proofs.level.lowest_in.Goals as goal

pub overflow_add-result : goal.overflow_add-result
overflow_add-result c =
    let fits : slice_index c.args.words.now c.args.word < 2 ^ 64 = omega (arith, c.type_inv.words c.args.word) in
    omega (arith, lowest_fits c.args.word c.args.words.now c.requires.few c.requires.some fits)

pub returns-clause-first : goal.returns-clause-first
returns-clause-first c =
    let fits : slice_index c.args.words.now c.args.word < 2 ^ 64 = omega (arith, c.type_inv.words c.args.word) in
    lowest_of c.args.word c.args.words.now c.requires.some fits
