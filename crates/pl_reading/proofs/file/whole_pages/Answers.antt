use Rattle.std.proofs.Common.{arith, refl}
use Rattle.pl_reading.proofs.FileLaws.{all_there, is_named, two_pages}
use Rattle.pl_reading.proofs.file.whole_pages.Goals as goal

pub returns-then-bytes-clause-none : goal.returns-then-bytes-clause-none
returns-then-bytes-clause-none c none has = omega (arith, c.if-bytes.true, two_pages c.args.bytes.now has)

pub returns-in_err-pages-clause-none : goal.returns-in_err-pages-clause-none
returns-in_err-pages-clause-none c none has = c.in_err-pages.ensures.none refl (is_named c.args.bytes.now has)

pub returns-then-bytes-pages-clause-none : goal.returns-then-bytes-pages-clause-none
returns-then-bytes-pages-clause-none c none has =
    omega (arith, c.if-bytes-pages.true, all_there c.args.bytes.now has, c.in_ok-pages.ensures.some)
