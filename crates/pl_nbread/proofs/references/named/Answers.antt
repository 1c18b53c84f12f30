use Rattle.std.proofs.Common.{false, sym}
use Rattle.std.specs.Prelude.{codes}
use Rattle.std.proofs.lemmas.Str.Pattern.{starts_text}
use Rattle.pl_nbread.proofs.references.named.Goals as goal

pub returns-in_err-behind : goal.returns-in_err-behind
returns-in_err-behind c =
    let amp = sym (starts_text false (codes "amp;") c.args.text.now c.in_default.ensures.cases) in
    let lt = sym (starts_text false (codes "lt;") c.args.text.now c.in_default-strip_prefix.ensures.cases) in
    let gt = sym (starts_text false (codes "gt;") c.args.text.now c.in_default-strip_prefix-2.ensures.cases) in
    let quot = sym (starts_text false (codes "quot;") c.args.text.now c.in_default-strip_prefix-3.ensures.cases) in
    let apos = sym (starts_text false (codes "apos;") c.args.text.now c.in_err-behind.ensures.cases) in
    record {
      char = rw (c.from_residual.ensures, amp, lt, gt, quot, apos);
      behind = rw (c.from_residual.ensures, amp, lt, gt, quot, apos);
    }
