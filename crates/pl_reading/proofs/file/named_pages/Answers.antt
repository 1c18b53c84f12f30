use Rattle.std.proofs.Common.{◌∙◌, ◌-◌, ap, arith, length, replicate, sym, take}
use Rattle.std.proofs.lemmas.List.{length-drop, take_rest}
use Rattle.std.proofs.lemmas.Slice.Eq.{bytes_eq-Decides}
use Rattle.pl_base.proofs.Truths.{not_false}
use Rattle.pl_reading.proofs.file.named_pages.Goals as goal

pub returns-clause-named : goal.returns-clause-named
returns-clause-named c =
    let all = take_rest c.args.header.now 68 in
    let blank = c.is_blank.ensures.yes c.if-not-is_blank.false in
    let size = ap length all ∙ length-drop 68 c.args.header.now ∙ ap (λ n. n - 68) c.requires in
    record {
      form =
          (bytes_eq-Decides (take 8 c.args.header.now) c.as_slice.result.now).0 (not_false _ (sym c.if-ne.ensures))
          ∙ c.as_slice.ensures;
      some = omega (arith, c.if-pages-lt2.false, c.length_in-pages.ensures);
      few = omega (arith, c.if-pages-gt-MOST_PAGES.false, c.length_in-pages.ensures);
      rest = sym all ∙ blank ∙ ap (λ n. replicate n 0) size;
    }
