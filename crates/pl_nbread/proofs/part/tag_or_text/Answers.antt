-- What `<` begins.
use Rattle.std.proofs.Common.{◌∙◌, List, None, arith, refl, sym, ℕ}
use Rattle.std.proofs.lemmas.Str.Pattern.{strip_prefix_char}
use Rattle.pl_nbread.proofs.ScanParts.{less_seen}
use Rattle.pl_nbread.proofs.part.tag_or_text.Goals as goal

pub returns : goal.returns
returns c =
    let text : List ℕ = c.args.text.now in
    less_seen c.args.text _ c.args.text (strip_prefix_char 33 text None c.in_default.ensures.cases (omega arith))
    (strip_prefix_char 47 text None c.in_default-strip_prefix.ensures.cases (omega arith))
    (sym c.begins_with_letter.ensures ∙ c.if-begins_with_letter.false) refl refl
