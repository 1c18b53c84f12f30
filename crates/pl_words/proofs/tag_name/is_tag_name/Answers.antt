use Rattle.std.proofs.Common.{◌∙◌, ◌==◌, ap, arith, length, rules, sym}
use Rattle.std.specs.List.{list_any}
use Rattle.std.proofs.lemmas.Bool.{eq-eqb, eqb-true}
use Rattle.pl_words.proofs.TagNames.{name_kept, named}
use Rattle.pl_words.proofs.tag_name.is_tag_name.Goals as goal

pub returns-then-not-contains : goal.returns-then-not-contains
returns-then-not-contains c = (
  λ same. named c.args.text.now c.trim_ascii.result.now c.utf8.text c.trim_ascii.ensures.value
      (search rules) (omega arith)
      (ap (list_any (λ b. b == 44)) (sym c.as_bytes.ensures.value) ∙ sym c.contains.ensures.value
      ∙ c.if-not-contains.true)
      (eqb-true (length c.trim_ascii.result.now) (length c.args.text.now) same),
  λ tag. eq-eqb (length c.trim_ascii.result.now) (length c.args.text.now)
      (name_kept c.args.text.now c.trim_ascii.result.now c.trim_ascii.ensures.value tag),
)
