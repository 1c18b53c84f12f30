use Rattle.std.proofs.Common.{◌∙◌, ℕ, List, ap, filter, not, refl, rules}
use Rattle.std.proofs.lemmas.Fn.{filter_same}
use Rattle.pl_words.specs.Bar.{is_mark}
use Rattle.pl_words.proofs.bar_text.tokens.Goals as goal

pub returns : goal.returns
returns c =
    let left = filter_same _ (λ (piece : List ℕ). not (is_mark piece)) _ (λ x b f called. search rules) _ _
    c.retain.ensures.filtered in
    record {
      marks = rw (
        c.has.ensures,
        c.has-2.ensures,
        c.has-3.ensures,
        c.has-4.ensures,
        c.has-5.ensures,
        c.deref.ensures.value,
        c.deref-2.ensures.value,
        c.deref-3.ensures.value,
        c.deref-4.ensures.value,
        c.deref-5.ensures.value,
        c.in_ok-pieces.ensures,
      ) refl;
      words = c.from.ensures ∙ left ∙ ap (filter (λ (piece : List ℕ). not (is_mark piece))) c.in_ok-pieces.ensures;
    }
