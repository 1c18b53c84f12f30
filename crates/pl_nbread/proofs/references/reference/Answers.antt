use Rattle.std.proofs.Common.{◌∙◌, ◌-◌, ◌∷◌, List, Some, None, ap, drop, lit<, sym, ℕ}
use Rattle.std.specs.Option.{option_map}
use Rattle.std.proofs.lemmas.Str.Pattern.{strip_prefix_char}
use Rattle.pl_nbread.specs.References.{Reference, reference_at}
use Rattle.pl_nbread.proofs.ReferenceSteps.{named_alone}
use Rattle.pl_nbread.proofs.references.reference.Goals as goal

pub returns-in-Some-clause-char : goal.returns-in-Some-clause-char
returns-in-Some-clause-char c =
    c.numbered.ensures.char
    ∙ ap (λ (t : List ℕ). option_map (λ (r : Reference). r.char) (reference_at (38 ∷ t)))
    (sym (strip_prefix_char 35 c.args.text.now (Some c.in-Some.number) c.in-Some.ensures.cases (lit< tt)))

pub returns-in-Some-clause-behind : goal.returns-in-Some-clause-behind
returns-in-Some-clause-behind c =
    c.numbered.ensures.behind
    ∙ ap (λ (t : List ℕ). option_map (λ (r : Reference). drop (r.size - 1) t) (reference_at (38 ∷ t)))
    (sym (strip_prefix_char 35 c.args.text.now (Some c.in-Some.number) c.in-Some.ensures.cases (lit< tt)))

pub returns-in-None-clause-char : goal.returns-in-None-clause-char
returns-in-None-clause-char c =
    c.named.ensures.char
    ∙ ap (option_map (λ (r : Reference). r.char))
    (sym (named_alone c.args.text.now
    (strip_prefix_char 35 c.args.text.now None c.in-None.ensures.cases (lit< tt))))

pub returns-in-None-clause-behind : goal.returns-in-None-clause-behind
returns-in-None-clause-behind c =
    c.named.ensures.behind
    ∙ ap (option_map (λ (r : Reference). drop (r.size - 1) c.args.text.now))
    (sym (named_alone c.args.text.now
    (strip_prefix_char 35 c.args.text.now None c.in-None.ensures.cases (lit< tt))))
