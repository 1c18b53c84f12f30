-- A value, in quotes or not.
use Rattle.std.proofs.Common.{◌∙◌, List, ℕ, Some, None, ap, arith, refl, sym}
use Rattle.std.proofs.lemmas.Str.Pattern.{strip_prefix_char}
use Rattle.pl_nbread.specs.Tokens.{Read, ends_bare_value}
use Rattle.pl_nbread.proofs.ScanSteps.{bare, in_quotes, same_behind, same_front, value_ends}
use Rattle.pl_nbread.proofs.attributes.value_at.Goals as goal

pub returns-in-Some-clause-value : goal.returns-in-Some-clause-value
returns-in-Some-clause-value c =
    (in_quotes 34 c.args.text.now c.in-Some.quoted _ c.split_once.result _ c.unwrap_or.ensures refl (omega arith)
    (strip_prefix_char 34 c.args.text.now (Some c.in-Some.quoted) c.in-Some.ensures.cases (omega arith)) refl
    c.split_once.ensures.cases).0

pub returns-in-Some-clause-behind : goal.returns-in-Some-clause-behind
returns-in-Some-clause-behind c =
    (in_quotes 34 c.args.text.now c.in-Some.quoted _ c.split_once.result _ c.unwrap_or.ensures refl (omega arith)
    (strip_prefix_char 34 c.args.text.now (Some c.in-Some.quoted) c.in-Some.ensures.cases (omega arith)) refl
    c.split_once.ensures.cases).1

pub returns-in-Some-strip_prefix-clause-value : goal.returns-in-Some-strip_prefix-clause-value
returns-in-Some-strip_prefix-clause-value c =
    let w = c.in-Some-strip_prefix in
    (in_quotes 39 c.args.text.now w.quoted _ c.split_once-in-Some-strip_prefix.result _
    c.unwrap_or-in-Some-strip_prefix.ensures refl (omega arith)
    (strip_prefix_char 39 c.args.text.now (Some w.quoted) w.ensures.cases (omega arith)) refl
    c.split_once-in-Some-strip_prefix.ensures.cases).0

pub returns-in-Some-strip_prefix-clause-behind : goal.returns-in-Some-strip_prefix-clause-behind
returns-in-Some-strip_prefix-clause-behind c =
    let w = c.in-Some-strip_prefix in
    (in_quotes 39 c.args.text.now w.quoted _ c.split_once-in-Some-strip_prefix.result _
    c.unwrap_or-in-Some-strip_prefix.ensures refl (omega arith)
    (strip_prefix_char 39 c.args.text.now (Some w.quoted) w.ensures.cases (omega arith)) refl
    c.split_once-in-Some-strip_prefix.ensures.cases).1

pub returns-clause-value : goal.returns-clause-value
returns-clause-value c =
    let text : List ℕ = c.args.text.now in
    c.cut.ensures.front
    ∙ same_front _ ends_bare_value value_ends text
    ∙ ap (λ (v : Read (List ℕ)). v.what)
    (sym (bare text (strip_prefix_char 34 text None c.in_default.ensures.cases (omega arith))
    (strip_prefix_char 39 text None c.in_default-strip_prefix.ensures.cases (omega arith))))

pub returns-clause-behind : goal.returns-clause-behind
returns-clause-behind c =
    let text : List ℕ = c.args.text.now in
    c.cut.ensures.behind
    ∙ same_behind _ ends_bare_value value_ends text
    ∙ ap (λ (v : Read (List ℕ)). v.behind)
    (sym (bare text (strip_prefix_char 34 text None c.in_default.ensures.cases (omega arith))
    (strip_prefix_char 39 text None c.in_default-strip_prefix.ensures.cases (omega arith))))
