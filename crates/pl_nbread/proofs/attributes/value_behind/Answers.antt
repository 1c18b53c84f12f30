-- The value behind a name.
use Rattle.std.proofs.Common.{◌≡◌, ◌∙◌, List, ℕ, Some, None, ap, arith, sym}
use Rattle.std.proofs.lemmas.Str.Pattern.{strip_prefix_char}
use Rattle.pl_nbread.specs.Tokens as spec
use Rattle.pl_nbread.specs.Tokens.{Read, value_at}
use Rattle.pl_nbread.proofs.ScanSteps.{behind_equals, no_equals, trimmed_is}
use Rattle.pl_nbread.proofs.attributes.value_behind.Goals as goal
use Rattle.pl_nbread.proofs.attributes.value_behind.Goals.{After-value_at}

value_read : (c : After-value_at) → value_at c.trim_ascii_start-in-Some.result.now ≡ spec.value_behind c.args.text.now
value_read c =
    let front : List ℕ = c.trim_ascii_start.result.now in
    let value : List ℕ = c.in-Some.value.now in
    ap value_at (trimmed_is value c.trim_ascii_start-in-Some.result.now c.trim_ascii_start-in-Some.ensures.value)
    ∙ sym (behind_equals c.args.text.now front value (trimmed_is c.args.text.now front c.trim_ascii_start.ensures.value)
    (strip_prefix_char 61 front (Some c.in-Some.value) c.in-Some.ensures.cases (omega arith)))

pub returns-in-Some-clause-value : goal.returns-in-Some-clause-value
returns-in-Some-clause-value c = c.value_at.ensures.value ∙ ap (λ (v : Read (List ℕ)). v.what) (value_read c)

pub returns-in-Some-clause-behind : goal.returns-in-Some-clause-behind
returns-in-Some-clause-behind c = c.value_at.ensures.behind ∙ ap (λ (v : Read (List ℕ)). v.behind) (value_read c)

pub returns-in-None-clause-value : goal.returns-in-None-clause-value
returns-in-None-clause-value c =
    let text : List ℕ = c.args.text.now in
    let front : List ℕ = c.trim_ascii_start.result.now in
    ap (λ (v : Read (List ℕ)). v.what)
    (sym (no_equals text front (trimmed_is text front c.trim_ascii_start.ensures.value)
    (strip_prefix_char 61 front None c.in-None.ensures.cases (omega arith))))

pub returns-in-None-clause-behind : goal.returns-in-None-clause-behind
returns-in-None-clause-behind c =
    let text : List ℕ = c.args.text.now in
    let front : List ℕ = c.trim_ascii_start.result.now in
    ap (λ (v : Read (List ℕ)). v.behind)
    (sym (no_equals text front (trimmed_is text front c.trim_ascii_start.ensures.value)
    (strip_prefix_char 61 front None c.in-None.ensures.cases (omega arith))))
