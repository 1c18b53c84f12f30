use Rattle.std.proofs.Common.{◌∙◌, ◌++◌, [], List, None, Some, ap, append-nil, lit<, rules, sym, ℕ}
use Rattle.std.specs.Char.{encode_utf8}
use Rattle.std.specs.String.{string_bytes}
use Rattle.std.proofs.lemmas.Str.Pattern.{split_parts}
use Rattle.pl_nbread.specs.References as spec
use Rattle.pl_nbread.proofs.ReferenceSteps.{falls, goes_on, stays}
use Rattle.pl_nbread.proofs.references.decoded.Goals as goal

pub loop-front-smaller : goal.loop-front-smaller
loop-front-smaller c =
    let parts = split_parts 38 c.loop-front.rest.now (Some (c.in-Some.front, c.in-Some.behind)) c.in-Some.ensures.cases
    (lit< tt) in
    falls c.reference.result c.in-Some.behind c.reference.ensures.char c.reference.ensures.behind c.loop-front.rest.now
    c.in-Some.front.now parts c.unwrap_or-char.result c.unwrap_or-char.ensures

pub loop-front-preserved : goal.loop-front-preserved
loop-front-preserved c =
    let parts = split_parts 38 c.loop-front.rest.now (Some (c.in-Some.front, c.in-Some.behind)) c.in-Some.ensures.cases
    (lit< tt) in
    record {
      text = search rules;
      decoded = goes_on c.reference.result c.in-Some.behind c.reference.ensures.char c.reference.ensures.behind
          c.loop-front.rest.now c.in-Some.front.now parts c.unwrap_or-char.result c.unwrap_or-char.ensures
          c.args.text.now (string_bytes c.loop-front.string) (string_bytes c.push.new.self)
          c.loop-front.invariant.decoded
          (c.in_ok-push.ensures.bytes ∙ ap (λ (t : List ℕ). t ++ encode_utf8 c.unwrap_or-char.result.0) c.in_ok-push_str.ensures.bytes);
    }

pub returns : goal.returns
returns c =
    let none = split_parts 38 c.loop-front.rest.now None c.in_default.ensures.cases (lit< tt) in
    c.in_ok-push_str-2.ensures.bytes
    ∙ ap (λ (t : List ℕ). string_bytes c.loop-front.string ++ t)
    (sym (ap spec.decoded (sym (append-nil c.loop-front.rest.now)) ∙ stays c.loop-front.rest.now [] none
    ∙ append-nil c.loop-front.rest.now))
    ∙ c.loop-front.invariant.decoded
