use Rattle.std.proofs.Common.{◌≡◌, ◌<◌, ◌≤◌, List, None, ℕ, get_or, length, rules, subst}
use Rattle.std.proofs.lemmas.Bool.{and_parts}
use Rattle.std.proofs.lemmas.List.{take_all}
use Rattle.pl_script.specs.Script.{escape_of, escaped}
use Rattle.pl_script.proofs.Escapes.{escaped_more}
use Rattle.pl_script.proofs.field.is_plain.Goals as goal

pub loop-byte-preserved : goal.loop-byte-preserved
loop-byte-preserved c plain =
    let k = c.loop-byte.byte-index in
    let both = and_parts c.loop-byte.plain c.stays-plain.result plain in
    let same : c.as_bytes-byte-items.result.now ≡ c.args.text.now = search rules in
    escaped_more c.args.text.now k (subst (λ (bytes : List ℕ). k < length bytes) same c.loop-byte-test.true)
    (subst (λ (bytes : List ℕ). escape_of (get_or bytes k 0) ≡ None) same (c.stays-plain.ensures both.1))
    (c.loop-byte.invariant both.0)

pub returns : goal.returns
returns c plain =
    let k = c.loop-byte.byte-index in
    let same : c.as_bytes-byte-items.result.now ≡ c.args.text.now = search rules in
    let all = subst (λ (bytes : List ℕ). length bytes ≤ k) same c.loop-byte-test.false in
    subst (λ (bytes : List ℕ). escaped bytes ≡ bytes) (take_all k c.args.text.now all) (c.loop-byte.invariant plain)
