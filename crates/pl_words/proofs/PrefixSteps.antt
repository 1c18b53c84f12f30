-- Where a prefix of a text ends.
use Rattle.std.proofs.Common.{◌≡◌, ◌≤◌, ℕ, true, List, ap, arith, length, nat_eq, subst, take}
use Rattle.std.specs.List.{starts_with}
use Rattle.std.specs.Str.{IsCharBoundary, IsUtf8}
use Rattle.std.proofs.lemmas.List.{length-take}
use Rattle.std.proofs.lemmas.Slice.Eq.{bytes_eq-Decides}
use Rattle.std.proofs.lemmas.Str.{IsCharBoundary-from_take}

-- a text may be cut behind a prefix of it that is one
pub cut_behind : (text prefix : List ℕ) → IsUtf8 text → IsUtf8 prefix → starts_with nat_eq text prefix ≡ true
    → IsCharBoundary text (length prefix)
cut_behind text prefix utf8 own begins =
    let front = (bytes_eq-Decides prefix (take (length prefix) text)).0 begins in
    let within : length prefix ≤ length text = omega (arith, ap length front, length-take (length prefix) text) in
    IsCharBoundary-from_take text (length prefix) utf8 within (subst IsUtf8 front own)
