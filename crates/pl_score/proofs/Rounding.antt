-- The two ways to write a quotient rounded up.
use Rattle.std.proofs.Common.{◌≡◌, ℕ, ◌+◌, ◌-◌, ◌*◌, ◌/◌, ◌<◌, ◌∙◌, ap, arith}
use Rattle.std.proofs.lemmas.Grind.{div_ceil_times}
use Rattle.std.proofs.lemmas.Nat.{div-mul-add}
use Rattle.std.specs.Int.{div_ceil}
use Rattle.pl_base.specs.Frecency.{rounded_up}

-- `div_ceil` rounds up
pub rounded_up-is : (a b : ℕ) → 0 < b → rounded_up a b ≡ div_ceil a b
rounded_up-is a b h =
    let rest : ℕ = a + (b - 1) - div_ceil a b * b in
    let parts : a + (b - 1) ≡ div_ceil a b * b + rest = omega (arith, div_ceil_times a b h) in
    let below : rest < b = omega (arith, div_ceil_times a b h) in
    ap (λ n. n / b) parts ∙ div-mul-add (div_ceil a b) b rest below
