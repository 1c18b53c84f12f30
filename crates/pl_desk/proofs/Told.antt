-- What a desk may tell, or not.
use Rattle.std.proofs.Common.{◌≡◌, None, Option, Some, refl}
use Rattle.std.specs.Prelude.{IfSome}

-- what holds of each value that there may be
pub if_some : {X : Type 0} (o : Option X) (P : X → Type 0) → ((x : X) → o ≡ Some x → P x) → IfSome o P
if_some None P holds = tt
if_some (Some x) P holds = holds x refl
