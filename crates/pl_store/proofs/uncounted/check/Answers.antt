use Rattle.std.proofs.Common.{◌≡◌, ◌↔◌, ℕ, List, Result, Ok, Err, IfOk, refl, subst, sym}
use Rattle.std.specs.Prelude.{IsErrOf}
use Rattle.pl_base.specs.declared.check_error.CheckError.{CheckError}
use Rattle.pl_base.specs.declared.check_error.CheckError.TheVariants.{NotAStore}
use Rattle.pl_linked.specs.declared.linked.Linked.{Linked}
use Rattle.pl_linked.specs.Linked.{IsBase, bytes_of}
use Rattle.pl_store.specs.OwnBase.{HasOwnBase}
use Rattle.pl_store.proofs.uncounted.check.Goals as goal

-- what was read is what the rows' bytes are
own_base : (result : Result Linked CheckError) (stored : List ℕ) → IfOk result (λ rows. bytes_of rows ≡ stored)
    → IfOk result (λ rows. (bytes : List ℕ) → IsBase rows bytes ↔ (bytes ≡ stored)) → IfOk result HasOwnBase
own_base (Ok rows) stored is base =
    λ bytes. subst (λ (own : List ℕ). IsBase rows bytes ↔ (bytes ≡ own)) (sym is) (base bytes)
own_base (Err error) stored is base = tt

pub returns-clause-base : goal.returns-clause-base
returns-clause-base g c = own_base c.check.result _ c.check.ensures.bytes c.check.ensures.base

pub returns-clause-not_a_store : goal.returns-clause-not_a_store
returns-clause-not_a_store g c is =
    c.check.ensures.not_a_store
    (subst (λ (result : Result Linked CheckError). IsErrOf result NotAStore) (sym is) refl)
