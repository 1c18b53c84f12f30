-- The constant of the crate is that of the definitions.
use Rattle.std.proofs.Common.{◌≡◌, refl}
use Rattle.pl_base.specs.Visits.{sample_size}
use Rattle.pl_score.specs.declared.sample.TheConstants.{SAMPLE_SIZE}

sample_size_is : SAMPLE_SIZE ≡ sample_size
sample_size_is = refl
