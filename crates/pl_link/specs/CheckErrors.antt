-- Why a file's bytes give no store.
use Rattle.pl_link.specs.declared.canon.CanonError.{CanonError}
use Rattle.pl_link.specs.declared.canon.CanonError.TheVariants as canon
use Rattle.pl_base.specs.declared.check_error.CheckError.{CheckError}
use Rattle.pl_base.specs.declared.check_error.CheckError.TheVariants.{NotAStore, NoMemory}

-- a text that is no URL of the store stands in no store
abbrev pub error_of : CanonError → CheckError
error_of canon.BadUrl = NotAStore
error_of canon.NoMemory = NoMemory
