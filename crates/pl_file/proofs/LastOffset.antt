-- The greatest length of a real file is that of the definitions.
use Rattle.std.proofs.Common.{◌≡◌, refl}
use Rattle.pl_desk.specs.Desk.{last_offset}
use Rattle.pl_file.specs.declared.store_file.TheConstants.{LAST_OFFSET}

last_offset_is : LAST_OFFSET ≡ last_offset
last_offset_is = refl
