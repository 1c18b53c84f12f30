-- Fields that are written into the bytes of a slot.
use Rattle.std.specs.Prelude.{ℕ, ◌+◌, List, [], ◌∷◌, ◌++◌, drop, length, take}
use Rattle.pl_slot.specs.Slot.{Field}

-- the bytes with a field in its place
unfoldable pub put : Field → List ℕ → List ℕ
put field bytes =
    take field.0 bytes ++ field.1 ++ drop (field.0 + length field.1) bytes

-- the bytes with fields put there, one after another
abbrev pub written : List Field → List ℕ → List ℕ
written [] bytes = bytes
written (field ∷ fields) bytes = written fields (put field bytes)
