-- What the bytes of a store may have been when its changes were told last.
use Rattle.std.specs.Prelude.{◌≡◌, ◌↔◌, ℕ, List}
use Rattle.pl_linked.specs.declared.linked.Linked.{Linked}
use Rattle.pl_linked.specs.Linked.{IsBase, bytes_of}

-- those of now, and no others
abbrev pub HasOwnBase : Linked → Type 0
HasOwnBase rows = (bytes : List ℕ) → IsBase rows bytes ↔ (bytes ≡ bytes_of rows)
