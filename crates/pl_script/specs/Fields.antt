-- What the reader of fields shows and gives.
use Rattle.std.specs.Prelude.{◌≡◌, ℕ, ◌+◌, ◌==◌, List, [], ◌∷◌, length, drop}
use Rattle.std.specs.Prelude.{nat_le, Option, Some, None, if◌then◌else◌}
use Rattle.std.specs.List.{slice_split}
use Rattle.std.specs.Borrow.{Bor}
use Rattle.pl_script.specs.Script.{Fields}

-- the fields of a line from an offset on, of which there are none past the line's end
abbrev pub fields_from : List ℕ → ℕ → Fields
fields_from line next =
    record {
      column = next + 1;
      left = if nat_le next (length line) then slice_split (λ b. b == 9) (drop next line) else [];
    }

-- the first field that is left is this one, and the others are left behind it
abbrev pub TakesField : Fields → List ℕ → Fields → Type 0
TakesField old field new =
    (old.left ≡ field ∷ new.left) × (new.column ≡ old.column + length field + 1)

-- the next field, where there is one
abbrev pub GivesField : Fields → Option (Bor (List ℕ)) → Fields → Type 0
GivesField old None new = (old.left ≡ []) × (new ≡ old)
GivesField old (Some field) new = TakesField old field.now new
