-- What a slot holds, by the number in its first byte.
use Rattle.std.specs.Prelude.{ℕ, List, [], ◌∷◌, ◌==◌, Option}
use Rattle.std.specs.List.{find}
use Rattle.pl_slot.specs.declared.kind.SlotKind.{SlotKind}
use Rattle.pl_slot.specs.declared.kind.SlotKind.TheVariants.{Free, Origin, Place, Visit, Item, Text}

-- the number of a kind
abbrev pub slot_kind_number : SlotKind → ℕ
slot_kind_number Free = 0
slot_kind_number Origin = 1
slot_kind_number Place = 2
slot_kind_number Visit = 3
slot_kind_number Item = 4
slot_kind_number Text = 5

-- all kinds
abbrev pub slot_kinds : List SlotKind
slot_kinds = Free ∷ Origin ∷ Place ∷ Visit ∷ Item ∷ Text ∷ []

-- the kind with this number
abbrev pub slot_kind_at : ℕ → Option SlotKind
slot_kind_at n = find (λ k. slot_kind_number k == n) slot_kinds
