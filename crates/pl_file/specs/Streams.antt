-- What the source over a stream tells.
use Rattle.std.specs.Prelude.{ℕ, List, Option}

-- the bytes that its reader has left, where the reader knows them, and how many reads have failed
pub record StreamState : Type 0 where
  pub remaining : Option (List ℕ)
  pub faults : ℕ
