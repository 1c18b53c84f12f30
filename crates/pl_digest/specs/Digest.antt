-- The digest of a text.
use Rattle.std.specs.Prelude.{ℕ, List}
use Rattle.std.specs.Hash.FoldHasher as hasher

-- by the hasher of std's maps
abbrev pub digest_of : List ℕ → ℕ
digest_of text = hasher.finish (hasher.write hasher.initial text)
