-- What a URL itself tells: whether it is a query.
use Rattle.std.proofs.Common.{◌≡◌, ℕ, Bool, Err, List, Ok, Result, false}
use Rattle.std.specs.Result.{IsOkAnd}
use Rattle.pl_base.specs.Address.{is_place, is_place_url, record_of}

-- what a URL parsed to passes the test
abbrev pub passes : {T E : Type 0} → (T → Bool) → Result T E → Bool
passes test (Ok found) = test found
passes test (Err e) = false

pub passes_by : {T E : Type 0} (r : Result T E) (test : T → Bool) (P : T → Type 0) (b : Bool)
    → ((x : T) → P x → b ≡ test x) → IsOkAnd r P → b ≡ passes test r
passes_by (Ok found) test P b is so = is found so
passes_by (Err e) test P b is so = absurd so

-- a URL holds a query where its record says so
pub place_told : (url : List ℕ) (told : Bool)
    → IsOkAnd (record_of url) (λ found. told ≡ is_place found)
    → told ≡ is_place_url url
place_told url told is =
    passes_by (record_of url) is_place (λ found. told ≡ is_place found) told (λ found is. is) is
