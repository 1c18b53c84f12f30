-- Cases of the gate and of the journal behind it, with the bytes written by hand.
use Rattle.std.proofs.Common.{◌≡◌, ◌++◌, ℕ, List, [], ◌∷◌, map, true, false, refl}
use Rattle.std.specs.Prelude.{length, replicate}
use Rattle.pl_gate.specs.Device.{entry_bytes, place_bytes, start_of}
use Rattle.pl_gate.specs.Gate.{commit_bytes, has_gate, is_set, journal_len, journal_start, laid, pages_after}
use Rattle.pl_gate.specs.Recovery.{recovery_bytes}

-- a page of one byte
abbrev filled : ℕ → List ℕ
filled b = replicate 1_024 b

-- a gate, and what the 16 bytes from byte 8 on tell: where the journal begins, in steps of 256
-- bytes, its entries, and the store's length
abbrev gate_page : ℕ → ℕ → ℕ → ℕ → List ℕ
gate_page gate start count after =
    gate ∷ replicate 7 90 ++ 0 ∷ start ∷ replicate 6 0 ++ count ∷ replicate 3 0 ++ after ∷ replicate 3 0
    ++ replicate 1_000 90

-- pages 1 and 2, and an entry of a page that is to hold 7, from byte 3,072 on
abbrev behind : ℕ → List ℕ
behind number = filled 1 ++ filled 2 ++ number ∷ replicate 7 0 ++ filled 7

abbrev armed : List ℕ
armed = gate_page 1 12 1 3 ++ behind 2

-- ---- what the gate's page tells

size : length armed ≡ 4_104
size = refl

told : journal_start armed ∷ journal_len armed ∷ pages_after armed ∷ [] ≡ 3_072 ∷ 1 ∷ 3 ∷ []
told = refl

-- 1 and nothing else
set : map (λ gate. is_set (gate_page gate 0 0 0)) (0 ∷ 1 ∷ 2 ∷ 255 ∷ []) ≡ false ∷ true ∷ false ∷ false ∷ []
set = refl

-- ---- files with a gate

-- a whole page; what it holds is free while the gate is not set
gates : map has_gate ([] ∷ replicate 1_023 0 ∷ filled 0 ∷ filled 255 ∷ []) ≡ false ∷ false ∷ true ∷ true ∷ []
gates = refl

good_journal : has_gate armed ≡ true
good_journal = refl

-- without entries and without pages there is nothing to lie anywhere
no_entry : map has_gate (gate_page 1 0 0 0 ∷ gate_page 1 4 0 1 ∷ gate_page 1 4 0 2 ∷ gate_page 1 8 0 1 ∷ [])
    ≡ true ∷ true ∷ false ∷ false ∷ []
no_entry = refl

-- within the store, a store that reaches into it, and an entry too many
bad_places :
    map has_gate
    ((gate_page 1 8 1 3 ++ behind 2) ∷ (gate_page 1 12 1 4 ++ behind 2) ∷ (gate_page 1 12 2 3 ++ behind 2) ∷ [])
    ≡ false ∷ false ∷ false ∷ []
bad_places = refl

-- page 0, the first and the last page, and the first page behind the store
numbers : map (λ number. has_gate (gate_page 1 12 1 3 ++ behind number)) (0 ∷ 1 ∷ 2 ∷ 3 ∷ [])
    ≡ false ∷ true ∷ true ∷ false ∷ []
numbers = refl

-- ---- the journal laid over the pages

laid_over : laid armed ≡ filled 1 ++ filled 7 ++ 2 ∷ replicate 7 0 ++ filled 7
laid_over = refl

-- without the gate the pages are as they are
not_laid : laid (gate_page 0 12 1 3 ++ behind 2) ≡ behind 2
not_laid = refl

-- ---- what is written

-- the journal begins behind the longer of both stores
starts :
    map start_of
    (record { before = 3; after = 5; pages = [] } ∷ record { before = 5; after = 3; pages = [] } ∷ [])
    ≡ 5_120 ∷ 5_120 ∷ []
starts = refl

place : place_bytes 3_072 1 3
    ≡ 0 ∷ 12 ∷ 0 ∷ 0 ∷ 0 ∷ 0 ∷ 0 ∷ 0 ∷ 1 ∷ 0 ∷ 0 ∷ 0 ∷ 3 ∷ 0 ∷ 0 ∷ 0 ∷ []
place = refl

an_entry : entry_bytes (record { page = 258; image = filled 7 }) ≡ 2 ∷ 1 ∷ replicate 6 0 ++ filled 7
an_entry = refl

-- an entry and an image for each page, and 18 bytes of the gate's page; a recovery writes images
-- and the gate alone
commits : map commit_bytes (0 ∷ 1 ∷ 3 ∷ []) ≡ 18 ∷ 2_074 ∷ 6_186 ∷ []
commits = refl

recoveries : map recovery_bytes (armed ∷ gate_page 1 0 0 0 ∷ (gate_page 0 12 1 3 ++ behind 2) ∷ []) ≡ 1_025 ∷ 1 ∷ 0 ∷ []
recoveries = refl
