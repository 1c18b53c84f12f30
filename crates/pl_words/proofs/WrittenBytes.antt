-- Texts that are written byte by byte, where each byte beyond ASCII stays as it is.
use Rattle.std.proofs.Common.{◌≡◌, ◌∙◌, ◌<◌, ◌≤◌, ℕ, suc, List, [], ◌∷◌, ◌++◌, ⊎_elim}
use Rattle.std.proofs.Common.{ap, append-nil, arith, get_or, length, map, refl, sym}
use Rattle.std.specs.List.{flat_map}
use Rattle.std.specs.Prelude.{chars, encode_utf8, encode_utf8_all}
use Rattle.std.specs.Str.{IsUtf8}
use Rattle.std.proofs.lemmas.Bool.{cases_lt}
use Rattle.std.proofs.lemmas.Grind.{flat_map-append}
use Rattle.std.proofs.lemmas.List.{map-id}
use Rattle.std.proofs.lemmas.Str.{encode_ascii, encodes-append, encodes-chars, inside_one}

module _ (write : ℕ → List ℕ) where
  written-high : ((b : ℕ) → 128 ≤ b → write b ≡ b ∷ []) → (bytes : List ℕ)
      → ((k : ℕ) → k < length bytes → 128 ≤ get_or bytes k 0) → flat_map write bytes ≡ bytes
  written-high stays [] high = refl
  written-high stays (b ∷ bytes) high =
      ap (λ (x : List ℕ). x ++ flat_map write bytes) (stays b (high 0 (omega arith)))
      ∙ ap (λ (more : List ℕ). b ∷ more)
      (written-high stays bytes (λ k within. high (suc k) (omega arith)))

  -- a character that stays is written as it is
  pub written-plain : ((b : ℕ) → 128 ≤ b → write b ≡ b ∷ []) → (c : ℕ) → write c ≡ c ∷ []
      → flat_map write (encode_utf8 c) ≡ encode_utf8 c
  written-plain stays c plain =
      ⊎_elim
      (λ low. let one = encode_ascii c low in
      ap (flat_map write) one ∙ ap (λ (e : List ℕ). e ++ []) plain ∙ sym one)
      (λ high. written-high stays (encode_utf8 c) (λ k within.
      ⊎_elim
      (λ low. let same = inside_one c [] (encode_utf8 c) k (sym (append-nil (encode_utf8 c))) within low in
      absurd (omega arith))
      (λ far. far) (cases_lt (get_or (encode_utf8 c) k 0) 128)))
      (cases_lt c 128)

  -- one character more
  pub written-push : (cs : List ℕ) (c : ℕ)
      → flat_map write (encode_utf8_all (cs ++ c ∷ []))
      ≡ flat_map write (encode_utf8_all cs) ++ flat_map write (encode_utf8 c)
  written-push cs c =
      ap (flat_map write) (encodes-append cs (c ∷ [])
      ∙ ap (λ (more : List ℕ). encode_utf8_all cs ++ more) (append-nil (encode_utf8 c)))
      ∙ flat_map-append write (encode_utf8_all cs) (encode_utf8 c)

  -- all characters
  pub written-chars : (text cs : List ℕ) → IsUtf8 text → map (λ (c : ℕ). c) cs ≡ chars text
      → flat_map write (encode_utf8_all cs) ≡ flat_map write text
  written-chars text cs utf8 all =
      ap (λ (l : List ℕ). flat_map write (encode_utf8_all l)) (sym (map-id cs) ∙ all)
      ∙ ap (flat_map write) (encodes-chars text utf8)
