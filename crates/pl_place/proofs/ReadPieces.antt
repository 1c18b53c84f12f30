-- The pieces that a row of pairs is read as.
use Rattle.std.proofs.Common.{◌≡◌, ◌∙◌, ◌+◌, ◌<◌, ◌++◌, ℕ, Bool, true, false, not, cond, List, [], ◌∷◌, None, Option}
use Rattle.std.proofs.Common.{Some, ap, map, refl, subst, sym}
use Rattle.std.specs.List.{AllByRecursion as ByRecursion, cons_option, filter, filter_map, find, join_with_byte}
use Rattle.std.specs.List.{list_all, slice_split}
use Rattle.std.specs.Option.{option_map}
use Rattle.std.proofs.lemmas.Bool.{and_parts, cond-false, not-true}
use Rattle.std.proofs.lemmas.List.Elements.{All-append, All-cons, All-from_recursion, All-weaker}
use Rattle.pl_place.specs.declared.key.Key.{Key}
use Rattle.pl_place.specs.declared.key.Key.TheVariants as key
use Rattle.pl_place.specs.Canonical.{escaped, pair}
use Rattle.pl_place.specs.Keys.{key_name, key_named, keys}
use Rattle.pl_place.specs.PlaceText.{Piece, is_bad, is_key, key_text, numbered, piece_of, pieces_of, place_prefix}
use Rattle.pl_place.specs.PlaceText.{refused_piece}
use Rattle.pl_place.specs.PlaceText.{value_of, values}
use Rattle.pl_place.specs.Values.{is_value}
use Rattle.pl_place.proofs.CutPairs.{HasNoAnd, cut_again, is_and}
use Rattle.pl_place.proofs.Escapes.{IsPlain, decoded_back, plain_escaped}
use Rattle.pl_place.proofs.SaidPairs.{in_a_row, pair_of, values_are, values_in, with_key}

-- a value is of the form of its key, and of bytes
pub record IsFine (k : Key) (value : List ℕ) : Type 0 where
  pub form : is_value k value ≡ true
  pub bytes : ByRecursion (λ b. b < 256) value

-- a key and a value that is
abbrev pub IsFineRow : Key × List ℕ → Type 0
IsFineRow row = IsFine row.0 row.1

-- ---- pieces without their numbers

row_of : Piece → Key × List ℕ
row_of piece = (piece.key, piece.value)

row_in : List ℕ → Option (Key × List ℕ)
row_in text = option_map (λ k. (k, value_of text)) (key_named (key_text text))

one_row : (n : ℕ) (text : List ℕ) (k : Option Key) (pieces : List Piece) (rows : List (Key × List ℕ))
    → map row_of pieces ≡ rows
    → map row_of (cons_option (option_map (λ k. record { number = n; key = k; value = value_of text }) k) pieces)
    ≡ cons_option (option_map (λ k. (k, value_of text)) k) rows
unfolding row_of
one_row n text None pieces rows rest = rest
one_row n text (Some k) pieces rows rest = ap (λ x. (k, value_of text) ∷ x) rest

rows_of_pieces : (n : ℕ) (texts : List (List ℕ))
    → map row_of (filter_map piece_of (numbered n texts)) ≡ filter_map row_in texts
unfolding row_in
rows_of_pieces n [] = refl
rows_of_pieces n (text ∷ texts) =
    one_row n text (key_named (key_text text)) (filter_map piece_of (numbered (n + 1) texts)) (filter_map row_in texts)
    (rows_of_pieces (n + 1) texts)

one_value : (b : Bool) (piece : Piece) (pieces : List Piece) (rows : List (Key × List ℕ))
    → map (λ (p : Piece). p.value) pieces ≡ map (λ row. row.1) rows
    → map (λ (p : Piece). p.value) (cond b (piece ∷ pieces) pieces)
    ≡ map (λ row. row.1) (cond b (row_of piece ∷ rows) rows)
unfolding row_of
one_value true piece pieces rows rest = ap (λ x. piece.value ∷ x) rest
one_value false piece pieces rows rest = rest

values_by_row : (k : Key) (pieces : List Piece) → values k pieces ≡ values_in k (map row_of pieces)
unfolding row_of
values_by_row k [] = refl
values_by_row k (piece ∷ pieces) =
    one_value (is_key k piece.key) piece (filter (λ (p : Piece). is_key k p.key) pieces)
    (filter (λ row. is_key k row.0) (map row_of pieces)) (values_by_row k pieces)

none_bad : (pieces : List Piece) → ByRecursion IsFineRow (map row_of pieces) → find is_bad pieces ≡ None
unfolding row_of
none_bad [] fine = refl
none_bad (piece ∷ pieces) fine = cond-false (is_bad piece) _ _ (ap not fine.0.form) ∙ none_bad pieces fine.1

-- ---- a pair

row_back : (k : Key) (value : List ℕ) → ByRecursion (λ b. b < 256) value → row_in (pair k value) ≡ Some (k, value)
unfolding row_in
row_back key.BeginTime value bytes = ap (λ x. Some (key.BeginTime, x)) (decoded_back value bytes)
row_back k value bytes = ap (λ x. Some (k, x)) (decoded_back value bytes)

rows_back : (rows : List (Key × List ℕ)) → ByRecursion IsFineRow rows → filter_map row_in (map pair_of rows) ≡ rows
rows_back [] fine = refl
rows_back (row ∷ rows) fine =
    ap (λ x. cons_option x (filter_map row_in (map pair_of rows))) (row_back row.0 row.1 fine.0.bytes)
    ∙ ap (λ x. row ∷ x) (rows_back rows fine.1)

none_by_test : (text : List ℕ) → list_all (λ b. not (is_and b)) text ≡ true → ByRecursion (λ b. is_and b ≡ false) text
none_by_test [] none = tt
none_by_test (b ∷ text) none =
    let both = and_parts (not (is_and b)) (list_all (λ b. not (is_and b)) text) none in
    (not-true (is_and b) both.0, none_by_test text both.1)

no_and_in_name : (k : Key) → list_all (λ b. not (is_and b)) (key_name k) ≡ true
no_and_in_name key.BeginTime = refl
no_and_in_name k = refl

no_and : (k : Key) (value : List ℕ) → HasNoAnd (pair k value)
no_and k value =
    let P = λ (b : ℕ). is_and b ≡ false in
    All-append P (key_name k) (61 ∷ escaped value)
    (All-from_recursion P (key_name k) (none_by_test (key_name k) (no_and_in_name k)))
    (All-cons P 61 (escaped value) refl
    (All-weaker IsPlain P (λ b plain. plain.0) (escaped value) (plain_escaped value)))

no_ands : (rows : List (Key × List ℕ)) → ByRecursion HasNoAnd (map pair_of rows)
no_ands [] = tt
no_ands (row ∷ rows) = (no_and row.0 row.1, no_ands rows)

-- ---- a row of pairs

rows_read : (rows : List (Key × List ℕ)) → ByRecursion IsFineRow rows
    → map row_of (filter_map piece_of (numbered 1 (slice_split is_and (join_with_byte 38 (map pair_of rows))))) ≡ rows
rows_read [] fine = refl
rows_read (row ∷ rows) fine =
    rows_of_pieces 1 (slice_split is_and (join_with_byte 38 (map pair_of (row ∷ rows))))
    ∙ ap (filter_map row_in) (cut_again (pair_of row) (map pair_of rows) (no_ands (row ∷ rows)))
    ∙ rows_back (row ∷ rows) fine

fine_of_key : (k : Key) (said : List (List ℕ)) (rows : List (Key × List ℕ)) → ByRecursion (IsFine k) said
    → ByRecursion IsFineRow rows → ByRecursion IsFineRow (with_key k said ++ rows)
fine_of_key k [] rows fine rest = rest
fine_of_key k (value ∷ said) rows fine rest = (fine.0, fine_of_key k said rows fine.1 rest)

fine_rows : (said : Key → List (List ℕ)) (ks : List Key) → ((k : Key) → ByRecursion (IsFine k) (said k))
    → ByRecursion IsFineRow (in_a_row said ks)
fine_rows said [] fine = tt
fine_rows said (k ∷ ks) fine = fine_of_key k (said k) (in_a_row said ks) (fine k) (fine_rows said ks fine)

-- the text of what is said of each key
abbrev pub text_of_said : (Key → List (List ℕ)) → List ℕ
text_of_said said = place_prefix ++ join_with_byte 38 (map pair_of (in_a_row said keys))

-- it is read as that
pub record IsReadAs (said : Key → List (List ℕ)) (text : List ℕ) : Type 0 where
  pub taken : refused_piece text ≡ None
  pub values : (k : Key) → values k (pieces_of text) ≡ said k

pub read_as_said : (said : Key → List (List ℕ)) → ((k : Key) → ByRecursion (IsFine k) (said k))
    → IsReadAs said (text_of_said said)
read_as_said said fine =
    let rows = rows_read (in_a_row said keys) (fine_rows said keys fine) in
    let pieces = pieces_of (text_of_said said) in
    record {
      taken =
          ap (option_map (λ (piece : Piece). piece.number))
          (none_bad pieces (subst (ByRecursion IsFineRow) (sym rows) (fine_rows said keys fine)));
      values = λ k. values_by_row k pieces ∙ ap (values_in k) rows ∙ values_are k said;
    }
