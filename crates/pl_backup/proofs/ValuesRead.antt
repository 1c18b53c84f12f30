-- Values of texts, unsigned numbers, arrays and objects, as the backup has them: their text reads
-- back as the value.
use Rattle.std.proofs.Common.{◌≡◌, ◌∙◌, ◌++◌, ◌&&◌, ◌≤◌, ◌<◌, ◌^◌, ℕ, Bool, List, [], ◌∷◌, true, false, ap, ap₂}
use Rattle.std.proofs.Common.{Ordering, Less, Equal, Greater, Some, append-nil, arith, max, option_and_then}
use Rattle.std.proofs.Common.{option_map, refl, sym, suc}
use Rattle.std.proofs.lemmas.Bool.{and_from, and_parts}
use Rattle.std.specs.Prelude.{codes, decimal, ⊤}
use Rattle.std.specs.Str.{IsUtf8, is_utf8}
use Rattle.std.proofs.lemmas.Fmt.{IsAscii-decimal}
use Rattle.std.proofs.lemmas.Str.{IsUtf8-append, IsUtf8-from_ascii, IsUtf8-nil, is_utf8-from_IsUtf8}
use Rattle.json.proofs.Printed.Utf8.{IsUtf8-are_ascii, IsUtf8-boolean, IsUtf8-quoted, are_ascii}
use Rattle.json.specs.Print.{quoted}
use Rattle.std.specs.Cmp.Lexicographic.{slice_cmp}
use Rattle.std.specs.Ordering.{nat_cmp}
use Rattle.json.specs.Json as json
use Rattle.json.specs.Lex.{tokens}
use Rattle.json.specs.Tree as tree
use Rattle.json.specs.Tree.{HasNumbers, ItemsHaveNumbers, MembersHaveNumbers, json_tokens}
use Rattle.json.proofs.Printed.Decimals.{IsNumber-decimal}
use Rattle.json.proofs.Printed.Trees.{ArePrintable-json_tokens, value-json_tokens}
use Rattle.serde_json.specs.Data.{Data, Items, Members, array, boolean, depth, float, item, items_depth, member}
use Rattle.serde_json.specs.Data.{members_depth, negative, no_items, no_members, null, number, object, put, string}
use Rattle.serde_json.specs.Data.{unsigned}
use Rattle.serde_json.specs.Read.{max_depth, of_items, of_json, of_members, read}
use Rattle.serde_json.specs.Written.{comma_if, compact_text, items_outline, items_text, members_outline, members_text}
use Rattle.serde_json.specs.Written.{outline}
use Rattle.serde_json.proofs.Numbers.{number_of-decimal}
use Rattle.serde_json.proofs.Texts.{print-outline}
use Rattle.pl_backup.proofs.LineEnds.{line_read}

-- ---- what reads back

abbrev pub is_greater : Ordering → Bool
is_greater Less = false
is_greater Equal = false
is_greater Greater = true

-- a key stands behind all of these, in the order of their bytes
abbrev pub is_behind : List ℕ → Members → Bool
is_behind key no_members = true
is_behind key (member name value more) = is_greater (slice_cmp nat_cmp key name) && is_behind key more

-- all of these stand behind a key
abbrev pub are_behind : Members → List ℕ → Bool
are_behind no_members key = true
are_behind (member name value more) key = is_greater (slice_cmp nat_cmp name key) && are_behind more key

-- each key stands behind those in front of it
abbrev pub ascend : Members → Bool
ascend no_members = true
ascend (member key value more) = are_behind more key && ascend more

-- a value of texts and of whole numbers that are not negative, its keys ASCII and in order
abbrev mutual
  pub ReadsBack : Data → Type 0
  ReadsBack null = ⊤
  ReadsBack (boolean b) = ⊤
  ReadsBack (number (unsigned n)) = n < 2 ^ 64
  ReadsBack (number (negative z)) = ⊥
  ReadsBack (number (float x)) = ⊥
  ReadsBack (string s) = IsUtf8 s
  ReadsBack (array ds) = ItemsReadBack ds
  ReadsBack (object ms) = (ascend ms ≡ true) × MembersReadBack ms

  pub ItemsReadBack : Items → Type 0
  ItemsReadBack no_items = ⊤
  ItemsReadBack (item d ds) = ReadsBack d × ItemsReadBack ds

  pub MembersReadBack : Members → Type 0
  MembersReadBack no_members = ⊤
  MembersReadBack (member k d ms) = (are_ascii k ≡ true) × (ReadsBack d × MembersReadBack ms)

-- ---- numbers and depth

mutual
  numbers : (d : Data) → ReadsBack d → HasNumbers (outline d)
  numbers null h = tt
  numbers (boolean b) h = tt
  numbers (number (unsigned n)) h = IsNumber-decimal n h
  numbers (number (negative z)) h = absurd h
  numbers (number (float x)) h = absurd h
  numbers (string s) h = tt
  numbers (array ds) h = items_numbers ds h
  numbers (object ms) h = members_numbers ms h.1

  items_numbers : (ds : Items) → ItemsReadBack ds → ItemsHaveNumbers (items_outline ds)
  items_numbers no_items h = tt
  items_numbers (item d ds) h = (numbers d h.0, items_numbers ds h.1)

  members_numbers : (ms : Members) → MembersReadBack ms → MembersHaveNumbers (members_outline ms)
  members_numbers no_members h = tt
  members_numbers (member k d ms) h = (numbers d h.1.0, members_numbers ms h.1.1)

mutual
  outline_depth : (d : Data) → tree.depth (outline d) ≡ depth d
  outline_depth null = refl
  outline_depth (boolean b) = refl
  outline_depth (number n) = refl
  outline_depth (string s) = refl
  outline_depth (array ds) = ap suc (items_outline_depth ds)
  outline_depth (object ms) = ap suc (members_outline_depth ms)

  items_outline_depth : (ds : Items) → tree.items_depth (items_outline ds) ≡ items_depth ds
  items_outline_depth no_items = refl
  items_outline_depth (item d ds) = ap₂ max (outline_depth d) (items_outline_depth ds)

  members_outline_depth : (ms : Members) → tree.members_depth (members_outline ms) ≡ members_depth ms
  members_outline_depth no_members = refl
  members_outline_depth (member k d ms) = ap₂ max (outline_depth d) (members_outline_depth ms)

-- ---- members that are put one behind the other

abbrev joined : Members → Members → Members
joined no_members behind = behind
joined (member k d ms) behind = member k d (joined ms behind)

-- each key of the second stands behind those of the first
abbrev follow : Members → Members → Bool
follow found no_members = true
follow found (member k d ms) = is_behind k found && follow found ms

greater : (o : Ordering) → is_greater o ≡ true → o ≡ Greater
greater Less is = absurd cc
greater Equal is = absurd cc
greater Greater is = refl

put_last : (k : List ℕ) (d : Data) (found : Members) → is_behind k found ≡ true
    → put k d found ≡ joined found (member k d no_members)
put_last k d no_members behind = refl
put_last k d (member l e ms) behind =
    let parts = and_parts _ _ behind in
    rw (greater (slice_cmp nat_cmp k l) parts.0) (ap (member l e) (put_last k d ms parts.1))

behind_joined : (key k : List ℕ) (d : Data) (found : Members) → is_behind key found ≡ true
    → is_greater (slice_cmp nat_cmp key k) ≡ true → is_behind key (joined found (member k d no_members)) ≡ true
behind_joined key k d no_members behind last = and_from _ _ last refl
behind_joined key k d (member l e ms) behind last =
    let parts = and_parts _ _ behind in
    and_from _ _ parts.0 (behind_joined key k d ms parts.1 last)

follow_joined : (k : List ℕ) (d : Data) (found ms : Members) → follow found ms ≡ true → are_behind ms k ≡ true
    → follow (joined found (member k d no_members)) ms ≡ true
follow_joined k d found no_members follows behind = refl
follow_joined k d found (member l e ms) follows behind =
    let f = and_parts _ _ follows in
    let b = and_parts _ _ behind in
    and_from _ _ (behind_joined l k d found f.0 b.0) (follow_joined k d found ms f.1 b.1)

joined_again : (k : List ℕ) (d : Data) (found ms : Members)
    → joined (joined found (member k d no_members)) ms ≡ joined found (member k d ms)
joined_again k d no_members ms = refl
joined_again k d (member l e found) ms = ap (member l e) (joined_again k d found ms)

joined_none : (found : Members) → joined found no_members ≡ found
joined_none no_members = refl
joined_none (member k d ms) = ap (member k d) (joined_none ms)

follow_none : (ms : Members) → follow no_members ms ≡ true
follow_none no_members = refl
follow_none (member k d ms) = follow_none ms

-- ---- values

mutual
  value_read : (d : Data) → ReadsBack d → of_json (outline d) ≡ Some d
  value_read null h = refl
  value_read (boolean b) h = refl
  value_read (number (unsigned n)) h = ap (option_map number) (number_of-decimal n h)
  value_read (number (negative z)) h = absurd h
  value_read (number (float x)) h = absurd h
  value_read (string s) h = refl
  value_read (array ds) h = ap (option_map array) (items_read ds h)
  value_read (object ms) h = ap (option_map object) (members_read ms no_members (follow_none ms) h.0 h.1)

  items_read : (ds : Items) → ItemsReadBack ds → of_items (items_outline ds) ≡ Some ds
  items_read no_items h = refl
  items_read (item d ds) h = rw (value_read d h.0, items_read ds h.1)

  members_read : (ms found : Members) → follow found ms ≡ true → ascend ms ≡ true → MembersReadBack ms
      → of_members (members_outline ms) found ≡ Some (joined found ms)
  members_read no_members found follows ascends h = ap Some (sym (joined_none found))
  members_read (member k d ms) found follows ascends h =
      let f = and_parts _ _ follows in
      let a = and_parts _ _ ascends in
      rw (value_read d h.1.0, put_last k d found f.0)
      (members_read ms (joined found (member k d no_members)) (follow_joined k d found ms f.1 a.0) a.1 h.1.1
      ∙ ap Some (joined_again k d found ms))

-- ---- texts

comma_text : (later : Bool) → IsUtf8 (comma_if later)
comma_text true = IsUtf8-are_ascii (codes ",") refl
comma_text false = IsUtf8-nil

mutual
  value_text : (d : Data) → ReadsBack d → IsUtf8 (compact_text d)
  value_text null h = IsUtf8-are_ascii (codes "null") refl
  value_text (boolean b) h = IsUtf8-boolean b
  value_text (number (unsigned n)) h = IsUtf8-from_ascii (decimal n) (IsAscii-decimal n h)
  value_text (number (negative z)) h = absurd h
  value_text (number (float x)) h = absurd h
  value_text (string s) h = IsUtf8-quoted s h
  value_text (array ds) h =
      IsUtf8-append (codes "[") (items_text false ds) (IsUtf8-are_ascii (codes "[") refl) (items_texts false ds h)
  value_text (object ms) h =
      IsUtf8-append (codes "{") (members_text false ms) (IsUtf8-are_ascii (codes "{") refl)
      (members_texts false ms h.1)

  items_texts : (later : Bool) (ds : Items) → ItemsReadBack ds → IsUtf8 (items_text later ds)
  items_texts later no_items h = IsUtf8-are_ascii (codes "]") refl
  items_texts later (item d ds) h =
      IsUtf8-append (comma_if later) (compact_text d ++ items_text true ds) (comma_text later)
      (IsUtf8-append (compact_text d) (items_text true ds) (value_text d h.0) (items_texts true ds h.1))

  members_texts : (later : Bool) (ms : Members) → MembersReadBack ms → IsUtf8 (members_text later ms)
  members_texts later no_members h = IsUtf8-are_ascii (codes "}") refl
  members_texts later (member k d ms) h =
      let rest : List ℕ = compact_text d ++ members_text true ms in
      IsUtf8-append (comma_if later) (quoted k ++ 58 ∷ rest) (comma_text later)
      (IsUtf8-append (quoted k) (58 ∷ rest) (IsUtf8-quoted k (IsUtf8-are_ascii k h.0))
      (IsUtf8-append (codes ":") rest (IsUtf8-are_ascii (codes ":") refl)
      (IsUtf8-append (compact_text d) (members_text true ms) (value_text d h.1.0) (members_texts true ms h.1.1))))

-- ---- the text of such a value and a line feed

pub text_read : (d : Data) → ReadsBack d → depth d ≤ max_depth → read (compact_text d ++ codes "\n") ≡ Some d
text_read d h shallow =
    let j = outline d in
    let printed = ap (λ (x : List ℕ). x ++ codes "\n") (sym (print-outline d)) in
    let same = ap tokens printed ∙ line_read (json_tokens j) (ArePrintable-json_tokens j (numbers d h)) in
    let value = same ∙ sym (append-nil (json_tokens j)) in
    ap (λ o. option_and_then of_json (option_and_then (λ p. json.if_last p.0 p.1) o))
    (ap (json.value max_depth) value ∙ value-json_tokens j max_depth [] (omega (arith, outline_depth d)))
    ∙ value_read d h

pub line_text : (d : Data) → ReadsBack d → is_utf8 (compact_text d ++ codes "\n") ≡ true
line_text d h =
    is_utf8-from_IsUtf8 (compact_text d ++ codes "\n")
    (IsUtf8-append (compact_text d) (codes "\n") (value_text d h) (IsUtf8-are_ascii (codes "\n") refl))
